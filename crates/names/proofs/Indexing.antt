-- The index made afresh: the hash of each name, and then the chains over the hashes.
use Prim.Native.Nat.{ℕ, ◌+◌, ◌*◌, ◌≤◌, ◌<◌}
use native.Mathlib.Omega.{arith}
use native.Mathlib.Decide.{ℕ_discrete}
use mathlib.Core.Path.{◌≡◌, ◌∙◌}
use mathlib.Core.List.{List}
use lib.ListN.{length, set}
use lib.Seq.{get_or-set_same, get_or-set_other}
use Rattle.meaning.specs.Bounds.{STEPS, NAME_BYTES}
use Rattle.meaning.specs.Tables.{at}
use Rattle.chains.specs.Chains.{Buildable}
use Rattle.names.specs.Names.{BUCKETS, hash, name_at, Shelved, IndexRoom}
use Rattle.names.proofs.Hashing.{hash_small}

-- The places of a name end within the table.
pub name_room : (n k : ℕ) (names lens : List ℕ) → Shelved n names lens → k < n → NAME_BYTES * k + at lens k ≤ length names
name_room n k names lens s h = omega (arith, s.names_room, s.names_in, s.short_names k h)

-- The first k names have their hashes.
abbrev pub Hashes : ℕ → List ℕ → List ℕ → List ℕ → Type 0
Hashes k names lens hashes = (j : ℕ) → j < k → at hashes j ≡ hash (name_at names lens j)

pub hashes_more :
    (k h : ℕ) (names lens hashes : List ℕ) → k < length hashes → h ≡ hash (name_at names lens k) → Hashes k names lens hashes → Hashes (k + 1) names lens (set hashes k h)
hashes_more k h names lens hashes room is have j l = by_place (ℕ_discrete j k)
  where
    by_place : Dec (j ≡ k) → at (set hashes k h) j ≡ hash (name_at names lens j)
    by_place (yes e) = rw e (get_or-set_same hashes k h 0 room ∙ is)
    by_place (no other) = get_or-set_other hashes k j h 0 other ∙ have j (omega arith)

pub buildable :
    (n : ℕ) (names lens hashes heads nexts : List ℕ) → n ≤ STEPS → IndexRoom hashes heads nexts → Hashes n names lens hashes → Buildable BUCKETS n hashes heads nexts
buildable n names lens hashes heads nexts few room have = record {
  heads_room = room.heads_room;
  firsts_room = omega (arith, room.hashes_room);
  nexts_room = omega (arith, room.nexts_room);
  links_fit = omega arith;
  firsts_in = λ k h. omega (arith, have k h, hash_small (name_at names lens k));
}
