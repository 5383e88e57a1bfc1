-- The tables of names, as one more is written: it stands in places of its own, so every other name stays, and the index with it is that of one name more.
use Prim.Native.Nat.{ℕ, ◌+◌, ◌*◌, ◌≤◌, ◌<◌}
use native.Mathlib.Omega.{arith}
use native.Mathlib.Decide.{ℕ_discrete}
use mathlib.Core.Path.{◌≡◌, refl, sym, ap, ◌∙◌}
use mathlib.Core.List.{List}
use lib.ListN.{length, set, take, drop, length-set}
use lib.Seq.{get_or-set_same, get_or-set_other}
use Rattle.meaning.specs.Bounds.{STEPS, NAME_BYTES}
use Rattle.meaning.specs.Tables.{at}
use Rattle.chains.specs.Chains.{Pushed}
use Rattle.chains.proofs.Laws.{chained_agree, chained_more}
use Rattle.write.specs.Written.{over}
use Rattle.write.proofs.Laws.{part_written, part_before}
use Rattle.names.specs.Names.{BUCKETS, hash, name_at, Shelved, IndexRoom, Indexed, Declared}

module _ (n : ℕ) (w names lens : List ℕ) (few : n < STEPS) (short : length w ≤ NAME_BYTES) (s : Shelved n names lens) where
  pub name_new : name_at (over names (NAME_BYTES * n) w) (set lens n (length w)) n ≡ w
  name_new =
      ap (λ (j : ℕ). take j (drop (NAME_BYTES * n) (over names (NAME_BYTES * n) w))) (get_or-set_same lens n (length w) 0 (omega (arith, s.lens_room)))
      ∙ part_written names (NAME_BYTES * n) w (omega (arith, s.names_room))

  pub name_old : (k : ℕ) → k < n → name_at (over names (NAME_BYTES * n) w) (set lens n (length w)) k ≡ name_at names lens k
  name_old k h =
      ap (λ (j : ℕ). take j (drop (NAME_BYTES * k) (over names (NAME_BYTES * n) w))) (get_or-set_other lens n k (length w) 0 (λ e. absurd (omega arith)))
      ∙ part_before names (NAME_BYTES * n) w (NAME_BYTES * k) (at lens k) (omega (arith, s.short_names k h))

  module _ (hashes heads nexts heads' nexts' : List ℕ) (h : ℕ) (is : h ≡ hash w) (small : h < BUCKETS) (room : IndexRoom hashes heads nexts) where
    here : at (set hashes n h) n ≡ h
    here = get_or-set_same hashes n h 0 (omega (arith, room.hashes_room))

    there : (k : ℕ) → k < n → at (set hashes n h) k ≡ at hashes k
    there k l = get_or-set_other hashes n k h 0 (λ e. absurd (omega arith))

    -- With the name's hash and its link written, the index is that of one name more.
    indexed-more :
        Pushed n (set hashes n h) heads nexts heads' nexts' → Indexed n names lens hashes heads nexts →
        Indexed (n + 1) (over names (NAME_BYTES * n) w) (set lens n (length w)) (set hashes n h) heads' nexts'
    indexed-more pushed i = record {
      room = record {
        hashes_room = omega (arith, length-set hashes n h, room.hashes_room);
        heads_room = omega (arith, ap length pushed.heads_are ∙ length-set heads (at (set hashes n h) n) (n + 1), room.heads_room);
        nexts_room = omega (arith, ap length pushed.nexts_are ∙ length-set nexts n (at heads (at (set hashes n h) n)), room.nexts_room);
      };
      hashes_are = λ k l. by_place k l (ℕ_discrete k n);
      chained = chained_more BUCKETS n (set hashes n h) (omega (arith, here)) heads nexts heads' nexts' pushed (chained_agree BUCKETS n hashes (set hashes n h) heads nexts there i.chained);
    }
      where
        by_place : (k : ℕ) → k < n + 1 → Dec (k ≡ n) → at (set hashes n h) k ≡ hash (name_at (over names (NAME_BYTES * n) w) (set lens n (length w)) k)
        by_place k l (yes e) = rw e (here ∙ is ∙ ap hash (sym name_new))
        by_place k l (no other) = there k (omega arith) ∙ i.hashes_are k (omega arith) ∙ ap hash (sym (name_old k (omega arith)))

    pub declared :
        (names' : List ℕ) (long : ℕ) → names' ≡ over names (NAME_BYTES * n) w → long ≡ length w → Pushed n (set hashes n h) heads nexts heads' nexts' →
        Declared n w names lens hashes heads nexts names' (set lens n long) (set hashes n h) heads' nexts'
    declared names' long names-is long-is pushed =
        rw (names-is, long-is) (record { names_are = refl; lens_are = refl; name_is = name_new; others_stay = name_old; indexed = indexed-more pushed })
