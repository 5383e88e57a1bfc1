-- Fresh tables are sound: no rule, mark or name is there that could be out of bounds, every chain is empty, and every day is 0.
use Prim.Native.Nat.{ℕ, ◌*◌, ◌≤◌, ◌<◌}
use native.Mathlib.Omega.{arith}
use mathlib.Core.Path.{◌≡◌, refl, sym, ◌∙◌, ap, subst}
use mathlib.Core.List.{List}
use lib.ListN.{length, replicate, length-replicate, get_or-replicate}
use Rattle.meaning.specs.Bounds.{STEPS, RULES, NAME_BYTES}
use Rattle.meaning.specs.Tables.{at, steps_alone}
use Rattle.chains.specs.Chains.{OFF, Empty}
use Rattle.chains.proofs.Laws.{chained_none, lent_agree, lent_first}
use Rattle.names.specs.Names.{BUCKETS, IndexRoom}
use Rattle.lent.specs.Lent.{first, held_by}
use Rattle.lent.specs.Idle.{idle}
use Rattle.script_meaning.specs.Record.{Lent, no_notes}
use Rattle.script_meaning.specs.Whole.{Fresh, blank}
use Rattle.script_meaning.proofs.InForce.{fresh_fine}
use Rattle.script_meaning.proofs.Playing.{blank_fresh}
use lib.IntN.{ℤ, pos}
use Rattle.meaning.specs.declared.Counts.{Counts}
use Rattle.script_meaning.specs.declared.Notes.{Notes}
use Rattle.script_command.specs.Carrying.{in_hand, Maintained}
use Rattle.levels.specs.declared.Row.{Row}

-- The counts and the record at the start.
abbrev pub first_counts : Counts
first_counts = steps_alone STEPS

abbrev pub first_notes : Notes
first_notes = no_notes

pub fresh_maintained :
    (xs ys : List ℕ) (cs : List ℤ) (days levels names lens out heads nexts : List ℕ) (kept : List Row) (hashes name-heads name-nexts : List ℕ) →
    Fresh (in_hand first_counts xs ys cs days levels first_notes names lens out) →
    Empty STEPS heads → STEPS ≤ length heads → RULES ≤ length nexts → ((k : ℕ) → k < RULES → at nexts k ≡ OFF) → IndexRoom hashes name-heads name-nexts → Empty BUCKETS name-heads →
    Maintained 0 (in_hand first_counts xs ys cs days levels first_notes names lens out) heads nexts kept hashes name-heads name-nexts
fresh_maintained xs ys cs days levels names lens out heads nexts kept hashes name-heads name-nexts fresh none heads_room nexts_room off index-room no_names = record {
  room = fresh.room;
  sound = (fresh_fine (in_hand first_counts xs ys cs days levels first_notes names lens out) fresh).sound;
  chained =
      lent_agree STEPS (first 0) (held_by levels) xs xs heads nexts (λ i h. absurd (omega (arith, h))) (λ i h. absurd (free i h)) (λ i h. refl)
      (lent_first STEPS 0 xs heads nexts (omega arith) heads_room nexts_room (λ k h l. off k l) (chained_none STEPS xs heads nexts none));
  days_kept = record { kept_earliest = λ k held h. absurd (omega arith) };
  ordered = λ some. record { all_held = λ i h. absurd (omega arith); no_other = λ i h below. fresh.all_free i below; never_fall = λ i j h below. absurd (omega arith) };
  indexed = record { room = index-room; hashes_are = λ k h. absurd (omega arith); chained = chained_none BUCKETS hashes name-heads name-nexts no_names };
  within = record { steps_there = omega arith; rules_within = λ i h. absurd (free i h) };
}
  where
    -- No place is held.
    free : (i : ℕ) → held_by levels i → ⊥
    free i (below, some) = omega (arith, some, fresh.all_free i below)

-- A table of n zeros.
abbrev pub zeros : ℕ → List ℕ
zeros n = replicate {A = ℕ} n 0

-- The nexts of no rules.
abbrev pub all_off : List ℕ
all_off = replicate {A = ℕ} RULES OFF

pub long : (n : ℕ) → n ≤ length (zeros n)
long n = omega (arith, length-replicate {A = ℕ} n 0)

none_set : (n v : ℕ) → v < n → at (zeros n) v ≡ 0
none_set n v h = get_or-replicate {A = ℕ} n v 0 0 h

-- What a script's own tables are, in hand, with these counts and this record.
abbrev pub hand : Counts → Notes → List ℕ → Lent
hand c n out = in_hand c (zeros RULES) (zeros RULES) (replicate RULES (pos 0)) (zeros STEPS) (zeros RULES) n (zeros (NAME_BYTES * STEPS)) (zeros STEPS) out

abbrev pub first_hand : List ℕ → Lent
first_hand out = hand first_counts first_notes out

pub first_is : (out : List ℕ) → first_hand out ≡ blank out
unfolding idle
first_is out = refl

-- Tables of zeros are sound, with the links and the index of the names that are lent beside them, and any table for kept days: no mark is open.
pub fresh_tables : (out : List ℕ) {kept : List Row} → Maintained 0 (first_hand out) (zeros STEPS) all_off kept (zeros STEPS) (zeros BUCKETS) (zeros STEPS)
fresh_tables out {kept} =
    fresh_maintained (zeros RULES) (zeros RULES) (replicate RULES (pos 0)) (zeros STEPS) (zeros RULES) (zeros (NAME_BYTES * STEPS)) (zeros STEPS) out (zeros STEPS) all_off kept
    (zeros STEPS) (zeros BUCKETS) (zeros STEPS)
    (subst Fresh (sym (first_is out)) (blank_fresh out)) (none_set STEPS) (long STEPS) (omega (arith, length-replicate {A = ℕ} RULES OFF)) (λ k h. get_or-replicate {A = ℕ} RULES k OFF 0 h)
    (record { hashes_room = long STEPS; heads_room = long BUCKETS; nexts_room = long STEPS }) (none_set BUCKETS)

-- So they are with counts and a record that are the first ones.
module _ {c : Counts} {n : Notes} (counts_are : c ≡ first_counts) (notes_are : n ≡ first_notes) (out : List ℕ) where
  hand_first : hand c n out ≡ first_hand out
  hand_first = ap (λ (d : Counts). hand d n out) counts_are ∙ ap (λ (m : Notes). hand first_counts m out) notes_are

  pub hand_is : hand c n out ≡ blank out
  hand_is = hand_first ∙ first_is out

  pub hand_fresh : {kept : List Row} → Maintained n.names (hand c n out) (zeros STEPS) all_off kept (zeros STEPS) (zeros BUCKETS) (zeros STEPS)
  hand_fresh {kept} = subst (λ (l : Lent). Maintained l.notes.names l (zeros STEPS) all_off kept (zeros STEPS) (zeros BUCKETS) (zeros STEPS)) (sym hand_first) (fresh_tables out)
