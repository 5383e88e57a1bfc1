-- What the first test says: where it passes, the tables have room and are sound, and the gap table is right; else the call gives the same refusal, whatever it asks for behind.
use Prim.Native.Nat.{ℕ}
use native.Mathlib.Omega.{arith}
use mathlib.Core.Path.{◌≡◌, sym, subst}
use mathlib.Core.Bool.{Bool, true, false}
use mathlib.Core.List.{List, ◌∷◌, tail}
use mathlib.Core.Logic.{◌⊎◌, inl, inr}
use Rattle.meaning.specs.declared.Refusal.{Refusal}
use Rattle.meaning.specs.Refusals.{number_of, ring_of}
use Rattle.meaning.specs.Bounds.{DONE, SHORT, DAMAGED, CONFLICT}
use Rattle.meaning.specs.Tables.{Tables, Room, Sound}
use Rattle.meaning.specs.Promise.{Need, needs, First, Meaning, Obeys, bare, gave}
use Rattle.meaning.proofs.Needs.{AllMet, not_done, no_ring, not_given, obeys_refusal}
use Rattle.lent.specs.Decides.{Decides, yes_or_no}
use Rattle.lent.specs.Promises.{Border}
use Rattle.gaps.specs.Gaps.{Gaps, Right}
use Rattle.desk.specs.Entry.{entry_needs, Entered}

-- What decides a thing that holds says yes.
have : {lists : Bool} {X : Type 0} → Decides lists X → X → lists ≡ true
have {lists} d x = by_answer (yes_or_no lists)
  where
    by_answer : (lists ≡ true) ⊎ (lists ≡ false) → lists ≡ true
    by_answer (inl is) = is
    by_answer (inr is) = absurd (d.not_so is x)

-- Where no need is the first that is not met, all are met.
all_entered : (lists : Bool) (t : Tables) (gaps : Gaps) → First (entry_needs lists t gaps) DONE → AllMet (entry_needs lists t gaps)
all_entered lists t gaps (inl a) = absurd (omega (arith, a.0))
all_entered lists t gaps (inr (room, inl a)) = absurd (omega (arith, a.0))
all_entered lists t gaps (inr (room, inr (sound, inl a))) = absurd (omega (arith, a.0))
all_entered lists t gaps (inr (room, inr (sound, inr (right, a)))) = (room, (sound, (right, tt)))

module _ {lists : Bool} {t : Tables} {gaps : Gaps} {heads nexts : List ℕ} (e : Entered lists t gaps DONE heads nexts) where
  met : AllMet (entry_needs lists t gaps)
  met = all_entered lists t gaps e.first_unmet

  pub entered : Border t
  entered = record { room = met.0.1; sound = met.1.0 }

  pub right_entered : Right t gaps
  right_entered = met.1.1.0

  pub lists_entered : {X : Type 0} → Decides lists X → X
  lists_entered d = d.so met.0.0

module _ (q : Refusal) {lists : Bool} {t : Tables} {gaps : Gaps} {heads nexts : List ℕ} (e : Entered lists t gaps (number_of q) heads nexts) where
  -- The same refusal, where room is asked for in other words.
  refusal :
      {P : Type 0} (l : List Need) → (P → (lists ≡ true) × Room t) → ((lists ≡ true) × Room t → P) → First (entry_needs lists t gaps) (number_of q) →
      First (needs SHORT P ∷ needs DAMAGED (Sound t) ∷ needs DAMAGED (Right t gaps) ∷ l) (number_of q)
  refusal l to from (inl a) = inl (a.0, λ p. a.1 (to p))
  refusal l to from (inr (room, inl a)) = inr (from room, inl a)
  refusal l to from (inr (room, inr (sound, inl a))) = inr (from room, inr (sound, inl a))
  refusal l to from (inr (room, inr (sound, inr a))) = absurd (not_done q a.1)

  no_conflict : number_of q ≡ CONFLICT → ⊥
  no_conflict = not_given CONFLICT (number_of q) (entry_needs lists t gaps) tt (λ is. omega arith) e.first_unmet

  -- A refusal of a call that would tell a value tells none.
  pub valued : {S : Type 0} {m : Meaning S} {before : S} → Obeys m before (bare (number_of q)) before → Obeys m before (gave (number_of q) (ring_of q) 0) before
  valued {m} {before} = subst (λ (k : ℕ). Obeys m before (gave (number_of q) k 0) before) (sym (no_ring q no_conflict))

  module _ {S : Type 0} (m : Meaning S) (before : S) where
    obeys : First m.asks (number_of q) → Obeys m before (bare (number_of q)) before
    obeys = obeys_refusal m before q no_conflict

    -- A call that is lent no other list.
    pub refused_alone :
        lists ≡ true → (First (needs SHORT (Room t) ∷ needs DAMAGED (Sound t) ∷ needs DAMAGED (Right t gaps) ∷ tail (tail (tail m.asks))) (number_of q) → First m.asks (number_of q)) →
        Obeys m before (bare (number_of q)) before
    refused_alone all same = obeys (same (refusal (tail (tail (tail m.asks))) (λ room. (all, room)) (λ both. both.1) e.first_unmet))

    -- A call that is lent another list, or two, which must have room too.
    pub refused_with :
        {X : Type 0} → Decides lists X →
        (First (needs SHORT (Room t × X) ∷ needs DAMAGED (Sound t) ∷ needs DAMAGED (Right t gaps) ∷ tail (tail (tail m.asks))) (number_of q) → First m.asks (number_of q)) →
        Obeys m before (bare (number_of q)) before
    refused_with d same =
        obeys (same (refusal (tail (tail (tail m.asks))) (λ h. (have d h.1, h.0)) (λ both. (both.1, d.so both.0)) e.first_unmet))

    pub refused_with_two :
        {X Y : Type 0} → Decides lists (X × Y) →
        (First (needs SHORT (Room t × X × Y) ∷ needs DAMAGED (Sound t) ∷ needs DAMAGED (Right t gaps) ∷ tail (tail (tail m.asks))) (number_of q) → First m.asks (number_of q)) →
        Obeys m before (bare (number_of q)) before
    refused_with_two {X} {Y} d same =
        obeys (same (refusal (tail (tail (tail m.asks))) to from e.first_unmet))
      where
        to : Room t × X × Y → (lists ≡ true) × Room t
        to h = (have d (h.1, h.2), h.0)

        from : (lists ≡ true) × Room t → Room t × X × Y
        from both = (both.1, (d.so both.0).0, (d.so both.0).1)
