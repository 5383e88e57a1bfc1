-- The order of refusals. The first need not met fixes the number, and where the needs' numbers rise it is the lowest number that applies.
use Prim.Native.Nat.{ℕ, ◌≤◌, ◌<◌}
use native.Mathlib.Omega.{arith}
use mathlib.Core.Path.{◌≡◌, refl, sym, ◌∙◌, subst}
use mathlib.Core.List.{List, [], ◌∷◌, ◌++◌}
use mathlib.Core.Logic.{◌⊎◌, inl, inr, ◌↔◌}
use mathlib.Core.Bool.{Bool, true, false, not, ◌&&◌}
use lib.Dec.{T, ltb, ltb→lt, eqb}
use borrow.Author.Tests.{eq-eqb}
use Rattle.meaning.specs.declared.Refusal.{Refusal}
use Rattle.meaning.specs.declared.Refusal.TheVariants.{Short, Damaged, Step, Amount, Full, Conflict, NoMark, Syntax, Mode, Name, Size, Absent, Yard}
use Rattle.meaning.specs.Bounds.{DONE, CONFLICT}
use Rattle.meaning.specs.Refusals.{number_of, ring_of}
use Rattle.meaning.specs.Rules.{Rule}
use Rattle.meaning.specs.Tables.{Tables}
use Rattle.meaning.specs.Promise.{bare, gave, Need, First, Meaning, Obeys}
use Rattle.meaning.specs.Calls.{WithList, WithLists, open_meaning, watch_meaning, add_meaning, mark_meaning, back_meaning, withdraw_meaning, trial_meaning, consequences_meaning, ring_check_meaning, last_day_meaning}

-- ---- the number is fixed

-- Two numbers of a first need not met are equal.
pub first_same : (l : List Need) (g h : ℕ) → First l g → First l h → g ≡ h
first_same [] g h a b = a ∙ sym b
first_same (n ∷ l) g h (inl a) (inl b) = a.0 ∙ sym b.0
first_same (n ∷ l) g h (inl a) (inr b) = absurd (a.1 b.0)
first_same (n ∷ l) g h (inr a) (inl b) = absurd (b.1 a.0)
first_same (n ∷ l) g h (inr a) (inr b) = first_same l g h a.1 b.1

-- ---- the lowest number that applies

-- Every need is met.
abbrev pub AllMet : List Need → Type 0
AllMet [] = Unit {0}
AllMet (n ∷ l) = n.met × AllMet l

-- The number applies: a need that has it is not met.
abbrev pub Applies : ℕ → List Need → Type 0
Applies g [] = ⊥
Applies g (n ∷ l) = ((g ≡ n.number) × (n.met → ⊥)) ⊎ Applies g l

-- No lower number applies: every need with a lower number is met.
abbrev pub NoLower : ℕ → List Need → Type 0
NoLower g [] = Unit {0}
NoLower g (n ∷ l) = (n.number < g → n.met) × NoLower g l

-- 01's words: DONE where every need is met, else the lowest number that applies.
abbrev pub Lowest : List Need → ℕ → Type 0
Lowest l g = ((g ≡ DONE) × AllMet l) ⊎ (Applies g l × NoLower g l)

-- The test that the needs' numbers rise from above k on.
abbrev pub rises : ℕ → List Need → Bool
rises k [] = true
rises k (n ∷ l) = ltb k n.number && rises n.number l

both : (a b : Bool) → T (a && b) → T a × T b
both true b h = (tt, h)
both false b h = absurd h

other : (k n : ℕ) → T (not (eqb k n)) → k ≡ n → ⊥
other k n h e = subst (λ (b : Bool). T (not b)) (eq-eqb k n e) h

rise_head : (k : ℕ) (n : Need) (l : List Need) → T (rises k (n ∷ l)) → k < n.number
rise_head k n l h = ltb→lt k n.number (both (ltb k n.number) (rises n.number l) h).0

rise_tail : (k : ℕ) (n : Need) (l : List Need) → T (rises k (n ∷ l)) → T (rises n.number l)
rise_tail k n l h = (both (ltb k n.number) (rises n.number l) h).1

none_lower : (k g : ℕ) (l : List Need) → T (rises k l) → g ≤ k → NoLower g l
none_lower k g [] h e = tt
none_lower k g (n ∷ l) h e = (λ lt. absurd (above lt), none_lower n.number g l (rise_tail k n l h) (omega (arith, rise_head k n l h)))
  where
    above : n.number < g → ⊥
    above lt = omega (arith, rise_head k n l h)

applies_above : (k g : ℕ) (l : List Need) → T (rises k l) → Applies g l → k < g
applies_above k g [] h a = absurd a
applies_above k g (n ∷ l) h (inl a) = omega (arith, rise_head k n l h, a.0)
applies_above k g (n ∷ l) h (inr a) = omega (arith, rise_head k n l h, applies_above n.number g l (rise_tail k n l h) a)

to_lowest : (k g : ℕ) (l : List Need) → T (rises k l) → First l g → Lowest l g
to_lowest k g [] h e = inl (e, tt)
to_lowest k g (n ∷ l) h (inl a) = inr (inl a, (λ lt. absurd (same lt), none_lower n.number g l (rise_tail k n l h) (omega (arith, a.0))))
  where
    same : n.number < g → ⊥
    same lt = omega (arith, a.0)
to_lowest k g (n ∷ l) h (inr a) = go (to_lowest n.number g l (rise_tail k n l h) a.1)
  where
    go : Lowest l g → Lowest (n ∷ l) g
    go (inl b) = inl (b.0, (a.0, b.1))
    go (inr b) = inr (inr b.0, (λ lt. a.0, b.1))

from_lowest : (k g : ℕ) (l : List Need) → T (rises k l) → Lowest l g → First l g
from_lowest k g [] h (inl a) = a.0
from_lowest k g [] h (inr a) = absurd a.0
from_lowest k g (n ∷ l) h (inl a) = inr (a.1.0, from_lowest n.number g l (rise_tail k n l h) (inl (a.0, a.1.1)))
from_lowest k g (n ∷ l) h (inr a) = go (λ b. from_lowest n.number g l (rise_tail k n l h) (inr (b, a.1.1))) a.0
  where
    go : (Applies g l → First l g) → Applies g (n ∷ l) → First (n ∷ l) g
    go later (inl b) = inl b
    go later (inr b) = inr (a.1.0 (applies_above n.number g l (rise_tail k n l h) b), later b)

-- Where the needs' numbers rise, the number of the first need not met is the lowest that applies, and is given only then.
pub lowest_applies : (l : List Need) (g : ℕ) → T (rises DONE l) → First l g ↔ Lowest l g
lowest_applies l g h = (to_lowest DONE g l h, from_lowest DONE g l h)

-- The numbers of every call's needs rise.
pub open_rises : (n : ℕ) (t : Tables) → T (rises DONE (open_meaning n t).asks)
open_rises n t = tt

pub watch_rises : (r : Rule) (t : Tables) → T (rises DONE (watch_meaning r t).asks)
watch_rises r t = tt

pub add_rises : (r : Rule) (s : WithList) → T (rises DONE (add_meaning r s).asks)
add_rises r s = tt

pub mark_rises : (t : Tables) → T (rises DONE (mark_meaning t).asks)
mark_rises t = tt

pub back_rises : (t : Tables) → T (rises DONE (back_meaning t).asks)
back_rises t = tt

pub withdraw_rises : (i : ℕ) (t : Tables) → T (rises DONE (withdraw_meaning i t).asks)
withdraw_rises i t = tt

pub trial_rises : (r : Rule) (s : WithLists) → T (rises DONE (trial_meaning r s).asks)
trial_rises r s = tt

pub consequences_rises : (s : WithLists) → T (rises DONE (consequences_meaning s).asks)
consequences_rises s = tt

pub ring_check_rises : (r : Rule) (s : WithList) → T (rises DONE (ring_check_meaning r s).asks)
ring_check_rises r s = tt

pub last_day_rises : (t : Tables) → T (rises DONE (last_day_meaning t).asks)
last_day_rises t = tt

-- ---- from a need to the answer

-- A met need is passed over; all met is DONE.
pub all_met : (l : List Need) → AllMet l → First l DONE
all_met [] h = refl
all_met (n ∷ l) h = inr (h.0, all_met l h.1)

-- With every need met the number is DONE; and DONE says that every need is met, where no need has that number.
pub done_met : (k g : ℕ) (l : List Need) → T (rises k l) → First l g → g ≡ DONE → AllMet l
done_met k g [] h e z = tt
done_met k g (n ∷ l) h (inl a) z = absurd (omega (arith, rise_head k n l h, a.0))
done_met k g (n ∷ l) h (inr a) z = (a.0, done_met n.number g l (rise_tail k n l h) a.1 z)

-- Where a need of l is not met, more needs behind it change nothing.
pub first_stops : (l k : List Need) (g : ℕ) → (g ≡ DONE → ⊥) → First l g → First (l ++ k) g
first_stops [] k g some f = absurd (some f)
first_stops (n ∷ l) k g some (inl a) = inl a
first_stops (n ∷ l) k g some (inr a) = inr (a.0, first_stops l k g some a.1)

-- The test that no need of l has the number k; then, if k is not DONE, it is not given.
abbrev pub none_has : ℕ → List Need → Bool
none_has k [] = true
none_has k (n ∷ l) = not (eqb k n.number) && none_has k l

pub not_given : (k g : ℕ) (l : List Need) → T (none_has k l) → (k ≡ DONE → ⊥) → First l g → g ≡ k → ⊥
not_given k g [] h some f e = some (sym e ∙ f)
not_given k g (n ∷ l) h some (inl a) e = other (k) n.number (both (not (eqb k n.number)) (none_has k l) h).0 (sym e ∙ a.0)
not_given k g (n ∷ l) h some (inr a) e = not_given k g l (both (not (eqb k n.number)) (none_has k l) h).1 some a.1 e

-- ---- refusals

-- No refusal has the number of a call that is carried out.
pub not_done : (r : Refusal) → number_of r ≡ DONE → ⊥
not_done Short e = omega arith
not_done Damaged e = omega arith
not_done Step e = omega arith
not_done Amount e = omega arith
not_done Full e = omega arith
not_done (Conflict k) e = omega arith
not_done NoMark e = omega arith
not_done Syntax e = omega arith
not_done Mode e = omega arith
not_done Name e = omega arith
not_done Size e = omega arith
not_done Absent e = omega arith
not_done Yard e = omega arith

-- A refusal that is no conflict carries no ring.
pub no_ring : (r : Refusal) → (number_of r ≡ CONFLICT → ⊥) → ring_of r ≡ 0
no_ring Short n = refl
no_ring Damaged n = refl
no_ring Step n = refl
no_ring Amount n = refl
no_ring Full n = refl
no_ring (Conflict k) n = absurd (n refl)
no_ring NoMark n = refl
no_ring Syntax n = refl
no_ring Mode n = refl
no_ring Name n = refl
no_ring Size n = refl
no_ring Absent n = refl
no_ring Yard n = refl

-- ---- laws by which each return of the code is answered in a line

module _ {S : Type 0} (m : Meaning S) (before : S) where
  -- Carried out.
  pub obeys_done : (a b : ℕ) (after : S) → AllMet m.asks → m.done a b after → Obeys m before (record { number = DONE; one = a; two = b }) after
  obeys_done a b after met d =
      record {
        first_unmet = all_met m.asks met;
        when_done = λ e. d;
        on_conflict = λ e. absurd (omega arith);
        when_refused = λ nd nc. absurd (nd refl);
      }

  -- On conflict.
  pub obeys_conflict : (a : ℕ) (after : S) → First m.asks CONFLICT → m.conflict a after → Obeys m before (record { number = CONFLICT; one = a; two = 0 }) after
  obeys_conflict a after f c =
      record {
        first_unmet = f;
        when_done = λ e. absurd (omega arith);
        on_conflict = λ e. (c, refl);
        when_refused = λ nd nc. absurd (nc refl);
      }

  -- Refused: nothing lent is changed.
  pub obeys_refused : (k : ℕ) → (k ≡ DONE → ⊥) → (k ≡ CONFLICT → ⊥) → First m.asks k → Obeys m before (bare k) before
  obeys_refused k nd nc f =
      record {
        first_unmet = f;
        when_done = λ e. absurd (nd e);
        on_conflict = λ e. absurd (nc e);
        when_refused = λ a b. (refl, refl);
      }

  -- The same, of an answer.
  pub obeys_refusal : (r : Refusal) → (number_of r ≡ CONFLICT → ⊥) → First m.asks (number_of r) → Obeys m before (bare (number_of r)) before
  obeys_refusal r nc f = obeys_refused (number_of r) (not_done r) nc f

  -- The same, of an answer that would tell a value.
  pub obeys_refusal_value : (r : Refusal) → (number_of r ≡ CONFLICT → ⊥) → First m.asks (number_of r) → Obeys m before (gave (number_of r) (ring_of r) 0) before
  obeys_refusal_value r nc f = subst (λ (k : ℕ). Obeys m before (gave (number_of r) k 0) before) (sym (no_ring r nc)) (obeys_refusal r nc f)
