-- The part handed back after Trial is what the caller asked for, since Trial's promise says what the lists' first places hold.
use Prim.Native.Nat.{ℕ, ◌+◌, ◌*◌, ◌-◌, ◌<◌}
use native.Mathlib.Omega.{arith}
use native.Mathlib.Decide.{ℕ_discrete}
use mathlib.Core.Path.{◌≡◌, refl, sym, ◌∙◌, ap, subst}
use mathlib.Core.List.{List}
use lib.ListN.{length, take}
use lib.Seq.{length-take-le, get_or-take, take_all}
use lib.IntN.{ℤ}
use Rattle.meaning.specs.declared.Counts.{Counts}
use Rattle.meaning.specs.declared.Refusal.{Refusal}
use Rattle.meaning.specs.declared.Added.{Added}
use Rattle.std.specs.Prelude.{Result, Ok, Err}
use Rattle.meaning.specs.Bounds.{DONE}
use Rattle.meaning.specs.Rules.{InSteps, Reason, rule}
use Rattle.meaning.specs.Tables.{Tables, at}
use Rattle.meaning.specs.Promise.{Given, number_told, given_added, counts_added}
use Rattle.meaning.specs.Calls.{WithLists, trial_meaning, rules_of, held_in, next_in, rules_and, held_and}
use Rattle.meaning.proofs.Needs.{done_met, trial_rises, not_done}
use Rattle.meaning.proofs.More.{more_all}
use Rattle.meaning.proofs.Lists.{filled_length}
use Rattle.meaning.proofs.Theory.{earliest_ext}
use Rattle.lent.specs.Lent.{tables}
use Rattle.lent.specs.Promises.{Tries}
use Rattle.desk.specs.Part.{PartOf, TrialPart, Handed, steps_told}

-- The number that an answer gives is the one that it tells.
number_same : (answer : Result Added Refusal) → number_told answer ≡ (given_added answer).number
number_same (Ok tried) = refl
number_same (Err refusal) = refl

-- The steps that an answer tells are those of the counts after it.
steps_same : (counts : Counts) (answer : Result Added Refusal) → number_told answer ≡ DONE → steps_told answer ≡ (counts_added counts answer).steps
steps_same counts (Ok tried) e = refl
steps_same counts (Err refusal) e = absurd (not_done refusal e)

module _
    (counts : Counts) (xs ys : List ℕ) (cs : List ℤ) (days levels wxs wys : List ℕ) (wcs : List ℤ) (one two : List ℕ) (x y : ℕ) (c : ℤ) (answer : Result Added Refusal)
    (one' two' : List ℕ) (kept : Tries counts xs ys cs days levels wxs wys wcs one two x y c (given_added answer) (counts_added counts answer) one' two')
    {P : Type 0} (one-start two-start start : P) (part : List ℕ) (is : TrialPart one-start two-start one' two' answer start part) where
  abbrev t : Tables
  t = tables counts xs ys cs days levels wxs wys wcs

  abbrev lent : WithLists
  lent = record { tables = t; one = one; two = two }

  abbrev g : Given
  g = given_added answer

  -- After Trial kept its promise the part is the days of all steps, the ring, or nothing.
  pub part_handed : Handed (rule x y c) t g one-start two-start start part
  part_handed =
      record {
        days_of_all = λ e. ((is.days_part (told e)).same_start, the-length e, earliest_ext counts.steps (rules_and (rule x y c) t) (held_and t) (at one') (at part) (within e) (the-day e) (kept.when_done e).planned.earliest);
        the_ring = λ e. ((is.ring_part (not-told (other e))).same_start, ap length (is.ring_part (not-told (other e))).holds ∙ filled_length g.one two two' (kept.on_conflict e).0.ring_given, subst (Reason (rules_of t) (held_in t) (next_in t) (rule x y c)) (sym (is.ring_part (not-told (other e))).holds) (kept.on_conflict e).0.ring_given.holds);
        nothing = λ u v. ((is.ring_part (not-told u)).same_start, (is.ring_part (not-told u)).holds ∙ ap (λ (z : Given). take z.one two') (kept.when_refused u v).0);
      }
    where
      told : g.number ≡ DONE → number_told answer ≡ DONE
      told e = number_same answer ∙ e

      not-told : (g.number ≡ DONE → ⊥) → number_told answer ≡ DONE → ⊥
      not-told n e = n (sym (number_same answer) ∙ e)

      counted : g.number ≡ DONE → steps_told answer ≡ counts.steps
      counted e = steps_same counts answer (told e) ∙ ap (λ (u : Tables). u.counts.steps) (kept.when_done e).tables_stay

      other : g.number ≡ 6 → g.number ≡ DONE → ⊥
      other e f = omega arith

      the-part : g.number ≡ DONE → part ≡ take counts.steps one'
      the-part e = (is.days_part (told e)).holds ∙ ap (λ (k : ℕ). take k one') (counted e)

      the-length : g.number ≡ DONE → length part ≡ counts.steps
      the-length e =
          let met = done_met DONE g.number (trial_meaning (rule x y c) lent).asks (trial_rises (rule x y c) lent) kept.first_unmet e in
          ap length (the-part e) ∙ length-take-le counts.steps one' (omega (arith, met.0.1, met.1.0.counts_in.steps_in, (kept.when_done e).planned.past.same_length))

      the-day : g.number ≡ DONE → (v : ℕ) → v < counts.steps → at one' v ≡ at part v
      the-day e v h = sym (ap (λ (l : List ℕ). at l v) (the-part e) ∙ get_or-take counts.steps one' v 0 h)

      within : g.number ≡ DONE → (i : ℕ) → held_and t i → InSteps counts.steps (rules_and (rule x y c) t i)
      within e =
          let met = done_met DONE g.number (trial_meaning (rule x y c) lent).asks (trial_rises (rule x y c) lent) kept.first_unmet e in
          more_all (InSteps counts.steps) (rules_of t) (held_in t) (next_in t) (rule x y c) met.1.1.0 (λ i h. (met.1.0.rules_good i h).steps_in)

-- Two parts that the promise allows are equal.
pub part_determined :
    {P : Type 0} (one-start two-start : P) (one two : List ℕ) (answer : Result Added Refusal) (start start' : P) (part part' : List ℕ)
    → TrialPart one-start two-start one two answer start part → TrialPart one-start two-start one two answer start' part' → (start ≡ start') × (part ≡ part')
part_determined {P} one-start two-start one two answer start start' part part' a b = tell (ℕ_discrete (number_told answer) DONE)
  where
    same : (list-start : P) (list : List ℕ) (k : ℕ) → PartOf list-start list k start part → PartOf list-start list k start' part' → (start ≡ start') × (part ≡ part')
    same list-start list k p q = (p.same_start ∙ sym q.same_start, p.holds ∙ sym q.holds)

    tell : Dec (number_told answer ≡ DONE) → (start ≡ start') × (part ≡ part')
    tell (yes e) = same one-start one (steps_told answer) (a.days_part e) (b.days_part e)
    tell (no n) = same two-start two (given_added answer).one (a.ring_part n) (b.ring_part n)

-- A part from place 0 on starts where its list starts, and has the list's first places; all of them where more are asked for.
pub from_start : (block offset : ℕ) → ◌≡◌ {A = ℕ × ℕ} (block, 0 * 4 + offset) (block, offset)
from_start block offset = λ i. (block, same i)
  where
    same : 0 * 4 + offset ≡ offset
    same = omega arith

pub whole_part : (k : ℕ) (l : List ℕ) → take (k - 0) l ≡ take k l
whole_part k l = ap (λ z. take z l) same
  where
    same : k - 0 ≡ k
    same = omega arith

pub all_of_it : (n k : ℕ) (l : List ℕ) → n ≡ length l → n < k → take (n - 0) l ≡ take k l
all_of_it n k l e h = take_all (n - 0) l (omega arith) ∙ sym (take_all k l (omega arith))
