-- What the test of a rule that is to be held says: where it passes, the rule is within bounds and has a place; else Add and Trial give the same refusal.
use Prim.Native.Nat.{ℕ, ◌≤◌, ◌<◌}
use native.Mathlib.Omega.{arith}
use mathlib.Core.Path.{◌≡◌, refl, ap}
use Rattle.std.specs.Prelude.{Err}
use mathlib.Core.List.{List, [], ◌∷◌, ◌++◌}
use mathlib.Core.Logic.{inr}
use lib.ListN.{length}
use lib.IntN.{ℤ}
use Rattle.meaning.specs.declared.Counts.{Counts}
use Rattle.meaning.specs.declared.Refusal.{Refusal}
use Rattle.meaning.specs.Refusals.{number_of}
use Rattle.meaning.specs.Bounds.{STEPS, RULES, DONE, CONFLICT}
use Rattle.meaning.specs.Rules.{InBounds, Fits, rule}
use Rattle.meaning.specs.Tables.{Tables, at, lowest_free}
use Rattle.meaning.specs.Promise.{needs, First}
use Rattle.meaning.specs.Calls.{rules_of, held_in}
use Rattle.meaning.proofs.Places.{lowest_found, lowest_free_there}
use Rattle.meaning.proofs.Needs.{AllMet, not_done, done_met, first_stops, not_given, obeys_refusal_value}
use Rattle.lent.specs.Lent.{tables, held_by}
use Rattle.chains.specs.Chains.{number}
use Rattle.inner_add.specs.Planning.{Base}
use Rattle.inner_add.specs.Lending.{Holdable}
use Rattle.inner_add.specs.Kept.{BothRoom, Counted, hold_needs, TrialKept, AddKept}

module _ (counts : Counts) (x y : ℕ) (c : ℤ) (f : First (hold_needs counts (rule x y c)) DONE) where
  met : AllMet (hold_needs counts (rule x y c))
  met = done_met DONE DONE (hold_needs counts (rule x y c)) tt f refl

  pub hold_good : InBounds counts.steps (rule x y c)
  hold_good = record { steps_in = met.0; amount_in = met.1.0 }

  pub hold_place : counts.rules < RULES
  hold_place = met.1.1.0

  -- The next number is free, and has a place.
  pub hold_ready :
      {xs ys : List ℕ} {cs : List ℤ} {days levels heads nexts : List ℕ} → Base counts.steps (held_by levels) number xs ys cs days heads nexts → Counted counts levels →
      {m : ℕ} → m ≡ lowest_free RULES levels → Holdable counts.steps (held_by levels) number m xs ys cs days heads nexts x y c
  hold_ready {levels} base counted is = record {
    base = base;
    new_good = hold_good;
    free = λ held. omega (arith, held.1, ap (at levels) is, lowest_free_there RULES levels below);
    not_full = omega (arith, is, below);
  }
    where
      below : lowest_free RULES levels < RULES
      below = lowest_found RULES levels (omega (arith, counted.rules_counted, hold_place))

module _ (counts : Counts) (x y : ℕ) (c : ℤ) (q : Refusal) (f : First (hold_needs counts (rule x y c)) (number_of q)) (xs ys : List ℕ) (cs : List ℤ) (days levels : List ℕ) where
  -- What Add and Trial ask for, behind room and soundness.
  refused :
      (t : Tables) → First (hold_needs counts (rule x y c) ++ (needs CONFLICT (Fits (rules_of t) (held_in t) (rule x y c)) ∷ [])) (number_of q)
  refused t = first_stops (hold_needs counts (rule x y c)) (needs CONFLICT (Fits (rules_of t) (held_in t) (rule x y c)) ∷ []) (number_of q) (not_done q) f

  no_conflict : number_of q ≡ CONFLICT → ⊥
  no_conflict = not_given CONFLICT (number_of q) (hold_needs counts (rule x y c)) tt (λ e. omega arith) f

  pub add_refused : (list : List ℕ) → STEPS ≤ length list → AddKept counts xs ys cs days levels list x y c (Err q) counts xs ys cs days levels list
  add_refused list long wxs wys wcs b =
      obeys_refusal_value _ _ q no_conflict (inr ((b.room, long), inr (b.sound, refused (tables counts xs ys cs days levels wxs wys wcs))))

  pub trial_refused : (one two : List ℕ) → BothRoom one two → TrialKept counts xs ys cs days levels one two x y c (Err q) one two
  trial_refused one two long wxs wys wcs b =
      obeys_refusal_value _ _ q no_conflict (inr ((b.room, long.one_room, long.two_room), inr (b.sound, refused (tables counts xs ys cs days levels wxs wys wcs))))
