-- The promises of Add and Trial, whatever the watched rules are.
use Rattle.std.specs.Prelude.{ℕ, ◌≤◌, ◌<◌, ◌≡◌, List, [], ◌∷◌, length, ℤ, Result}
use Rattle.meaning.specs.declared.Counts.{Counts}
use Rattle.meaning.specs.declared.Refusal.{Refusal}
use Rattle.meaning.specs.declared.Added.{Added}
use Rattle.meaning.specs.Bounds.{STEPS, RULES, MARKS, FULL}
use Rattle.meaning.specs.Rules.{Rule}
use Rattle.meaning.specs.Tables.{taken}
use Rattle.meaning.specs.Promise.{Need, needs, given_value, given_added}
use Rattle.meaning.specs.Calls.{rule_needs}
use Rattle.lent.specs.Lent.{tables}
use Rattle.lent.specs.Promises.{Border, Adds, Tries}

-- Both lists have room for the days of all steps and for a ring.
pub record BothRoom (one two : List ℕ) : Type 0 where
  pub one_room : STEPS ≤ length one
  pub two_room : STEPS ≤ length two

-- Every place has a level, the rule count is that of the places held, and no more marks are open than there may be.
pub record Counted (counts : Counts) (levels : List ℕ) : Type 0 where
  pub levels_room : RULES ≤ length levels
  pub rules_counted : counts.rules ≡ taken RULES levels
  pub marks_in : counts.marks ≤ MARKS

-- What a rule that is to be held needs.
abbrev pub hold_needs : Counts → Rule → List Need
hold_needs counts r = rule_needs counts.steps r (needs FULL (counts.rules < RULES) ∷ [])

module _ (counts : Counts) (xs ys : List ℕ) (cs : List ℤ) (days levels : List ℕ) where
  -- Trial's promise, with any watched rules that have room and are sound.
  abbrev pub TrialKept : List ℕ → List ℕ → ℕ → ℕ → ℤ → Result ℕ Refusal → List ℕ → List ℕ → Type 0
  TrialKept one two x y c r one' two' =
      (wxs wys : List ℕ) (wcs : List ℤ) →
      Border (tables counts xs ys cs days levels wxs wys wcs) → Tries counts xs ys cs days levels wxs wys wcs one two x y c (given_value r) counts one' two'

  -- Add's promise, likewise.
  abbrev pub AddKept : List ℕ → ℕ → ℕ → ℤ → Result Added Refusal → Counts → List ℕ → List ℕ → List ℤ → List ℕ → List ℕ → List ℕ → Type 0
  AddKept list x y c r counts' xs' ys' cs' days' levels' list' =
      (wxs wys : List ℕ) (wcs : List ℤ) →
      Border (tables counts xs ys cs days levels wxs wys wcs) → Adds counts xs ys cs days levels wxs wys wcs list x y c (given_added r) counts' xs' ys' cs' days' levels' list'
