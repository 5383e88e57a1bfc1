-- What the functions of Consequences ask and promise.
use Rattle.std.specs.Prelude.{ℕ, ◌+◌, ◌^◌, ◌≤◌, ◌<◌, ◌≡◌, Bool, List, length, get_or, ℤ, pos}
use Rattle.meaning.specs.Rules.{InBounds, Always, Never}
use Rattle.meaning.specs.Tables.{ColumnsRoom, at}
use Rattle.meaning.specs.Reckoning.{up, dn}
use Rattle.lent.specs.Decides.{Decides}
use Rattle.lent.specs.Lent.{columns}
use Rattle.chains.specs.Chains.{Chained}
use Rattle.spread.specs.Ground.{rules}
use Rattle.inner_split.specs.Carries.{GAIN}
use Rattle.inner_split.specs.Verdicts.{Decided, Judged}

-- Step v has a day and a gain, and the gain is no larger than what is asked for.
pub record Gained (days gains : List ℕ) (v : ℕ) : Type 0 where
  pub day_place : v < length days
  pub gain_place : v < length gains
  pub bounded : at gains v ≤ GAIN

-- r is the day of step v with its gain.
pub record Reach (days gains : List ℕ) (v r : ℕ) : Type 0 where
  pub is : r ≡ at days v + at gains v
  pub narrow : r < 2 ^ 33

-- The rule under j has an amount, and its step in the column given has a day and a gain.
pub record Testable (steps : List ℕ) (cs : List ℤ) (days gains : List ℕ) (j : ℕ) : Type 0 where
  pub step_place : j < length steps
  pub amount_place : j < length cs
  pub gained : Gained days gains (at steps j)

-- Day `far` is within what the rule under j leaves its first step, where its second step is on its day with its gain.
abbrev pub Within : ℕ → List ℕ → List ℤ → List ℕ → List ℕ → ℕ → Type 0
Within far ys cs days gains j = far + dn (get_or cs j (pos 0)) ≤ at days (at ys j) + at gains (at ys j) + up (get_or cs j (pos 0))

-- With its second step on day `far` the rule under j is broken, where its first step is on its day with its gain.
abbrev pub Broken : ℕ → List ℕ → List ℤ → List ℕ → List ℕ → ℕ → Type 0
Broken far xs cs days gains j = far + up (get_or cs j (pos 0)) < at days (at xs j) + at gains (at xs j) + dn (get_or cs j (pos 0))

-- Each step below n has a place in `heads` and each rule below w one in `nexts`, and these are the chains of the rules by the steps given.
pub record ChainsBy (n w : ℕ) (steps heads nexts : List ℕ) : Type 0 where
  pub heads_room : n ≤ length heads
  pub nexts_room : w ≤ length nexts
  pub chained : Chained n w steps heads nexts

-- w watched rules over n steps have their places and are within bounds, and have their chains by first step and by second step.
pub record Watching (n w : ℕ) (wxs wys : List ℕ) (wcs : List ℤ) (wxheads wxnexts wyheads wynexts : List ℕ) : Type 0 where
  pub watched_room : ColumnsRoom w (columns wxs wys wcs)
  pub in_bounds : (j : ℕ) → j < w → InBounds n (rules wxs wys wcs j)
  pub by_first : ChainsBy n w wxs wxheads wxnexts
  pub by_second : ChainsBy n w wys wyheads wynexts

module _ (H : ℕ → Type 0) (xs ys : List ℕ) (cs : List ℤ) (wxs wys : List ℕ) (wcs : List ℤ) where
  -- The watched rule under j holds in every arrangement of the rules held, whose numbers H holds of.
  abbrev pub InAll : ℕ → Type 0
  InAll j = Always (rules xs ys cs) H (rules wxs wys wcs j)

  -- The watched rule under j holds in none.
  abbrev pub InNone : ℕ → Type 0
  InNone j = Never (rules xs ys cs) H (rules wxs wys wcs j)

  -- Verdicts were passed on the watched rules of step a, of which there are w in all: `always` on those whose first step it is, and `never` on
  -- those whose second step it is.
  pub record JudgedStep (w a : ℕ) (always never always' never' : List Bool) : Type 0 where
    pub in_all : Judged (λ j says. Decides says (InAll j)) w wxs a always always'
    pub in_none : Judged (λ j says. Decides says (InNone j)) w wys a never never'

  -- Both verdicts were passed on each of w watched rules.
  pub record JudgedAll (w : ℕ) (always never : List Bool) : Type 0 where
    pub in_all : Decided InAll w always
    pub in_none : Decided InNone w never
