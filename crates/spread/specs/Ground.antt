-- What a spread stands on: the rules held, days that keep them, and the chains of the rules.
use Rattle.std.specs.Prelude.{ℕ, ◌≤◌, ◌<◌, List, length, ℤ}
use Rattle.meaning.specs.Bounds.{STEPS, RULES}
use Rattle.meaning.specs.Rules.{Rule, InSteps, Plan}
use Rattle.meaning.specs.Tables.{rule_at, at}
use Rattle.lent.specs.Lent.{columns, Placed}
use Rattle.chains.specs.Chains.{ChainsOf}

-- The rules by number, of the columns that are lent.
abbrev pub rules : List ℕ → List ℕ → List ℤ → ℕ → Rule
rules xs ys cs = rule_at (columns xs ys cs)

-- n steps are within bounds and have their places, and so have the rules held, whose numbers H holds of; each rule's steps are below n; the days keep
-- every rule; and the chains are those of the rules.
pub record Ground (n : ℕ) (H : ℕ → Type 0) (order : ℕ → ℕ) (xs ys : List ℕ) (cs : List ℤ) (days heads nexts : List ℕ) : Type 0 where
  pub steps_in : n ≤ STEPS
  pub number_in : (i : ℕ) → H i → i < RULES
  pub placed : (i : ℕ) → H i → Placed xs ys cs i
  pub next_place : (i : ℕ) → H i → i < length nexts
  pub days_room : n ≤ length days
  pub heads_room : n ≤ length heads
  pub in_steps : (i : ℕ) → H i → InSteps n (rules xs ys cs i)
  pub plan : Plan (rules xs ys cs) H (at days)
  pub chained : ChainsOf n H order xs heads nexts
