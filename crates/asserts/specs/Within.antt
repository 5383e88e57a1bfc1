-- Which steps the rules held speak of.
use Rattle.std.specs.Prelude.{ℕ, ◌≤◌, List}
use Rattle.meaning.specs.declared.Counts.{Counts}
use Rattle.meaning.specs.Rules.{InSteps}
use Rattle.meaning.specs.Tables.{Columns, rule_at}
use Rattle.lent.specs.Lent.{held_by}

-- Both steps of each rule held are below e, and there are e steps.
pub record Within (e : ℕ) (counts : Counts) (levels : List ℕ) (rules : Columns) : Type 0 where
  pub steps_there : e ≤ counts.steps
  pub rules_within : (i : ℕ) → held_by levels i → InSteps e (rule_at rules i)
