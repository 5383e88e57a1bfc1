-- `levels::days_at` meets its contract: where the days are kept the copy is the earliest plan and the row has its last day; else the rules that stay are planned.
use mathlib.Core.Path.{sym, subst}
use Rattle.spread.specs.Ground.{rules}
use Rattle.chains.specs.Chains.{linked}
use Rattle.levels.specs.Levels.{RowPlan}
use Rattle.levels.proofs.Popping.{copied_from, plan_kept, last_kept}
use Rattle.levels.proofs.days_at.Goals as goal

pub returns-in-Some-clause-planned : goal.returns-in-Some-clause-planned
returns-in-Some-clause-planned c = let a = c.args in
    let plan = subst (RowPlan (rules a.xs.now a.ys.now a.cs.now) a.n (linked a.nexts.now)) (sym c.in-Some.ensures.1) (c.requires.kept_for c.in-Some.ensures.0) in
    rw c.copy_from_slice.ensures.after (plan_kept c.requires.plannable (copied_from c.in-Some.row.now.days c.requires.plannable c.copy_from_slice.ensures.len c.copy_from_slice.ensures.after) plan)

pub returns-in-Some-clause-value : goal.returns-in-Some-clause-value
returns-in-Some-clause-value c = let a = c.args in
    let plan = subst (RowPlan (rules a.xs.now a.ys.now a.cs.now) a.n (linked a.nexts.now)) (sym c.in-Some.ensures.1) (c.requires.kept_for c.in-Some.ensures.0) in
    rw c.copy_from_slice.ensures.after (last_kept c.requires.plannable (copied_from c.in-Some.row.now.days c.requires.plannable c.copy_from_slice.ensures.len c.copy_from_slice.ensures.after) plan)
