-- `desk::trial`: `inner_add::trial` on tables that are known to be sound.
use mathlib.Core.Path.{refl}
use Rattle.std.proofs.lemmas.Result.{err_from_is_err_and}
use mir.Syntax.{w32}
use mir.ValLaws.{to_z-of_z}
use Rattle.inner_add.proofs.Answers.{base}
use Rattle.desk.proofs.Entering.{entered, right_entered}
use Rattle.meaning.specs.Tables.{Tables}
use Rattle.meaning.specs.Rules.{rule}
use Rattle.meaning.specs.Calls.{with_lists, trial_meaning}
use Rattle.lent.specs.Lent.{tables}
use Rattle.gaps.proofs.Lifting.{lift_leaving}
use Rattle.desk.proofs.trial.Goals as goal

pub trial-requires-clause-base : goal.trial-requires-clause-base
trial-requires-clause-base c = base _ _ _ _ _ _ _ _ _ (entered c.in_ok-verdict.ensures) _ _ (c.in_ok-verdict.ensures.chained refl)

pub returns-clause-tries : goal.returns-clause-tries
returns-clause-tries c =
    let lent_at : Tables = tables c.args.counts c.args.tables.rules.xs.now c.args.tables.rules.ys.now c.args.tables.rules.cs.now c.args.tables.days.now c.args.tables.levels.now
    c.args.tables.watched.xs.now c.args.tables.watched.ys.now c.args.tables.watched.cs.now in
    let lent = with_lists lent_at c.args.one.now c.args.two.now in
    lift_leaving (trial_meaning (rule c.args.x c.args.y c.args.c) lent) lent_at c.args.gaps.now (right_entered c.in_ok-verdict.ensures) lent _ _
    ((rw (to_z-of_z w32 c.args.c c.ranges.c) at c.in_ok-moved.ensures) c.args.tables.watched.xs.now c.args.tables.watched.ys.now c.args.tables.watched.cs.now (entered c.in_ok-verdict.ensures))

pub returns-in_err-moved-clause-tries : goal.returns-in_err-moved-clause-tries
returns-in_err-moved-clause-tries c =
    let lent_at : Tables = tables c.args.counts c.args.tables.rules.xs.now c.args.tables.rules.ys.now c.args.tables.rules.cs.now c.args.tables.days.now c.args.tables.levels.now
    c.args.tables.watched.xs.now c.args.tables.watched.ys.now c.args.tables.watched.cs.now in
    let lent = with_lists lent_at c.args.one.now c.args.two.now in
    let p = err_from_is_err_and c.from_residual-in_err-moved.result c.from_residual-in_err-moved.ensures.1 in
    rw (p.1, p.2)
    (lift_leaving (trial_meaning (rule c.args.x c.args.y c.args.c) lent) lent_at c.args.gaps.now (right_entered c.in_ok-verdict.ensures) lent _ _
    ((rw (to_z-of_z w32 c.args.c c.ranges.c) at c.in_err-moved.ensures) c.args.tables.watched.xs.now c.args.tables.watched.ys.now c.args.tables.watched.cs.now (entered c.in_ok-verdict.ensures)))
