-- `desk::back`: what a Back that is refused leaves, and that one carried out leaves sound tables, from which the gap table can be made.
use mathlib.Core.Path.{refl}
use Rattle.std.proofs.lemmas.Result.{err_from_is_err_and}
use Rattle.desk.proofs.Entering.{entered, right_entered, refused_alone}
use Rattle.meaning.specs.Tables.{Tables}
use Rattle.meaning.specs.Calls.{back_meaning}
use Rattle.meaning.specs.Runs.{Call}
use Rattle.meaning.proofs.Needs.{not_done}
use Rattle.lent.specs.Lent.{tables}
use Rattle.lent.proofs.Watching.{idle_border}
use Rattle.gaps.proofs.Lifting.{lift_remaking}
use Rattle.desk.proofs.Gapping.{still_border, remade_watching}
use Rattle.desk.proofs.back.Goals as goal

pub returns-in_err-left : goal.returns-in_err-left
returns-in_err-left c =
    let lent_at : Tables = tables c.args.counts c.args.rules.xs.now c.args.rules.ys.now c.args.rules.cs.now c.args.days.now c.args.levels.now
    c.args.watched.xs.now c.args.watched.ys.now c.args.watched.cs.now in
    let p = err_from_is_err_and c.from_residual-in_err-left.result c.from_residual-in_err-left.ensures.1 in
    rw (p.1, p.2)
    (lift_remaking (back_meaning lent_at) lent_at c.args.gaps.now (right_entered (rw (c.of-tables.ensures c.args.counts) at c.in_ok-verdict.ensures)) lent_at _ _ (λ t. t) _ c.in_err-left.ensures
    (λ done. absurd (not_done _ done)) (λ no. refl))

pub remake-requires : goal.remake-requires
remake-requires c =
    let lent_at : Tables = tables c.args.counts c.args.rules.xs.now c.args.rules.ys.now c.args.rules.cs.now c.args.days.now c.args.levels.now
    c.args.watched.xs.now c.args.watched.ys.now c.args.watched.cs.now in
    idle_border (still_border Call.goes_back lent_at _ _ c.in_ok-left.ensures (entered (rw (c.of-tables.ensures c.args.counts) at c.in_ok-verdict.ensures)))

pub returns-in_err-verdict : goal.returns-in_err-verdict
returns-in_err-verdict c =
    let p = err_from_is_err_and c.from_residual.result c.from_residual.ensures.1 in
    rw (p.1, p.2) (refused_alone _ (rw (c.of-tables.ensures c.args.counts) at c.in_err-verdict.ensures) _ _ refl (λ f. f))

pub back-requires-clause-border : goal.back-requires-clause-border
back-requires-clause-border c = entered (rw (c.of-tables.ensures c.args.counts) at c.in_ok-verdict.ensures)

pub back-requires-clause-lent_chains : goal.back-requires-clause-lent_chains
back-requires-clause-lent_chains c = (rw (c.of-tables.ensures c.args.counts) at c.in_ok-verdict.ensures).chained refl

pub returns : goal.returns
returns c =
    let a = c.args in
    let lent_at : Tables = tables a.counts a.rules.xs.now a.rules.ys.now a.rules.cs.now a.days.now a.levels.now a.watched.xs.now a.watched.ys.now a.watched.cs.now in
    lift_remaking (back_meaning lent_at) lent_at a.gaps.now (right_entered (rw (c.of-tables.ensures c.args.counts) at c.in_ok-verdict.ensures)) lent_at _ _ (λ t. t) _ c.in_ok-left.ensures
    (λ done. remade_watching _ _ _ _ _ _ _ _ _ _ _ c.remake.ensures) (λ no. absurd (no refl))
