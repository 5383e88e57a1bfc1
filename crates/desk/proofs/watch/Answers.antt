-- `desk::watch`: `inner_watch::watch` on tables that are known to be sound.
use mathlib.Core.Path.{refl}
use mir.Syntax.{w32}
use mir.ValLaws.{to_z-of_z}
use Rattle.std.proofs.lemmas.Result.{err_from_is_err_and}
use Rattle.meaning.specs.Tables.{Tables}
use Rattle.meaning.specs.Rules.{rule}
use Rattle.meaning.specs.Calls.{watch_meaning}
use Rattle.lent.specs.Lent.{tables}
use Rattle.gaps.proofs.Lifting.{lift_leaving}
use Rattle.desk.proofs.Entering.{entered, right_entered, refused_alone}
use Rattle.desk.proofs.watch.Goals as goal

pub returns-in_err-verdict : goal.returns-in_err-verdict
returns-in_err-verdict c =
    let p = err_from_is_err_and c.from_residual.result c.from_residual.ensures.1 in
    rw (p.1, p.2) (refused_alone _ (rw (c.of-tables.ensures c.args.counts) at c.in_err-verdict.ensures) _ _ refl (λ f. f))

pub watch-requires : goal.watch-requires
watch-requires c = entered (rw (c.of-tables.ensures c.args.counts) at c.in_ok-verdict.ensures)

pub returns : goal.returns
returns c =
    let a = c.args in
    let lent_at : Tables = tables a.counts a.rules.xs.now a.rules.ys.now a.rules.cs.now a.days.now a.levels.now a.wxs.now a.wys.now a.wcs.now in
    lift_leaving (watch_meaning (rule a.x a.y a.c) lent_at) lent_at a.gaps.now (right_entered (rw (c.of-tables.ensures a.counts) at c.in_ok-verdict.ensures)) lent_at _ _
    (rw (to_z-of_z w32 a.c c.ranges.c) at c.watch.ensures)
