-- `desk::gap`: a pair that is refused, and one that has a limit, which the cell of a right gap table says.
use mir.Syntax.{w64}
use mir.ValLaws.{to_z-of_z}
use mathlib.Core.Path.{refl, sym, subst}
use Rattle.meaning.specs.Tables.{Tables}
use Rattle.meaning.specs.Calls.{rules_of, held_in}
use Rattle.lent.specs.Lent.{tables}
use Rattle.gaps.specs.Gaps.{Says}
use Rattle.gaps.specs.Promises.{kind_of, size_of}
use Rattle.yard.proofs.Machine.{not_no_limit}
use Rattle.desk.proofs.Gapping.{pair_met, told_limit}
use mathlib.Core.Logic.{inr}
use native.Mathlib.Omega.{arith}
use Rattle.std.proofs.lemmas.Result.{err_from_is_err_and}
use Rattle.meaning.specs.Bounds.{CONFLICT}
use Rattle.meaning.proofs.Needs.{obeys_done, obeys_refusal, not_given}
use Rattle.desk.specs.Yard.{pair_needs}
use Rattle.desk.proofs.Entering.{entered, right_entered}
use Rattle.desk.proofs.gap.Goals as goal

pub returns-in_err-pair_verdict : goal.returns-in_err-pair_verdict
returns-in_err-pair_verdict c = let border = entered c.in_ok-verdict.ensures in
    let f = c.in_err-pair_verdict.ensures in
    let p = err_from_is_err_and c.from_residual-in_err-pair_verdict.result c.from_residual-in_err-pair_verdict.ensures.1 in
    rw (p.1, p.2)
    (record {
      obeys = obeys_refusal _ _ _ (not_given CONFLICT _ (pair_needs c.args.counts.steps c.args.x c.args.y) tt (λ e. omega arith) f)
          (inr (border.room, inr (border.sound, inr (right_entered c.in_ok-verdict.ensures, f))));
      flag = omega arith;
    })

pub returns : goal.returns
returns c =
    let lent_at : Tables = tables c.args.counts c.args.tables.rules.xs.now c.args.tables.rules.ys.now c.args.tables.rules.cs.now c.args.tables.days.now c.args.tables.levels.now
    c.args.tables.watched.xs.now c.args.tables.watched.ys.now c.args.tables.watched.cs.now in
    let at-cell = c.cell_at-limit in
    let there = pair_met _ _ _ c.in_ok-pair_verdict.ensures in
    let border = entered c.in_ok-verdict.ensures in
    let right = right_entered c.in_ok-verdict.ensures in
    let says = subst (Says (rules_of lent_at) (held_in lent_at) c.args.x c.args.y) (sym at-cell.ensures) (right c.args.x c.args.y there) in
    rw (to_z-of_z w64 at-cell.result (record { sfits = at-cell.type_inv }))
    (record {
      obeys = obeys_done _ _ (kind_of at-cell.result) (size_of at-cell.result) _ (border.room, (border.sound, (right, (there.one_yard, ((there.row_in, there.column_in), tt)))))
          (told_limit c.args.x c.args.y lent_at at-cell.result (not_no_limit at-cell.result c.if-limit-eq-NO_LIMIT.false) says, refl);
      flag = omega arith;
    })
