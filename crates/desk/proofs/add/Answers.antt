-- `desk::add`: `inner_add::add` on tables that are known to be sound, and then the gap table is brought up to date with the rule.
use mathlib.Core.Path.{refl}
use mir.Syntax.{w32}
use mir.ValLaws.{to_z-of_z}
use Rattle.std.proofs.lemmas.Result.{err_from_is_err_and}
use Rattle.inner_add.proofs.Answers.{base, counted}
use Rattle.desk.proofs.Entering.{entered, right_entered, refused_with, valued}
use Rattle.meaning.specs.Tables.{Tables}
use Rattle.meaning.specs.Rules.{rule}
use Rattle.meaning.specs.Calls.{with_list, add_meaning}
use Rattle.meaning.proofs.Needs.{not_done}
use Rattle.lent.specs.Lent.{tables}
use Rattle.gaps.proofs.Lifting.{lift_remaking}
use Rattle.desk.proofs.Gapping.{add_raisable, add_remade}
use Rattle.desk.proofs.add.Goals as goal

pub add-requires-clause-base : goal.add-requires-clause-base
add-requires-clause-base c = base _ _ _ _ _ _ _ _ _ (entered (rw (c.of-tables.ensures c.args.counts) at c.in_ok-verdict.ensures)) _ _ ((rw (c.of-tables.ensures c.args.counts) at c.in_ok-verdict.ensures).chained refl)

pub returns-in_err-added : goal.returns-in_err-added
returns-in_err-added c =
    let lent_at : Tables = tables c.args.counts c.args.xs.now c.args.ys.now c.args.cs.now c.args.days.now c.args.levels.now
    c.args.watched.xs.now c.args.watched.ys.now c.args.watched.cs.now in
    let lent = with_list lent_at c.args.list.now in
    let p = err_from_is_err_and c.from_residual-in_err-added.result c.from_residual-in_err-added.ensures.1 in
    let made = (rw (to_z-of_z w32 c.args.c c.ranges.c) at c.in_err-added.ensures) c.args.watched.xs.now c.args.watched.ys.now c.args.watched.cs.now (entered (rw (c.of-tables.ensures c.args.counts) at c.in_ok-verdict.ensures)) in
    rw (p.1, p.2)
    (lift_remaking (add_meaning (rule c.args.x c.args.y c.args.c) lent) lent_at c.args.gaps.now (right_entered (rw (c.of-tables.ensures c.args.counts) at c.in_ok-verdict.ensures)) lent _ _ (λ w. w.tables) _ made
    (λ done. absurd (not_done _ done)) (λ no. refl))

pub raise-requires-clause-x_lt_n : goal.raise-requires-clause-x_lt_n
raise-requires-clause-x_lt_n c =
    let lent_at : Tables = tables c.args.counts c.args.xs.now c.args.ys.now c.args.cs.now c.args.days.now c.args.levels.now
    c.args.watched.xs.now c.args.watched.ys.now c.args.watched.cs.now in
    let made = (rw (to_z-of_z w32 c.args.c c.ranges.c) at c.in_ok-added.ensures) c.args.watched.xs.now c.args.watched.ys.now c.args.watched.cs.now (entered (rw (c.of-tables.ensures c.args.counts) at c.in_ok-verdict.ensures)) in
    (add_raisable (rule c.args.x c.args.y c.args.c) lent_at _ c.args.list.now _ _ c.args.gaps.now c.args.gaps.now made (right_entered (rw (c.of-tables.ensures c.args.counts) at c.in_ok-verdict.ensures)) refl).first_in

pub raise-requires-clause-y_lt_n : goal.raise-requires-clause-y_lt_n
raise-requires-clause-y_lt_n c =
    let lent_at : Tables = tables c.args.counts c.args.xs.now c.args.ys.now c.args.cs.now c.args.days.now c.args.levels.now
    c.args.watched.xs.now c.args.watched.ys.now c.args.watched.cs.now in
    let made = (rw (to_z-of_z w32 c.args.c c.ranges.c) at c.in_ok-added.ensures) c.args.watched.xs.now c.args.watched.ys.now c.args.watched.cs.now (entered (rw (c.of-tables.ensures c.args.counts) at c.in_ok-verdict.ensures)) in
    (add_raisable (rule c.args.x c.args.y c.args.c) lent_at _ c.args.list.now _ _ c.args.gaps.now c.args.gaps.now made (right_entered (rw (c.of-tables.ensures c.args.counts) at c.in_ok-verdict.ensures)) refl).second_in

pub raise-requires-clause-in_amount : goal.raise-requires-clause-in_amount
raise-requires-clause-in_amount c =
    let lent_at : Tables = tables c.args.counts c.args.xs.now c.args.ys.now c.args.cs.now c.args.days.now c.args.levels.now
    c.args.watched.xs.now c.args.watched.ys.now c.args.watched.cs.now in
    let made = (rw (to_z-of_z w32 c.args.c c.ranges.c) at c.in_ok-added.ensures) c.args.watched.xs.now c.args.watched.ys.now c.args.watched.cs.now (entered (rw (c.of-tables.ensures c.args.counts) at c.in_ok-verdict.ensures)) in
    rw (to_z-of_z w32 c.args.c c.ranges.c) (add_raisable (rule c.args.x c.args.y c.args.c) lent_at _ c.args.list.now _ _ c.args.gaps.now c.args.gaps.now made (right_entered (rw (c.of-tables.ensures c.args.counts) at c.in_ok-verdict.ensures)) refl).amount_in

pub raise-requires-clause-by_index : goal.raise-requires-clause-by_index
raise-requires-clause-by_index c =
    let lent_at : Tables = tables c.args.counts c.args.xs.now c.args.ys.now c.args.cs.now c.args.days.now c.args.levels.now
    c.args.watched.xs.now c.args.watched.ys.now c.args.watched.cs.now in
    let made = (rw (to_z-of_z w32 c.args.c c.ranges.c) at c.in_ok-added.ensures) c.args.watched.xs.now c.args.watched.ys.now c.args.watched.cs.now (entered (rw (c.of-tables.ensures c.args.counts) at c.in_ok-verdict.ensures)) in
    (add_raisable (rule c.args.x c.args.y c.args.c) lent_at _ c.args.list.now _ _ c.args.gaps.now c.args.gaps.now made (right_entered (rw (c.of-tables.ensures c.args.counts) at c.in_ok-verdict.ensures)) refl).near

pub returns : goal.returns
returns c =
    let lent_at : Tables = tables c.args.counts c.args.xs.now c.args.ys.now c.args.cs.now c.args.days.now c.args.levels.now
    c.args.watched.xs.now c.args.watched.ys.now c.args.watched.cs.now in
    let r = rule c.args.x c.args.y c.args.c in
    let lent = with_list lent_at c.args.list.now in
    let made = (rw (to_z-of_z w32 c.args.c c.ranges.c) at c.in_ok-added.ensures) c.args.watched.xs.now c.args.watched.ys.now c.args.watched.cs.now (entered (rw (c.of-tables.ensures c.args.counts) at c.in_ok-verdict.ensures)) in
    let right = right_entered (rw (c.of-tables.ensures c.args.counts) at c.in_ok-verdict.ensures) in
    lift_remaking (add_meaning r lent) lent_at c.args.gaps.now right lent _ _ (λ w. w.tables) _ made
    (λ done. add_remade r lent_at _ c.args.list.now _ _ c.args.gaps.now _ made right done (rw (to_z-of_z w32 c.args.c c.ranges.c) at c.raise.ensures)) (λ no. absurd (no refl))

pub returns-in_err-verdict : goal.returns-in_err-verdict
returns-in_err-verdict c =
    let p = err_from_is_err_and c.from_residual.result c.from_residual.ensures.1 in
    let e = rw (c.of-tables.ensures c.args.counts) at c.in_err-verdict.ensures in
    rw (p.1, p.2) (valued _ e (refused_with _ e _ _ c.has.ensures (λ f. f)))

pub add-requires-clause-lent_chains : goal.add-requires-clause-lent_chains
add-requires-clause-lent_chains c = (rw (c.of-tables.ensures c.args.counts) at c.in_ok-verdict.ensures).chained refl

pub add-requires-clause-counted : goal.add-requires-clause-counted
add-requires-clause-counted c = counted _ _ _ _ _ _ _ _ _ (entered (rw (c.of-tables.ensures c.args.counts) at c.in_ok-verdict.ensures))
