-- `desk::ring_check`: a rule that is refused, and that the number handed on is free.
use mathlib.Core.List.{[]}
use mathlib.Core.Logic.{inr}
use mir.Syntax.{w32}
use mir.ValLaws.{to_z-of_z}
use Rattle.std.proofs.lemmas.Result.{err_from_is_err_and}
use Rattle.meaning.specs.Rules.{rule}
use Rattle.meaning.specs.Tables.{Tables, held}
use Rattle.meaning.proofs.Places.{next_free}
use mathlib.Core.Path.{subst}
use Rattle.meaning.proofs.Needs.{obeys_refusal}
use Rattle.lent.specs.Lent.{tables}
use Rattle.inner_watch.proofs.Verdict.{rule_refused, rule_no_conflict}
use Rattle.desk.proofs.Entering.{entered, right_entered}
use Rattle.desk.proofs.ring_check.Goals as goal

pub returns-in_err-rule_verdict : goal.returns-in_err-rule_verdict
returns-in_err-rule_verdict c = let border = entered c.in_ok-verdict.ensures in
    let n = c.args.counts.steps in
    let r = rule c.args.x c.args.y c.args.c in
    let f = rw (to_z-of_z w32 c.args.c c.ranges.c) at c.in_err-rule_verdict.ensures in
    let p = err_from_is_err_and c.from_residual-in_err-rule_verdict.result c.from_residual-in_err-rule_verdict.ensures.1 in
    rw (p.1, p.2)
    (obeys_refusal _ _ _ (rule_no_conflict n r _ f) (inr (border.room, inr (border.sound, inr (right_entered c.in_ok-verdict.ensures, rule_refused n r _ f [])))))

pub is_ring-ring-requires-clause-fact : goal.is_ring-ring-requires-clause-fact
is_ring-ring-requires-clause-fact c =
    let lent_at : Tables = tables c.args.counts c.args.tables.rules.xs.now c.args.tables.rules.ys.now c.args.tables.rules.cs.now c.args.tables.days.now c.args.tables.levels.now
    c.args.tables.watched.xs.now c.args.tables.watched.ys.now c.args.tables.watched.cs.now in
    λ h. next_free lent_at (subst (held lent_at) c.next_free-next.ensures h)
