use Prim.Native.Nat.{◌-◌}
use native.Mathlib.Omega.{arith}
use mathlib.Core.Path.{sym, subst}
use Rattle.meaning.specs.Rules.{Grounded}
use Rattle.meaning.specs.Tables.{at}
use Rattle.sound.specs.Ground.{rule_of, on}
use Rattle.sound.proofs.Entering.{enterable, entering}
use Rattle.sound.proofs.Grounding.{Turned, dated, turned_tight, turned_loose, walking_start, walking_on, rule_on, rule_own}
use Rattle.sound.proofs.Queue.follow.Goals as goal
use Rattle.sound.proofs.Queue.follow.Goals.{else-slack-eq0, then-slack-eq0}

pub loop-link-init : goal.loop-link-init
loop-link-init c = rw c.number_at-link.ensures (walking_start c.args.n c.args.held c.requires.groundable c.args.a c.requires.a_lt_n.0 c.args.self.now c.requires.underway)

pub kept-requires : goal.kept-requires
kept-requires c = dated c.args.n c.args.held c.requires.groundable (c.loop-link.link - 1) (rule_on c.loop-link-test.true c.loop-link.invariant)

pub enter-requires : goal.enter-requires
enter-requires c = let i = c.loop-link.link - 1 in
    rw c.number_at.ensures
    (enterable c.args.n (at c.args.held.rules.ys.now i) c.loop-link.self (c.requires.groundable.rules_in i (rule_on c.loop-link-test.true c.loop-link.invariant)).second_in
    c.requires.groundable.steps_few c.loop-link.invariant.underway.worklist)

pub loop-link-preserved : goal.loop-link-preserved
loop-link-preserved c = let args = c.args in
    let i = c.loop-link.link - 1 in
    let q = c.loop-link.self in
    let walk = c.loop-link.invariant in
    let held : on args.held i = rule_on c.loop-link-test.true walk in
    let grounded : Grounded (rule_of args.held) (on args.held) (at args.held.days.now) (at args.held.rules.xs.now i) =
    subst (Grounded (rule_of args.held) (on args.held) (at args.held.days.now)) (sym (rule_own c.loop-link-test.true walk))
    (walk.underway.grounded args.a c.requires.a_lt_n.0 (omega (arith, walk.grown args.a c.requires.a_lt_n.0 c.requires.a_lt_n.1, c.requires.a_lt_n.1))) in
    let turned : Turned args.n args.held i q.places c.if-slack-eq0.self =
    elim c.if-slack-eq0.branch [
      | then-slack-eq0 w ↦ rw w.self-is
          (turned_tight args.n args.held i c.slack.result q w.enter.new.self held c.slack.ensures w.if-slack-eq0.true (c.kept.ensures.so c.if-not-kept.false) grounded walk.underway
          (entering args.n (at args.held.rules.ys.now i) q (c.requires.groundable.rules_in i held).second_in c.requires.groundable.steps_few walk.underway.worklist w.enter.new.self (rw w.number_at.ensures at w.enter.ensures)))
      | else-slack-eq0 w ↦ rw w.self-is (turned_loose args.n args.held i c.slack.result q c.slack.ensures w.if-slack-eq0.false (c.kept.ensures.so c.if-not-kept.false) walk.underway)
    ] in
    rw c.number_at-link-in-loop-link.ensures
    (walking_on args.n args.held c.requires.groundable args.a c.requires.a_lt_n.0 args.self.now.places c.loop-link.link q c.if-slack-eq0.self c.loop-link-test.true turned walk)
