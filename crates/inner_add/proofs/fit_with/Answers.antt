-- `inner_add::fit_with`: the plan of the rule raises the days and the rule is written; or the gain has reached x, and nothing is.
use Rattle.chains.specs.Chains.{number, linked}
use mathlib.Core.Path.{refl}
use mir.Syntax.{w32}
use mir.ValLaws.{to_z-of_z}
use Rattle.inner_add.specs.Planning.{RulePlanned}
use Rattle.inner_add.proofs.Answers.{raisable, taken}
use native.Mathlib.Omega.{arith}
use Rattle.inner_add.proofs.fit_with.Goals as goal

pub returns-then-not-plan : goal.returns-then-not-plan
returns-then-not-plan c = let plan = c.plan in
    let if1 = c.if-not-plan in
    let args = c.args in
    let p : RulePlanned args.n (linked args.nexts.now) args.m args.xs.now args.ys.now args.cs.now args.days.now _ _ args.x args.y args.c plan.result
    = rw (to_z-of_z w32 args.c c.ranges.c) at plan.ensures in
    let not = if1.true in
    record {
      tells = record { unfit = p.unfit not; rules_stay = refl; days_stay = refl };
      reached = λ e. p.reached not;
      lacks = λ e. p.lacks not;
    }

pub raise_days-risen-requires : goal.raise_days-risen-requires
raise_days-risen-requires c = let if1 = c.if-not-plan in
    let plan = c.plan in
    let args = c.args in
    let p : RulePlanned args.n (linked args.nexts.now) args.m args.xs.now args.ys.now args.cs.now args.days.now _ _ args.x args.y args.c plan.result
    = rw (to_z-of_z w32 args.c c.ranges.c) at plan.ensures in
    raisable args.n (linked args.nexts.now) number args.m args.xs.now args.ys.now args.cs.now args.days.now args.heads.now args.nexts.now args.x args.y args.c c.requires.holdable
    _ (p.earliest if1.false) args.days.now (omega (arith, plan.auto.gains, c.requires.no_gains.gains_room)) c.requires.holdable.base.ground.days_room

pub returns : goal.returns
returns c = let write-rule = c.write_rule in
    let raise-days = c.raise_days-risen in
    let if1 = c.if-not-plan in
    let plan = c.plan in
    let args = c.args in
    let p : RulePlanned args.n (linked args.nexts.now) args.m args.xs.now args.ys.now args.cs.now args.days.now _ _ args.x args.y args.c plan.result
    = rw (to_z-of_z w32 args.c c.ranges.c) at plan.ensures in
    record {
      tells =
          taken args.n (linked args.nexts.now) number args.m args.xs.now args.ys.now args.cs.now args.days.now args.heads.now args.nexts.now args.x args.y args.c c.requires.holdable
          _ (p.earliest if1.false) args.last _ _ _ _ raise-days.ensures.raised raise-days.ensures.last_value (rw (to_z-of_z w32 args.c c.ranges.c) at write-rule.ensures);
      reached = λ e. cc;
      lacks = λ e. cc;
    }
