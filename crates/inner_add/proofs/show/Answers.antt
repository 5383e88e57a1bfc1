-- `inner_add::show`: the plan of the rule is written as days; or the gain has reached x, and nothing is.
use Prim.Native.Nat.{ℕ}
use lib.ListN.{length-replicate}
use mir.Syntax.{w32}
use mir.ValLaws.{to_z-of_z}
use Rattle.meaning.specs.Bounds.{STEPS}
use Rattle.chains.specs.Chains.{number, linked}
use Rattle.inner_add.specs.Planning.{RulePlanned}
use Rattle.inner_add.proofs.Answers.{no_gains, raisable, planned_list}
use native.Mathlib.Omega.{arith}
use Rattle.inner_add.proofs.show.Goals as goal

pub plan-requires : goal.plan-requires
plan-requires c = let ready = c.requires.holdable in
    rw (to_z-of_z w32 c.args.c c.ranges.c)
    (record { base = ready.base; new_in = ready.new_good.steps_in; free = ready.free; free_in = omega (arith, ready.not_full); no_gains = no_gains c.args.n _ ready.base.ground.steps_in })

pub write_days-requires : goal.write_days-requires
write_days-requires c = let args = c.args in
    let p : RulePlanned args.n (linked args.nexts.now) args.m args.rules.xs.now args.rules.ys.now args.rules.cs.now args.days.now _ _ args.x args.y args.c c.plan.result
    = rw (to_z-of_z w32 args.c c.ranges.c) at c.plan.ensures in
    raisable args.n (linked args.nexts.now) number args.m args.rules.xs.now args.rules.ys.now args.rules.cs.now args.days.now args.heads.now args.nexts.now args.x args.y args.c c.requires.holdable
    _ (p.earliest c.if-not-plan.false) _
    (omega (arith, c.plan.auto.gains, length-replicate {A = ℕ} STEPS 0, c.requires.holdable.base.ground.steps_in)) (omega (arith, c.requires.in_bounds, c.requires.holdable.base.ground.steps_in))

pub returns : goal.returns
returns c = let args = c.args in
    let p : RulePlanned args.n (linked args.nexts.now) args.m args.rules.xs.now args.rules.ys.now args.rules.cs.now args.days.now _ _ args.x args.y args.c c.plan.result
    = rw (to_z-of_z w32 args.c c.ranges.c) at c.plan.ensures in
    record {
      planned =
          planned_list args.n (linked args.nexts.now) number args.m args.rules.xs.now args.rules.ys.now args.rules.cs.now args.days.now args.heads.now args.nexts.now args.x args.y args.c c.requires.holdable
          _ (p.earliest c.if-not-plan.false) _ _ _ c.write_days.ensures;
      count_moved = c.write_days.ensures.count;
    }
