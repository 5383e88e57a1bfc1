-- `inner_add::why`: a rule that does not fit is refuted, so `shortest::reason` finds the reason, which is no longer than there are steps.
use mir.Syntax.{w32}
use mir.ValLaws.{to_z-of_z}
use Rattle.chains.specs.Chains.{number, linked}
use Rattle.inner_add.proofs.Answers.{refuted, ring_short}
use native.Mathlib.Omega.{arith}
use Rattle.inner_add.proofs.why.Goals as goal

pub reason-k-requires : goal.reason-k-requires
reason-k-requires c = let args = c.args in
    rw (to_z-of_z w32 args.c c.ranges.c) (record {
      refuted = refuted args.n args.m args.rules.xs.now args.rules.ys.now args.rules.cs.now args.days.now args.heads.now args.nexts.now args.x args.y args.c c.requires.holdable c.requires.fact c.requires.in_bounds
          args.list.now c.requires.in_bounds_2;
      chains_of = c.requires.holdable.base.ground.chained;
    })

pub overflow_cast-result : goal.overflow_cast-result
overflow_cast-result c = let args = c.args in
    omega (
      arith,
      ring_short args.n (linked args.nexts.now) number args.m args.rules.xs.now args.rules.ys.now args.rules.cs.now args.days.now args.heads.now args.nexts.now args.x args.y args.c c.requires.holdable _ _ _
          (rw (to_z-of_z w32 args.c c.ranges.c) at c.reason-k.ensures),
    )
