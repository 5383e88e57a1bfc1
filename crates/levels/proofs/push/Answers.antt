use native.Mathlib.Omega.{arith}
use Rattle.levels.proofs.Pushing.{keeps_days}
use Rattle.levels.proofs.push.Goals as goal

pub returns-clause-keeps_days : goal.returns-clause-keeps_days
returns-clause-keeps_days c =
    rw c.marks_now.ensures
    (keeps_days c.args.n {c = c.args.counts} (omega (arith, c.loop-k.auto.k, c.loop-k.auto.k-end, c.loop-k-test.false)) (omega (arith, c.requires.in_bounds, c.requires.steps_bound)) c.loop-k.invariant)
