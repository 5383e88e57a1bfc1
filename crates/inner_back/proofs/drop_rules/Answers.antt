use mathlib.Core.Path.{◌∙◌}
use Rattle.inner_back.proofs.Unlinking.{one_fewer}
use native.Mathlib.Omega.{arith}
use Rattle.inner_back.proofs.drop_rules.Goals as goal

pub loop-i-preserved : goal.loop-i-preserved
loop-i-preserved c = let loop = c.loop-i in
    let drop-last = c.drop_last in (
      omega (arith, c.loop-i-test.true),
      omega (arith, loop.invariant.1),
      one_fewer (omega (arith, c.loop-i-test.true)) loop.invariant.2 (c.requires.by_index _ (omega (arith, loop.invariant.1, c.loop-i-test.true))) drop-last.ensures,
      drop-last.auto.heads ∙ loop.invariant.3,
      drop-last.auto.nexts ∙ loop.invariant.4,
    )
