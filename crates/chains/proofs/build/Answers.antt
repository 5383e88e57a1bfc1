use native.Mathlib.Omega.{arith}
use mathlib.Core.Path.{◌∙◌}
use Rattle.chains.proofs.Laws.{chained_more}
use Rattle.chains.proofs.build.Goals as goal

pub loop-k-preserved : goal.loop-k-preserved
loop-k-preserved c = (
  c.push.auto.heads ∙ c.loop-k.invariant.0,
  c.push.auto.nexts ∙ c.loop-k.invariant.1,
  omega (arith, c.loop-k-test.true),
  chained_more c.args.n c.loop-k.k c.args.xs.now (c.requires.firsts_in c.loop-k.k c.loop-k-test.true)
      c.loop-k.heads c.loop-k.nexts _ _ c.push.ensures c.loop-k.invariant.3,
)
