use Rattle.std.proofs.Common.{◌<◌, arith}
use Rattle.shortest.proofs.Search.fewest.Goals as goal

pub loop-h-smaller : goal.loop-h-smaller
loop-h-smaller c = let (k, few, way) = c.requires.some in
    omega (arith, few, c.in_default.ensures k way, c.loop-h.invariant.2)

pub loop-h-preserved : goal.loop-h-preserved
loop-h-preserved c = let (k, few, way) = c.requires.some in
    let steps-in = c.args.self.chained.kept.steps_in in
    let less : c.loop-h.g < k = c.in_default.ensures k way in
    let loop = c.loop-h in (
      omega (arith, c.within.auto.layer, loop.invariant.0),
      omega (arith, c.within.auto.room, loop.invariant.1),
      omega (arith, loop.invariant.2),
      omega (arith, loop.invariant.3),
      omega (arith, less, few, steps-in, loop.invariant.3),
    )
