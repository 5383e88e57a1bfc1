use Rattle.std.proofs.Common.{◌≡◌, arith}
use Rattle.shortest.proofs.Advancing.{none_here, fewest_here}
use Rattle.shortest.proofs.Search.within.Goals as goal

pub loop-h-preserved : goal.loop-h-preserved
loop-h-preserved c = let a = c.args in
    let loop = c.loop-h in (
      omega (arith, c.raise.auto.room, loop.invariant.0),
      c.raise.ensures,
      none_here a.self a.g loop.h loop.layer (omega arith) c.if-layer-self.false loop.invariant.1 loop.invariant.2,
    )

pub returns-then-layer-self-2 : goal.returns-then-layer-self-2
returns-then-layer-self-2 c = let a = c.args in
    let loop = c.loop-h in
    let all : loop.h ≡ a.g = omega (arith, c.loop-h-test.false) in
    fewest_here a.self a.g a.g loop.layer (omega arith) c.if-layer-self-2.true (rw all at loop.invariant.1) (rw all at loop.invariant.2)

pub returns-else-layer-self-2 : goal.returns-else-layer-self-2
returns-else-layer-self-2 c = let a = c.args in
    let loop = c.loop-h in
    let all : loop.h ≡ a.g = omega (arith, c.loop-h-test.false) in
    λ k way. omega (arith, none_here a.self a.g a.g loop.layer (omega arith) c.if-layer-self-2.false (rw all at loop.invariant.1) (rw all at loop.invariant.2) k way)
