use Rattle.std.proofs.Common.{arith}
use Rattle.shortest.proofs.Passing.{fails_more, fails_group, passes_here}
use Rattle.shortest.proofs.first_from.Goals as goal

pub loop-k-preserved : goal.loop-k-preserved
loop-k-preserved g c =
    (omega arith, omega (arith, c.loop-k-test.true), fails_group (λ x passes. goal.F-post g c.args.test x passes) c.args.list.now c.args.i c.loop-k.k 16 (omega (arith, c.loop-k-test.true)) (c.fails_at_all.ensures c.if-fails_at_all.true) c.loop-k.invariant.2)

pub returns-then-test : goal.returns-then-test
returns-then-test g c =
    passes_here (λ x passes. goal.F-post g c.args.test x passes) c.args.list.now c.args.i c.loop-place.place c.index-list-place.result (omega arith) c.loop-place-test.true c.index-list-place.is c.if-test.ensures c.loop-place.invariant

pub loop-place-preserved : goal.loop-place-preserved
loop-place-preserved g c = fails_more (λ x passes. goal.F-post g c.args.test x passes) c.args.list.now c.args.i c.loop-place.place c.index-list-place.result c.index-list-place.is c.if-test.ensures c.loop-place.invariant
