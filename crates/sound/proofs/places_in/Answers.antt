use mathlib.Core.Path.{◌≡◌, refl, ◌∙◌}
use lib.ListN.{length}
use Rattle.sound.proofs.Settling.{passed_none, free_more, good_more, too_many, rules_tested, rules_refused}
use native.Mathlib.Omega.{arith}
use Prim.Native.Nat.{◌<◌}
use Rattle.sound.proofs.places_in.Goals as goal
use Rattle.sound.proofs.places_in.Goals.{in-Free, in-Fine}

pub loop-seen-init : goal.loop-seen-init
loop-seen-init c = (refl, refl, omega arith, omega arith, passed_none c.clear.new.heads c.args.nexts.now c.clear.ensures)

pub loop-seen-preserved : goal.loop-seen-preserved
loop-seen-preserved c = let loop = c.loop-seen in
    let place : loop.i < length loop.nexts = omega (arith, c.if-i-ge-RULES.false, loop.invariant.1, c.requires.testable.nexts_room) in
    let heads_same : length c.settle.new.heads ≡ length c.clear.new.heads = c.settle.auto.heads ∙ loop.invariant.0 in
    let nexts_same : length c.settle.new.nexts ≡ length c.args.nexts.now = c.settle.auto.nexts ∙ loop.invariant.1 in
    elim c.match-settle.branch [
      | in-Free w ↦ rw w.seen-is (
        heads_same,
        nexts_same,
        omega (arith, c.if-i-ge-RULES.false),
        omega (arith, c.loop-seen-test.true),
        free_more loop.i loop.seen loop.heads loop.nexts _ _ place loop.invariant.4 w.in-Free.ensures,
      )
      | in-Fine w ↦ rw w.seen-is (
        heads_same,
        nexts_same,
        omega (arith, c.if-i-ge-RULES.false),
        omega (arith, c.loop-seen-test.true),
        good_more loop.i loop.seen loop.heads loop.nexts _ _ place loop.invariant.4 w.in-Fine.ensures,
      )
    ]

pub returns-then-not-free_from : goal.returns-then-not-free_from
returns-then-not-free_from c = let loop = c.loop-seen in
    rules_refused loop.heads loop.nexts
    (too_many loop.i (omega (arith, loop.invariant.4.counted, loop.invariant.3, c.loop-seen-test.false)) (c.free_from.ensures.not_so c.if-not-free_from.true))

pub returns : goal.returns
returns c = let loop = c.loop-seen in
    rules_tested loop.i loop.seen loop.heads loop.nexts loop.invariant.4
    loop.invariant.2 (omega (arith, loop.invariant.3, c.loop-seen-test.false)) (c.free_from.ensures.so c.if-not-free_from.false) c.off_from.new.nexts
    (omega (arith, loop.invariant.0, c.clear.auto.heads, c.requires.counts_in.steps_in, c.requires.testable.heads_room)) (omega (arith, loop.invariant.1, c.requires.testable.nexts_room)) c.off_from.auto.nexts c.off_from.ensures
