use Prim.Native.Nat.{◌+◌}
use mathlib.Core.Path.{◌≡◌}
use Rattle.meaning.specs.Tables.{rule_at}
use Rattle.meaning.proofs.Places.{taken_at_most}
use Rattle.lent.specs.Lent.{columns}
use Rattle.yard.proofs.Passing.{passing_none, group_inside, passing_all, passing_free, passing_held}
use native.Mathlib.Omega.{arith}
use Rattle.yard.proofs.least.Goals as goal
use Rattle.yard.proofs.least.Goals.{then-levels-k-ne0, else-levels-k-ne0}

pub loop-seen-init : goal.loop-seen-init
loop-seen-init c = (0, omega arith, passing_none (rule_at (columns c.args.rules.xs.now c.args.rules.ys.now c.args.rules.cs.now)) c.args.levels.now c.blank-square.ensures)

pub loop-k-init : goal.loop-k-init
loop-k-init c = let loop = c.loop-seen in
    (omega arith, group_inside loop.invariant.2 loop.invariant.0 loop.invariant.1 (omega (arith, c.loop-seen-test.true, c.requires.counted)), loop.invariant.2)

pub overflow_add-seen : goal.overflow_add-seen
overflow_add-seen c = let loop = c.loop-k in
    omega (arith, loop.invariant.2.seen_are, taken_at_most loop.k c.args.levels.now, c.loop-k-test.true, loop.invariant.1)

pub loop-k-preserved : goal.loop-k-preserved
loop-k-preserved c = let loop = c.loop-k in (
  omega (arith, c.loop-k-test.true),
  loop.invariant.1,
  elim c.if-levels-k-ne0.branch [
    | then-levels-k-ne0 w ↦
        rw (w.square-is, w.seen-is)
        (passing_held loop.invariant.2 (omega (arith, c.loop-k-test.true, loop.invariant.1)) (omega (arith, w.if-levels-k-ne0.true))
        (c.requires.steps_in loop.k (omega (arith, c.loop-k-test.true, loop.invariant.1), omega (arith, w.if-levels-k-ne0.true))) w.lower.ensures)
    | else-levels-k-ne0 w ↦ rw (w.square-is, w.seen-is) (passing_free loop.invariant.2 (omega (arith, c.loop-k-test.true, loop.invariant.1)) w.if-levels-k-ne0.false)
  ],
)

pub loop-seen-preserved : goal.loop-seen-preserved
loop-seen-preserved c = let loop = c.loop-seen in
    let all : c.loop-k.k ≡ loop.i + 4 = omega (arith, c.loop-k.invariant.0, c.loop-k-test.false) in
    (loop.invariant.0 + 1, omega (arith, loop.invariant.1), rw all at c.loop-k.invariant.2)

pub returns : goal.returns
returns c = passing_all c.loop-seen.invariant.2 (omega (arith, c.loop-seen-test.false, c.requires.counted))
