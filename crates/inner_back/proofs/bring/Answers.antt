use Prim.Native.Nat.{◌<◌}
use mathlib.Core.Path.{sym}
use mathlib.Core.Logic.{inl, inr}
use lib.ListN.{length}
use Rattle.meaning.specs.Tables.{at}
use Rattle.meaning.proofs.LastDay.{largest_zeros, largest_set}
use Rattle.inner_back.proofs.Passing.{brought_none, brought_more}
use native.Mathlib.Omega.{arith}
use Rattle.inner_back.proofs.bring.Goals as goal
use Rattle.inner_back.proofs.bring.Goals.{else-latest-day, then-latest-day}

pub loop-v-init : goal.loop-v-init
loop-v-init c = (omega arith, brought_none c.args.k c.args.gains.now c.args.days.now, sym (largest_zeros 0 (at c.args.days.now) (λ v below. absurd (omega arith))))

pub loop-v-preserved : goal.loop-v-preserved
loop-v-preserved c = let v-in = c.loop-v-test.true in
    let loop = c.loop-v in
    let passed = loop.invariant.1 in
    let inside : loop.v < length loop.days = omega (arith, v-in, passed.past.same_length, c.requires.days_room) in (
      omega (arith, v-in),
      brought_more passed inside _ (omega (arith, c.day_at.ensures)),
      largest_set loop.v loop.days _ inside loop.invariant.2
          (elim c.if-latest-day.branch [ then-latest-day w ↦ inl (omega (arith, w.if-latest-day.true), w.latest-is) | else-latest-day w ↦ inr (omega (arith, w.if-latest-day.false), w.latest-is) ]),
    )
