use Rattle.chains.specs.Chains.{linked}
use Rattle.spread.proofs.Ringing.{Hop, hop, back_none, back_more, back_few, back_done}
use native.Mathlib.Omega.{arith}
use Rattle.spread.proofs.hops.Goals as goal

pub loop-v-init : goal.loop-v-init
loop-v-init c = let a = c.args in
    back_none a.n (linked a.held.nexts.now) a.m a.held.rules.xs.now a.held.rules.ys.now a.held.rules.cs.now a.held.days.now a.gains.now a.by.now a.x a.y c.requires

pub number_at-requires : goal.number_at-requires
number_at-requires c = omega (arith, c.loop-v.invariant.step_in, c.requires.by_room)

pub overflow_sub-number_at : goal.overflow_sub-number_at
overflow_sub-number_at c =
    let here : let a = c.args in
    Hop a.n (linked a.held.nexts.now) a.m a.held.rules.xs.now a.held.rules.ys.now a.held.rules.cs.now a.held.days.now a.gains.now a.by.now a.x a.y c.requires c.loop-v.v = let a = c.args in
    hop a.n (linked a.held.nexts.now) a.m a.held.rules.xs.now a.held.rules.ys.now a.held.rules.cs.now a.held.days.now a.gains.now a.by.now a.x a.y c.requires c.loop-v.v c.loop-v.invariant.step_in c.loop-v.invariant.has
    c.loop-v-test.true in
    omega (arith, c.number_at.ensures, (here).named)

pub number_at-v-requires : goal.number_at-v-requires
number_at-v-requires c =
    let here : let a = c.args in
    Hop a.n (linked a.held.nexts.now) a.m a.held.rules.xs.now a.held.rules.ys.now a.held.rules.cs.now a.held.days.now a.gains.now a.by.now a.x a.y c.requires c.loop-v.v = let a = c.args in
    hop a.n (linked a.held.nexts.now) a.m a.held.rules.xs.now a.held.rules.ys.now a.held.rules.cs.now a.held.days.now a.gains.now a.by.now a.x a.y c.requires c.loop-v.v c.loop-v.invariant.step_in c.loop-v.invariant.has
    c.loop-v-test.true in
    omega (arith, c.number_at.ensures, c.requires.first_place _ (here).came.held)

pub overflow_add-k : goal.overflow_add-k
overflow_add-k c = let a = c.args in
    omega (
      arith,
      back_few a.n (linked a.held.nexts.now) a.m a.held.rules.xs.now a.held.rules.ys.now a.held.rules.cs.now a.held.days.now a.gains.now a.by.now a.x a.y c.requires c.loop-v.v c.loop-v.k c.loop-v.invariant,
      c.ranges.n.fits,
    )

pub loop-v-smaller : goal.loop-v-smaller
loop-v-smaller c = let a = c.args in
    omega (
      arith,
      back_few a.n (linked a.held.nexts.now) a.m a.held.rules.xs.now a.held.rules.ys.now a.held.rules.cs.now a.held.days.now a.gains.now a.by.now a.x a.y c.requires c.loop-v.v c.loop-v.k c.loop-v.invariant,
    )

pub loop-v-preserved : goal.loop-v-preserved
loop-v-preserved c = let a = c.args in
    rw (c.number_at-v.ensures, c.number_at.ensures)
    (back_more a.n (linked a.held.nexts.now) a.m a.held.rules.xs.now a.held.rules.ys.now a.held.rules.cs.now a.held.days.now a.gains.now a.by.now a.x a.y c.requires c.loop-v.v c.loop-v.k c.loop-v.invariant c.loop-v-test.true)

pub returns : goal.returns
returns c = let a = c.args in
    back_done a.n (linked a.held.nexts.now) a.m a.held.rules.xs.now a.held.rules.ys.now a.held.rules.cs.now a.held.days.now a.gains.now a.by.now a.x a.y c.requires c.loop-v.v c.loop-v.k c.loop-v.invariant c.loop-v-test.false
