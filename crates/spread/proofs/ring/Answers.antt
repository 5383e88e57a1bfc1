use Rattle.chains.specs.Chains.{linked}
use Prim.Native.Nat.{◌-◌, ◌<◌}
use mathlib.Core.Path.{refl, ◌∙◌}
use lib.ListN.{length, set, length-set}
use Rattle.meaning.specs.Tables.{at}
use Rattle.waiting.proofs.Places.{put_set}
use Rattle.spread.proofs.Ringing.{Hop, hop, arrives_on, written_none, written_more, written_done}
use native.Mathlib.Omega.{arith}
use Rattle.spread.proofs.ring.Goals as goal

pub overflow_add-k : goal.overflow_add-k
overflow_add-k c = omega (arith, c.hops-k.ensures.few, c.ranges.n)

pub loop-v-init : goal.loop-v-init
loop-v-init c = let a = c.args in (
  refl,
  omega (arith, c.hops-k.ensures.few),
  written_none a.n (linked a.held.nexts.now) a.m a.held.rules.xs.now a.held.rules.ys.now a.held.rules.cs.now a.held.days.now a.gains.now a.by.now a.x a.y a.list.now _ c.requires.reached
      c.hops-k.result (omega arith) c.hops-k.ensures,
)

pub number_at-i-requires : goal.number_at-i-requires
number_at-i-requires c = omega (arith, c.loop-v.invariant.2.step_in, c.requires.reached.by_room)

pub overflow_sub-i : goal.overflow_sub-i
overflow_sub-i c =
    let here : let a = c.args in
    Hop a.n (linked a.held.nexts.now) a.m a.held.rules.xs.now a.held.rules.ys.now a.held.rules.cs.now a.held.days.now a.gains.now a.by.now a.x a.y c.requires.reached c.loop-v.v = let a = c.args in
    hop a.n (linked a.held.nexts.now) a.m a.held.rules.xs.now a.held.rules.ys.now a.held.rules.cs.now a.held.days.now a.gains.now a.by.now a.x a.y c.requires.reached c.loop-v.v
    c.loop-v.invariant.2.step_in c.loop-v.invariant.2.has c.loop-v-test.true in
    omega (arith, c.number_at-i.ensures, (here).named)

pub overflow_sub-j : goal.overflow_sub-j
overflow_sub-j c =
    let place_left : 1 < c.loop-v.j = let a = c.args in
    omega (arith, (arrives_on a.held.rules.xs.now a.by.now a.y (c.loop-v.j - 1) c.loop-v.v c.loop-v.invariant.2.left c.loop-v-test.true).0) in
    omega (arith, place_left)

pub overflow_cast-list : goal.overflow_cast-list
overflow_cast-list c =
    let here : let a = c.args in
    Hop a.n (linked a.held.nexts.now) a.m a.held.rules.xs.now a.held.rules.ys.now a.held.rules.cs.now a.held.days.now a.gains.now a.by.now a.x a.y c.requires.reached c.loop-v.v = let a = c.args in
    hop a.n (linked a.held.nexts.now) a.m a.held.rules.xs.now a.held.rules.ys.now a.held.rules.cs.now a.held.days.now a.gains.now a.by.now a.x a.y c.requires.reached c.loop-v.v
    c.loop-v.invariant.2.step_in c.loop-v.invariant.2.has c.loop-v-test.true in
    omega (arith, c.number_at-i.ensures, c.requires.reached.number_in _ (here).came.held)

pub bounds-list-j : goal.bounds-list-j
bounds-list-j c =
    let place_left : 1 < c.loop-v.j = let a = c.args in
    omega (arith, (arrives_on a.held.rules.xs.now a.by.now a.y (c.loop-v.j - 1) c.loop-v.v c.loop-v.invariant.2.left c.loop-v-test.true).0) in
    let place_in : c.loop-v.j - 1 < length c.loop-v.list = omega (arith, place_left, c.loop-v.invariant.2.within, c.loop-v.invariant.1, c.loop-v.invariant.0, c.requires.n_in_bounds) in
    place_in

pub number_at-v-requires : goal.number_at-v-requires
number_at-v-requires c =
    let here : let a = c.args in
    Hop a.n (linked a.held.nexts.now) a.m a.held.rules.xs.now a.held.rules.ys.now a.held.rules.cs.now a.held.days.now a.gains.now a.by.now a.x a.y c.requires.reached c.loop-v.v = let a = c.args in
    hop a.n (linked a.held.nexts.now) a.m a.held.rules.xs.now a.held.rules.ys.now a.held.rules.cs.now a.held.days.now a.gains.now a.by.now a.x a.y c.requires.reached c.loop-v.v
    c.loop-v.invariant.2.step_in c.loop-v.invariant.2.has c.loop-v-test.true in
    omega (arith, c.number_at-i.ensures, c.requires.reached.first_place _ (here).came.held)

pub loop-v-smaller : goal.loop-v-smaller
loop-v-smaller c =
    let place_left : 1 < c.loop-v.j = let a = c.args in
    omega (arith, (arrives_on a.held.rules.xs.now a.by.now a.y (c.loop-v.j - 1) c.loop-v.v c.loop-v.invariant.2.left c.loop-v-test.true).0) in
    omega (arith, place_left)

pub loop-v-preserved : goal.loop-v-preserved
loop-v-preserved c =
    let place_left : 1 < c.loop-v.j = let a = c.args in
    omega (arith, (arrives_on a.held.rules.xs.now a.by.now a.y (c.loop-v.j - 1) c.loop-v.v c.loop-v.invariant.2.left c.loop-v-test.true).0) in
    let place_in : c.loop-v.j - 1 < length c.loop-v.list = omega (arith, place_left, c.loop-v.invariant.2.within, c.loop-v.invariant.1, c.loop-v.invariant.0, c.requires.n_in_bounds) in
    let loop = c.loop-v in
    let a = c.args in
    let i = at a.by.now loop.v - 1 in (
      length-set loop.list (loop.j - 1) (c.number_at-i.result - 1) ∙ loop.invariant.0,
      loop.invariant.1,
      rw (c.number_at-v.ensures, c.number_at-i.ensures)
          (written_more a.n (linked a.held.nexts.now) a.m a.held.rules.xs.now a.held.rules.ys.now a.held.rules.cs.now a.held.days.now a.gains.now a.by.now a.x a.y a.list.now _
          c.requires.reached loop.v loop.j loop.list (set loop.list (loop.j - 1) i) loop.invariant.2 c.loop-v-test.true
          (put_set loop.list (loop.j - 1) i (place_in))),
    )

pub overflow_cast-list-2 : goal.overflow_cast-list-2
overflow_cast-list-2 c = omega (arith, c.requires.reached.free_in)

pub bounds-list-0 : goal.bounds-list-0
bounds-list-0 c = omega (arith, c.loop-v.invariant.0, c.requires.n_in_bounds, c.requires.reached.first_in)

pub shape_of-list : goal.shape_of-list
shape_of-list c = length-set c.loop-v.list 0 c.args.m ∙ c.loop-v.invariant.0

pub returns : goal.returns
returns c = let a = c.args in
    written_done a.n (linked a.held.nexts.now) a.m a.held.rules.xs.now a.held.rules.ys.now a.held.rules.cs.now a.held.days.now a.gains.now a.by.now a.x a.y a.list.now _ a.c
    c.requires.reached c.requires.lacks c.loop-v.v c.loop-v.j c.loop-v.list (set c.loop-v.list 0 a.m) c.loop-v.invariant.2 c.loop-v-test.false
    (omega (arith, c.hops-k.ensures.few, c.requires.n_in_bounds))
    (length-set c.loop-v.list 0 a.m ∙ c.loop-v.invariant.0)
    (put_set c.loop-v.list 0 a.m (omega (arith, c.loop-v.invariant.0, c.requires.n_in_bounds, c.requires.reached.first_in)))
