use Rattle.inner_add.proofs.Raising.{raised_more, raised_same}
use native.Mathlib.Omega.{arith}
use Rattle.inner_add.proofs.write_days.Goals as goal
use Rattle.inner_add.proofs.write_days.Goals.{else-gain-gt0, then-gain-gt0}

pub loop-v-preserved : goal.loop-v-preserved
loop-v-preserved c = let day-at = c.day_at-day in
    let loop = c.loop-v in
    let place = c.requires.list_room in
    elim c.if-gain-gt0.branch [ then-gain-gt0 w ↦ (omega arith, omega (arith, w.count-is), rw (day-at.ensures, w.count-is) (raised_more c.args.days.now c.args.gains.now c.args.list.now loop.list loop.v loop.count (omega (arith, place)) loop.invariant.2 (omega (arith, w.if-gain-gt0.true)))) | else-gain-gt0 w ↦ (omega arith, omega (arith, w.count-is), rw (day-at.ensures, w.count-is) (raised_same c.args.days.now c.args.gains.now c.args.list.now loop.list loop.v loop.count (omega (arith, place)) loop.invariant.2 (omega (arith, w.if-gain-gt0.false)))) ]
