use Prim.Native.Nat.{◌+◌, ◌<◌}
use mathlib.Core.Path.{◌≡◌, sym, ◌∙◌}
use mathlib.Core.Logic.{inl, inr}
use lib.ListN.{length}
use Rattle.meaning.specs.Tables.{at}
use Rattle.meaning.proofs.LastDay.{largest_zeros, largest_set}
use Rattle.inner_add.proofs.Raising.{raised_none, raised_more, raised_same}
use native.Mathlib.Omega.{arith}
use Rattle.inner_add.proofs.raise_days.Goals as goal
use Rattle.inner_add.proofs.raise_days.Goals.{else-gain-gt0, else-latest-day, then-gain-gt0, then-latest-day}

pub loop-v-init : goal.loop-v-init
loop-v-init c = let days = c.args.days.now in
    (omega arith, omega arith, raised_none days c.args.gains.now days, sym (largest_zeros 0 (at days) (λ v below. absurd (omega arith))))

pub loop-v-preserved : goal.loop-v-preserved
loop-v-preserved c = let day-at = c.day_at in
    let loop = c.loop-v in
    let days = c.args.days.now in
    let gains = c.args.gains.now in
    let list = loop.days in
    let v = loop.v in
    let count = loop.count in
    let so_far = loop.invariant.2 in
    let place : v < length days = omega (arith, c.requires.days_room) in
    let inside : v < length list = omega (arith, so_far.past.same_length) in
    let day : day-at.result ≡ at days v = day-at.ensures ∙ so_far.past.kept v (omega arith) in
    let latest =
    largest_set v list (day-at.result + at gains v) inside loop.invariant.3
    (elim c.if-latest-day.branch [ then-latest-day w ↦ inl (omega (arith, w.if-latest-day.true), w.latest-is) | else-latest-day w ↦ inr (omega (arith, w.if-latest-day.false), w.latest-is) ]) in
    elim c.if-gain-gt0.branch [ then-gain-gt0 w ↦ (omega arith, omega (arith, w.count-is), rw (day, w.count-is) (raised_more days gains days list v count place so_far (omega (arith, w.if-gain-gt0.true))), latest) | else-gain-gt0 w ↦ (omega arith, omega (arith, w.count-is), rw (day, w.count-is) (raised_same days gains days list v count place so_far (omega (arith, w.if-gain-gt0.false))), latest) ]
