-- `inner_add::add`: where the rule fits it is held under the next number, else the reason is in the list.
use mir.Syntax.{w32}
use mir.ValLaws.{to_z-of_z}
use Rattle.lent.specs.Lent.{held_by}
use Rattle.chains.proofs.Holding.{filled_same}
use Rattle.inner_add.proofs.Answers.{add_done, add_conflict, ring_before, left_ready}
use Rattle.inner_add.proofs.Holding.{hold_ready, add_refused}
use Rattle.std.proofs.lemmas.Result.{err_from_is_err_and}
use Rattle.inner_add.proofs.Linked.{ready_linked, taken_held, left_held}
use native.Mathlib.Omega.{arith}
use Rattle.inner_add.proofs.add.Goals as goal

pub returns-in_err-hold_verdict : goal.returns-in_err-hold_verdict
returns-in_err-hold_verdict c = let args = c.args in
    let f = rw (to_z-of_z w32 args.c c.ranges.c) at c.in_err-hold_verdict.ensures in
    let p = err_from_is_err_and c.from_residual.result c.from_residual.ensures.1 in
    rw (p.1, p.2) (add_refused args.counts args.x args.y args.c _ f args.xs.now args.ys.now args.cs.now args.days.now args.levels.now args.list.now c.requires.in_bounds)

pub fit-requires : goal.fit-requires
fit-requires c = let args = c.args in
    let f = rw (to_z-of_z w32 args.c c.ranges.c) at c.in_ok-hold_verdict.ensures in
    rw (to_z-of_z w32 args.c c.ranges.c) (ready_linked c.requires.lent_chains (hold_ready args.counts args.x args.y args.c f c.requires.base c.requires.counted c.next_free-m.ensures))

pub bounds-levels-m : goal.bounds-levels-m
bounds-levels-m c = let args = c.args in
    let f = rw (to_z-of_z w32 args.c c.ranges.c) at c.in_ok-hold_verdict.ensures in
    omega (arith, (hold_ready args.counts args.x args.y args.c f c.requires.base c.requires.counted c.next_free-m.ensures).not_full, c.requires.counted.levels_room)

pub returns-in-Some : goal.returns-in-Some
returns-in-Some c = let args = c.args in
    let f = rw (to_z-of_z w32 args.c c.ranges.c) at c.in_ok-hold_verdict.ensures in
    let taken = taken_held c.requires.lent_chains (rw (to_z-of_z w32 args.c c.ranges.c) at c.in-Some.ensures) in
    add_done args.counts args.xs.now args.ys.now args.cs.now args.days.now args.levels.now args.heads.now args.nexts.now args.x args.y args.c c.next_free-m.result c.next_free-m.ensures
    (hold_ready args.counts args.x args.y args.c f c.requires.base c.requires.counted c.next_free-m.ensures)
    args.list.now c.requires.in_bounds _ c.one_more.result _ _ _ _ _ _ c.one_more.ensures (omega (arith, c.requires.counted.marks_in)) taken

pub why-length-requires-clause-holdable : goal.why-length-requires-clause-holdable
why-length-requires-clause-holdable c = let args = c.args in
    let f = rw (to_z-of_z w32 args.c c.ranges.c) at c.in_ok-hold_verdict.ensures in
    let left = rw (to_z-of_z w32 args.c c.ranges.c) at c.in-None.ensures in
    rw (to_z-of_z w32 args.c c.ranges.c) (left_ready left (ready_linked c.requires.lent_chains (hold_ready args.counts args.x args.y args.c f c.requires.base c.requires.counted c.next_free-m.ensures)))

pub returns-in-None : goal.returns-in-None
returns-in-None c = let args = c.args in
    let f = rw (to_z-of_z w32 args.c c.ranges.c) at c.in_ok-hold_verdict.ensures in
    let left = left_held c.requires.lent_chains (rw (to_z-of_z w32 args.c c.ranges.c) at c.in-None.ensures) in
    add_conflict args.counts args.xs.now args.ys.now args.cs.now args.days.now args.levels.now args.heads.now args.nexts.now args.x args.y args.c c.next_free-m.result c.next_free-m.ensures
    (hold_ready args.counts args.x args.y args.c f c.requires.base c.requires.counted c.next_free-m.ensures)
    args.list.now _ c.requires.in_bounds c.why-length.result _ _ _ _ left
    (ring_before (held_by args.levels.now) c.next_free-m.result args.xs.now args.ys.now args.cs.now _ _ _ args.x args.y args.c _ _ _ left.rules_stay
    (filled_same c.requires.lent_chains.only c.requires.lent_chains.on (rw (to_z-of_z w32 args.c c.ranges.c) at c.why-length.ensures)))
