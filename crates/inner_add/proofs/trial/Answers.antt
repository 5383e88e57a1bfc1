-- `inner_add::trial`: where the rule fits its days are in list one, else the reason is in list two.
use mir.Syntax.{w32}
use mir.ValLaws.{to_z-of_z}
use Rattle.chains.proofs.Holding.{filled_same}
use Rattle.inner_add.proofs.Answers.{trial_done, trial_conflict}
use Rattle.std.proofs.lemmas.Result.{err_from_is_err_and}
use Rattle.inner_add.proofs.Holding.{hold_ready, trial_refused}
use Rattle.inner_add.proofs.Linked.{ready_linked, shown_held}
use Rattle.inner_add.proofs.trial.Goals as goal

pub returns-in_err-hold_verdict : goal.returns-in_err-hold_verdict
returns-in_err-hold_verdict c = let args = c.args in
    let f = rw (to_z-of_z w32 args.c c.ranges.c) at c.in_err-hold_verdict.ensures in
    let p = err_from_is_err_and c.from_residual.result c.from_residual.ensures.1 in
    rw (p.1, p.2) (trial_refused args.counts args.x args.y args.c _ f args.rules.xs.now args.rules.ys.now args.rules.cs.now args.days.now args.levels.now args.one.now args.two.now c.requires.both_room)

pub show-requires-clause-holdable : goal.show-requires-clause-holdable
show-requires-clause-holdable c = let args = c.args in
    let f = rw (to_z-of_z w32 args.c c.ranges.c) at c.in_ok-hold_verdict.ensures in
    rw (to_z-of_z w32 args.c c.ranges.c) (ready_linked c.requires.lent_chains (hold_ready args.counts args.x args.y args.c f c.requires.base c.requires.counted c.next_free-m.ensures))

pub returns-in-Some : goal.returns-in-Some
returns-in-Some c = let args = c.args in
    let f = rw (to_z-of_z w32 args.c c.ranges.c) at c.in_ok-hold_verdict.ensures in
    let shown = shown_held c.requires.lent_chains (rw (to_z-of_z w32 args.c c.ranges.c) at c.in-Some.ensures) in
    trial_done args.counts args.rules.xs.now args.rules.ys.now args.rules.cs.now args.days.now args.levels.now args.heads.now args.nexts.now args.x args.y args.c c.next_free-m.result c.next_free-m.ensures
    (hold_ready args.counts args.x args.y args.c f c.requires.base c.requires.counted c.next_free-m.ensures)
    args.one.now args.two.now _ c.requires.both_room _ shown.planned shown.count_moved

pub why-length-requires-clause-holdable : goal.why-length-requires-clause-holdable
why-length-requires-clause-holdable c = let args = c.args in
    let f = rw (to_z-of_z w32 args.c c.ranges.c) at c.in_ok-hold_verdict.ensures in
    rw (to_z-of_z w32 args.c c.ranges.c) (ready_linked c.requires.lent_chains (hold_ready args.counts args.x args.y args.c f c.requires.base c.requires.counted c.next_free-m.ensures))

pub returns-in-None : goal.returns-in-None
returns-in-None c = let args = c.args in
    let f = rw (to_z-of_z w32 args.c c.ranges.c) at c.in_ok-hold_verdict.ensures in
    trial_conflict args.counts args.rules.xs.now args.rules.ys.now args.rules.cs.now args.days.now args.levels.now args.heads.now args.nexts.now args.x args.y args.c c.next_free-m.result c.next_free-m.ensures
    (hold_ready args.counts args.x args.y args.c f c.requires.base c.requires.counted c.next_free-m.ensures)
    args.one.now args.two.now _ _ c.in-None.ensures.list_stays c.requires.both_room c.why-length.result (filled_same c.requires.lent_chains.only c.requires.lent_chains.on (rw (to_z-of_z w32 args.c c.ranges.c) at c.why-length.ensures))
