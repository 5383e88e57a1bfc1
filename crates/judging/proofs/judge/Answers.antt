-- `judging::judge` meets its contract: MODE comes first, then the fault that was found in reading, then the room; where those before are met, the next is the first.
use mathlib.Core.Path.{ap, subst}
use mathlib.Core.List.{◌++◌}
use Rattle.meaning.specs.Promise.{First}
use Rattle.std.proofs.lemmas.Result.{err_from_is_err_and}
use Rattle.meaning.proofs.Needs.{first_stops, not_done}
use Rattle.reading.specs.Saying.{said_needs}
use Rattle.reading.specs.Heard.{noted_as}
use Rattle.script_meaning.specs.Record.{Known}
use Rattle.script_meaning.specs.Commands.{mode_needs, room_needs}
use Rattle.script_meaning.proofs.Needed.{mode_refuse, first_past, command_passed}
use Rattle.judging.proofs.judge.Goals as goal

pub returns-in_err-mode_of : goal.returns-in_err-mode_of
returns-in_err-mode_of c = λ k l is same_counts same_notes said.
    let p = err_from_is_err_and c.from_residual.result c.from_residual.ensures.1 in
    rw (p.1, p.2)
    (first_stops (mode_needs k l) (said_needs (Known l) k ++ room_needs k l) _ (not_done _) (c.in_err-mode_of.ensures c.args.counts k l is same_counts same_notes))

pub returns-in-Some : goal.returns-in-Some
returns-in-Some c = λ k l is same_counts same_notes said.
    first_past (said_needs (Known l) k ++ room_needs k l) _ (mode_needs k l) (mode_refuse k l) (c.in_ok-mode_of.ensures c.args.counts k l is same_counts same_notes)
    (first_stops (said_needs (Known l) k) (room_needs k l) _ (not_done _) (subst (First (said_needs (Known l) k)) (ap noted_as c.in-Some.is) said))

pub returns-in-None : goal.returns-in-None
returns-in-None c = λ k l is same_counts same_notes said.
    command_passed k l _ (c.in_ok-mode_of.ensures c.args.counts k l is same_counts same_notes)
    (subst (First (said_needs (Known l) k)) (ap noted_as c.in-None.is) said)
    (c.room_of.ensures k l is same_counts same_notes)
