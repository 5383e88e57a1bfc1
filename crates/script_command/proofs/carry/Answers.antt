-- `script_command::carry` meets its contract: where reading stopped or something stands against the command nothing changed but the rows, and else it was performed.
use mathlib.Core.Path.{refl, ◌∙◌}
use Rattle.meaning.specs.Bounds.{DONE}
use Rattle.meaning.specs.Promise.{First}
use Rattle.meaning.specs.Refusals.{number_of}
use Rattle.meaning.proofs.Needs.{not_done}
use Rattle.lent.specs.Lent.{columns}
use Rattle.reading.specs.Reading.{reading}
use Rattle.reading.specs.Heard.{noted_as}
use Rattle.script_meaning.specs.Commands.{command_needs}
use Rattle.script_meaning.proofs.Keeping.{Fine, shelved_of}
use Rattle.script_command.specs.Carrying.{in_hand}
use Rattle.script_command.proofs.Granting.{Roomy, ready_of, heeded_of}
use Rattle.script_command.proofs.Closing.{unread_carries, unread_maintained, command_read, refused_carries, refused_maintained, performed_carries}
use native.Mathlib.Omega.{arith}
use Rattle.script_command.proofs.carry.Goals as goal

pub invariant_of-declared : goal.invariant_of-declared
invariant_of-declared c = let args = c.args in
    let pre = c.requires in
    let before = in_hand args.counts args.xs.now args.ys.now args.cs.now args.days.now args.levels.now args.notes args.names.now args.lens.now args.out.now in
    let m = pre.maintained in
    let fine : Fine before = record { room = m.room; sound = m.sound } in
    record { shelved = shelved_of fine; indexed = m.indexed }

pub read_command-requires : goal.read_command-requires
read_command-requires c = let pre = c.requires in
    let m = pre.maintained in
    record {
      tab_value = pre.tab_value;
      all_different = m.sound.names_different;
      none_reserved = λ k h. (m.sound.names_in_form k h).not_reserved;
      in_bounds = omega (arith, pre.in_bounds);
      xs_in_bounds = pre.row_xs_in_bounds;
      xs_in_bounds_2 = pre.row_xs_in_bounds_2;
    }

pub returns-in-Err : goal.returns-in-Err
returns-in-Err c = let args = c.args in
    let pre = c.requires in
    let before = in_hand args.counts args.xs.now args.ys.now args.cs.now args.days.now args.levels.now args.notes args.names.now args.lens.now args.out.now in
    let m = pre.maintained in
    let told = c.unread.ensures c.in-Err.ensures in
    let wrote = c.unread.new.out in record {
      carries = unread_carries args.s.now args.to before c.unread.result wrote told;
      maintained_2 = unread_maintained args.s.now args.to before c.unread.result wrote told args.e args.heads.now args.nexts.now args.kept.now args.hashes.now args.name_heads.now args.name_nexts.now m;
    }

pub judge-requires : goal.judge-requires
judge-requires c = let m = c.requires.maintained in record {
  rules_bound = m.sound.tables_sound.counts_in.rules_in;
  marks_bound = m.sound.tables_sound.counts_in.marks_in;
}

pub returns-in-Err-judge : goal.returns-in-Err-judge
returns-in-Err-judge c = let args = c.args in
    let pre = c.requires in
    let before = in_hand args.counts args.xs.now args.ys.now args.cs.now args.days.now args.levels.now args.notes args.names.now args.lens.now args.out.now in
    let m = pre.maintained in
    let found = command_read (reading args.s.now) _ c.in-Ok.ensures in
    let d = found.0 in
    let i = found.1.0 in
    let is = found.1.1.0 in
    let said = found.1.1.1 in
    let tells = said.tells in
    let refusal = c.in-Err-judge.refusal in
    let judged = c.in-Err-judge.ensures d before tells.kind_is refl refl tells.fault_first in
    let refused = c.refused.ensures in record {
      carries = refused_carries args.s.now args.to before d i is c.refused.result (number_of refusal) (not_done refusal) judged (refused.0 ∙ c.number.ensures, refused.1);
      maintained_2 = refused_maintained args.s.now args.to before d i is c.refused.result refused.1.0 refused.1.1.0 args.e args.heads.now args.nexts.now args.kept.now args.hashes.now args.name_heads.now args.name_nexts.now m;
    }

pub perform-requires : goal.perform-requires
perform-requires c = let args = c.args in
    let pre = c.requires in
    let before = in_hand args.counts args.xs.now args.ys.now args.cs.now args.days.now args.levels.now args.notes args.names.now args.lens.now args.out.now in
    let m = pre.maintained in
    let fine : Fine before = record { room = m.room; sound = m.sound } in
    let found = command_read (reading args.s.now) _ c.in-Ok.ensures in
    let d = found.0 in
    let i = found.1.0 in
    let is = found.1.1.0 in
    let said = found.1.1.1 in
    let tells = said.tells in
    let last = c.read_command.new in
    let rows = columns last.xs last.ys last.cs in
    let room : Roomy rows = record {
      firsts_room = omega (arith, pre.in_bounds, c.read_command.auto.xs);
      seconds_room = omega (arith, pre.in_bounds, pre.row_xs_in_bounds, c.read_command.auto.ys);
      amounts_room = omega (arith, pre.in_bounds, pre.row_xs_in_bounds_2, c.read_command.auto.cs);
    } in
    let met : First (command_needs d before) DONE = c.in_default.ensures d before tells.kind_is refl refl tells.fault_first in
    record {
      ready = ready_of before fine args.e pre.names_le_e args.s.now rows room d i is c.in-Ok.h.kind (noted_as c.in-Ok.h.fault) tells met;
      maintained = m;
      to_in_bounds = pre.to_in_bounds;
      names_le_e = pre.names_le_e;
    }

pub returns : goal.returns
returns c = let args = c.args in
    let pre = c.requires in
    let before = in_hand args.counts args.xs.now args.ys.now args.cs.now args.days.now args.levels.now args.notes args.names.now args.lens.now args.out.now in
    let m = pre.maintained in
    let fine : Fine before = record { room = m.room; sound = m.sound } in
    let found = command_read (reading args.s.now) _ c.in-Ok.ensures in
    let d = found.0 in
    let i = found.1.0 in
    let is = found.1.1.0 in
    let said = found.1.1.1 in
    let tells = said.tells in
    let last = c.read_command.new in
    let rows = columns last.xs last.ys last.cs in
    let room : Roomy rows = record {
      firsts_room = omega (arith, pre.in_bounds, c.read_command.auto.xs);
      seconds_room = omega (arith, pre.in_bounds, pre.row_xs_in_bounds, c.read_command.auto.ys);
      amounts_room = omega (arith, pre.in_bounds, pre.row_xs_in_bounds_2, c.read_command.auto.cs);
    } in
    let met : First (command_needs d before) DONE = c.in_default.ensures d before tells.kind_is refl refl tells.fault_first in
    let performed = c.perform.ensures in
    let heeded = heeded_of before fine args.e pre.names_le_e args.s.now rows room d i is c.in-Ok.h.kind (noted_as c.in-Ok.h.fault) tells met in
    let done = performed.does d i heeded met in record {
      carries = performed_carries args.s.now args.to before d i is c.perform.result c.in-Ok.h.kind c.in-Ok.h.past _ tells.kind_is said.past_is met performed.number_value done.0;
      maintained_2 = done.1;
    }
