-- `script_calls::verdict` meets its contract: the room and the soundness are tested one after the other.
use mathlib.Core.Path.{refl}
use mathlib.Core.Logic.{inl, inr}
use native.Mathlib.Omega.{arith}
use Rattle.script_calls.proofs.verdict.Goals as goal

pub returns-then-not-command_room : goal.returns-then-not-command_room
returns-then-not-command_room c = let a = c.args in
    record {
      refused = λ nd text. inl (refl, λ h. (c.command_room.ensures a.counts a.notes).not_so c.if-not-command_room.true h);
      never_conflict = λ e. omega arith;
      room = λ e. absurd (omega arith);
      stands = λ e. absurd (omega arith);
    }

pub stands-requires : goal.stands-requires
stands-requires c = let room = (c.command_room.ensures c.args.counts c.args.notes).so c.if-not-command_room.false in
    record {
      tab_value = c.requires.tab_value;
      room = room.start_room.tables_room;
      names_room = record { names_room = room.start_room.names_room; lens_room = room.start_room.lens_room };
      in_bounds = c.requires.in_bounds;
      in_bounds_2 = c.requires.in_bounds_2;
      index_room = c.requires.index_room;
    }

pub returns-then-not-stands : goal.returns-then-not-stands
returns-then-not-stands c = let a = c.args in
    record {
      refused = λ nd text. inr ((c.command_room.ensures a.counts a.notes).so c.if-not-command_room.false, inl (refl, λ h. (c.stands.ensures a.out.now).decides.not_so c.if-not-stands.true h));
      never_conflict = λ e. omega arith;
      room = λ e. absurd (omega arith);
      stands = λ e. absurd (omega arith);
    }

pub returns : goal.returns
returns c = let a = c.args in
    record {
      refused = λ nd. absurd (nd refl);
      never_conflict = λ e. omega arith;
      room = λ e. (c.command_room.ensures a.counts a.notes).so c.if-not-command_room.false;
      stands = λ e. (c.stands.ensures a.out.now).stands c.if-not-stands.false;
    }
