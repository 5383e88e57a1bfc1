-- `script_calls::command_room` meets its contract: the room of the tables, then the length of the list for the answer.
use native.Mathlib.Omega.{arith}
use mathlib.Core.Path.{refl}
use lib.ListN.{length}
use borrow.Author.Tests.{leb-true, leb-false}
use Rattle.meaning.specs.Bounds.{ROOM}
use Rattle.lent.specs.Decides.{decides_no}
use Rattle.script_calls.proofs.command_room.Goals as goal

pub returns-then-not-start_room : goal.returns-then-not-start_room
returns-then-not-start_room c = λ counts notes. decides_no refl (λ h. (c.start_room.ensures counts notes c.args.out.now).not_so c.if-not-start_room.true h.start_room)

pub returns : goal.returns
returns c = λ counts notes. record {
  so = λ e. record { start_room = (c.start_room.ensures counts notes c.args.out.now).so c.if-not-start_room.false; out_room = leb-true ROOM (length c.args.out.now) e };
  not_so = λ e h. omega (arith, leb-false ROOM (length c.args.out.now) e, h.out_room);
}
