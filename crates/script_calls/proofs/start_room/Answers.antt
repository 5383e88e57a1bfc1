-- `script_calls::start_room` meets its contract: the test of the tables and two lengths decide.
use native.Mathlib.Omega.{arith}
use mathlib.Core.Path.{refl}
use lib.ListN.{length}
use borrow.Author.Tests.{leb-true, leb-false}
use Rattle.meaning.specs.Bounds.{STEPS}
use Rattle.lent.specs.Decides.{decides_no}
use Rattle.script_calls.proofs.start_room.Goals as goal

pub returns-then-not-has_room : goal.returns-then-not-has_room
returns-then-not-has_room c = λ counts notes out. decides_no refl (λ h. (c.has_room.ensures counts).not_so c.if-not-has_room.true h.tables_room)

pub returns-then-names : goal.returns-then-names
returns-then-names c = λ counts notes out. decides_no refl (λ h. omega (arith, h.names_room, c.if-names.true))

pub returns : goal.returns
returns c = λ counts notes out. record {
  so = λ e. record { tables_room = (c.has_room.ensures counts).so c.if-not-has_room.false; names_room = omega (arith, c.if-names.false); lens_room = leb-true STEPS (length c.args.lens.now) e };
  not_so = λ e h. omega (arith, leb-false STEPS (length c.args.lens.now) e, h.lens_room);
}
