-- `reading::rows::Rows::write` meets its contract: each column has the rule's part in the next row, and every other row is as before.
use mathlib.Core.Path.{ap, ◌∙◌}
use mir.Syntax.{w32}
use mir.Val.{to_z, of_z}
use mir.ValLaws.{to_z-of_z}
use lib.ListN.{length}
use native.Mathlib.Omega.{arith}
use Rattle.meaning.specs.Rules.{rule}
use Rattle.meaning.proofs.Put.{put_new, put_old}
use Rattle.reading.specs.Rows.{columns_of}
use Rattle.reading.proofs.rows.Rows.write.Goals as goal

pub returns-then-k-self-clause-written : goal.returns-then-k-self-clause-written
returns-then-k-self-clause-written c = let rows = c.args.self.now in
    let before = columns_of rows in
    let r = rule c.args.x c.args.y (to_z w32 (of_z w32 c.args.c)) in
    record {
      written = λ h.
          put_new before rows.count (length rows.xs.now) r (record { firsts_room = omega arith; seconds_room = rows.ys_room; amounts_room = rows.cs_room }) h
          ∙ ap (rule c.args.x c.args.y) (to_z-of_z w32 c.args.c c.ranges.c);
      others_stay = λ i d. put_old before rows.count r i d;
    }
