-- `reading::reader::Reader::asked` meets its contract. The loop's invariant: what the names say from here on, after those that were read, is what they say from the start on.
use mathlib.Core.Path.{◌≡◌}
use Rattle.reading.specs.Heard.{noted_as}
use Rattle.reading.specs.Rows.{Kept}
use Rattle.reading.proofs.Asking.{Going}
use Rattle.reading.proofs.reader.Reader.asked.Given as goal

abbrev pub invariant-loop-k : goal.invariant-loop-k
invariant-loop-k l = record {
  kept : Kept l.fn.rows l.rows;
  counted : l.rows.count ≡ l.k;
  going : Going l.self.names.count l.self.names.letters.now l.self.names.lens.now l.self.text.now l.at l.i l.k (noted_as l.rows.fault) l.rows.xs.now;
}
