-- `reading::reader::Reader::clash` meets its contract: what is found is declared, and what is not found is not.
use mathlib.Core.Path.{sym}
use Rattle.reading.proofs.Naming.{found_clash, found_fresh}
use Rattle.reading.proofs.reader.Reader.clash.Goals as goal

pub returns-then-is_some : goal.returns-then-is_some
returns-then-is_some c = let names = c.args.self.now.names in
    found_clash names.count names.letters.now names.lens.now c.args.word.now c.find.result (sym c.if-is_some.ensures) c.find.ensures

pub returns-else-is_some : goal.returns-else-is_some
returns-else-is_some c = let names = c.args.self.now.names in
    found_fresh names.count names.letters.now names.lens.now c.args.word.now c.find.result (sym c.if-is_some.ensures) c.find.ensures
