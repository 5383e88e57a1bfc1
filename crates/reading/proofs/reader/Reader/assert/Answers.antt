-- An assertion is its term and the closing bracket; the rows of the term are what the assertion tells.
use mathlib.Core.Bool.{false}
use Rattle.meaning.specs.Bounds.{DEPTH}
use Rattle.reading.specs.Tree.{Command}
use Rattle.reading.specs.Reading.{closed, term}
use Rattle.reading.specs.Rows.{columns_of}
use Rattle.reading.proofs.Steps.{read_as, goes_on, hears_as}
use Rattle.reading.proofs.Closing.{ended}
use Rattle.reading.proofs.Telling.{tells_assert}
use Rattle.reading.proofs.reader.Reader.assert.Goals as goal

pub returns-clause-heard : goal.returns-clause-heard
returns-clause-heard c = let s = c.args.self.now.text.now in
    let names = c.args.self.now.names in
    let rows = c.term.new.rows in
    let read = read_as (term DEPTH s false c.args.at) _ c.in_ok-r.r c.in_ok-r.ensures.heard in
    hears_as _ (closed s (Command.assert read.0) c.in_ok-r.r) _ _ (goes_on (term DEPTH s false c.args.at) _ read.0 c.in_ok-r.r read.1.0)
    (ended s c.in_ok-r.r (Command.assert read.0) _ _ names.count names.letters.now names.lens.now (columns_of rows) _ (c.end.ensures (Command.assert read.0))
    (tells_assert c.args.self.now read.0 c.args.rows.now rows c.in_ok-r.r c.requires read.1.1))
