-- Names asked for are the opening bracket, the names and the closing bracket; the column of their steps is what the command tells.
use mathlib.Core.Path.{◌∙◌}
use Rattle.text.specs.Lexicon.{OPEN}
use Rattle.reading.specs.Tree.{Command}
use Rattle.reading.specs.Reading.{expect, closed, asked}
use Rattle.reading.specs.Rows.{columns_of}
use Rattle.reading.proofs.Steps.{read_to, read_as, goes_on, halts, halted, hears_as}
use Rattle.reading.proofs.Closing.{ended}
use Rattle.reading.proofs.Telling.{tells_asked}
use Rattle.reading.proofs.reader.Reader.get_value.Goals as goal

pub returns-in_err-r-clause-heard : goal.returns-in_err-r-clause-heard
returns-in_err-r-clause-heard c = let s = c.args.self.now.text.now in
    let bracket = read_to (expect OPEN s c.args.at) c.in_ok-open.open c.in_ok-open.ensures in
    halted _ _ _ _ c.from_residual-in_err-r.ensures.1 (λ y h. h)
    (goes_on (expect OPEN s c.args.at) _ bracket.0 c.in_ok-open.open bracket.1 ∙ halts (asked s c.in_ok-open.open) _ _ c.in_err-r.ensures.heard)

pub returns-clause-heard : goal.returns-clause-heard
returns-clause-heard c = let s = c.args.self.now.text.now in
    let names = c.args.self.now.names in
    let rows = c.asked.new.rows in
    let bracket = read_to (expect OPEN s c.args.at) c.in_ok-open.open c.in_ok-open.ensures in
    let read = read_as (asked s c.in_ok-open.open) _ c.in_ok-r.r c.in_ok-r.ensures.heard in
    hears_as _ (closed s (Command.get_value read.0) c.in_ok-r.r) _ _
    (goes_on (expect OPEN s c.args.at) _ bracket.0 c.in_ok-open.open bracket.1 ∙ goes_on (asked s c.in_ok-open.open) _ read.0 c.in_ok-r.r read.1.0)
    (ended s c.in_ok-r.r (Command.get_value read.0) _ _ names.count names.letters.now names.lens.now (columns_of rows) _ (c.end.ensures (Command.get_value read.0))
    (tells_asked c.args.self.now read.0 rows read.1.1))
