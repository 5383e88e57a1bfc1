-- `reading::reader::Reader::declare` meets its contract: each part is read where the one before it ended; the name is the first token, and it is told with its ends and
-- whether it is declared already.
use mathlib.Core.Path.{◌≡◌, refl, sym, ap, ◌∙◌}
use Rattle.text.specs.Lexicon.{OPEN, CLOSE, token_at}
use Rattle.text.specs.Numbered.{numbered}
use Rattle.words.specs.Words.{W_Int}
use Rattle.reading.specs.declared.Stop.{Stop}
use Rattle.reading.specs.Tree.{Command}
use Rattle.reading.specs.Reading.{piece, expect, expect_word, expect_name}
use Rattle.reading.proofs.Steps.{read_to, goes_on, halts, halted, came_to, name_no_symbol, name_token}
use Rattle.reading.proofs.Telling.{tells_declare}
use Rattle.reading.proofs.reader.Reader.declare.Goals as goal

pub returns-in_err-t : goal.returns-in_err-t
returns-in_err-t c = let s = c.args.self.now.text.now in
    let at = c.args.at in
    let no = c.in_err-t.ensures in
    λ rows. halted _ _ _ _ c.from_residual.ensures.1 (λ y h. h ∙ no.there) (halts (expect_name s at) _ (Stop.Wrong (token_at s at).from) (name_no_symbol s at (token_at s at) refl no.other))

pub returns-in_err-spare : goal.returns-in_err-spare
returns-in_err-spare c = let s = c.args.self.now.text.now in
    let at = c.args.at in
    λ rows. halted _ _ _ _ c.from_residual-in_err-spare.ensures.1 (λ y h. h) (halts (expect_name s at) _ _ (c.in_err-spare.ensures at c.in_ok-t.ensures))

pub returns-in_err-open : goal.returns-in_err-open
returns-in_err-open c = let s = c.args.self.now.text.now in
    let at = c.args.at in
    let t = c.in_ok-t.t in
    let name = read_to (expect_name s at) t.to (c.in_ok-spare.ensures at c.in_ok-t.ensures) in
    λ rows. halted _ _ _ _ c.from_residual-in_err-open.ensures.1 (λ y h. h)
    (goes_on (expect_name s at) _ name.0 t.to name.1 ∙ halts (expect OPEN s t.to) _ _ c.in_err-open.ensures)

pub returns-in_err-close : goal.returns-in_err-close
returns-in_err-close c = let s = c.args.self.now.text.now in
    let at = c.args.at in
    let t = c.in_ok-t.t in
    let name = read_to (expect_name s at) t.to (c.in_ok-spare.ensures at c.in_ok-t.ensures) in
    let bracket = read_to (expect OPEN s t.to) c.in_ok-open.open (c.in_ok-open.ensures) in
    λ rows. halted _ _ _ _ c.from_residual-in_err-close.ensures.1 (λ y h. h)
    (goes_on (expect_name s at) _ name.0 t.to name.1 ∙ goes_on (expect OPEN s t.to) _ bracket.0 c.in_ok-open.open bracket.1 ∙ halts (expect CLOSE s c.in_ok-open.open) _ _ c.in_err-close.ensures)

pub returns-in_err-int : goal.returns-in_err-int
returns-in_err-int c = let s = c.args.self.now.text.now in
    let at = c.args.at in
    let t = c.in_ok-t.t in
    let name = read_to (expect_name s at) t.to (c.in_ok-spare.ensures at c.in_ok-t.ensures) in
    let bracket = read_to (expect OPEN s t.to) c.in_ok-open.open (c.in_ok-open.ensures) in
    let close = read_to (expect CLOSE s c.in_ok-open.open) c.in_ok-close.close (c.in_ok-close.ensures) in
    λ rows. halted _ _ _ _ c.from_residual-in_err-int.ensures.1 (λ y h. h)
    (goes_on (expect_name s at) _ name.0 t.to name.1 ∙ goes_on (expect OPEN s t.to) _ bracket.0 c.in_ok-open.open bracket.1 ∙ goes_on (expect CLOSE s c.in_ok-open.open) _ close.0 c.in_ok-close.close close.1 ∙ halts (expect_word W_Int s c.in_ok-close.close) _ _ c.in_err-int.ensures)

pub returns-in_err-past : goal.returns-in_err-past
returns-in_err-past c = let s = c.args.self.now.text.now in
    let at = c.args.at in
    let t = c.in_ok-t.t in
    let name = read_to (expect_name s at) t.to (c.in_ok-spare.ensures at c.in_ok-t.ensures) in
    let bracket = read_to (expect OPEN s t.to) c.in_ok-open.open (c.in_ok-open.ensures) in
    let close = read_to (expect CLOSE s c.in_ok-open.open) c.in_ok-close.close (c.in_ok-close.ensures) in
    let int = read_to (expect_word W_Int s c.in_ok-close.close) c.in_ok-int.int (c.in_ok-int.ensures) in
    λ rows. halted _ _ _ _ c.from_residual-in_err-past.ensures.1 (λ y h. h)
    (goes_on (expect_name s at) _ name.0 t.to name.1 ∙ goes_on (expect OPEN s t.to) _ bracket.0 c.in_ok-open.open bracket.1 ∙ goes_on (expect CLOSE s c.in_ok-open.open) _ close.0 c.in_ok-close.close close.1 ∙ goes_on (expect_word W_Int s c.in_ok-close.close) _ int.0 c.in_ok-int.int int.1 ∙ halts (expect CLOSE s c.in_ok-int.int) _ _ c.in_err-past.ensures)

pub returns : goal.returns
returns c = let s = c.args.self.now.text.now in
    let at = c.args.at in
    let t = c.in_ok-t.t in
    let names = c.args.self.now.names in
    let name = read_to (expect_name s at) t.to (c.in_ok-spare.ensures at c.in_ok-t.ensures) in
    let bracket = read_to (expect OPEN s t.to) c.in_ok-open.open (c.in_ok-open.ensures) in
    let close = read_to (expect CLOSE s c.in_ok-open.open) c.in_ok-close.close (c.in_ok-close.ensures) in
    let int = read_to (expect_word W_Int s c.in_ok-close.close) c.in_ok-int.int (c.in_ok-int.ensures) in
    let end = read_to (expect CLOSE s c.in_ok-int.int) c.in_ok-past.past (c.in_ok-past.ensures) in
    let here : name.0 ≡ piece s (numbered t) = (name_token s at name.0 t.to name.1).0 ∙ ap (piece s) (sym c.in_ok-t.ensures.told) in
    λ rows. came_to _ _ (Command.declare name.0) c.in_ok-past.past
    (goes_on (expect_name s at) _ name.0 t.to name.1 ∙ goes_on (expect OPEN s t.to) _ bracket.0 c.in_ok-open.open bracket.1 ∙ goes_on (expect CLOSE s c.in_ok-open.open) _ close.0 c.in_ok-close.close close.1 ∙ goes_on (expect_word W_Int s c.in_ok-close.close) _ int.0 c.in_ok-int.int int.1 ∙ goes_on (expect CLOSE s c.in_ok-int.int) _ end.0 c.in_ok-past.past end.1)
    (record { past_is = refl; tells = tells_declare c.args.self.now s t c.in_ok-t.ensures.ordered c.in_ok-t.ensures.within.1 name.0 here c.clash-fault.result (rw c.lexeme.ensures at c.clash-fault.ensures) rows })
