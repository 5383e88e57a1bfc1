-- `reading::reader::Reader::word` meets its contract: it goes on where the symbol has the bytes of the word.
use mathlib.Core.Path.{refl}
use mathlib.Core.Bool.{true, false}
use Rattle.text.specs.Lexicon.{same_bytes}
use Rattle.text.specs.Numbered.{numbered}
use Rattle.reading.specs.Reading.{lexeme, piece}
use Rattle.reading.proofs.Standing.{word_differs, word_same}
use Rattle.reading.proofs.Steps.{came_to, word_is}
use Rattle.reading.proofs.reader.Reader.word.Goals as goal

pub returns-then-ne : goal.returns-then-ne
returns-then-ne c = let s = c.args.self.now.text.now in
    let t = c.in_ok-t.t in
    let is = c.in_ok-t.ensures in
    word_is s c.args.at (numbered t) is.told c.args.word.now (same_bytes (lexeme s (numbered t)) c.args.word.now) false is.symbol refl
    (word_differs _ _ (lexeme s (numbered t)) c.args.word.now c.ne.ensures c.if-ne.true c.lexeme.ensures)

pub returns : goal.returns
returns c = let s = c.args.self.now.text.now in
    let t = c.in_ok-t.t in
    let is = c.in_ok-t.ensures in
    came_to _ _ (piece s (numbered t)) t.to
    (word_is s c.args.at (numbered t) is.told c.args.word.now (same_bytes (lexeme s (numbered t)) c.args.word.now) true is.symbol refl
    (word_same _ _ (lexeme s (numbered t)) c.args.word.now c.ne.ensures c.if-ne.false c.lexeme.ensures)) refl
