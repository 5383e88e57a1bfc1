-- `reading::reader::Reader::spare` meets its contract: a symbol that is not reserved and not too long is a name.
use mathlib.Core.Path.{◌≡◌, refl, sym, ap, ◌∙◌}
use mathlib.Core.Bool.{false}
use Rattle.text.specs.Numbered.{numbered}
use Rattle.words.specs.Words.{reserved}
use Rattle.reading.specs.Reading.{lexeme, piece}
use Rattle.reading.proofs.Steps.{came_to, name_fits}
use Rattle.reading.proofs.reader.Reader.spare.Goals as goal

pub returns : goal.returns
returns c = let s = c.args.self.now.text.now in
    let t = c.args.t in
    let free : reserved (lexeme s (numbered t)) ≡ false = sym (c.is_reserved.ensures ∙ ap reserved c.lexeme.ensures) ∙ c.if-is_reserved.false in
    λ i is. came_to _ _ (piece s (numbered t)) t.to (name_fits s i (numbered t) is.told is.symbol free c.if-t-gt-NAME_BYTES.false) refl
