-- `reading::reader::Reader::name` meets its contract: a name that is found is declared, so it is no reserved word and short; of the others that is asked.
use mathlib.Core.Path.{◌≡◌, refl, sym, ap, ◌∙◌}
use Rattle.std.specs.Prelude.{MatchOption}
use Rattle.text.specs.Numbered.{numbered}
use Rattle.names.specs.Names.{Unknown, Stands}
use Rattle.reading.specs.Reading.{lexeme, piece, expect_name}
use Rattle.reading.proofs.Steps.{read_to, came_to, name_token}
use Rattle.reading.proofs.Naming.{found_step, found_read}
use Rattle.reading.proofs.reader.Reader.name.Goals as goal

pub returns-in_ok-spare : goal.returns-in_ok-spare
returns-in_ok-spare c = let s = c.args.self.now.text.now in
    let t = c.in_ok-t.t in
    let names = c.args.self.now.names in
    let read = read_to (expect_name s c.args.at) t.to (c.in_ok-spare.ensures c.args.at c.in_ok-t.ensures) in
    let here : read.0 ≡ piece s (numbered t) = (name_token s c.args.at read.0 t.to read.1).0 ∙ ap (piece s) (sym c.in_ok-t.ensures.told) in
    let found : MatchOption c.find-step.result (Unknown names.count names.letters.now names.lens.now read.0.letters) (λ k. Stands names.count names.letters.now names.lens.now read.0.letters k) =
    rw (ap (λ p. p.letters) here) (rw c.lexeme.ensures at c.find-step.ensures) in
    came_to _ _ read.0 t.to read.1 (refl, found_step names.count names.letters.now names.lens.now c.args.self.now.all_different read.0.letters c.find-step.result found)

pub returns-else-is_none : goal.returns-else-is_none
returns-else-is_none c = let s = c.args.self.now.text.now in
    let t = c.in_ok-t.t in
    let names = c.args.self.now.names in
    let found : MatchOption c.find-step.result (Unknown names.count names.letters.now names.lens.now (lexeme s (numbered t))) (λ k. Stands names.count names.letters.now names.lens.now (lexeme s (numbered t)) k) =
    rw c.lexeme.ensures at c.find-step.ensures in
    came_to _ _ (piece s (numbered t)) t.to
    (found_read names.count names.letters.now names.lens.now names.shelved c.args.self.now.none_reserved s c.args.at t c.in_ok-t.ensures c.find-step.result c.if-is_none.ensures found)
    (refl, found_step names.count names.letters.now names.lens.now c.args.self.now.all_different (lexeme s (numbered t)) c.find-step.result found)
