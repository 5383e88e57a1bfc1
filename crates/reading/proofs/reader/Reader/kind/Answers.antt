-- `reading::reader::Reader::kind` meets its contract: it goes on where the token has the kind.
use mathlib.Core.Path.{refl, sym, ap, ◌∙◌}
use denote.Enum.Bare.{differs_true, differs_false}
use Rattle.text.specs.contracts.Kind.{the_type}
use Rattle.text.specs.Numbered.{code_of, numbered}
use Rattle.reading.specs.Reading.{piece}
use Rattle.reading.proofs.Standing.{same_kind}
use Rattle.reading.proofs.Steps.{came_to, of_kind, other_kind}
use Rattle.reading.proofs.reader.Reader.kind.Goals as goal

pub returns-then-ne : goal.returns-then-ne
returns-then-ne c = let s = c.args.self.now.text.now in
    let t = c.token-t.result in
    other_kind s c.args.at (numbered t) c.token-t.ensures.told (code_of c.args.kind) (λ e. differs_true the_type t.kind c.args.kind (sym c.ne.ensures ∙ c.if-ne.true) (same_kind t.kind c.args.kind e))

pub returns : goal.returns
returns c = let s = c.args.self.now.text.now in
    let t = c.token-t.result in
    came_to _ _ (piece s (numbered t)) t.to (of_kind s c.args.at (numbered t) c.token-t.ensures.told (code_of c.args.kind) (ap code_of (differs_false the_type tt t.kind c.args.kind (sym c.ne.ensures ∙ c.if-ne.false)))) refl
