-- `reading::reader::Reader::numeral` meets its contract: the token says the number.
use mathlib.Core.Path.{refl, sym, ap, ◌∙◌}
use denote.Enum.Bare.{differs_false}
use Rattle.text.specs.contracts.Kind.{the_type}
use Rattle.text.specs.declared.Kind.{Kind}
use Rattle.text.specs.Lexicon.{NUMERAL}
use Rattle.text.specs.Numbered.{code_of, numbered}
use Rattle.reading.specs.Reading.{piece}
use Rattle.reading.proofs.Steps.{came_to, of_kind}
use Rattle.reading.proofs.reader.Reader.numeral.Goals as goal

pub returns : goal.returns
returns c = let s = c.args.self.now.text.now in
    let t = c.token-t.result in
    record {
      heard = came_to _ _ (piece s (numbered t)) t.to
          (of_kind s c.args.at (numbered t) c.token-t.ensures.told NUMERAL (ap code_of (differs_false the_type tt t.kind Kind.Numeral (sym c.ne.ensures ∙ c.if-ne.false)))) (refl, c.value.ensures.0);
      small = c.value.ensures.1;
    }
