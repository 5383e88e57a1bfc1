-- `reading::reader::Reader::symbol` meets its contract: the token is there, and its kind is asked.
use mathlib.Core.Path.{sym, ap, ◌∙◌}
use denote.Enum.Bare.{differs_false}
use Rattle.text.specs.contracts.Kind.{the_type}
use Rattle.text.specs.declared.Kind.{Kind}
use Rattle.text.specs.Numbered.{code_of}
use Rattle.reading.proofs.Standing.{symbol_at}
use Rattle.reading.proofs.reader.Reader.symbol.Goals as goal

pub returns : goal.returns
returns c = let t = c.symbol-t.result in
    symbol_at c.args.self.now.text.now c.args.at t c.symbol-t.ensures (ap code_of (differs_false the_type tt t.kind Kind.Symbol (sym c.ne.ensures ∙ c.if-ne.false)))
