-- The reading of a text is the opening bracket, the command's name and what the name heads: the first two are one token each.
use mathlib.Core.Path.{refl, ◌∙◌}
use Rattle.text.specs.Lexicon.{SYMBOL, token_at}
use Rattle.text.specs.Numbered.{numbered}
use Rattle.reading.specs.declared.Stop.{Stop}
use Rattle.reading.specs.Reading.{piece, lexeme, expect, headed}
use Rattle.reading.specs.Parts.{opening}
use Rattle.reading.proofs.Steps.{read_to, goes_on, halts, halted, hears_as, of_kind, other_kind}
use Rattle.reading.proofs.Opening.{opened}
use Rattle.reading.proofs.reader.Reader.command.Goals as goal

pub returns-in_err-open-clause-heard : goal.returns-in_err-open-clause-heard
returns-in_err-open-clause-heard c = let s = c.args.self.now.text.now in
    halted _ _ _ _ c.from_residual.ensures.1 (λ y h. h) (opened s ∙ halts (opening s) _ _ c.in_err-open.ensures)

pub returns-in_err-name-clause-heard : goal.returns-in_err-name-clause-heard
returns-in_err-name-clause-heard c = let s = c.args.self.now.text.now in
    let a = c.in_ok-open.open in
    let bracket = read_to (opening s) a c.in_ok-open.ensures in
    let no = c.in_err-name.ensures in
    halted _ _ _ _ c.from_residual-in_err-name.ensures.1 (λ y h. h ∙ no.there)
    (opened s ∙ goes_on (opening s) _ bracket.0 a bracket.1 ∙ halts (expect SYMBOL s a) _ (Stop.Wrong (token_at s a).from) (other_kind s a (token_at s a) refl SYMBOL no.other))

pub returns-clause-heard : goal.returns-clause-heard
returns-clause-heard c = let s = c.args.self.now.text.now in
    let a = c.in_ok-open.open in
    let t = c.in_ok-name.name in
    let is = c.in_ok-name.ensures in
    let bracket = read_to (opening s) a c.in_ok-open.ensures in
    hears_as _ (headed (lexeme s (numbered t)) t.from s t.to) _ _
    (opened s ∙ goes_on (opening s) _ bracket.0 a bracket.1 ∙ goes_on (expect SYMBOL s a) _ (piece s (numbered t)) t.to (of_kind s a (numbered t) is.told SYMBOL is.symbol))
    c.headed.ensures.heard
