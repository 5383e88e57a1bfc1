-- `reading::reader::Reader::amount` meets its contract: the first token says which of the two forms stands there, and `Amounts` follows each.
use mathlib.Core.Path.{refl, ap, ◌∙◌}
use Prim.Native.Nat.{ℕ}
use native.Mathlib.Omega.{arith}
use lib.IntN.{pos, neg_ℤ}
use mir.Syntax.{w32}
use mir.ValLaws.{to_z_pos}
use Rattle.reading.proofs.Signs.{negated_small}
use Rattle.text.specs.Lexicon.{CLOSE, NUMERAL}
use Rattle.text.specs.Numbered.{code_of, numbered}
use Rattle.words.specs.Words.{W_minus}
use Rattle.reading.specs.Tree.{Amount}
use Rattle.reading.specs.Reading.{piece, expect, expect_word}
use Rattle.reading.proofs.Steps.{read_to, read_as, goes_on, halts, halted, came_to}
use Rattle.reading.proofs.Amounts.{plain_form, minus-form}
use Rattle.reading.proofs.reader.Reader.amount.Goals as goal

pub returns-in-Numeral : goal.returns-in-Numeral
returns-in-Numeral c = let s = c.args.self.now.text.now in
    let t = c.token-t.result in
    came_to _ _ (Amount.plus (piece s (numbered t))) t.to (plain_form s c.args.at (numbered t) c.token-t.ensures.told (ap code_of c.in-Numeral.is))
    (refl, to_z_pos w32 c.value.result (omega (arith, c.value.ensures.1)) ∙ ap pos c.value.ensures.0)

pub returns-in_err-n-in-Open : goal.returns-in_err-n-in-Open
returns-in_err-n-in-Open c = let s = c.args.self.now.text.now in
    let t = c.token-t.result in
    let m = c.in_ok-minus-in-Open.minus in
    let minus = read_to (expect_word W_minus s t.to) m c.in_ok-minus-in-Open.ensures in
    halted _ _ _ _ c.from_residual-in_err-n-in-Open.ensures.1 (λ y h. h)
    (minus-form s c.args.at (numbered t) c.token-t.ensures.told (ap code_of c.in-Open.is) m minus.0 minus.1 ∙ halts (expect NUMERAL s m) _ _ c.in_err-n-in-Open.ensures.heard)

pub returns-in_err-end-in-Open : goal.returns-in_err-end-in-Open
returns-in_err-end-in-Open c = let s = c.args.self.now.text.now in
    let t = c.token-t.result in
    let m = c.in_ok-minus-in-Open.minus in
    let minus = read_to (expect_word W_minus s t.to) m c.in_ok-minus-in-Open.ensures in
    let n = read_as (expect NUMERAL s m) _ c.in_ok-n-in-Open.past c.in_ok-n-in-Open.ensures.heard in
    halted _ _ _ _ c.from_residual-in_err-end-in-Open.ensures.1 (λ y h. h)
    (minus-form s c.args.at (numbered t) c.token-t.ensures.told (ap code_of c.in-Open.is) m minus.0 minus.1
    ∙ goes_on (expect NUMERAL s m) _ n.0 c.in_ok-n-in-Open.past n.1.0 ∙ halts (expect CLOSE s c.in_ok-n-in-Open.past) _ _ c.in_err-end-in-Open.ensures)

pub returns-in_ok-end-in-Open : goal.returns-in_ok-end-in-Open
returns-in_ok-end-in-Open c = let s = c.args.self.now.text.now in
    let t = c.token-t.result in
    let m = c.in_ok-minus-in-Open.minus in
    let p = c.in_ok-n-in-Open.past in
    let minus = read_to (expect_word W_minus s t.to) m c.in_ok-minus-in-Open.ensures in
    let n = read_as (expect NUMERAL s m) _ p c.in_ok-n-in-Open.ensures.heard in
    let end = read_to (expect CLOSE s p) c.in_ok-end-in-Open.end c.in_ok-end-in-Open.ensures in
    came_to _ _ (Amount.minus n.0) c.in_ok-end-in-Open.end
    (minus-form s c.args.at (numbered t) c.token-t.ensures.told (ap code_of c.in-Open.is) m minus.0 minus.1
    ∙ goes_on (expect NUMERAL s m) _ n.0 p n.1.0 ∙ goes_on (expect CLOSE s p) _ end.0 c.in_ok-end-in-Open.end end.1)
    (refl, negated_small c.in_ok-n-in-Open.n c.in_ok-n-in-Open.ensures.small ∙ ap (λ (v : ℕ). neg_ℤ (pos v)) n.1.1)
