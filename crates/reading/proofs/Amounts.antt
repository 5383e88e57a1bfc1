-- An amount that was read: a token that is no bracket says which of the two forms stands there.
use mathlib.Core.Path.{◌≡◌, sym, ap, ◌∙◌}
use mathlib.Core.Bool.{cond}
use mathlib.Core.List.{List}
use Prim.Native.Nat.{ℕ}
use native.Mathlib.Omega.{arith}
use lib.Dec.{eqb}
use borrow.Author.Tests.{eq-eqb, ne_eqb}
use Rattle.text.specs.Lexicon.{Tok, OPEN, NUMERAL, token_at}
use Rattle.words.specs.Words.{W_minus}
use Rattle.reading.specs.Tree.{Piece, Amount}
use Rattle.reading.specs.Reading.{Read, then, piece, expect, expect_word, closed, amount}
use Rattle.reading.proofs.Steps.{goes_on, cond_true, cond_false, of_kind}

module _ (s : List ℕ) where
  abbrev signless : Read Piece → Read Amount
  signless R = then R (λ n j. Read.got (Amount.plus n) j)

  abbrev numbered : Read Piece → Read Amount
  numbered R = then R (λ n k. closed s (Amount.minus n) k)

  abbrev signed : Read Piece → Read Amount
  signed R = then R (λ _ j. numbered (expect NUMERAL s j))

  abbrev amount_from : ℕ → Tok → Read Amount
  amount_from i t = cond (eqb t.kind OPEN) (signed (expect_word W_minus s t.to)) (signless (expect NUMERAL s i))

  module _ (i : ℕ) (t : Tok) (e : t ≡ token_at s i) where
    pub plain_form : t.kind ≡ NUMERAL → amount s i ≡ Read.got (Amount.plus (piece s t)) t.to
    plain_form h = sym (ap (amount_from i) e) ∙ cond_false (eqb t.kind OPEN) (signed (expect_word W_minus s t.to)) (signless (expect NUMERAL s i)) (ne_eqb t.kind OPEN (λ z. omega (arith, h, z))) ∙ ap signless (of_kind s i t e NUMERAL h)

    -- What stands behind the bracket and the minus.
    pub minus-form : t.kind ≡ OPEN → (m : ℕ) (w : Piece) → expect_word W_minus s t.to ≡ Read.got w m → amount s i ≡ numbered (expect NUMERAL s m)
    minus-form h m w f = sym (ap (amount_from i) e) ∙ cond_true _ _ _ (eq-eqb _ _ h) ∙ goes_on (expect_word W_minus s t.to) _ w m f
