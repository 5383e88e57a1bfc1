-- A token that was found, and its kind as a number.
use mathlib.Core.Path.{◌≡◌, refl, sym, ap, ◌∙◌}
use mathlib.Core.List.{List}
use Prim.Native.Nat.{ℕ, zero, suc}
use mathlib.Core.Bool.{Bool, true, false, not}
use native.Mathlib.Omega.{arith}
use lib.Dec.{eqb}
use Rattle.std.specs.Cmp.Lexicographic.{pointwise}
use Rattle.text.proofs.Equal.{pointwise_same}
use Rattle.text.specs.declared.Tok.{Tok as Given}
use Rattle.text.specs.declared.Kind.{Kind}
use Rattle.text.specs.Lexicon.{SYMBOL, token_at, same_bytes}
use Rattle.text.specs.Numbered.{code_of, numbered}
use Rattle.text.proofs.Tokens.{token_placed}
use Rattle.reading.specs.Parts.{Standing, SymbolAt}

module _ (s : List ℕ) (i : ℕ) (t : Given) (told : numbered t ≡ token_at s i) where
  pub standing : Standing s i t
  standing =
      let p = token_placed s i (numbered t) told in
      record { told = told; ordered = p.ordered; within = λ d. let q = p.some d in (q.2, q.1) }

  pub symbol_at : code_of t.kind ≡ SYMBOL → SymbolAt s i t
  symbol_at k =
      let p = token_placed s i (numbered t) told in
      let q = p.some (λ z. omega (arith, k, z)) in
      record { told = told; symbol = k; ordered = p.ordered; within = (q.2, q.1) }

-- Two kinds with the same number are the same.
unfoldable kind_of : ℕ → Kind
kind_of zero = Kind.End
kind_of (suc zero) = Kind.Open
kind_of (suc (suc zero)) = Kind.Close
kind_of (suc (suc (suc zero))) = Kind.Numeral
kind_of (suc (suc (suc (suc zero)))) = Kind.Symbol
kind_of (suc (suc (suc (suc (suc zero))))) = Kind.Other
kind_of (suc (suc (suc (suc (suc (suc n)))))) = Kind.Bad

coded : (k : Kind) → kind_of (code_of k) ≡ k
unfolding kind_of
coded Kind.End = refl
coded Kind.Open = refl
coded Kind.Close = refl
coded Kind.Numeral = refl
coded Kind.Symbol = refl
coded Kind.Other = refl
coded Kind.Bad = refl

pub same_kind : (k l : Kind) → code_of k ≡ code_of l → k ≡ l
same_kind k l e = sym (coded k) ∙ ap kind_of e ∙ coded l

-- What `!=` of slices says of a word, by the definitions' test.
not_true : (b : Bool) → not b ≡ true → b ≡ false
not_true true e = sym e
not_true false e = refl

not_false : (b : Bool) → not b ≡ false → b ≡ true
not_false true e = refl
not_false false e = sym e

module _ (r : Bool) (found k w : List ℕ) (is : r ≡ not (pointwise eqb found w)) where
  pub word_differs : r ≡ true → found ≡ k → same_bytes k w ≡ false
  word_differs h e = ap (λ l. same_bytes l w) (sym e) ∙ sym (pointwise_same found w) ∙ not_true (pointwise eqb found w) (sym is ∙ h)

  pub word_same : r ≡ false → found ≡ k → same_bytes k w ≡ true
  word_same h e = ap (λ l. same_bytes l w) (sym e) ∙ sym (pointwise_same found w) ∙ not_false (pointwise eqb found w) (sym is ∙ h)

-- What `==` of slices says of two words.
pub equal_words : (r : Bool) (x k y l : List ℕ) → r ≡ pointwise eqb x y → x ≡ k → y ≡ l → r ≡ same_bytes k l
equal_words r x k y l is e f = is ∙ pointwise_same x y ∙ ap (λ z. same_bytes z y) e ∙ ap (same_bytes k) f
