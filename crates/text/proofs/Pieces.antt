-- The kind of a piece, and that a numeral has digits alone: tests that antt computes over all pieces and classes, and an induction on the text.
use mathlib.Core.Path.{◌≡◌, sym, subst}
use mathlib.Core.Bool.{Bool}
use mathlib.Core.List.{List, [], ◌∷◌}
use Prim.Native.Nat.{ℕ, suc, zero, ◌<◌, ◌≤◌}
use native.Mathlib.Omega.{arith}
use native.Mathlib.Decide.{dec_le}
use lib.Dec.{T, eqb, leb, ltb, leb→le, ltb→lt}
use lib.ListN.{get_or}
use borrow.Author.Tests.{eq-eqb}
use Rattle.text.specs.Lexicon.{both, class, digit, grown, kind, whole, extent}
use Rattle.text.proofs.Reading.{below, at, both_left, both_right, grown_small, implies, given}
use Rattle.text.proofs.Classes.{class_small}
use Rattle.text.proofs.Runs.{whole_stop, whole_on, extent_stop, extent_on}

kind_test : ℕ → Bool
kind_test p = both (leb (kind p) 6) (both (ltb 0 (kind p)) (implies (eqb (kind p) 3) (leb p 2)))

kind_tested : (p : ℕ) → p < 16 → T (kind_test p)
unfolding kind_test
kind_tested p h = at 16 kind_test tt p h

module _ (p : ℕ) (h : p < 16) where
  pub kind_known : kind p ≤ 6
  unfolding kind_test
  kind_known = leb→le (kind p) 6 (both_left (leb (kind p) 6) (both (ltb 0 (kind p)) (implies (eqb (kind p) 3) (leb p 2))) (kind_tested p h))

  kind_rest : T (both (ltb 0 (kind p)) (implies (eqb (kind p) 3) (leb p 2)))
  unfolding kind_test
  kind_rest = both_right (leb (kind p) 6) (both (ltb 0 (kind p)) (implies (eqb (kind p) 3) (leb p 2))) (kind_tested p h)

  pub kind_some : 0 < kind p
  kind_some = ltb→lt 0 (kind p) (both_left (ltb 0 (kind p)) (implies (eqb (kind p) 3) (leb p 2)) kind_rest)

  pub kind_numeral : kind p ≡ 3 → T (leb p 2)
  kind_numeral e = given (eqb (kind p) 3) (leb p 2) (both_right (ltb 0 (kind p)) (implies (eqb (kind p) 3) (leb p 2)) kind_rest) (subst T (sym (eq-eqb (kind p) 3 e)) tt)

-- What is still nothing or a numeral with one byte more was so before, and the byte is a digit.
digit_test : ℕ → ℕ → Bool
digit_test p k = implies (leb (grown p k) 2) (digit k)

digit_more : (p k : ℕ) → p < 16 → k < 16 → T (leb (grown p k) 2) → T (digit k)
unfolding digit_test
digit_more p k h g = given (leb (grown p k) 2) (digit k) (at 16 (digit_test p) (at 16 (λ (q : ℕ). below 16 (digit_test q)) tt p h) k g)

numeral_test : ℕ → ℕ → Bool
numeral_test p k = implies (leb (grown p k) 2) (leb p 2)

numeral_more : (p k : ℕ) → p < 16 → k < 16 → T (leb (grown p k) 2) → T (leb p 2)
unfolding numeral_test
numeral_more p k h g = given (leb (grown p k) 2) (leb p 2) (at 16 (numeral_test p) (at 16 (λ (q : ℕ). below 16 (numeral_test q)) tt p h) k g)

numeral_before : (p : ℕ) (l : List ℕ) → p < 16 → T (leb (whole p l) 2) → T (leb p 2)
unfolding whole
numeral_before p [] h t = t
numeral_before p (b ∷ l) h t = by-class (numeral_before (grown p (class b)) l (grown_small p (class b) h (class_small b))) (dec_le (class b) 4)
  where
    by-class : (T (leb (whole (grown p (class b)) l) 2) → T (leb (grown p (class b)) 2)) → Dec (class b ≤ 4) → T (leb p 2)
    by-class rest (yes k) = subst (λ (q : ℕ). T (leb q 2)) (whole_stop p b l k) t
    by-class rest (no d) = numeral_more p (class b) h (class_small b) (rest (subst (λ (q : ℕ). T (leb q 2)) (whole_on p b l (omega arith)) t))

-- Every byte of a piece that is a numeral is of a class of digits.
pub numeral_digits : (p : ℕ) (l : List ℕ) → p < 16 → T (leb (whole p l) 2) → (k : ℕ) → k < extent l → T (digit (class (get_or l k 0)))
unfolding extent
numeral_digits p [] h t k g = absurd (omega arith)
numeral_digits p (b ∷ l) h t k g =
    by-class k g (numeral_digits (grown p (class b)) l (grown_small p (class b) h (class_small b))) (dec_le (class b) 4)
  where
    by-class : (k : ℕ) → k < extent (b ∷ l) → (T (leb (whole (grown p (class b)) l) 2) → (j : ℕ) → j < extent l → T (digit (class (get_or l j 0)))) → Dec (class b ≤ 4) → T (digit (class (get_or (b ∷ l) k 0)))
    by-class k g rest (yes c) = absurd (omega (arith, extent_stop b l c))
    by-class zero g rest (no d) = digit_more p (class b) h (class_small b) (numeral_before (grown p (class b)) l (grown_small p (class b) h (class_small b)) (subst (λ (q : ℕ). T (leb q 2)) (whole_on p b l (omega arith)) t))
    by-class (suc j) g rest (no d) = rest (subst (λ (q : ℕ). T (leb q 2)) (whole_on p b l (omega arith)) t) j (omega (arith, extent_on b l (omega arith)))
