-- What the class of a byte tells of the byte: one test of a byte and a class, which holds in each case of the definition of classes.
use mathlib.Core.Path.{◌≡◌, refl, subst, sym, ap}
use mathlib.Core.Bool.{Bool, true, false, cond}
use Prim.Native.Nat.{ℕ, ◌<◌, ◌≤◌}
use native.Mathlib.Omega.{arith}
use lib.Dec.{T, eqb, leb, ltb, ltb→lt, eqb→eq, leb→le, le→leb}
use borrow.Author.Tests.{eq-eqb}
use Rattle.text.specs.Lexicon.{both, either, from_to, white, hex_letter, letter, class, digit}
use Rattle.text.proofs.Reading.{both_left, both_right, both_of, implies, given}

pub true_of : (t : Bool) → T t → t ≡ true
true_of true h = refl
true_of false h = absurd h

pub false_of : (t : Bool) → (T t → ⊥) → t ≡ false
false_of true h = absurd (h tt)
false_of false h = refl

pick : (P : ℕ → Type 0) (t : Bool) (x y : ℕ) → (T t → P x) → P y → P (cond t x y)
pick P true x y yes-case no-case = yes-case tt
pick P false x y yes-case no-case = no-case

-- Of class WHITE is white space alone, of class SEMICOLON the semicolon, of the classes of digits the digits; and there are sixteen classes.
abbrev telling : ℕ → ℕ → Bool
telling b k = both (implies (eqb k 0) (white b)) (both (implies (eqb k 3) (eqb b 59)) (both (implies (digit k) (from_to 48 57 b)) (ltb k 16)))

one_digit : (b d : ℕ) → T (eqb b d) → 48 ≤ d → d ≤ 57 → T (from_to 48 57 b)
one_digit b d t lo hi = both_of (leb 48 b) (leb b 57) (le→leb 48 b (omega (arith, eqb→eq b d t))) (le→leb b 57 (omega (arith, eqb→eq b d t)))

class_telling : (b : ℕ) → T (telling b (class b))
class_telling b =
    on (white b) 0 _ (λ t. both_of (white b) true t tt)
    (on (eqb b 40) 1 _ (λ t. tt)
    (on (eqb b 41) 2 _ (λ t. tt)
    (on (eqb b 59) 3 _ (λ t. both_of (eqb b 59) true t tt)
    (on (either (eqb b 124) (eqb b 34)) 4 _ (λ t. tt)
    (on (eqb b 48) 6 _ (λ t. both_of (from_to 48 57 b) true (one_digit b 48 t (omega arith) (omega arith)) tt)
    (on (eqb b 49) 7 _ (λ t. both_of (from_to 48 57 b) true (one_digit b 49 t (omega arith) (omega arith)) tt)
    (on (from_to 50 57 b) 8 _ (λ t. both_of (from_to 48 57 b) true (wider t) tt)
    (on (eqb b 46) 9 _ (λ t. tt)
    (on (eqb b 35) 10 _ (λ t. tt)
    (on (eqb b 58) 11 _ (λ t. tt)
    (on (eqb b 98) 12 _ (λ t. tt)
    (on (eqb b 120) 13 _ (λ t. tt)
    (on (hex_letter b) 14 _ (λ t. tt)
    (on (letter b) 15 5 (λ t. tt) tt))))))))))))))
  where
    on : (t : Bool) (x y : ℕ) → (T t → T (telling b x)) → T (telling b y) → T (telling b (cond t x y))
    on = pick (λ (k : ℕ). T (telling b k))

    wider : T (from_to 50 57 b) → T (from_to 48 57 b)
    wider t =
        both_of (leb 48 b) (leb b 57)
        (le→leb 48 b (omega (arith, leb→le 50 b (both_left (leb 50 b) (leb b 57) t))))
        (both_right (leb 50 b) (leb b 57) t)

module _ (b : ℕ) where
  abbrev part₀ : Bool
  part₀ = implies (eqb (class b) 0) (white b)

  abbrev part₁ : Bool
  part₁ = implies (eqb (class b) 3) (eqb b 59)

  abbrev part₂ : Bool
  part₂ = implies (digit (class b)) (from_to 48 57 b)

  pub class_small : class b < 16
  class_small = ltb→lt (class b) 16 (both_right part₂ (ltb (class b) 16) (both_right part₁ (both part₂ (ltb (class b) 16)) (both_right part₀ (both part₁ (both part₂ (ltb (class b) 16))) (class_telling b))))

  pub white_of : class b ≡ 0 → white b ≡ true
  white_of e =
      true_of (white b)
      (given (eqb (class b) 0) (white b) (both_left part₀ (both part₁ (both part₂ (ltb (class b) 16))) (class_telling b)) (subst T (sym (eq-eqb (class b) 0 e)) tt))

  pub semicolon_of : class b ≡ 3 → eqb b 59 ≡ true
  semicolon_of e =
      true_of (eqb b 59)
      (given (eqb (class b) 3) (eqb b 59) (both_left part₁ (both part₂ (ltb (class b) 16)) (both_right part₀ (both part₁ (both part₂ (ltb (class b) 16))) (class_telling b))) (subst T (sym (eq-eqb (class b) 3 e)) tt))

  pub digit_of : T (digit (class b)) → T (from_to 48 57 b)
  digit_of =
      given (digit (class b)) (from_to 48 57 b)
      (both_left part₂ (ltb (class b) 16) (both_right part₁ (both part₂ (ltb (class b) 16)) (both_right part₀ (both part₁ (both part₂ (ltb (class b) 16))) (class_telling b))))

  pub not_white : (class b ≡ 0 → ⊥) → white b ≡ false
  not_white d = false_of (white b) (λ t. d (rw (true_of (white b) t)))

  pub not_semicolon : (class b ≡ 3 → ⊥) → eqb b 59 ≡ false
  not_semicolon d = false_of (eqb b 59) (λ t. d (ap class (eqb→eq b 59 t)))
