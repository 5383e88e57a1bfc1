-- What a token says of its place and its bytes: by the cases of what stands behind white space and comments. These are the laws for callers of
-- `text::token` and `text::symbol`; the contract's equation is the last argument of `token_placed`.
use mathlib.Core.Path.{◌≡◌, refl, sym, subst, ap, ◌∙◌}
use mathlib.Core.Bool.{false}
use mathlib.Core.List.{List}
use Prim.Native.Nat.{ℕ, ◌+◌, ◌-◌, ◌<◌, ◌≤◌}
use native.Mathlib.Omega.{arith}
use native.Mathlib.Decide.{ℕ_discrete, dec_lt}
use lib.Dec.{T, leb, leb→le}
use lib.ListN.{length, drop, get_or, length-drop}
use lib.Seq.{get_or-drop, get_or-take}
use Rattle.text.specs.Lexicon.{Tok, digit as digit-class, class, whole, extent, skipped, tok, piece_at, start, token_at, bytes}
use Rattle.text.proofs.Reading.{both_left, both_right}
use Rattle.text.proofs.Classes.{digit_of}
use Rattle.text.proofs.Runs.{piece_on}
use Rattle.text.proofs.Standing.{chosen, stands_end, stands, chosen_piece}
use Rattle.text.proofs.Extents.{skipped_within, skipped_fresh, extent_within, whole_small, Fresh}
use Rattle.text.proofs.Pieces.{kind_known, kind_some, kind_numeral, numeral_digits}

abbrev pub Digit : ℕ → Type 0
Digit b = (48 ≤ b) × (b ≤ 57)

-- The token t, found from place i on in the text s.
pub record Placed (s : List ℕ) (i : ℕ) (t : Tok) : Type 0 where
  pub starts : i ≤ t.from
  pub ordered : t.from ≤ t.to
  pub within : i ≤ length s → t.to ≤ length s
  pub some : (t.kind ≡ 0 → ⊥) → (t.from < t.to) × (t.to ≤ length s) × (i < t.to)
  pub known : t.kind ≤ 6
  pub last : t.kind ≡ 0 → length s ≤ t.to
  pub digits : t.kind ≡ 3 → (k : ℕ) → t.from ≤ k → k < t.to → Digit (get_or s k 0)

module _ (s : List ℕ) (i : ℕ) where
  at_end : (f : ℕ) → i ≤ f → (i ≤ length s → f ≤ length s) → length s ≤ f → Placed s i (tok 0 f f)
  at_end f h w e = record {
    starts = h;
    ordered = omega arith;
    within = w;
    some = λ d. absurd (d refl);
    known = omega arith;
    last = λ z. e;
    digits = λ z. absurd (omega arith);
  }

  of_one : (k f : ℕ) → i ≤ f → f < length s → 0 < k → k ≤ 6 → (k ≡ 3 → ⊥) → Placed s i (tok k f (f + 1))
  of_one k f h l lo hi d = record {
    starts = h;
    ordered = omega arith;
    within = λ w. omega arith;
    some = λ z. (omega arith, omega arith, omega arith);
    known = hi;
    last = λ z. absurd (omega arith);
    digits = λ z. absurd (d z);
  }

  of_piece : (f : ℕ) → i ≤ f → f < length s → 4 < class (get_or s f 0) → Placed s i (piece_at s f)
  of_piece f h l c =
      let small : whole 0 (drop f s) < 16 = whole_small 0 (drop f s) (omega arith) in
      let some = (piece_on s f 0 l c).1 in
      let fits : f + extent (drop f s) ≤ length s = omega (arith, extent_within (drop f s), length-drop f s) in
      record {
        starts = h;
        ordered = omega arith;
        within = λ w. fits;
        some = λ z. (omega arith, fits, omega arith);
        known = kind_known (whole 0 (drop f s)) small;
        last = λ z. absurd (omega (arith, kind_some (whole 0 (drop f s)) small));
        digits = λ z k lo hi. digit k lo (numeral_digits 0 (drop f s) (omega arith) (kind_numeral (whole 0 (drop f s)) small z) (k - f) (omega arith));
      }
    where
      digit : (k : ℕ) → f ≤ k → T (digit-class (class (get_or (drop f s) (k - f) 0))) → Digit (get_or s k 0)
      digit k lo t =
          let b = get_or s k 0 in
          let place : f + (k - f) ≡ k = omega arith in
          let d = digit_of b (subst (λ (m : ℕ). T (digit-class (class m))) (get_or-drop f s (k - f) 0 ∙ ap (λ (m : ℕ). get_or s m 0) place) t) in
          (leb→le 48 b (both_left (leb 48 b) (leb b 57) d), leb→le b 57 (both_right (leb 48 b) (leb b 57) d))

  of_class : (f : ℕ) → i ≤ f → f < length s → Fresh (get_or s f 0) → Placed s i (chosen s f (class (get_or s f 0)))
  of_class f h l new = by_kind (class (get_or s f 0)) refl (ℕ_discrete _ 1) (ℕ_discrete _ 2) (ℕ_discrete _ 4)
    where
      by_kind : (k : ℕ) → k ≡ class (get_or s f 0) → Dec (k ≡ 1) → Dec (k ≡ 2) → Dec (k ≡ 4) → Placed s i (chosen s f k)
      by_kind k e (yes one) two four = subst (λ (n : ℕ). Placed s i (chosen s f n)) (sym one) (of_one 1 f h l (omega arith) (omega arith) (λ z. omega arith))
      by_kind k e (no one) (yes two) four = subst (λ (n : ℕ). Placed s i (chosen s f n)) (sym two) (of_one 2 f h l (omega arith) (omega arith) (λ z. omega arith))
      by_kind k e (no one) (no two) (yes four) = subst (λ (n : ℕ). Placed s i (chosen s f n)) (sym four) (of_one 6 f h l (omega arith) (omega arith) (λ z. omega arith))
      by_kind k e (no one) (no two) (no four) =
          let white : k ≡ 0 → ⊥ = λ z. new.0 (sym e ∙ z) in
          let semicolon : k ≡ 3 → ⊥ = λ z. new.1 (sym e ∙ z) in
          subst (Placed s i) (sym (chosen_piece s f k one two four)) (of_piece f h l (omega arith))

  found : Placed s i (token_at s i)
  found = by_end (dec_lt (start s i) (length s))
    where
      first : i ≤ start s i
      first = omega arith

      rest : skipped false (drop i s) ≤ length s - i
      rest = omega (arith, skipped_within false (drop i s), length-drop i s)

      by_end : Dec (start s i < length s) → Placed s i (token_at s i)
      by_end (yes l) =
          let new : Fresh (get_or s (start s i) 0) = subst Fresh (get_or-drop i s (skipped false (drop i s)) 0) (skipped_fresh false (drop i s) (omega (arith, length-drop i s))) in
          subst (Placed s i) (sym (stands s (start s i) l)) (of_class (start s i) first l new)
      by_end (no d) = subst (Placed s i) (sym (stands_end s (start s i) (omega arith))) (at_end (start s i) first (λ h. omega (arith, rest)) (omega arith))

-- Every token that the contract of `text::token` or `text::symbol` speaks of.
pub token_placed : (s : List ℕ) (i : ℕ) (t : Tok) → t ≡ token_at s i → Placed s i t
token_placed s i t e = subst (Placed s i) (sym e) (found s i)

-- The bytes of a numeral are digits.
pub numeral_bytes : (s : List ℕ) (i : ℕ) (t : Tok) → t ≡ token_at s i → t.kind ≡ 3 → (k : ℕ) → k < t.to - t.from → Digit (get_or (bytes s t.from t.to) k 0)
numeral_bytes s i t e z k h =
    subst Digit (sym (get_or-take (t.to - t.from) (drop t.from s) k 0 h ∙ get_or-drop t.from s k 0))
    ((token_placed s i t e).digits z (t.from + k) (omega arith) (omega arith))
