-- A number cut at the cap after each digit is the number cut at the end: what is past the cap stays past it.
use mathlib.Core.Path.{◌≡◌, sym, ◌∙◌, ap}
use mathlib.Core.List.{List, [], ◌∷◌}
use Prim.Native.Nat.{ℕ, ◌+◌, ◌*◌, ◌-◌, ◌<◌, ◌≤◌, min}
use native.Mathlib.Omega.{arith}
use native.Mathlib.Decide.{dec_le}
use lib.ListN.{length, get_or, drop, drop_of_length-le}
use borrow.Author.Tests.{le-leb, lt-leb}
use Rattle.text.specs.Lexicon.{cut, number}
use Rattle.text.proofs.Runs.{drop_more}

pub cut_small : (n : ℕ) → n ≤ 10000000 → cut n ≡ n
cut_small n h = simp (le-leb n 10000000 h)

cut_past : (n : ℕ) → 10000000 < n → cut n ≡ 10000000
cut_past n h = simp (lt-leb n 10000000 h)

cut_large : (n : ℕ) → 10000000 ≤ n → cut n ≡ 10000000
cut_large n h = by_size (dec_le n 10000000)
  where
    by_size : Dec (n ≤ 10000000) → cut n ≡ 10000000
    by_size (yes k) = cut_small n k ∙ omega arith
    by_size (no d) = cut_past n (omega arith)

pub cut_within : (n : ℕ) → cut n ≤ 10000000
cut_within n = by_size (dec_le n 10000000)
  where
    by_size : Dec (n ≤ 10000000) → cut n ≤ 10000000
    by_size (yes k) = omega (arith, cut_small n k)
    by_size (no d) = omega (arith, cut_past n (omega arith))

number_grows : (n : ℕ) (l : List ℕ) → n ≤ number n l
unfolding number
number_grows n [] = omega arith
number_grows n (b ∷ l) = omega (arith, number_grows (10 * n + (b - 48)) l)

cut_first : (n : ℕ) (l : List ℕ) → cut (number (cut n) l) ≡ cut (number n l)
cut_first n l = by_size (dec_le n 10000000)
  where
    past : (m : ℕ) → 10000000 ≤ m → cut (number m l) ≡ 10000000
    past m h = cut_large (number m l) (omega (arith, number_grows m l))

    by_size : Dec (n ≤ 10000000) → cut (number (cut n) l) ≡ cut (number n l)
    by_size (yes k) = ap (λ (m : ℕ). cut (number m l)) (cut_small n k)
    by_size (no d) = past (cut n) (omega (arith, cut_large n (omega arith))) ∙ sym (past n (omega arith))

pub cut_min : (n : ℕ) → min 10000000 n ≡ cut n
cut_min n = by_size (dec_le n 10000000)
  where
    by_size : Dec (n ≤ 10000000) → min 10000000 n ≡ cut n
    by_size (yes k) = omega (arith, cut_small n k)
    by_size (no d) = omega (arith, cut_past n (omega arith))

module _ (l : List ℕ) (i n : ℕ) where
  -- One digit more: d is its value and m what is read then.
  pub number_more : (d m : ℕ) → i < length l → d ≡ get_or l i 0 - 48 → m ≡ min 10000000 (10 * n + d) → cut (number m (drop (i + 1) l)) ≡ cut (number n (drop i l))
  unfolding number
  number_more d m h e c =
      ap (λ (v : ℕ). cut (number v (drop (i + 1) l))) (c ∙ cut_min (10 * n + d) ∙ ap (λ (v : ℕ). cut (10 * n + v)) e)
      ∙ cut_first (10 * n + (get_or l i 0 - 48)) (drop (i + 1) l)
      ∙ ap (λ (r : List ℕ). cut (number n r)) (sym (drop_more l i h))

  pub number_end : n ≤ 10000000 → length l ≤ i → cut (number n (drop i l)) ≡ n
  unfolding number
  number_end h k = ap (λ (r : List ℕ). cut (number n r)) (drop_of_length-le l k) ∙ cut_small n h
