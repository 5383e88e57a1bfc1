-- An operator under `not` as one rule: the names are swapped where just one of the two negates, and the limit is one less where just one of the two is strict.
-- By the four words and both parities.
use mathlib.Core.Path.{◌≡◌, refl, sym, subst, ap}
use mathlib.Core.Bool.{Bool, true, false, cond, false≢true}
use mathlib.Core.List.{List}
use Prim.Native.Nat.{ℕ}
use lib.IntN.{ℤ, pos, ◌-ℤ◌}
use Rattle.text.specs.Lexicon.{either, same_bytes}
use Rattle.text.proofs.Equal.{same_equal}
use Rattle.words.specs.Words.{compares, W_at_most, W_below, W_at_least, W_above}
use Rattle.reading.specs.Tree.{Named, named, said, under}
use Rattle.reading.specs.Parts.{final, flips, lessens}
use Rattle.reading.proofs.Signs.{not_less, not_not}

-- The rule as it is made.
abbrev pub made : (flip less : Bool) → List ℕ → List ℕ → ℤ → Named
made flip less x y c = named (cond flip y x) (cond flip x y) (final flip less c)

module _ (x y : List ℕ) (c : ℤ) where
  abbrev Says : List ℕ → Bool → Type 0
  Says w odd = made (flips w odd) (lessens w odd) x y c ≡ under odd (said w x y c)

  at_most : (odd : Bool) → Says W_at_most odd
  unfolding same_bytes
  at_most true = refl
  at_most false = refl

  below : (odd : Bool) → Says W_below odd
  unfolding same_bytes
  below true = ap (named y x) (sym (not_less c))
  below false = refl

  at_least : (odd : Bool) → Says W_at_least odd
  unfolding same_bytes
  at_least true = ap (named x y) (sym (not_not (c -ℤ pos 1)))
  at_least false = ap (named y x) (sym (not_less c))

  above : (odd : Bool) → Says W_above odd
  unfolding same_bytes
  above true = ap (named x y) (sym (not_not c))
  above false = refl

  pub turns : (w : List ℕ) (odd : Bool) → compares w ≡ true → Says w odd
  turns w odd = by_word (same_bytes w W_at_most) (same_bytes w W_below) (same_bytes w W_at_least) (same_bytes w W_above) refl refl refl refl
    where
      by_word : (m b l v : Bool) → same_bytes w W_at_most ≡ m → same_bytes w W_below ≡ b → same_bytes w W_at_least ≡ l → same_bytes w W_above ≡ v →
          either m (either b (either l v)) ≡ true → Says w odd
      by_word true b l v em eb el ev h = subst (λ (k : List ℕ). Says k odd) (sym (same_equal w W_at_most em)) (at_most odd)
      by_word false true l v em eb el ev h = subst (λ (k : List ℕ). Says k odd) (sym (same_equal w W_below eb)) (below odd)
      by_word false false true v em eb el ev h = subst (λ (k : List ℕ). Says k odd) (sym (same_equal w W_at_least el)) (at_least odd)
      by_word false false false true em eb el ev h = subst (λ (k : List ℕ). Says k odd) (sym (same_equal w W_above ev)) (above odd)
      by_word false false false false em eb el ev h = absurd (false≢true h)
