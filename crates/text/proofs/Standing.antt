-- The token that stands at a place, by the class of the byte there.
use mathlib.Core.Path.{◌≡◌, sym, ◌∙◌, ap}
use mathlib.Core.Bool.{false, cond}
use mathlib.Core.List.{List}
use Prim.Native.Nat.{ℕ, ◌+◌, ◌<◌, ◌≤◌}
use native.Mathlib.Omega.{arith}
use lib.Dec.{eqb}
use lib.ListN.{length, drop, get_or, drop_of_length-le}
use borrow.Author.Tests.{ne_eqb}
use Rattle.text.specs.Lexicon.{Tok, class, skipped, tok, piece_at, token_of, start, token_at}
use Rattle.text.proofs.Classes.{not_white, not_semicolon}
use Rattle.text.proofs.Runs.{drop_more, passed, skip_end, skip_stop}

abbrev pub standing : List ℕ → ℕ → Tok
standing s f = token_of s f (drop f s)

-- The token at place f by the class k.
abbrev pub chosen : List ℕ → ℕ → ℕ → Tok
chosen s f k = cond (eqb k 1) (tok 1 f (f + 1)) (cond (eqb k 2) (tok 2 f (f + 1)) (cond (eqb k 4) (tok 6 f (f + 1)) (piece_at s f)))

module _ (s : List ℕ) (f : ℕ) where
  pub stands_end : length s ≤ f → standing s f ≡ tok 0 f f
  stands_end h = ap (token_of s f) (drop_of_length-le s h)

  pub stands : f < length s → standing s f ≡ chosen s f (class (get_or s f 0))
  stands h = ap (token_of s f) (drop_more s f h)

  pub chosen_piece : (k : ℕ) → (k ≡ 1 → ⊥) → (k ≡ 2 → ⊥) → (k ≡ 4 → ⊥) → chosen s f k ≡ piece_at s f
  chosen_piece k one two four = simp (ne_eqb k 1 one, ne_eqb k 2 two, ne_eqb k 4 four)

module _ (s : List ℕ) (i at : ℕ) (e : start s i ≡ start s at) where
  -- The token is found from place at on where no byte is skipped at place i.
  found_at : skipped false (drop i s) ≡ 0 → standing s i ≡ token_at s at
  found_at none = ap (standing s) here
    where
      here : i ≡ start s at
      here = omega (arith, e, none)

  pub found_end : length s ≤ i → tok 0 i i ≡ token_at s at
  found_end h = sym (stands_end s i h) ∙ found_at (skip_end s i false h)

  pub found : (k : ℕ) → i < length s → k ≡ class (get_or s i 0) → (k ≡ 0 → ⊥) → (k ≡ 3 → ⊥) → chosen s i k ≡ token_at s at
  found k h is white-not comment-not = ap (chosen s i) is ∙ sym (stands s i h) ∙ found_at (skip_stop s i false h outside)
    where
      outside : passed false (get_or s i 0) ≡ 0
      outside = simp (not_white (get_or s i 0) (λ z. white-not (is ∙ z)), not_semicolon (get_or s i 0) (λ z. comment-not (is ∙ z)))
