-- The bytes between two places, a byte at a time.
use mathlib.Core.Path.{◌≡◌, ◌∙◌, ap}
use mathlib.Core.List.{List, [], ◌∷◌}
use Prim.Native.Nat.{ℕ, suc, ◌+◌, ◌-◌, ◌<◌, ◌≤◌}
use native.Mathlib.Omega.{arith}
use lib.ListN.{length, take, drop, get_or, length-take, length-drop}
use Rattle.text.specs.Lexicon.{bytes}
use Rattle.text.proofs.Runs.{drop_more}

module _ (s : List ℕ) (a b : ℕ) where
  pub bytes_more : a < b → b ≤ length s → bytes s a b ≡ get_or s a 0 ∷ bytes s (a + 1) b
  bytes_more h k = ap (λ (n : ℕ). take n (drop a s)) (left h) ∙ ap (take (suc (b - (a + 1)))) (drop_more s a (omega arith))
    where
      left : a < b → b - a ≡ suc (b - (a + 1))
      left g = omega arith

  pub bytes_none : b ≤ a → bytes s a b ≡ []
  bytes_none h = ap (λ (n : ℕ). take n (drop a s)) (left h)
    where
      left : b ≤ a → b - a ≡ 0
      left g = omega arith

  pub length_bytes : a ≤ b → b ≤ length s → length (bytes s a b) ≡ b - a
  length_bytes h k = simp (length-take, length-drop) (omega arith)
