-- Where all names are different, a name is found under one number only.
use Prim.Native.Nat.{ℕ, ◌<◌}
use native.Mathlib.Omega.{arith}
use native.Mathlib.Decide.{ℕ_discrete, dec_lt}
use mathlib.Core.Path.{◌≡◌, sym, ◌∙◌}
use mathlib.Core.List.{List}
use mathlib.Core.Logic.{inl, inr}
use Rattle.names.specs.Names.{name_at, Found, AllDifferent}

module _ (n : ℕ) (names lens : List ℕ) (different : AllDifferent n names lens) where
  -- Two numbers of the same name are one.
  pub number_unique : (j k : ℕ) → j < n → k < n → name_at names lens j ≡ name_at names lens k → j ≡ k
  number_unique j k h l e = by_place (ℕ_discrete j k) (dec_lt j k)
    where
      by_place : Dec (j ≡ k) → Dec (j < k) → j ≡ k
      by_place (yes same) before? = same
      by_place (no other) (yes before) = absurd (different j k before l e)
      by_place (no other) (no before) = absurd (different k j (omega arith) h (sym e))

  pub found_unique : (w : List ℕ) (r q : ℕ) → Found n names lens w r → Found n names lens w q → r ≡ q
  found_unique w r q (inl f) (inl g) = number_unique r q f.0 g.0 (f.1 ∙ sym g.1)
  found_unique w r q (inl f) (inr g) = absurd (g.1 r f.0 f.1)
  found_unique w r q (inr f) (inl g) = absurd (f.1 q g.0 g.1)
  found_unique w r q (inr f) (inr g) = f.0 ∙ sym g.0
