-- What holds of everything that a reader may have read: by its tests, and one reader after another.
use mathlib.Core.Path.{◌≡◌, refl}
use mathlib.Core.Bool.{Bool, true, false, cond}
use Prim.Native.Nat.{ℕ}
use Rattle.reading.specs.Reading.{Read, then}
use Rattle.reading.proofs.Steps.{Always, always_got}

-- What was read and the place past it are so; or reading stopped.
pub record Every {A : Type 0} (P : A → ℕ → Type 0) (r : Read A) : Type 0 where
  pub holds : Always P r

module _ {A : Type 0} (P : A → ℕ → Type 0) where
  pub by_test : (b : Bool) (x y : Read A) → (b ≡ true → Every P x) → (b ≡ false → Every P y) → Every P (cond b x y)
  by_test true x y p q = p refl
  by_test false x y p q = q refl

  pub given : (r : Read A) (a : A) (j : ℕ) → r ≡ Read.got a j → Every P r → P a j
  given r a j e h = always_got P r h.holds a j e

  pub by_then : {B : Type 0} (Q : B → ℕ → Type 0) (r : Read A) (next : A → ℕ → Read B) → Every P r → ((a : A) (j : ℕ) → P a j → Every Q (next a j)) → Every Q (then r next)
  by_then Q (Read.got a j) next h n = n a j h.holds
  by_then Q (Read.stop w j) next h n = record { holds = tt }

  pub weaker : (Q : A → ℕ → Type 0) (r : Read A) → ((a : A) (j : ℕ) → P a j → Q a j) → Every P r → Every Q r
  weaker Q (Read.got a j) f h = record { holds = f a j h.holds }
  weaker Q (Read.stop w j) f h = record { holds = tt }

  pub both_hold : (Q : A → ℕ → Type 0) (r : Read A) → Every P r → Every Q r → Every (λ a j. P a j × Q a j) r
  both_hold Q (Read.got a j) h k = record { holds = (h.holds, k.holds) }
  both_hold Q (Read.stop w j) h k = record { holds = tt }
