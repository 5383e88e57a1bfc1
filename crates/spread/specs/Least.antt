-- The earliest plan from given days on: what a spread computes.
use Rattle.std.specs.Prelude.{ℕ, ◌≤◌, ◌<◌}
use Rattle.meaning.specs.Rules.{Rule, Plan}

-- The days low force the days p, over n steps: no day of p is before that of low, and no plan whose days are not before those of low has a
-- day before that of p.
pub record ForcedFrom (n : ℕ) (R : ℕ → Rule) (H : ℕ → Type 0) (low p : ℕ → ℕ) : Type 0 where
  pub not_below : (v : ℕ) → v < n → low v ≤ p v
  pub no_later : (q : ℕ → ℕ) → Plan R H q → ((v : ℕ) → v < n → low v ≤ q v) → (v : ℕ) → v < n → p v ≤ q v

-- p is the earliest of the plans whose days are not before those of low, over n steps.
pub record EarliestFrom (n : ℕ) (R : ℕ → Rule) (H : ℕ → Type 0) (low p : ℕ → ℕ) : Type 0 where
  pub plan : Plan R H p
  pub forced : ForcedFrom n R H low p
