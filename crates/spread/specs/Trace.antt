-- How each step came by its gain: by which rule, and from which step before it.
use Rattle.std.specs.Prelude.{ℕ, suc, ◌+◌, ◌<◌, ◌≡◌}
use Rattle.meaning.specs.Rules.{Rule}
use Rattle.meaning.specs.Reckoning.{up, dn}

-- The held rule under i gave step v its day: it leads to v from a step of lower rank, and the days p leave it nothing to spare.
pub record CameBy (R : ℕ → Rule) (H : ℕ → Type 0) (p rank : ℕ → ℕ) (v i : ℕ) : Type 0 where
  pub held : H i
  pub leads_to : (R i).second ≡ v
  pub tight : p (R i).first + dn (R i).amount ≡ p v + up (R i).amount
  pub before : rank (R i).first < rank v

-- Each step below n with a gain, whose day is d + g, has its day of low where `by` has 0 for it, and came by the rule under i where `by` has
-- i + 1. The ranks are below n, so that a walk back has at most n steps, and different ones.
pub record Traced (n : ℕ) (R : ℕ → Rule) (H : ℕ → Type 0) (d low g by : ℕ → ℕ) : Type 0 where
  pub rank : ℕ → ℕ
  pub rank_in : (v : ℕ) → v < n → 0 < g v → rank v < n
  pub not_raised : (v : ℕ) → v < n → 0 < g v → by v ≡ 0 → d v + g v ≡ low v
  pub raised : (v : ℕ) → v < n → 0 < g v → (i : ℕ) → by v ≡ suc i → CameBy R H (λ w. d w + g w) rank v i
