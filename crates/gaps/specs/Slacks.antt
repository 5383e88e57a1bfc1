-- What the making of the gap table reckons with: slacks, which are natural numbers. No promise of a call cites it.
-- Over days p that keep every rule held, the pair x, y has the slack w where day(x) - day(y) <= w + p(x) - p(y) is what is known of it.
use Rattle.std.specs.Prelude.{ℕ, zero, suc, ◌+◌, ◌≤◌, ◌<◌, min, ◌≡◌, [], cond, ◌⊎◌, leb, ℤ, pos, ◌+ℤ◌, ◌-ℤ◌, length, get_or, ◌≤ℤ◌, ◌<ℤ◌}
use Rattle.meaning.specs.Bounds.{NO_LIMIT}
use Rattle.meaning.specs.Rules.{Rule}
use Rattle.meaning.specs.Reckoning.{up, dn}
use Rattle.gaps.specs.Gaps.{Gaps, cell, InYard}

-- The slack of a pair of which nothing is known: more than any slacks of rules add up to.
abbrev pub NONE : ℕ
NONE = 1125899906842624

-- The rule under i has w days to spare.
abbrev pub Spares : (ℕ → Rule) → (ℕ → ℕ) → ℕ → ℕ → Type 0
Spares R p i w = w + p (R i).first + dn (R i).amount ≡ p (R i).second + up (R i).amount

-- The slacks that single rules give, over n steps: of each pair the least of the rules held from the one step to the other; 0 of a step to itself; else NONE.
pub record Slacks (n : ℕ) (R : ℕ → Rule) (H : ℕ → Type 0) (p : ℕ → ℕ) (W : ℕ → ℕ → ℕ) : Type 0 where
  pub self : (v : ℕ) → v < n → W v v ≡ 0
  pub under : (i w : ℕ) → H i → Spares R p i w → W (R i).first (R i).second ≤ w
  pub given :
      (x y : ℕ) → x < n → y < n →
      (W x y ≡ NONE) ⊎ ((x ≡ y) × (W x y ≡ 0)) ⊎ ((i : ℕ) × H i × ((R i).first ≡ x) × ((R i).second ≡ y) × Spares R p i (W x y))

-- The slacks with the ways over the steps below k: the least of what it was and the way over the step.
unfoldable pub stages : ℕ → (ℕ → ℕ → ℕ) → ℕ → ℕ → ℕ
stages zero W x y = W x y
stages (suc k) W x y = min (stages k W x y) (stages k W x k + stages k W k y)

-- The cell of the gap table for the pair x, y whose slack is w.
abbrev pub cell_of : (ℕ → ℕ) → ℕ → ℕ → ℕ → ℤ
cell_of p x y w = cond (leb NONE w) (pos NO_LIMIT) (pos (w + p x) -ℤ pos (p y))

-- A cell has no limit, or is so near to 0 that two of them and an amount are added up safely.
abbrev pub NEAR : ℕ
NEAR = 4398046511104

abbrev pub Near : ℤ → Type 0
Near c = (c ≡ pos NO_LIMIT) ⊎ ((up c ≤ NEAR) × (dn c ≤ NEAR))

-- r is the smaller of the cell a and the way p + c + q, which is none where p or q has no limit.
abbrev pub SmallerOf : ℤ → ℤ → ℤ → ℤ → ℤ → Type 0
SmallerOf a p c q r =
    (((p ≡ pos NO_LIMIT) ⊎ (q ≡ pos NO_LIMIT)) × (r ≡ a))
    ⊎ ((p ≡ pos NO_LIMIT → ⊥) × (q ≡ pos NO_LIMIT → ⊥) × ((((p +ℤ c +ℤ q) <ℤ a) × (r ≡ p +ℤ c +ℤ q)) ⊎ ((a ≤ℤ (p +ℤ c +ℤ q)) × (r ≡ a))))

-- The gap table of n steps with the rule x, y, c added: each cell that is kept is the smaller of what it was and the way over the rule; all others are as before.
pub record Raised (n x y : ℕ) (c : ℤ) (before after : Gaps) : Type 0 where
  pub smaller : (i j : ℕ) → InYard n i j → SmallerOf (cell before i j) (cell before i x) c (cell before y j) (cell after i j)
  pub others : (i j : ℕ) → (InYard n i j → ⊥) → cell after i j ≡ cell before i j
  pub as_many : length after ≡ length before
  pub as_long : (i : ℕ) → length (get_or after i []) ≡ length (get_or before i [])
