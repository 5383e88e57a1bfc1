-- The state of a spread: the gains, the rule by which each step was raised, and the list of the raised steps that are still open.
use Rattle.std.specs.Prelude.{ℕ, suc, ◌+◌, ◌^◌, ◌≤◌, ◌<◌, ◌≡◌, eqb}
use Rattle.meaning.specs.Rules.{Rule}
use Rattle.meaning.specs.Reckoning.{up, dn, count}
use Rattle.spread.specs.Least.{ForcedFrom}
use Rattle.spread.specs.Trace.{CameBy}

-- How many steps below n have no gain.
abbrev pub without_gain : ℕ → (ℕ → ℕ) → ℕ
without_gain n g = count (λ v. eqb (g v) 0) n

-- The first k places of the list hold different steps below n, each with a gain.
pub record Listed (n : ℕ) (g list : ℕ → ℕ) (k : ℕ) : Type 0 where
  pub step : (j : ℕ) → j < k → list j < n
  pub gain : (j : ℕ) → j < k → 0 < g (list j)
  pub once : (i j : ℕ) → i < k → j < k → list i ≡ list j → i ≡ j

-- Step v stands among the first k places of the list.
pub record StandsIn (list : ℕ → ℕ) (k v : ℕ) : Type 0 where
  pub place : ℕ
  pub place_in : place < k
  pub there : list place ≡ v

-- A turn can be made: the gains are small enough to be added to days and amounts, the list has steps below n, and each step without gain
-- has still a place in it.
pub record Ready (n : ℕ) (g list : ℕ → ℕ) (k : ℕ) : Type 0 where
  pub small : (v : ℕ) → v < n → g v < 2 ^ 62
  pub listed_in : (j : ℕ) → j < k → list j < n
  pub room : without_gain n g + k ≤ n

-- No rule, and every rule.
abbrev pub None : ℕ → Type 0
None i = ⊥

abbrev pub Every : ℕ → Type 0
Every i = Unit {0}

-- What the turns keep. A step of rank below `turns` is settled, at the turn that is its rank; every other step is open. `last` is the step
-- that was settled last: of its rules those that Seen holds of have been seen to, and of every other settled step all rules.
pub record Spreading
    (n : ℕ) (R : ℕ → Rule) (H : ℕ → Type 0) (d low : ℕ → ℕ) (turns last : ℕ) (Seen : ℕ → Type 0) (rank g by list : ℕ → ℕ) (k : ℕ) : Type 0 where
  pub forced : ForcedFrom n R H low (λ v. d v + g v)
  pub settled_first : (v w : ℕ) → v < n → w < n → rank v < turns → turns ≤ rank w → g w ≤ g v
  pub last_least : (v : ℕ) → v < n → rank v < turns → g last ≤ g v
  pub kept :
      (i : ℕ) → H i → rank (R i).first < turns → ((R i).first ≡ last → Seen i) →
      d (R i).first + g (R i).first + dn (R i).amount ≤ d (R i).second + g (R i).second + up (R i).amount
  pub open_rank : (v : ℕ) → v < n → turns ≤ rank v → n ≤ rank v
  pub listed : Listed n g list k
  pub listed_open : (j : ℕ) → j < k → turns ≤ rank (list j)
  pub open_listed : (v : ℕ) → v < n → 0 < g v → turns ≤ rank v → StandsIn list k v
  pub counted : turns + (without_gain n g + k) ≤ n
  pub not_raised : (v : ℕ) → v < n → 0 < g v → by v ≡ 0 → d v + g v ≡ low v
  pub raised : (v : ℕ) → v < n → 0 < g v → (i : ℕ) → by v ≡ suc i → CameBy R H (λ w. d w + g w) rank v i
  pub raised_from : (v : ℕ) → v < n → 0 < g v → (i : ℕ) → by v ≡ suc i → rank (R i).first < turns

-- The state between two turns: what the turns keep, with all rules of every settled step seen to.
pub record BetweenTurns (n : ℕ) (R : ℕ → Rule) (H : ℕ → Type 0) (d low g by list : ℕ → ℕ) (k : ℕ) : Type 0 where
  pub turns : ℕ
  pub last : ℕ
  pub rank : ℕ → ℕ
  pub state : Spreading n R H d low turns last Every rank g by list k
