-- How gains tell what follows from the rules held: a gain is asked for at one step, and a rule that leads from that step holds in every arrangement
-- exactly when the gain that its second step gets carries it.
use Rattle.std.specs.Prelude.{ℕ, ◌+◌, ◌≤◌, ◌<◌, ◌≡◌, ◌↔◌, List}
use Rattle.meaning.specs.Bounds.{LARGEST}
use Rattle.meaning.specs.Rules.{Rule, InSteps, Always}
use Rattle.meaning.specs.Tables.{at}
use Rattle.meaning.specs.Reckoning.{up, dn}

-- The gain that is asked for at a step: more than a day and an amount come to.
abbrev pub GAIN : ℕ
GAIN = 2147483648

-- The gains carry the rule: it holds with its first step on its day plus the gain asked for and its second step on its day plus its gain.
abbrev pub Carries : (d g : ℕ → ℕ) → Rule → Type 0
Carries d g r = GAIN + d r.first + dn r.amount ≤ d r.second + g r.second + up r.amount

-- No day of a step below n comes with an amount to the gain that is asked for.
abbrev pub Near : ℕ → List ℕ → Type 0
Near n days = (v : ℕ) → v < n → at days v + LARGEST < GAIN

-- The gains tell of each rule that leads from step a whether it holds in every arrangement, and none is larger than what was asked for.
pub record Telling (n : ℕ) (R : ℕ → Rule) (H : ℕ → Type 0) (d : ℕ → ℕ) (a : ℕ) (g : ℕ → ℕ) : Type 0 where
  pub bounded : (v : ℕ) → v < n → g v ≤ GAIN
  pub tells : (r : Rule) → r.first ≡ a → InSteps n r → up r.amount ≤ LARGEST → Always R H r ↔ Carries d g r
