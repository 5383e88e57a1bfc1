-- What Gap needs of its pair.
use Rattle.std.specs.Prelude.{ℕ, ◌≤◌, ◌<◌, List, [], ◌∷◌}
use Rattle.meaning.specs.Bounds.{YARD_STEPS, STEP, YARD}
use Rattle.meaning.specs.Promise.{Need, needs}

-- There are no more steps than one yard has, and x and y are two of them.
abbrev pub pair_needs : ℕ → ℕ → ℕ → List Need
pair_needs n x y = needs YARD (n ≤ YARD_STEPS) ∷ needs STEP ((x < n) × (y < n)) ∷ []
