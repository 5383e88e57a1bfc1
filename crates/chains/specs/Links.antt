-- Where a walk along a chain can begin.
use Rattle.std.specs.Prelude.{ℕ, zero, suc, ◌≤◌, ◌<◌, List, length, ⊤}
use Rattle.std.specs.Coded.{×_prop, Unit-prop, le_prop}
use Rattle.meaning.specs.Tables.{at}

-- A walk from the link comes down to 0: each rule that it meets has a place in nexts, and a lower link there. It meets at most `most` rules.
abbrev pub Falls : ℕ → List ℕ → ℕ → Type 0
Falls most nexts zero = ⊤
Falls zero nexts (suc i) = ⊥
Falls (suc most) nexts (suc i) = (i < length nexts) × ((at nexts i ≤ i) × Falls most nexts (at nexts i))

-- There is one reason at most, as a field of a struct needs it.
pub Falls-prop : (most : ℕ) (nexts : List ℕ) (link : ℕ) → IsProp (Falls most nexts link)
Falls-prop most nexts zero = Unit-prop
Falls-prop zero nexts (suc i) = λ p q. absurd p
Falls-prop (suc most) nexts (suc i) = ×_prop le_prop (×_prop le_prop (Falls-prop most nexts (at nexts i)))
