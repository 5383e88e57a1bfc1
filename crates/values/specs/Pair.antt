-- What get-value prints, from the steps of the names asked for.
use Rattle.std.specs.Prelude.{ℕ, zero, suc, ◌+◌, Bool, true, false, List, [], ◌∷◌, ◌++◌}
use Rattle.meaning.specs.Tables.{at}
use Rattle.names.specs.Names.{name_at}
use Rattle.script_meaning.specs.Effect.{pair}

-- A space before each pair but the first.
abbrev pub gap : Bool → List ℕ
gap true = 32 ∷ []
gap false = []

-- The name and the day of the step that stands at place i of the column.
abbrev pub pair_at : (names lens days column : List ℕ) → ℕ → List ℕ
pair_at names lens days column i = pair (name_at names lens (at column i)) (at days (at column i))

-- Further pairs, n of them, from place i of the column on, each after a space; then the closing bracket and a line feed.
unfoldable pub pairs_from : (names lens days column : List ℕ) → (i n : ℕ) → List ℕ
pairs_from names lens days column i zero = 41 ∷ 10 ∷ []
pairs_from names lens days column i (suc n) = 32 ∷ (pair_at names lens days column i ++ pairs_from names lens days column (i + 1) n)

-- The pairs of the first n steps of the column.
abbrev pub row_values : (names lens days column : List ℕ) → ℕ → List ℕ
row_values names lens days column zero = 40 ∷ 41 ∷ 10 ∷ []
row_values names lens days column (suc n) = 40 ∷ (pair_at names lens days column 0 ++ pairs_from names lens days column 1 n)
