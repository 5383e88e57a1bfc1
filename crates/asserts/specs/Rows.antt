-- The rules that stand in rows.
use Rattle.std.specs.Prelude.{ℕ, zero, suc, ◌+◌, ◌<◌, List, [], ◌∷◌}
use Rattle.meaning.specs.Rules.{Rule, InBounds}
use Rattle.meaning.specs.Tables.{Columns, rule_at}

-- The rules of n rows, from row k on.
unfoldable pub rows_from : Columns → (k n : ℕ) → List Rule
rows_from rows k zero = []
rows_from rows k (suc n) = rule_at rows k ∷ rows_from rows (k + 1) n

-- The rules of the first n rows are within bounds, over e steps.
abbrev pub RowsFine : ℕ → Columns → ℕ → Type 0
RowsFine e rows n = (i : ℕ) → i < n → InBounds e (rule_at rows i)
