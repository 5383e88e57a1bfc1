-- The cells of the gap table one by one: a slack as a limit, and a limit as it is told.
use Rattle.std.specs.Prelude.{ℕ, ◌+◌, cond, leb, ℤ, pos, ◌-ℤ◌}
use Rattle.meaning.specs.Bounds.{NO_LIMIT}
use Rattle.gaps.specs.Slacks.{NONE}

-- The cell of a pair whose slack is w, where its steps have the days a and b.
abbrev pub limit : ℕ → ℕ → ℕ → ℤ
limit w a b = cond (leb NONE w) (pos NO_LIMIT) (pos (w + a) -ℤ pos b)
