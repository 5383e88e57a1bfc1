-- Squares of slacks, as the code has them: rows of cells, of which each is at most NONE.
use Rattle.std.specs.Prelude.{ℕ, ◌+◌, ◌≤◌, ◌<◌, min, ◌≡◌, List, [], get_or}
use Rattle.meaning.specs.Bounds.{YARD_STEPS}
use Rattle.meaning.specs.Tables.{at}
use Rattle.gaps.specs.Slacks.{NONE, stages}

-- The cell in row x and column y.
abbrev pub way : List (List ℕ) → ℕ → ℕ → ℕ
way square x y = get_or (get_or square x []) y 0

-- No cell of the row is above NONE.
abbrev pub RowBounded : List ℕ → Type 0
RowBounded row = (y : ℕ) → y < YARD_STEPS → at row y ≤ NONE

-- No cell of the square is.
abbrev pub Bounded : List (List ℕ) → Type 0
Bounded square = (x y : ℕ) → x < YARD_STEPS → y < YARD_STEPS → way square x y ≤ NONE

-- The row r is the row before with the ways that begin with `base` and go on by `via`: each cell is the smaller of what it was and the way.
abbrev pub RowStaged : ℕ → List ℕ → List ℕ → List ℕ → Type 0
RowStaged base via before r = (y : ℕ) → y < YARD_STEPS → at r y ≡ min (at before y) (base + at via y)

-- The square r has the slacks of the pairs of the first n steps with all ways over these steps, where the square before has them with none.
abbrev pub Closed : ℕ → List (List ℕ) → List (List ℕ) → Type 0
Closed n before r = (x y : ℕ) → x < n → y < n → way r x y ≡ stages n (way before) x y
