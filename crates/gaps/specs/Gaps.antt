-- The gap table of one yard: for each pair of steps x, y the least c such that day(x) - day(y) <= c in every arrangement, or that there is none.
use Rattle.std.specs.Prelude.{ℕ, ◌≤◌, ◌<◌, ◌≡◌, List, [], ◌⊎◌, length, get_or, ℤ, pos, ◌≤ℤ◌}
use Rattle.meaning.specs.Bounds.{YARD_STEPS, NO_LIMIT}
use Rattle.meaning.specs.Rules.{Rule, rule, Always}
use Rattle.meaning.specs.Tables.{Tables}
use Rattle.meaning.specs.Calls.{rules_of, held_in}

-- The limit of the pair x, y: the rule x, y, c holds in every arrangement of the rules held, and with no smaller amount it does.
pub record Limit (R : ℕ → Rule) (H : ℕ → Type 0) (x y : ℕ) (c : ℤ) : Type 0 where
  pub always : Always R H (rule x y c)
  pub least : (e : ℤ) → Always R H (rule x y e) → c ≤ℤ e

-- The pair has no limit: the rule holds in every arrangement with no amount.
abbrev pub NoLimit : (ℕ → Rule) → (ℕ → Type 0) → ℕ → ℕ → Type 0
NoLimit R H x y = (c : ℤ) → Always R H (rule x y c) → ⊥

-- The gap table: rows of cells.
abbrev pub Gaps : Type 0
Gaps = List (List ℤ)

-- It is a square of as many rows and columns as one yard has steps, as every gap table is that is lent.
pub record Square (gaps : Gaps) : Type 0 where
  pub rows : length gaps ≡ YARD_STEPS
  pub columns : (x : ℕ) → x < YARD_STEPS → length (get_or gaps x []) ≡ YARD_STEPS

-- The cell in row x and column y.
abbrev pub cell : Gaps → ℕ → ℕ → ℤ
cell gaps x y = get_or (get_or gaps x []) y (pos 0)

-- What a cell of the pair x, y says is so: it is NO-LIMIT where there is no limit, and else it is the limit.
abbrev pub Says : (ℕ → Rule) → (ℕ → Type 0) → ℕ → ℕ → ℤ → Type 0
Says R H x y c = ((c ≡ pos NO_LIMIT) × NoLimit R H x y) ⊎ ((c ≡ pos NO_LIMIT → ⊥) × Limit R H x y c)

-- The pair's cell is kept: there are n steps, no more than one yard has, and x and y are two of them.
pub record InYard (n x y : ℕ) : Type 0 where
  pub one_yard : n ≤ YARD_STEPS
  pub row_in : x < n
  pub column_in : y < n

-- The gap table is right beside the tables: every cell that is kept says what is so. Other cells may have anything.
abbrev pub Right : Tables → Gaps → Type 0
Right t gaps = (x y : ℕ) → InYard t.counts.steps x y → Says (rules_of t) (held_in t) x y (cell gaps x y)

-- Beside the tables t the gap table is right now; every cell that is not kept is as before, and so are the lengths of the rows and their number.
pub record Remade (t : Tables) (before after : Gaps) : Type 0 where
  pub right : Right t after
  pub others : (x y : ℕ) → (InYard t.counts.steps x y → ⊥) → cell after x y ≡ cell before x y
  pub as_many : length after ≡ length before
  pub as_long : (x : ℕ) → length (get_or after x []) ≡ length (get_or before x [])
