-- The ways over one step are put into a square row by row, and those over one step after the other make the stages.
use Prim.Native.Nat.{ℕ, ◌+◌, ◌≤◌, ◌<◌, min}
use native.Mathlib.Omega.{arith}
use native.Mathlib.Decide.{dec_lt}
use native.Mathlib.Nat.{min-eq_left, min-le_left}
use native.Mathlib.Numerals.{add-one}
use mathlib.Core.Path.{◌≡◌, refl, sym, ◌∙◌, ap}
use mathlib.Core.List.{List, []}
use lib.ListN.{length, get_or}
use Rattle.meaning.specs.Bounds.{YARD_STEPS}
use Rattle.meaning.specs.Tables.{at}
use Rattle.gaps.specs.Slacks.{NONE, stages}
use Rattle.yard.specs.Squares.{way, RowBounded, Bounded, RowStaged}
use Rattle.yard.specs.Tables.{Made}

-- The row in place i has the ways over the step k, which go on by `via`, where it was in the square before.
abbrev pub Staged : ℕ → List ℕ → List (List ℕ) → ℕ → List ℕ → Type 0
Staged k via old i row = RowStaged (way old i k) via (get_or old i []) row

-- A row that has no way over k is one that has them.
pub staged_none : (k i : ℕ) (via : List ℕ) (old : List (List ℕ)) → RowBounded (get_or old i []) → NONE ≤ way old i k → Staged k via old i (get_or old i [])
staged_none k i via old bounded none = λ j h. sym (min-eq_left (omega (arith, none, bounded j h)))

-- The square has, for the pairs of the first n steps, the slacks with the ways over the first k, and no cell is above NONE.
pub record Stages (n k : ℕ) (first new : List (List ℕ)) : Type 0 where
  pub rows : length new ≡ YARD_STEPS
  pub bounded : Bounded new
  pub cells : (x y : ℕ) → x < n → y < n → way new x y ≡ stages k (way first) x y

-- Before the first step.
pub stages_none : (n : ℕ) (first : List (List ℕ)) → length first ≡ YARD_STEPS → Bounded first → Stages n 0 first first
unfolding stages
stages_none n first rows bounded = record { rows = rows; bounded = bounded; cells = λ x y h g. refl }

-- A stage, as it is defined.
stage_is : (k : ℕ) (W : ℕ → ℕ → ℕ) (x y : ℕ) → stages (k + 1) W x y ≡ min (stages k W x y) (stages k W x k + stages k W k y)
unfolding stages
stage_is k W x y = rw (add-one k) refl

-- One step more, when every row has been passed.
pub stages_more :
    {n k : ℕ} {first old new : List (List ℕ)} → n ≤ YARD_STEPS → k < n → Stages n k first old → Made [] (Staged k (get_or old k []) old) n old new →
    Stages n (k + 1) first new
stages_more {n} {k} {first} {old} {new} few below s m = record {
  rows = m.long ∙ s.rows;
  bounded = λ i j h g. bound i j h g (dec_lt i n);
  cells = λ i j h g. m.made i h j (omega arith) ∙ same i j h g;
}
  where
    bound : (i j : ℕ) → i < YARD_STEPS → j < YARD_STEPS → Dec (i < n) → way new i j ≤ NONE
    bound i j h g (yes passed) = omega (arith, m.made i passed j g, min-le_left (way old i j) (way old i k + way old k j), s.bounded i j h g)
    bound i j h g (no not-passed) = omega (arith, ap (λ (l : List ℕ). at l j) (m.rest i (omega arith)), s.bounded i j h g)

    same : (i j : ℕ) → i < n → j < n → min (way old i j) (way old i k + way old k j) ≡ stages (k + 1) (way first) i j
    same i j h g =
        (λ e. min (s.cells i j h g e) (s.cells i k h below e + s.cells k j below g e))
        ∙ sym (stage_is k (way first) i j)
