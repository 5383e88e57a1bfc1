-- The gap table as lists of cells: the table after a call is fixed by what is said of it, and beside sound tables there is one.
use Prim.Native.Nat.{ℕ, zero, suc, ◌≤◌, ◌<◌}
use native.Mathlib.Omega.{arith}
use native.Mathlib.Decide.{dec_lt}
use mathlib.Core.Path.{◌≡◌, refl, sym, ◌∙◌, ap, subst}
use mathlib.Core.List.{List, [], ◌∷◌}
use lib.ListN.{length, get_or, get_or-eq_default}
use lib.Seq.{ext_get_or}
use lib.IntN.{ℤ, pos}
use Rattle.meaning.specs.Tables.{Tables, Sound}
use Rattle.meaning.specs.Calls.{rules_of, held_in}
use Rattle.gaps.specs.Gaps.{Gaps, Square, cell, Says, InYard, Remade}
use Rattle.gaps.proofs.Limits.{says_unique}
use Rattle.gaps.proofs.Right.{limit_cell, in_yard?}

-- Two gap tables with as many rows, each as long, and the same cells are one.
pub cells_same :
    (a b : Gaps) → length a ≡ length b → ((x : ℕ) → length (get_or a x []) ≡ length (get_or b x [])) → ((x y : ℕ) → cell a x y ≡ cell b x y) → a ≡ b
cells_same a b as_many as_long same =
    ext_get_or [] a b as_many (λ x h. ext_get_or (pos 0) (get_or a x []) (get_or b x []) (as_long x) (λ y g. same x y))

-- There is one gap table that is right beside the tables, and else as before.
pub remade_same : (t : Tables) (before a b : Gaps) → Remade t before a → Remade t before b → a ≡ b
remade_same t before a b one two =
    cells_same a b (one.as_many ∙ sym two.as_many) (λ x. one.as_long x ∙ sym (two.as_long x)) (λ x y. same x y (in_yard? t.counts.steps x y))
  where
    same : (x y : ℕ) → Dec (InYard t.counts.steps x y) → cell a x y ≡ cell b x y
    same x y (yes yard) = says_unique {R = rules_of t} {H = held_in t} {x = x} {y = y} (one.right x y yard) (two.right x y yard)
    same x y (no outside) = one.others x y outside ∙ sym (two.others x y outside)

-- ---- a table of given cells

-- The first n values of f, as a list.
listed : {A : Type 0} → ℕ → (ℕ → A) → List A
listed zero f = []
listed (suc n) f = f 0 ∷ listed n (λ i. f (suc i))

listed_length : {A : Type 0} (n : ℕ) (f : ℕ → A) → length (listed n f) ≡ n
unfolding listed
listed_length zero f = refl
listed_length (suc n) f = ap suc (listed_length n (λ i. f (suc i)))

listed_at : {A : Type 0} (n : ℕ) (f : ℕ → A) (d : A) (i : ℕ) → i < n → get_or (listed n f) i d ≡ f i
unfolding listed
listed_at zero f d i h = absurd (omega arith)
listed_at (suc n) f d zero h = refl
listed_at (suc n) f d (suc i) h = listed_at n (λ j. f (suc j)) d i (omega arith)

-- The row of the cells f, as long as the row was.
written_row : List ℤ → (ℕ → ℤ) → List ℤ
written_row row f = listed (length row) f

-- The cells f, in as many rows as before, each as long as before.
pub written : (ℕ → ℕ → ℤ) → Gaps → Gaps
written f before = listed (length before) (λ x. written_row (get_or before x []) (f x))

pub written_many : (f : ℕ → ℕ → ℤ) (before : Gaps) → length (written f before) ≡ length before
unfolding written
written_many f before = listed_length (length before) (λ x. written_row (get_or before x []) (f x))

-- A row of it.
written_in : (f : ℕ → ℕ → ℤ) (before : Gaps) (x : ℕ) → x < length before → get_or (written f before) x [] ≡ written_row (get_or before x []) (f x)
unfolding written
written_in f before x h = listed_at (length before) (λ v. written_row (get_or before v []) (f v)) [] x h

-- Past the rows there is none.
written_out : (f : ℕ → ℕ → ℤ) (before : Gaps) (x : ℕ) → length before ≤ x → get_or (written f before) x [] ≡ get_or before x []
written_out f before x h = get_or-eq_default (written f before) [] (omega (arith, written_many f before)) ∙ sym (get_or-eq_default before [] h)

pub written_long : (f : ℕ → ℕ → ℤ) (before : Gaps) (x : ℕ) → length (get_or (written f before) x []) ≡ length (get_or before x [])
unfolding written_row
written_long f before x = told (dec_lt x (length before))
  where
    told : Dec (x < length before) → length (get_or (written f before) x []) ≡ length (get_or before x [])
    told (yes h) = ap length (written_in f before x h) ∙ listed_length (length (get_or before x [])) (f x)
    told (no h) = ap length (written_out f before x (omega arith))

-- A cell of it.
pub written_cell : (f : ℕ → ℕ → ℤ) (before : Gaps) (x y : ℕ) → x < length before → y < length (get_or before x []) → cell (written f before) x y ≡ f x y
unfolding written_row
written_cell f before x y h g = ap (λ row. get_or row y (pos 0)) (written_in f before x h) ∙ listed_at (length (get_or before x [])) (f x) (pos 0) y g

-- Where f has what was there, so has it.
pub written_same : (f : ℕ → ℕ → ℤ) (before : Gaps) (x y : ℕ) → f x y ≡ cell before x y → cell (written f before) x y ≡ cell before x y
written_same f before x y e = told (dec_lt x (length before)) (dec_lt y (length (get_or before x [])))
  where
    told : Dec (x < length before) → Dec (y < length (get_or before x [])) → cell (written f before) x y ≡ cell before x y
    told (yes h) (yes g) = written_cell f before x y h g ∙ e
    told (yes h) (no g) =
        get_or-eq_default (get_or (written f before) x []) (pos 0) (omega (arith, written_long f before x))
        ∙ sym (get_or-eq_default (get_or before x []) (pos 0) (omega arith))
    told (no h) any = ap (λ row. get_or row y (pos 0)) (written_out f before x (omega arith))

-- ---- there is one

-- The cell that says what is so where it is kept, and else what was there.
remade_cell : (t : Tables) → Sound t → Gaps → (x y : ℕ) → Dec (InYard t.counts.steps x y) → ℤ
remade_cell t sound before x y (yes yard) = (limit_cell t sound x y yard).0
remade_cell t sound before x y (no outside) = cell before x y

remade_kept :
    (t : Tables) (sound : Sound t) (before : Gaps) (x y : ℕ) (d : Dec (InYard t.counts.steps x y)) → InYard t.counts.steps x y →
    Says (rules_of t) (held_in t) x y (remade_cell t sound before x y d)
unfolding remade_cell
remade_kept t sound before x y (yes yard) h = (limit_cell t sound x y yard).1
remade_kept t sound before x y (no outside) h = absurd (outside h)

remade_other :
    (t : Tables) (sound : Sound t) (before : Gaps) (x y : ℕ) (d : Dec (InYard t.counts.steps x y)) → (InYard t.counts.steps x y → ⊥) →
    remade_cell t sound before x y d ≡ cell before x y
unfolding remade_cell
remade_other t sound before x y (yes yard) h = absurd (h yard)
remade_other t sound before x y (no outside) h = refl

-- Beside sound tables a square can be made right.
pub remade_some : (t : Tables) → Sound t → (before : Gaps) → Square before → (after : Gaps) × Remade t before after
remade_some t sound before square = (
  written new before,
  record {
    right = λ x y yard. subst (Says (rules_of t) (held_in t) x y) (sym (written_cell new before x y (row_in x y yard) (column_in x y yard))) (remade_kept t sound before x y (in_yard? n x y) yard);
    others = λ x y outside. written_same new before x y (remade_other t sound before x y (in_yard? n x y) outside);
    as_many = written_many new before;
    as_long = written_long new before;
  },
)
  where
    n : ℕ
    n = t.counts.steps

    new : ℕ → ℕ → ℤ
    new x y = remade_cell t sound before x y (in_yard? n x y)

    row_in : (x y : ℕ) → InYard n x y → x < length before
    row_in x y yard = omega (arith, yard.one_yard, yard.row_in, square.rows)

    column_in : (x y : ℕ) → InYard n x y → y < length (get_or before x [])
    column_in x y yard = omega (arith, yard.one_yard, yard.column_in, square.columns x (omega (arith, yard.one_yard, yard.row_in)))
