-- What the making of the gap table needs, and what is in it afterwards.
use Rattle.std.specs.Prelude.{ℕ, ◌+◌, ◌≤◌, ◌<◌, ◌≡◌, min, List, [], ◌⊎◌, length, get_or, set, replicate, ℤ, pos}
use Rattle.meaning.specs.Bounds.{RULES, YARD_STEPS}
use Rattle.meaning.specs.Rules.{Rule, InSteps}
use Rattle.meaning.specs.Reckoning.{up, dn}
use Rattle.meaning.specs.Tables.{rule_at, at, taken}
use Rattle.lent.specs.Lent.{columns, held_by, KeptAt, BIAS, Biased}
use Rattle.gaps.specs.Gaps.{Gaps}
use Rattle.gaps.specs.Slacks.{NONE, Slacks}
use Rattle.yard.specs.Squares.{way}

-- P holds of each of the first n elements of the list after; all others are those of the list before, and there are as many.
pub record Made {A : Type 0} (d : A) (P : ℕ → A → Type 0) (n : ℕ) (before after : List A) : Type 0 where
  pub made : (i : ℕ) → i < n → P i (get_or after i d)
  pub rest : (i : ℕ) → n ≤ i → get_or after i d ≡ get_or before i d
  pub long : length after ≡ length before

-- P holds of each cell of the first n rows and columns; all others are as before, and so are the lengths of the rows and their number.
abbrev pub TableMade : (ℕ → ℕ → ℤ → Type 0) → ℕ → Gaps → Gaps → Type 0
TableMade P n before after = Made [] (λ x row. Made (pos 0) (P x) n (get_or before x []) row) n before after

-- The square with w in row x and column y.
abbrev pub put : List (List ℕ) → ℕ → ℕ → ℕ → List (List ℕ)
put square x y w = set square x (set (get_or square x []) y w)

-- Row v of the square where nothing is known but that each step is on its own day.
abbrev pub blank_row : ℕ → List ℕ
blank_row v = set (replicate YARD_STEPS NONE) v 0

-- The square has only such rows.
pub record Blank (square : List (List ℕ)) : Type 0 where
  pub rows : length square ≡ YARD_STEPS
  pub row_is : (v : ℕ) → v < YARD_STEPS → get_or square v [] ≡ blank_row v

-- The columns have room, m rules are held, and each of them is between steps of one yard.
pub record Leasable (m : ℕ) (xs ys : List ℕ) (cs : List ℤ) (levels : List ℕ) : Type 0 where
  pub firsts_room : RULES ≤ length xs
  pub seconds_room : RULES ≤ length ys
  pub amounts_room : RULES ≤ length cs
  pub levels_room : RULES ≤ length levels
  pub counted : m ≡ taken RULES levels
  pub steps_in : (i : ℕ) → held_by levels i → InSteps YARD_STEPS (rule_at (columns xs ys cs) i)

-- w is no more than the amount c counted from BIAS below 0.
pub record NoMore (c : ℤ) (w : ℕ) : Type 0 where
  pub lower : w + dn c ≤ up c + BIAS
  pub narrow : w < 4294967296

-- The square after is the one before with the cell of the rule's pair lowered to the rule's amount, counted from BIAS below 0, where that is less.
pub record Lowered (r : Rule) (before after : List (List ℕ)) : Type 0 where
  pub counted : ℕ
  pub biased : Biased r.amount counted
  pub is : after ≡ put before r.first r.second (min (way before r.first r.second) counted)

-- The least amounts that single rules give, counted from BIAS below 0: of each pair the least of the rules held from the one step to the other; 0 of a step to itself; else NONE.
pub record Least (R : ℕ → Rule) (H : ℕ → Type 0) (W : ℕ → ℕ → ℕ) : Type 0 where
  pub self : (v : ℕ) → v < YARD_STEPS → W v v ≡ 0
  pub under : (i : ℕ) → H i → NoMore (R i).amount (W (R i).first (R i).second)
  pub given :
      (x y : ℕ) → x < YARD_STEPS → y < YARD_STEPS →
      (W x y ≡ NONE) ⊎ ((x ≡ y) × (W x y ≡ 0)) ⊎ ((i : ℕ) × H i × ((R i).first ≡ x) × ((R i).second ≡ y) × Biased (R i).amount (W x y))

-- r is the slack of a pair whose least amount is w, where its steps have the days a, counted from BIAS below 0 as the amount is, and b.
abbrev pub SlackOf : ℕ → ℕ → ℕ → ℕ → Type 0
SlackOf w a b r = ((NONE ≤ w) × (r ≡ NONE)) ⊎ ((w < NONE) × (b < 4294967296) × (r + a ≡ b + w))

-- The days keep the least amounts from step x to all others.
abbrev pub RowKept : ℕ → List ℕ → List ℕ → Type 0
RowKept x days row = (y : ℕ) → y < YARD_STEPS → (x ≡ y → ⊥) → at row y < NONE → at days x + BIAS ≤ at days y + at row y

-- The row r has the slacks of step x, whose least amounts are in the row before: 0 of the step to itself.
abbrev pub RowSlack : ℕ → List ℕ → List ℕ → List ℕ → Type 0
RowSlack x days before r =
    (y : ℕ) → y < YARD_STEPS → ((x ≡ y) × (at r y ≡ 0)) ⊎ ((x ≡ y → ⊥) × SlackOf (at before y) (at days x + BIAS) (at days y) (at r y))

-- The tables have room, m rules are held, and each of them is between steps of one yard and is kept by the days.
pub record Slackable (m : ℕ) (xs ys : List ℕ) (cs : List ℤ) (days levels : List ℕ) : Type 0 where
  pub firsts_room : RULES ≤ length xs
  pub seconds_room : RULES ≤ length ys
  pub amounts_room : RULES ≤ length cs
  pub days_room : YARD_STEPS ≤ length days
  pub levels_room : RULES ≤ length levels
  pub counted : m ≡ taken RULES levels
  pub steps_in : (i : ℕ) → held_by levels i → InSteps YARD_STEPS (rule_at (columns xs ys cs) i)
  pub kept : (i : ℕ) → held_by levels i → KeptAt xs ys cs days i

-- The square has the slacks that single rules give, and no cell is above NONE.
pub record Single (R : ℕ → Rule) (H : ℕ → Type 0) (p : ℕ → ℕ) (square : List (List ℕ)) : Type 0 where
  pub slacks : Slacks YARD_STEPS R H p (way square)
  pub bounded : (x y : ℕ) → x < YARD_STEPS → y < YARD_STEPS → way square x y ≤ NONE
