-- Places passed one by one: the square has the least amount of each pair, of the rules that were passed.
use Prim.Native.Nat.{ℕ, ◌+◌, ◌*◌, ◌≤◌, ◌<◌, min}
use native.Mathlib.Omega.{arith}
use native.Mathlib.Decide.{ℕ_discrete, dec_lt}
use mathlib.Core.Path.{◌≡◌, refl, sym, ◌∙◌, ap, subst}
use mathlib.Core.List.{List, []}
use mathlib.Core.Logic.{◌⊎◌, inl, inr}
use lib.ListN.{length, get_or, set, replicate, length-set, length-replicate, get_or-replicate}
use lib.Seq.{get_or-set_same, get_or-set_other}
use Rattle.meaning.specs.Bounds.{RULES, YARD_STEPS}
use Rattle.meaning.specs.Rules.{Rule, InSteps}
use Rattle.meaning.specs.Tables.{at, taken}
use Rattle.meaning.proofs.Places.{taken_of_none, taken_free, taken_held}
use Rattle.lent.specs.Lent.{held_by, Biased}
use Rattle.lent.proofs.Cells.{taken_past}
use Rattle.gaps.specs.Slacks.{NONE}
use Rattle.yard.specs.Squares.{way}
use Rattle.yard.specs.Tables.{put, blank_row, Blank, NoMore, Lowered, Least}

-- ---- one cell of a square

-- The square has as many rows and columns as one yard has steps.
pub record Shaped (square : List (List ℕ)) : Type 0 where
  pub rows : length square ≡ YARD_STEPS
  pub columns : (x : ℕ) → x < YARD_STEPS → length (get_or square x []) ≡ YARD_STEPS

module _ {square : List (List ℕ)} (shaped : Shaped square) (x y w : ℕ) (row_in : x < YARD_STEPS) (column_in : y < YARD_STEPS) where
  row_put : get_or (put square x y w) x [] ≡ set (get_or square x []) y w
  row_put = get_or-set_same square x (set (get_or square x []) y w) [] (omega (arith, shaped.rows))

  pub put_same : way (put square x y w) x y ≡ w
  put_same = ap (λ (l : List ℕ). at l y) row_put ∙ get_or-set_same (get_or square x []) y w 0 (omega (arith, shaped.columns x row_in))

  pub put_other : (i j : ℕ) → ((i ≡ x) × (j ≡ y) → ⊥) → way (put square x y w) i j ≡ way square i j
  put_other i j other = tell (ℕ_discrete i x) (ℕ_discrete j y)
    where
      tell : Dec (i ≡ x) → Dec (j ≡ y) → way (put square x y w) i j ≡ way square i j
      tell (yes e) (yes f) = absurd (other (e, f))
      tell (yes e) (no d) =
          subst (λ (v : ℕ). way (put square x y w) v j ≡ way square v j) (sym e)
          (ap (λ (l : List ℕ). at l j) row_put ∙ get_or-set_other (get_or square x []) y j w 0 d)
      tell (no d) f = ap (λ (l : List ℕ). at l j) (get_or-set_other square x i (set (get_or square x []) y w) [] d)

  pub put_shaped : Shaped (put square x y w)
  put_shaped = record { rows = simp length-set shaped.rows; columns = λ i h. tell i h (ℕ_discrete i x) }
    where
      tell : (i : ℕ) → i < YARD_STEPS → Dec (i ≡ x) → length (get_or (put square x y w) i []) ≡ YARD_STEPS
      tell i h (yes e) = ap (λ (v : ℕ). length (get_or (put square x y w) v [])) e ∙ ap length row_put ∙ length-set (get_or square x []) y w ∙ shaped.columns x row_in
      tell i h (no d) = ap length (get_or-set_other square x i (set (get_or square x []) y w) [] d) ∙ shaped.columns i h

-- ---- the square where nothing is known

blank_cell : (x y : ℕ) → x < YARD_STEPS → y < YARD_STEPS → ((x ≡ y) × (at (blank_row x) y ≡ 0)) ⊎ ((x ≡ y → ⊥) × (at (blank_row x) y ≡ NONE))
blank_cell x y h g = tell (ℕ_discrete y x)
  where
    tell : Dec (y ≡ x) → ((x ≡ y) × (at (blank_row x) y ≡ 0)) ⊎ ((x ≡ y → ⊥) × (at (blank_row x) y ≡ NONE))
    tell (yes e) = inl (sym e, ap (at (blank_row x)) e ∙ get_or-set_same (replicate YARD_STEPS NONE) x 0 0 (omega (arith, length-replicate YARD_STEPS NONE)))
    tell (no d) = inr ((λ e. d (sym e)), get_or-set_other (replicate YARD_STEPS NONE) x y 0 0 d ∙ get_or-replicate YARD_STEPS y NONE 0 g)

module _ {square : List (List ℕ)} (blank : Blank square) where
  blank_way : (x y : ℕ) → x < YARD_STEPS → y < YARD_STEPS → ((x ≡ y) × (way square x y ≡ 0)) ⊎ ((x ≡ y → ⊥) × (way square x y ≡ NONE))
  blank_way x y h g = subst (λ (l : List ℕ). ((x ≡ y) × (at l y ≡ 0)) ⊎ ((x ≡ y → ⊥) × (at l y ≡ NONE))) (sym (blank.row_is x h)) (blank_cell x y h g)

  blank_shaped : Shaped square
  blank_shaped = record {
    rows = blank.rows;
    columns = λ x h. ap length (blank.row_is x h) ∙ length-set (replicate YARD_STEPS NONE) x 0 ∙ length-replicate YARD_STEPS NONE;
  }

-- ---- the least amounts of the rules that were passed

-- The places held below i.
abbrev pub passed : ℕ → List ℕ → ℕ → Type 0
passed i levels j = (j < i) × held_by levels j

-- The square has the least amounts of the rules in the places below i; seen says how many these are.
pub record Passing (i : ℕ) (R : ℕ → Rule) (levels : List ℕ) (seen : ℕ) (square : List (List ℕ)) : Type 0 where
  pub within : i ≤ RULES
  pub seen_are : seen ≡ taken i levels
  pub shaped : Shaped square
  pub least : Least R (passed i levels) (way square)

-- Before the first place.
pub passing_none : (R : ℕ → Rule) (levels : List ℕ) {square : List (List ℕ)} → Blank square → Passing 0 R levels 0 square
passing_none R levels {square} blank = record {
  within = omega arith;
  seen_are = sym (taken_of_none levels);
  shaped = blank_shaped blank;
  least = record {
    self = λ v h. self v h (blank_way blank v v h h);
    under = λ i h. absurd (omega (arith, h.0));
    given = λ x y h g. given x y (blank_way blank x y h g);
  };
}
  where
    self : (v : ℕ) → v < YARD_STEPS → ((v ≡ v) × (way square v v ≡ 0)) ⊎ ((v ≡ v → ⊥) × (way square v v ≡ NONE)) → way square v v ≡ 0
    self v h (inl (e, is)) = is
    self v h (inr (d, is)) = absurd (d refl)

    given :
        (x y : ℕ) → ((x ≡ y) × (way square x y ≡ 0)) ⊎ ((x ≡ y → ⊥) × (way square x y ≡ NONE)) →
        (way square x y ≡ NONE) ⊎ ((x ≡ y) × (way square x y ≡ 0))
        ⊎ ((i : ℕ) × passed 0 levels i × ((R i).first ≡ x) × ((R i).second ≡ y) × Biased (R i).amount (way square x y))
    given x y (inl (e, is)) = inr (inl (e, is))
    given x y (inr (d, is)) = inl is

module _ {i : ℕ} {R : ℕ → Rule} {levels : List ℕ} {seen : ℕ} {square : List (List ℕ)} (s : Passing i R levels seen square) where
  -- Where not all have been seen, and whole groups of 4 have been passed, one more is left.
  pub group_inside : (b : ℕ) → i ≡ b * 4 → seen < taken RULES levels → i + 4 ≤ RULES
  group_inside b groups fewer = tell (dec_lt i RULES)
    where
      tell : Dec (i < RULES) → i + 4 ≤ RULES
      tell (yes h) = omega (arith, groups, h)
      tell (no h) =
          let end : i ≡ RULES = omega (arith, s.within) in
          absurd (omega (arith, fewer, s.seen_are, ap (λ (j : ℕ). taken j levels) end))

  -- Where all have been seen, they are the rules held.
  pub passing_all : taken RULES levels ≤ seen → Least R (held_by levels) (way square)
  passing_all all = record {
    self = s.least.self;
    under = λ j h. s.least.under j (below j h (dec_lt j i), h);
    given = λ x y h g. given x y (s.least.given x y h g);
  }
    where
      below : (j : ℕ) → held_by levels j → Dec (j < i) → j < i
      below j h (yes lower) = lower
      below j h (no not_lower) = absurd (omega (arith, all, s.seen_are, taken_past i RULES j levels (omega arith) h.0 h.1))

      given :
          (x y : ℕ) →
          (way square x y ≡ NONE) ⊎ ((x ≡ y) × (way square x y ≡ 0))
          ⊎ ((j : ℕ) × passed i levels j × ((R j).first ≡ x) × ((R j).second ≡ y) × Biased (R j).amount (way square x y)) →
          (way square x y ≡ NONE) ⊎ ((x ≡ y) × (way square x y ≡ 0))
          ⊎ ((j : ℕ) × held_by levels j × ((R j).first ≡ x) × ((R j).second ≡ y) × Biased (R j).amount (way square x y))
      given x y (inl e) = inl e
      given x y (inr (inl e)) = inr (inl e)
      given x y (inr (inr (j, h, first, second, biased))) = inr (inr (j, h.1, first, second, biased))

  -- A free place is passed.
  pub passing_free : i < RULES → at levels i ≡ 0 → Passing (i + 1) R levels seen square
  passing_free inside free = record {
    within = omega arith;
    seen_are = s.seen_are ∙ sym (taken_free i levels free);
    shaped = s.shaped;
    least = record {
      self = s.least.self;
      under = λ j h. s.least.under j (lower j h (ℕ_discrete j i), h.1);
      given = λ x y h g. given x y (s.least.given x y h g);
    };
  }
    where
      lower : (j : ℕ) → passed (i + 1) levels j → Dec (j ≡ i) → j < i
      lower j h (yes e) = absurd (omega (arith, h.1.1, ap (at levels) e, free))
      lower j h (no d) = omega (arith, h.0)

      given :
          (x y : ℕ) →
          (way square x y ≡ NONE) ⊎ ((x ≡ y) × (way square x y ≡ 0))
          ⊎ ((j : ℕ) × passed i levels j × ((R j).first ≡ x) × ((R j).second ≡ y) × Biased (R j).amount (way square x y)) →
          (way square x y ≡ NONE) ⊎ ((x ≡ y) × (way square x y ≡ 0))
          ⊎ ((j : ℕ) × passed (i + 1) levels j × ((R j).first ≡ x) × ((R j).second ≡ y) × Biased (R j).amount (way square x y))
      given x y (inl e) = inl e
      given x y (inr (inl e)) = inr (inl e)
      given x y (inr (inr (j, h, first, second, too))) = inr (inr (j, (omega (arith, h.0), h.1), first, second, too))

  -- A held place is passed, whose rule has the amount w.
  module _ (inside : i < RULES) (some : 0 < at levels i) (w : ℕ) (biased : Biased (R i).amount w) where
    seen_one : seen + 1 ≡ taken (i + 1) levels
    seen_one = omega (arith, s.seen_are, taken_held i levels some)

    module _ (first_in : (R i).first < YARD_STEPS) (second_in : (R i).second < YARD_STEPS) where
      abbrev x₁ : ℕ
      x₁ = (R i).first

      abbrev y₁ : ℕ
      y₁ = (R i).second

      abbrev new : List (List ℕ)
      new = put square x₁ y₁ (min (way square x₁ y₁) w)

      here : way new x₁ y₁ ≡ min (way square x₁ y₁) w
      here = put_same s.shaped x₁ y₁ (min (way square x₁ y₁) w) first_in second_in

      there : (x y : ℕ) → ((x ≡ x₁) × (y ≡ y₁) → ⊥) → way new x y ≡ way square x y
      there = put_other s.shaped x₁ y₁ (min (way square x₁ y₁) w) first_in second_in

      is-here : (x y : ℕ) → Dec ((x ≡ x₁) × (y ≡ y₁))
      is-here x y = tell (ℕ_discrete x x₁) (ℕ_discrete y y₁)
        where
          tell : Dec (x ≡ x₁) → Dec (y ≡ y₁) → Dec ((x ≡ x₁) × (y ≡ y₁))
          tell (yes e) (yes f) = yes (e, f)
          tell (yes e) (no d) = no (λ h. d h.1)
          tell (no d) f = no (λ h. d h.0)

      same-cell : (x y : ℕ) → (x ≡ x₁) × (y ≡ y₁) → way new x y ≡ min (way square x y) w
      same-cell x y (e, f) = (λ k. way new (e k) (f k)) ∙ here ∙ (λ k. min (way square (sym e k) (sym f k)) w)

      no_more : (x y : ℕ) → Dec ((x ≡ x₁) × (y ≡ y₁)) → way new x y ≤ way square x y
      no_more x y (yes e) = omega (arith, same-cell x y e)
      no_more x y (no d) = omega (arith, there x y d)

      self : (v : ℕ) → v < YARD_STEPS → Dec ((v ≡ x₁) × (v ≡ y₁)) → way new v v ≡ 0
      self v h (yes e) = omega (arith, same-cell v v e, s.least.self v h)
      self v h (no d) = there v v d ∙ s.least.self v h

      under : (j : ℕ) → passed (i + 1) levels j → Dec (j ≡ i) → NoMore (R j).amount (way new (R j).first (R j).second)
      under j h (yes e) =
          subst (λ (k : ℕ). NoMore (R k).amount (way new (R k).first (R k).second)) (sym e)
          (record { lower = omega (arith, here, biased.is); narrow = omega (arith, here, biased.narrow) })
      under j h (no d) =
          let before = s.least.under j (omega (arith, h.0), h.1) in
          let less = no_more (R j).first (R j).second (is-here (R j).first (R j).second) in
          record { lower = omega (arith, less, before.lower); narrow = omega (arith, less, before.narrow) }

      abbrev Given : (ℕ → Type 0) → (ℕ → ℕ → ℕ) → ℕ → ℕ → Type 0
      Given H W x y = (W x y ≡ NONE) ⊎ ((x ≡ y) × (W x y ≡ 0)) ⊎ ((j : ℕ) × H j × ((R j).first ≡ x) × ((R j).second ≡ y) × Biased (R j).amount (W x y))

      stays : (x y : ℕ) → way new x y ≡ way square x y → Given (passed i levels) (way square) x y → Given (passed (i + 1) levels) (way new) x y
      stays x y same (inl e) = inl (same ∙ e)
      stays x y same (inr (inl (e, is))) = inr (inl (e, same ∙ is))
      stays x y same (inr (inr (j, h, first, second, too))) = inr (inr (j, (omega (arith, h.0), h.1), first, second, subst (Biased (R j).amount) (sym same) too))

      given : (x y : ℕ) → Dec ((x ≡ x₁) × (y ≡ y₁)) → Given (passed i levels) (way square) x y → Given (passed (i + 1) levels) (way new) x y
      given x y (no d) before = stays x y (there x y d) before
      given x y (yes e) before = tell (dec_lt w (way square x y))
        where
          tell : Dec (w < way square x y) → Given (passed (i + 1) levels) (way new) x y
          tell (yes less) =
              let is : way new x y ≡ w = omega (arith, same-cell x y e, less) in
              inr (inr (i, (omega arith, (inside, some)), sym e.0, sym e.1, subst (Biased (R i).amount) (sym is) biased))
          tell (no no_less) = stays x y (omega (arith, same-cell x y e, no_less)) before

      lowered_passing : Passing (i + 1) R levels (seen + 1) new
      lowered_passing = record {
        within = omega arith;
        seen_are = seen_one;
        shaped = put_shaped s.shaped x₁ y₁ (min (way square x₁ y₁) w) first_in second_in;
        least = record {
          self = λ v h. self v h (is-here v v);
          under = λ j h. under j h (ℕ_discrete j i);
          given = λ x y h g. given x y (is-here x y) (s.least.given x y h g);
        };
      }

-- A held place is passed, and the cell of its rule is lowered to the rule's amount.
pub passing_held :
    {i : ℕ} {R : ℕ → Rule} {levels : List ℕ} {seen : ℕ} {square new : List (List ℕ)} → Passing i R levels seen square →
    i < RULES → 0 < at levels i → InSteps YARD_STEPS (R i) → Lowered (R i) square new → Passing (i + 1) R levels (seen + 1) new
passing_held {i} {R} {levels} {seen} {square} {new} s inside some steps l =
    subst (Passing (i + 1) R levels (seen + 1)) (sym l.is) (lowered_passing s inside some l.counted l.biased steps.first_in steps.second_in)
