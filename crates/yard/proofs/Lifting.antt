-- From least amounts to slacks.
use Prim.Native.Nat.{ℕ, ◌+◌, ◌≤◌, ◌<◌}
use native.Mathlib.Omega.{arith}
use mathlib.Core.Path.{◌≡◌, refl, ap}
use mathlib.Core.List.{List, []}
use mathlib.Core.Logic.{◌⊎◌, inl, inr}
use lib.ListN.{get_or}
use lib.IntN.{ℤ}
use Rattle.meaning.specs.Bounds.{YARD_STEPS}
use Rattle.meaning.specs.Rules.{Rule}
use Rattle.meaning.specs.Tables.{at, rule_at}
use Rattle.meaning.proofs.Whole.{plan→}
use Rattle.lent.specs.Lent.{columns, held_by, BIAS, Biased}
use Rattle.gaps.specs.Slacks.{NONE, Spares}
use Rattle.yard.specs.Squares.{way}
use Rattle.yard.specs.Tables.{Least, Slackable, Leasable, SlackOf, RowKept, RowSlack, Single}

-- What the least amounts need of what the slacks do.
pub leasable : {m : ℕ} {xs ys : List ℕ} {cs : List ℤ} {days levels : List ℕ} → Slackable m xs ys cs days levels → Leasable m xs ys cs levels
leasable s = record {
  firsts_room = s.firsts_room;
  seconds_room = s.seconds_room;
  amounts_room = s.amounts_room;
  levels_room = s.levels_room;
  counted = s.counted;
  steps_in = s.steps_in;
}

module _
    {m : ℕ} {xs ys : List ℕ} {cs : List ℤ} {days levels : List ℕ} (square : List (List ℕ))
    (s : Slackable m xs ys cs days levels) (least : Least (rule_at (columns xs ys cs)) (held_by levels) (way square)) where
  abbrev R : ℕ → Rule
  R = rule_at (columns xs ys cs)

  abbrev Given : ℕ → ℕ → Type 0
  Given x y =
      (way square x y ≡ NONE) ⊎ ((x ≡ y) × (way square x y ≡ 0))
      ⊎ ((i : ℕ) × held_by levels i × ((R i).first ≡ x) × ((R i).second ≡ y) × Biased (R i).amount (way square x y))

  -- The days keep each least amount.
  pub square_kept : (x : ℕ) → x < YARD_STEPS → RowKept x days (get_or square x [])
  square_kept x h y g other known = tell (least.given x y h g)
    where
      tell : Given x y → at days x + BIAS ≤ at days y + way square x y
      tell (inl none) = absurd (omega (arith, none, known))
      tell (inr (inl (e, is))) = absurd (other e)
      tell (inr (inr (i, held, first, second, biased))) =
          omega (arith, plan→ (at days) (R i) (s.kept i held), ap (at days) first, ap (at days) second, biased.is)

  module _ (r : List (List ℕ)) (slacked : (x : ℕ) → x < YARD_STEPS → RowSlack x days (get_or square x []) (get_or r x [])) where
    abbrev Cell : ℕ → ℕ → Type 0
    Cell x y = ((x ≡ y) × (way r x y ≡ 0)) ⊎ ((x ≡ y → ⊥) × SlackOf (way square x y) (at days x + BIAS) (at days y) (way r x y))

    self : (v : ℕ) → Cell v v → way r v v ≡ 0
    self v (inl (e, is)) = is
    self v (inr (d, slack)) = absurd (d refl)

    under : (i w : ℕ) → held_by levels i → Spares R (at days) i w → Cell (R i).first (R i).second → way r (R i).first (R i).second ≤ w
    under i w held spares (inl (e, is)) = omega (arith, is)
    under i w held spares (inr (d, inl (none, is))) = absurd (omega (arith, none, (least.under i held).narrow))
    under i w held spares (inr (d, inr (known, narrow, is))) = omega (arith, is, spares, (least.under i held).lower)

    given :
        (x y : ℕ) → Given x y → Cell x y →
        (way r x y ≡ NONE) ⊎ ((x ≡ y) × (way r x y ≡ 0))
        ⊎ ((i : ℕ) × held_by levels i × ((R i).first ≡ x) × ((R i).second ≡ y) × Spares R (at days) i (way r x y))
    given x y before (inl (e, is)) = inr (inl (e, is))
    given x y before (inr (d, inl (none, is))) = inl is
    given x y (inl none) (inr (d, inr (known, narrow, is))) = absurd (omega (arith, none, known))
    given x y (inr (inl (e, zero-here))) (inr (d, inr (known, narrow, is))) = absurd (d e)
    given x y (inr (inr (i, held, first, second, biased))) (inr (d, inr (known, narrow, is))) =
        inr (inr (i, held, first, second, omega (arith, is, ap (at days) first, ap (at days) second, biased.is)))

    bounded : (x y : ℕ) → Given x y → Cell x y → way r x y ≤ NONE
    bounded x y before (inl (e, is)) = omega (arith, is)
    bounded x y before (inr (d, inl (none, is))) = omega (arith, is)
    bounded x y (inl none) (inr (d, inr (known, narrow, is))) = absurd (omega (arith, none, known))
    bounded x y (inr (inl (e, zero-here))) (inr (d, inr (known, narrow, is))) = absurd (d e)
    bounded x y (inr (inr (i, held, first, second, biased))) (inr (d, inr (known, narrow, is))) = omega (arith, is, narrow, biased.narrow)

    -- So the square of slacks is that of single rules.
    pub slacked_single : Single R (held_by levels) (at days) r
    slacked_single = record {
      slacks = record {
        self = λ v h. self v (slacked v h v h);
        under = λ i w held spares. under i w held spares (slacked (R i).first (s.steps_in i held).first_in (R i).second (s.steps_in i held).second_in);
        given = λ x y h g. given x y (least.given x y h g) (slacked x h y g);
      };
      bounded = λ x y h g. bounded x y (least.given x y h g) (slacked x h y g);
    }
