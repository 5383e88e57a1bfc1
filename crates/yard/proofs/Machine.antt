-- Whole numbers of 64 bits as the machine reads them: which sums and differences fit, and what its tests tell.
use Prim.Native.Nat.{ℕ, ◌+◌, ◌≤◌, ◌<◌}
use native.Mathlib.Omega.{arith}
use mathlib.Core.Path.{◌≡◌, refl, sym, ◌∙◌, ap, subst}
use mathlib.Core.Bool.{Bool, true, false, not, cond}
use mathlib.Core.Logic.{◌⊎◌, inl, inr}
use lib.Dec.{T}
use lib.IntN.{ℤ, pos, negsuc, neg_ℤ, ◌+ℤ◌}
use lib.Signed.{lt_z, ◌≤ℤ◌, ◌<ℤ◌, lt_z_no}
use mir.Syntax.{w64}
use mir.Val.{SFits, of_z, to_z}
use mir.ValLaws.{to_z-of_z}
use Rattle.std.specs.Int.{int_min}
use Rattle.meaning.specs.Bounds.{LARGEST, NO_LIMIT}
use Rattle.meaning.specs.Rules.{InAmount}
use Rattle.meaning.specs.Reckoning.{up, dn}
use Rattle.meaning.proofs.Whole.{le→, add_is}
use Rattle.gaps.specs.Slacks.{NEAR, Near}

-- ---- fits

-- Half of what 64 bits hold.
abbrev HALF : ℕ
HALF = 9223372036854775808

-- A number that is not far from 0 fits.
near_fits : (z : ℤ) → up z < HALF → dn z < HALF → SFits w64 z
near_fits (pos n) above below = record { sfits = omega arith }
near_fits (negsuc n) above below = record { sfits = omega arith }

-- A number that is the difference of two is no farther from 0 than they are.
within : (z : ℤ) (a b : ℕ) → up z + b ≡ dn z + a → (up z ≤ a) × (dn z ≤ b)
within (pos n) a b is = (omega arith, omega arith)
within (negsuc n) a b is = (omega arith, omega arith)

-- An amount is not far from 0.
pub amount_sides : (c : ℤ) → InAmount c → (up c ≤ LARGEST) × (dn c ≤ LARGEST)
amount_sides c in-amount = sides c (le→ (neg_ℤ (pos LARGEST)) c in-amount.not_below) (le→ c (pos LARGEST) in-amount.not_above)
  where
    sides : (c : ℤ) → 0 + dn c ≤ up c + LARGEST → up c + 0 ≤ LARGEST + dn c → (up c ≤ LARGEST) × (dn c ≤ LARGEST)
    sides (pos n) low high = (omega arith, omega arith)
    sides (negsuc n) low high = (omega arith, omega arith)

-- ---- tests

-- The bits are those of NO-LIMIT exactly when the number is.
pub is_no_limit : (z : ℤ) → SFits w64 z → of_z w64 z ≡ NO_LIMIT → z ≡ pos NO_LIMIT
is_no_limit z f e = sym (to_z-of_z w64 z f) ∙ ap (to_z w64) e

pub not_no_limit : (z : ℤ) → (of_z w64 z ≡ NO_LIMIT → ⊥) → z ≡ pos NO_LIMIT → ⊥
not_no_limit z d e = d (ap (of_z w64) e)

-- The machine's test of two whole numbers tells their order.
pub test_less : (a b : ℤ) → lt_z a b ≡ true → a <ℤ b
test_less a b e = record { lt = subst T (sym e) tt }

pub test_not_less : (a b : ℤ) → lt_z a b ≡ false → b ≤ℤ a
test_not_less a b e = lt_z_no (subst (λ (t : Bool). T (not t)) (sym e) tt)

-- ---- the way over a rule

-- What is near and has a limit.
near_sides : (z : ℤ) → (z ≡ pos NO_LIMIT → ⊥) → Near z → (up z ≤ NEAR) × (dn z ≤ NEAR)
near_sides z d (inl e) = absurd (d e)
near_sides z d (inr sides) = sides

module _ (p c q : ℤ) (fits-p : SFits w64 p) (fits-c : SFits w64 c) (fits-q : SFits w64 q) (limited : p ≡ pos NO_LIMIT → ⊥) (limited-too : q ≡ pos NO_LIMIT → ⊥)
    (near_p : Near p) (in-amount : InAmount c) (near-q : Near q) where
  sum_sides : (up (p +ℤ c) ≤ NEAR + LARGEST) × (dn (p +ℤ c) ≤ NEAR + LARGEST)
  sum_sides =
      let sides = within (p +ℤ c) (up p + up c) (dn p + dn c) (add_is p c) in
      let ps = near_sides p limited near_p in
      let cs = amount_sides c in-amount in
      (omega (arith, sides.0, ps.0, cs.0), omega (arith, sides.1, ps.1, cs.1))

  sum_fits : SFits w64 (p +ℤ c)
  sum_fits = near_fits (p +ℤ c) (omega (arith, sum_sides.0)) (omega (arith, sum_sides.1))

  -- The machine's first sum, and the way.
  abbrev sum_machine : ℤ
  sum_machine = to_z w64 (of_z w64 p) +ℤ to_z w64 (of_z w64 c)

  abbrev way_machine : ℤ
  way_machine = to_z w64 (of_z w64 sum_machine) +ℤ to_z w64 (of_z w64 q)

  sum_machine_is : sum_machine ≡ p +ℤ c
  sum_machine_is = rw (to_z-of_z w64 p fits-p, to_z-of_z w64 c fits-c) refl

  pub first_fits : SFits w64 (to_z w64 (of_z w64 p) +ℤ to_z w64 (of_z w64 c))
  first_fits = subst (SFits w64) (sym sum_machine_is) sum_fits

  plain_way_fits : SFits w64 ((p +ℤ c) +ℤ q)
  plain_way_fits =
      let sides = within ((p +ℤ c) +ℤ q) (up (p +ℤ c) + up q) (dn (p +ℤ c) + dn q) (add_is (p +ℤ c) q) in
      let qs = near_sides q limited-too near-q in
      near_fits ((p +ℤ c) +ℤ q) (omega (arith, sides.0, qs.0, sum_sides.0)) (omega (arith, sides.1, qs.1, sum_sides.1))

  way_machine_is : way_machine ≡ (p +ℤ c) +ℤ q
  way_machine_is = (λ i. to_z w64 (of_z w64 (sum_machine_is i)) +ℤ to_z-of_z w64 q fits-q i) ∙ ap (λ (z : ℤ). z +ℤ q) (to_z-of_z w64 (p +ℤ c) sum_fits)

  pub way_read : to_z w64 (of_z w64 (to_z w64 (of_z w64 (to_z w64 (of_z w64 p) +ℤ to_z w64 (of_z w64 c))) +ℤ to_z w64 (of_z w64 q))) ≡ (p +ℤ c) +ℤ q
  way_read = ap (λ (z : ℤ). to_z w64 (of_z w64 z)) way_machine_is ∙ to_z-of_z w64 ((p +ℤ c) +ℤ q) plain_way_fits

-- The smaller of a cell and a way, as the machine reads both.
pub lesser_read : {a way a' way' r : ℤ} → a ≡ a' → way ≡ way' → r ≡ int_min a way → ((way' <ℤ a') × (r ≡ way')) ⊎ ((a' ≤ℤ way') × (r ≡ a'))
lesser_read {a} {way} {a'} {way'} {r} is is-too e = tell (lt_z way' a') refl (e ∙ (λ i. int_min (is i) (is-too i)))
  where
    tell : (t : Bool) → lt_z way' a' ≡ t → r ≡ cond t way' a' → ((way' <ℤ a') × (r ≡ way')) ⊎ ((a' ≤ℤ way') × (r ≡ a'))
    tell true less same = inl (test_less way' a' less, same)
    tell false no_less same = inr (test_not_less way' a' no_less, same)
