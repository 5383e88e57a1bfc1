-- Whole numbers of 64 bits as the machine reads them: which sums and differences fit, and what a test against 0 tells.
use Rattle.std.proofs.Common.{◌≡◌, ℕ, ◌+◌, ◌<◌, ◌≤◌, Bool, true, false, not, T, ℤ, pos, negsuc, ◌+ℤ◌, ◌-ℤ◌, nat_abs, ◌≤ℤ◌, ◌<ℤ◌, sym, refl, ap, ◌∙◌, subst, arith, w64, Fits, SFits, to_z, of_z}
use lib.Signed.{non_neg, lt_z, lt_z_no}
use mir.ValLaws.{to_z-of_z, to_z_pos}
use Rattle.meaning.specs.Reckoning.{up, dn}
use Rattle.meaning.proofs.Whole.{le→, lt→, →eq, add_is, minus_is}

-- Half of what 64 bits hold.
abbrev HALF : ℕ
HALF = 9223372036854775808

near_fits : (z : ℤ) → up z < HALF → dn z ≤ HALF → SFits w64 z
near_fits (pos n) above below = record { sfits = omega arith }
near_fits (negsuc n) above below = record { sfits = omega arith }

fits_below : (z : ℤ) → SFits w64 z → dn z ≤ HALF
fits_below (pos n) f = omega arith
fits_below (negsuc n) f = omega (arith, f.sfits)

fits_above : (z : ℤ) → SFits w64 z → up z < HALF
fits_above (pos n) f = omega (arith, f.sfits)
fits_above (negsuc n) f = omega arith

-- A number that is the difference of two is no farther from 0 than they are.
within : (z : ℤ) (a b : ℕ) → up z + b ≡ dn z + a → (up z ≤ a) × (dn z ≤ b)
within (pos n) a b is = (omega arith, omega arith)
within (negsuc n) a b is = (omega arith, omega arith)

-- The difference of two numbers that fit and are not below 0 fits.
difference_fits : (a b : ℕ) → a < HALF → b < HALF → SFits w64 (pos a -ℤ pos b)
difference_fits a b small small-too =
    let sides = within (pos a -ℤ pos b) a b (omega (arith, minus_is (pos a) (pos b))) in
    near_fits (pos a -ℤ pos b) (omega (arith, sides.0)) (omega (arith, sides.1))

pub difference_read : (a b : ℕ) → a < HALF → b < HALF → SFits w64 (to_z w64 a -ℤ to_z w64 b)
difference_read a b small small-too = rw (to_z_pos w64 a small, to_z_pos w64 b small-too) (difference_fits a b small small-too)

-- What the machine's test of a number against 0 tells.
pub tested_below : (z : ℤ) → SFits w64 z → lt_z (to_z w64 (of_z w64 z)) (pos 0) ≡ true → z <ℤ pos 0
tested_below z fits e = record { lt = subst T (sym (ap (λ (y : ℤ). lt_z y (pos 0)) (sym (to_z-of_z w64 z fits)) ∙ e)) tt }

pub tested_not_below : (z : ℤ) → SFits w64 z → lt_z (to_z w64 (of_z w64 z)) (pos 0) ≡ false → pos 0 ≤ℤ z
tested_not_below z fits e = lt_z_no (subst (λ (t : Bool). T (not t)) (sym (ap (λ (y : ℤ). lt_z y (pos 0)) (sym (to_z-of_z w64 z fits)) ∙ e)) tt)

below_zero : (z : ℤ) → z <ℤ pos 0 → (up z ≡ 0) × (1 ≤ dn z)
below_zero (pos n) h = absurd (omega (arith, lt→ (pos n) (pos 0) h))
below_zero (negsuc n) h = (refl, omega arith)

not_below_zero : (z : ℤ) → pos 0 ≤ℤ z → z ≡ pos (up z)
not_below_zero (pos n) h = refl
not_below_zero (negsuc n) h = absurd (omega (arith, le→ (pos 0) (negsuc n) h))

-- A number that is not below 0, as one without a sign.
pub unsigned : (z : ℤ) → SFits w64 z → pos 0 ≤ℤ z → T (non_neg (to_z w64 (of_z w64 z))) × Fits w64 (nat_abs (to_z w64 (of_z w64 z)))
unsigned z fits h =
    let read : to_z w64 (of_z w64 z) ≡ pos (up z) = to_z-of_z w64 z fits ∙ not_below_zero z h in
    rw read (tt, record { fits = omega (arith, fits_above z fits) })

one_more : (s : ℤ) (d : ℕ) → up s + d ≡ dn s + 1 → 1 ≤ d → (up s ≡ 0) × (dn s + 1 ≡ d)
one_more (pos n) d e l = (omega arith, omega arith)
one_more (negsuc n) d e l = (omega arith, omega arith)

-- A number below 0: one more, the opposite of that, and that without a sign.
module _ (z : ℤ) (fits : SFits w64 z) (below : z <ℤ pos 0) where
  abbrev next_machine : ℤ
  next_machine = to_z w64 (of_z w64 z) +ℤ pos 1

  next_sides : (up (z +ℤ pos 1) ≡ 0) × (dn (z +ℤ pos 1) + 1 ≡ dn z)
  next_sides =
      let low = below_zero z below in
      one_more (z +ℤ pos 1) (dn z) (omega (arith, add_is z (pos 1), low.0)) low.1

  next_plain : SFits w64 (z +ℤ pos 1)
  next_plain = near_fits (z +ℤ pos 1) (omega (arith, next_sides.0)) (omega (arith, next_sides.1, fits_below z fits))

  next_machine_is : next_machine ≡ z +ℤ pos 1
  next_machine_is = ap (λ (y : ℤ). y +ℤ pos 1) (to_z-of_z w64 z fits)

  pub next_fits : SFits w64 (to_z w64 (of_z w64 z) +ℤ pos 1)
  next_fits = subst (SFits w64) (sym next_machine_is) next_plain

  next_read : to_z w64 (of_z w64 next_machine) ≡ z +ℤ pos 1
  next_read = to_z-of_z w64 next_machine next_fits ∙ next_machine_is

  abbrev opposite_machine : ℤ
  opposite_machine = pos 0 -ℤ to_z w64 (of_z w64 next_machine)

  opposite_machine_is : opposite_machine ≡ pos (dn (z +ℤ pos 1))
  opposite_machine_is =
      ap (λ (y : ℤ). pos 0 -ℤ y) next_read
      ∙ →eq (pos 0 -ℤ (z +ℤ pos 1)) (pos (dn (z +ℤ pos 1))) (omega (arith, minus_is (pos 0) (z +ℤ pos 1), next_sides.0))

  small : dn (z +ℤ pos 1) < HALF
  small = omega (arith, next_sides.1, fits_below z fits)

  pub opposite_fits : SFits w64 (pos 0 -ℤ to_z w64 (of_z w64 (to_z w64 (of_z w64 z) +ℤ pos 1)))
  opposite_fits = subst (SFits w64) (sym opposite_machine_is) (record { sfits = small })

  opposite_read : to_z w64 (of_z w64 opposite_machine) ≡ pos (dn (z +ℤ pos 1))
  opposite_read = to_z-of_z w64 opposite_machine opposite_fits ∙ opposite_machine_is

  pub opposite_unsigned :
      T (non_neg (to_z w64 (of_z w64 (pos 0 -ℤ to_z w64 (of_z w64 (to_z w64 (of_z w64 z) +ℤ pos 1))))))
      × Fits w64 (nat_abs (to_z w64 (of_z w64 (pos 0 -ℤ to_z w64 (of_z w64 (to_z w64 (of_z w64 z) +ℤ pos 1))))))
  opposite_unsigned = rw opposite_read (tt, record { fits = omega (arith, small) })

  pub size_fits : Fits w64 (nat_abs (to_z w64 (of_z w64 (pos 0 -ℤ to_z w64 (of_z w64 (to_z w64 (of_z w64 z) +ℤ pos 1))))) + 1)
  size_fits = rw opposite_read (record { fits = omega (arith, small) })
