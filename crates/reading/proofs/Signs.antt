-- What two negations of rules come to, and the negation of a small number as the machine has it. Each is linear in natural numbers once a whole number is split.
use Prim.Native.Nat.{ℕ, zero, suc, ◌≤◌}
use native.Mathlib.Omega.{arith}
use mathlib.Core.Path.{◌≡◌}
use lib.IntN.{ℤ, pos, neg_ℤ, ◌-ℤ◌}
use lib.Signed.{mag}
use mir.Syntax.{w32}
use mir.Val.{SFits, to_z, of_z}
use mir.ValLaws.{to_z_pos, to_z-of_z}
use borrow.Author.Rules.{sfits_of}
use Rattle.meaning.proofs.Whole.{→eq, up_neg, dn_neg, minus_is}

-- Not c - 1 is -c; not not c is c.
pub not_less : (c : ℤ) → (neg_ℤ (c -ℤ pos 1) -ℤ pos 1) ≡ neg_ℤ c
not_less c =
    let z = c -ℤ pos 1 in
    →eq (neg_ℤ z -ℤ pos 1) (neg_ℤ c) (omega (arith, minus_is (neg_ℤ z) (pos 1), up_neg z, dn_neg z, minus_is c (pos 1), up_neg c, dn_neg c))

pub not_not : (c : ℤ) → (neg_ℤ (neg_ℤ c -ℤ pos 1) -ℤ pos 1) ≡ c
not_not c =
    let z = neg_ℤ c -ℤ pos 1 in
    →eq (neg_ℤ z -ℤ pos 1) c (omega (arith, minus_is (neg_ℤ z) (pos 1), up_neg z, dn_neg z, minus_is (neg_ℤ c) (pos 1), up_neg c, dn_neg c))

-- The negation of a small number, as the machine has it.
pub negated_small : (n : ℕ) → n ≤ 10000000 → to_z w32 (of_z w32 (pos 0 -ℤ to_z w32 n)) ≡ neg_ℤ (pos n)
negated_small n h = rw (to_z_pos w32 n (omega arith)) (rw (minus n) (to_z-of_z w32 (neg_ℤ (pos n)) (fits n h)))
  where
    minus : (n : ℕ) → (pos 0 -ℤ pos n) ≡ neg_ℤ (pos n)
    minus n = →eq (pos 0 -ℤ pos n) (neg_ℤ (pos n)) (omega (arith, minus_is (pos 0) (pos n), up_neg (pos n), dn_neg (pos n)))

    fits : (n : ℕ) → n ≤ 10000000 → SFits w32 (neg_ℤ (pos n))
    fits n h = sfits_of (omega (arith, small n h))
      where
        small : (n : ℕ) → n ≤ 10000000 → mag (neg_ℤ (pos n)) ≤ 10000000
        small zero h = omega arith
        small (suc k) h = omega arith
