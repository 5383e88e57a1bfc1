-- The tests of the code say that the gains carry the rule, or its negation.
use Prim.Native.Nat.{ℕ, ◌+◌}
use native.Mathlib.Omega.{arith}
use mathlib.Core.Path.{◌≡◌}
use mathlib.Core.List.{List}
use mathlib.Core.Logic.{◌↔◌}
use lib.ListN.{get_or}
use lib.IntN.{ℤ, pos, neg_ℤ}
use Rattle.meaning.specs.Rules.{negation}
use Rattle.meaning.specs.Tables.{at}
use Rattle.meaning.proofs.Whole.{up_neg, dn_neg, minus_is}
use Rattle.spread.specs.Ground.{rules}
use Rattle.inner_split.specs.Carries.{GAIN, Carries}
use Rattle.inner_split.specs.Clauses.{Within, Broken}

module _ (xs ys : List ℕ) (cs : List ℤ) (days gains : List ℕ) (far j : ℕ) where
  -- Where `far` is the day of the first step with the gain asked for, the gains carry the rule exactly when that day is within its limit.
  pub carries_within : far ≡ at days (at xs j) + GAIN → Carries (at days) (at gains) (rules xs ys cs j) ↔ Within far ys cs days gains j
  carries_within is = (λ h. omega arith, λ h. omega arith)

  -- Where `far` is the day of the second step with the gain asked for, they carry the negation exactly when the rule is broken.
  pub carries_broken : far ≡ at days (at ys j) + GAIN → Carries (at days) (at gains) (negation (rules xs ys cs j)) ↔ Broken far xs cs days gains j
  carries_broken is = (
    λ h. omega (arith, minus_is (neg_ℤ (get_or cs j (pos 0))) (pos 1), up_neg (get_or cs j (pos 0)), dn_neg (get_or cs j (pos 0))),
    λ h. omega (arith, minus_is (neg_ℤ (get_or cs j (pos 0))) (pos 1), up_neg (get_or cs j (pos 0)), dn_neg (get_or cs j (pos 0))),
  )
