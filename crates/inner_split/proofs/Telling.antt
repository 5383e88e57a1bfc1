-- What a spread from one step tells: a rule that leads from that step holds in every arrangement exactly when the gains carry it.
use Prim.Native.Nat.{ℕ, ◌+◌, ◌≤◌, ◌<◌}
use native.Mathlib.Omega.{arith}
use native.Mathlib.Decide.{ℕ_discrete}
use mathlib.Core.Path.{◌≡◌, sym, ◌∙◌}
use mathlib.Core.List.{List}
use mathlib.Core.Logic.{◌↔◌}
use lib.IntN.{ℤ, pos, negsuc, neg_ℤ}
use Rattle.meaning.specs.Bounds.{LARGEST}
use Rattle.meaning.specs.Rules.{Rule, InAmount, InSteps, InBounds, negation, Plan, Always, Never}
use Rattle.meaning.specs.Tables.{at}
use Rattle.meaning.specs.Reckoning.{up, dn}
use Rattle.meaning.proofs.Whole.{le→, up_neg, dn_neg, minus_is}
use Rattle.meaning.proofs.DayBound.{amount_down}
use Rattle.meaning.proofs.Theory.{never_is_always_not}
use Rattle.spread.specs.Least.{EarliestFrom}
use Rattle.spread.specs.Clauses.{alone, Spread}
use Rattle.spread.specs.Ground.{rules}
use Rattle.spread.proofs.Collecting.{alone_there, alone_elsewhere}
use Rattle.spread.proofs.Uses.{gains_bounded, always_by_gain, gain_by_always}
use Rattle.inner_split.specs.Carries.{GAIN, Carries, Near, Telling}

-- No more than the gain is asked for anywhere.
alone_at_most : (a k v : ℕ) → alone a k v ≤ k
alone_at_most a k v = tell (ℕ_discrete v a)
  where
    tell : Dec (v ≡ a) → alone a k v ≤ k
    tell (yes e) = omega (arith, alone_there a k v e)
    tell (no e) = omega (arith, alone_elsewhere a k v e)

-- Over n steps, where the days are near, and the gain was asked for at step a alone and spread.
module _
    (n : ℕ) (R : ℕ → Rule) (H : ℕ → Type 0) (d : ℕ → ℕ) (near : (v : ℕ) → v < n → d v + LARGEST < GAIN) (plan : Plan R H d)
    (a : ℕ) (g : ℕ → ℕ) (from : EarliestFrom n R H (λ v. d v + alone a GAIN v) (λ v. d v + g v)) where
  -- What the gains carry holds always. It has a gain, since no day and amount alone come to what was asked for.
  carried_always : (r : Rule) → r.first ≡ a → InSteps n r → up r.amount ≤ LARGEST → Carries d g r → Always R H r
  carried_always r of_a steps small carries =
      always_by_gain n R H d (alone a GAIN) g GAIN r steps plan (alone_there a GAIN r.first of_a)
      (λ v below other. alone_elsewhere a GAIN v (λ e. other (e ∙ sym of_a))) from
      (omega (arith, near r.second steps.second_in)) carries

  -- What holds always the gains carry.
  always_carried : (r : Rule) → r.first ≡ a → InSteps n r → Always R H r → Carries d g r
  always_carried r of_a steps always =
      gain_by_always n R H d (alone a GAIN) g GAIN r steps plan (alone_there a GAIN r.first of_a) from always

  -- So the gains tell.
  pub telling : Telling n R H d a g
  telling = record {
    bounded = gains_bounded n R H d (alone a GAIN) g GAIN plan from.forced (λ v below. alone_at_most a GAIN v);
    tells = λ r of_a steps small. (always_carried r of_a steps, carried_always r of_a steps small);
  }

-- A spread of the gain from step a with no goal tells.
pub spread_tells :
    (n : ℕ) (H : ℕ → Type 0) (xs ys : List ℕ) (cs : List ℤ) (days : List ℕ) (a : ℕ) (before gains by : List ℕ) → Near n days → Plan (rules xs ys cs) H (at days) →
    Spread n H xs ys cs days n (λ v. at days v + alone a GAIN v) before gains by → Telling n (rules xs ys cs) H (at days) a (at gains)
spread_tells n H xs ys cs days a before gains by near plan s =
    telling n (rules xs ys cs) H (at days) near plan a (at gains)
    (record { plan = s.plan (λ below. absurd (omega arith)); forced = s.forced })

-- A whole number is at most k above 0 where it is at most k.
up_at_most : (z : ℤ) (k : ℕ) → up z ≤ k + dn z → up z ≤ k
up_at_most (pos z) k h = omega arith
up_at_most (negsuc z) k h = omega arith

-- An amount within bounds is at most LARGEST above 0.
amount_up : (c : ℤ) → InAmount c → up c ≤ LARGEST
amount_up c within = up_at_most c LARGEST (omega (arith, le→ c (pos LARGEST) within.not_above))

-- And so is that of the negation.
negated_up : (r : Rule) → InAmount r.amount → up (negation r).amount ≤ LARGEST
negated_up r within =
    up_at_most (negation r).amount LARGEST
    (omega (
      arith,
      minus_is (neg_ℤ r.amount) (pos 1),
      up_neg r.amount,
      dn_neg r.amount,
      amount_down LARGEST r.amount within.not_below,
    ))

-- **Consequences**: of a rule within bounds whose first step is a the gains tell whether it holds always.
pub always_told :
    (n : ℕ) (R : ℕ → Rule) (H : ℕ → Type 0) (d : ℕ → ℕ) (a : ℕ) (g : ℕ → ℕ) → Telling n R H d a g → (r : Rule) → r.first ≡ a → InBounds n r →
    Always R H r ↔ Carries d g r
always_told n R H d a g t r of_a bounds = t.tells r of_a bounds.steps_in (amount_up r.amount bounds.amount_in)

-- And of one whose second step is a whether it holds never.
pub never_told :
    (n : ℕ) (R : ℕ → Rule) (H : ℕ → Type 0) (d : ℕ → ℕ) (a : ℕ) (g : ℕ → ℕ) → Telling n R H d a g → (r : Rule) → r.second ≡ a → InBounds n r →
    Never R H r ↔ Carries d g (negation r)
never_told n R H d a g t r of_a bounds = (λ never. told.0 ((never_is_always_not R H r).0 never), λ carries. (never_is_always_not R H r).1 (told.1 carries))
  where
    told : Always R H (negation r) ↔ Carries d g (negation r)
    told =
        t.tells (negation r) of_a (record { first_in = bounds.steps_in.second_in; second_in = bounds.steps_in.first_in }) (negated_up r bounds.amount_in)
