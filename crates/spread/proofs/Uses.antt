-- What the earliest plan from given days on is used for: a rule is added, rules are dropped, and rules are told that follow from those held.
-- Throughout d are days that keep the rules, g₀ the gains that are asked for and g those that a spread gives.
use Prim.Native.Nat.{ℕ, ◌+◌, ◌-◌, ◌≤◌, ◌<◌, max}
use native.Mathlib.Omega.{arith}
use native.Mathlib.Decide.{ℕ_discrete}
use mathlib.Core.Path.{◌≡◌, ap}
use lib.IntN.{pos}
use Rattle.meaning.specs.Rules.{Rule, Keeps, InSteps, Plan, Earliest, Always, Fits, more, plus}
use Rattle.meaning.specs.Reckoning.{up, dn}
use Rattle.meaning.proofs.Whole.{keeps→, →keeps, plan→, →plan}
use Rattle.meaning.proofs.More.{more_arrangement, arrangement_new, arrangement_old}
use Rattle.spread.specs.Least.{ForcedFrom, EarliestFrom}

-- A plan with the same number added to all days is a plan.
pub plan_later : (R : ℕ → Rule) (H : ℕ → Type 0) (p : ℕ → ℕ) (k : ℕ) → Plan R H p → Plan R H (λ v. p v + k)
plan_later R H p k plan i held = →plan (λ v. p v + k) (R i) (omega (arith, plan→ p (R i) (plan i held)))

-- **Bound.** No gain is above the largest that is asked for.
pub gains_bounded :
    (n : ℕ) (R : ℕ → Rule) (H : ℕ → Type 0) (d g₀ g : ℕ → ℕ) (k : ℕ) → Plan R H d → ForcedFrom n R H (λ v. d v + g₀ v) (λ v. d v + g v) →
    ((v : ℕ) → v < n → g₀ v ≤ k) → (v : ℕ) → v < n → g v ≤ k
gains_bounded n R H d g₀ g k plan forced bounded v below =
    omega (arith, forced.no_later (λ w. d w + k) (plan_later R H d k plan) (λ w w-in. omega (arith, bounded w w-in)) v below)

-- **Add**, where the days keep the new rule: they are the earliest plan with it too.
pub kept_earliest :
    (n : ℕ) (R : ℕ → Rule) (H : ℕ → Type 0) (d : ℕ → ℕ) (m : ℕ) (r : Rule) → (H m → ⊥) → Earliest n R H d → Keeps (λ v. pos (d v)) r →
    Earliest n (more R m r) (plus H m) d
kept_earliest n R H d m r free earliest kept = record {
  plan = more_arrangement R H m r (λ v. pos (d v)) earliest.plan kept;
  no_later = λ q plan. earliest.no_later q (arrangement_old R H m r (λ v. pos (q v)) free plan);
}

-- **Add**, where they break it: the gain that is asked for is as much as the rule lacks, at its second step alone. Where the rule's first step
-- gets none, the days with their gains are the earliest plan with the new rule.
pub added_earliest :
    (n : ℕ) (R : ℕ → Rule) (H : ℕ → Type 0) (d g₀ g : ℕ → ℕ) (m : ℕ) (r : Rule) → (H m → ⊥) → InSteps n r → Earliest n R H d →
    d r.first + dn r.amount ≡ d r.second + g₀ r.second + up r.amount →
    ((v : ℕ) → v < n → (v ≡ r.second → ⊥) → g₀ v ≡ 0) → EarliestFrom n R H (λ v. d v + g₀ v) (λ v. d v + g v) → g r.first ≡ 0 →
    Earliest n (more R m r) (plus H m) (λ v. d v + g v)
added_earliest n R H d g₀ g m r free steps earliest lacks alone from stays = record {
  plan = more_arrangement R H m r (λ v. pos (d v + g v)) from.plan
      (→plan (λ v. d v + g v) r (omega (arith, from.forced.not_below r.second steps.second_in)));
  no_later = λ q plan. from.forced.no_later q (arrangement_old R H m r (λ v. pos (q v)) free plan) (above q plan);
}
  where
    above : (q : ℕ → ℕ) → Plan (more R m r) (plus H m) q → (v : ℕ) → v < n → d v + g₀ v ≤ q v
    above q plan v below = by_step (ℕ_discrete v r.second)
      where
        not_before : (w : ℕ) → w < n → d w ≤ q w
        not_before = earliest.no_later q (arrangement_old R H m r (λ u. pos (q u)) free plan)

        by_step : Dec (v ≡ r.second) → d v + g₀ v ≤ q v
        by_step (yes e) =
            omega (
              arith,
              ap d e,
              ap g₀ e,
              ap q e,
              not_before r.first steps.first_in,
              plan→ q r (arrangement_new R H m r (λ u. pos (q u)) plan),
            )
        by_step (no e) = omega (arith, not_before v below, alone v below e)

-- **Add**, where the rule's first step gets a gain too: no arrangement keeps the rule.
pub reached_unfit :
    (n : ℕ) (R : ℕ → Rule) (H : ℕ → Type 0) (d g₀ g : ℕ → ℕ) (r : Rule) → InSteps n r → Plan R H d →
    d r.first + dn r.amount ≡ d r.second + g₀ r.second + up r.amount →
    ((v : ℕ) → v < n → (v ≡ r.second → ⊥) → g₀ v ≡ 0) → ForcedFrom n R H (λ v. d v + g₀ v) (λ v. d v + g v) → 0 < g r.first → Fits R H r → ⊥
reached_unfit n R H d g₀ g r steps plan lacks alone forced has fits =
    omega (arith, forced.no_later together together-plan not_before r.first steps.first_in, keeps→ fits.days r fits.kept)
  where
    -- The later of d and of the days that keep the rule, shifted so that they give the second step its gain. They give the first step no more than d.
    together : ℕ → ℕ
    together v =
        max (d v)
        (d r.second + g₀ r.second + dn (fits.days r.second) + up (fits.days v) - (up (fits.days r.second) + dn (fits.days v)))

    together-plan : Plan R H together
    together-plan i held = →plan together (R i) (omega (arith, plan→ d (R i) (plan i held), keeps→ fits.days (R i) (fits.arrangement i held)))

    not_before : (v : ℕ) → v < n → d v + g₀ v ≤ together v
    not_before v below = by_step (ℕ_discrete v r.second)
      where
        by_step : Dec (v ≡ r.second) → d v + g₀ v ≤ together v
        by_step (yes p) = omega (arith, ap d p, ap g₀ p, ap (λ w. up (fits.days w)) p, ap (λ w. dn (fits.days w)) p)
        by_step (no p) = omega (arith, alone v below p)

-- **Back**: each step is asked to reach the day k. The days with their gains, less k, are the earliest plan.
pub back_earliest :
    (n : ℕ) (R : ℕ → Rule) (H : ℕ → Type 0) (d g₀ g : ℕ → ℕ) (k : ℕ) → ((i : ℕ) → H i → InSteps n (R i)) → ((v : ℕ) → v < n → d v + g₀ v ≡ k) →
    EarliestFrom n R H (λ v. d v + g₀ v) (λ v. d v + g v) → Earliest n R H (λ v. d v + g v - k)
back_earliest n R H d g₀ g k steps asked from = record {
  plan = λ i held. →plan (λ v. d v + g v - k) (R i)
      (omega (
        arith,
        plan→ (λ v. d v + g v) (R i) (from.plan i held),
        reached (R i).first (steps i held).first_in,
        reached (R i).second (steps i held).second_in,
      ));
  no_later = λ q plan v below.
      omega (arith, from.forced.no_later (λ w. q w + k) (plan_later R H q k plan) (λ w w-in. omega (arith, asked w w-in)) v below);
}
  where
    reached : (v : ℕ) → v < n → k ≤ d v + g v
    reached v below = omega (arith, asked v below, from.forced.not_below v below)

-- **Consequences.** The gain k is asked for at the first step of r alone. Where r's second step then gets a gain that meets r's amount, every
-- arrangement keeps r.
pub always_by_gain :
    (n : ℕ) (R : ℕ → Rule) (H : ℕ → Type 0) (d g₀ g : ℕ → ℕ) (k : ℕ) (r : Rule) → InSteps n r → Plan R H d → g₀ r.first ≡ k →
    ((v : ℕ) → v < n → (v ≡ r.first → ⊥) → g₀ v ≡ 0) → EarliestFrom n R H (λ v. d v + g₀ v) (λ v. d v + g v) →
    0 < g r.second → k + d r.first + dn r.amount ≤ d r.second + g r.second + up r.amount → Always R H r
always_by_gain n R H d g₀ g k r steps plan asked alone from has meets e arrangement =
    →keeps e r
    (omega (arith, from.forced.no_later together together-plan not_before r.second steps.second_in))
  where
    -- The later of d and of e, shifted so that it gives the first step of r its gain.
    together : ℕ → ℕ
    together v = max (d v) (k + d r.first + dn (e r.first) + up (e v) - (up (e r.first) + dn (e v)))

    together-plan : Plan R H together
    together-plan i held = →plan together (R i) (omega (arith, plan→ d (R i) (plan i held), keeps→ e (R i) (arrangement i held)))

    not_before : (v : ℕ) → v < n → d v + g₀ v ≤ together v
    not_before v below = by_step (ℕ_discrete v r.first)
      where
        by_step : Dec (v ≡ r.first) → d v + g₀ v ≤ together v
        by_step (yes p) = omega (arith, ap d p, ap g₀ p, ap (λ w. up (e w)) p, ap (λ w. dn (e w)) p)
        by_step (no p) = omega (arith, alone v below p)

-- And where every arrangement keeps r, it gets that gain; which is one where k is above what the days alone leave to r.
pub gain_by_always :
    (n : ℕ) (R : ℕ → Rule) (H : ℕ → Type 0) (d g₀ g : ℕ → ℕ) (k : ℕ) (r : Rule) → InSteps n r → Plan R H d → g₀ r.first ≡ k →
    EarliestFrom n R H (λ v. d v + g₀ v) (λ v. d v + g v) → Always R H r →
    k + d r.first + dn r.amount ≤ d r.second + g r.second + up r.amount
gain_by_always n R H d g₀ g k r steps plan asked from always =
    omega (arith, from.forced.not_below r.first steps.first_in, plan→ less r (always (λ v. pos (less v)) less-plan))
  where
    -- The days with each gain less that of r's second step, cut at 0.
    less : ℕ → ℕ
    less v = d v + (g v - g r.second)

    less-plan : Plan R H less
    less-plan i held = →plan less (R i) (omega (arith, plan→ d (R i) (plan i held), plan→ (λ v. d v + g v) (R i) (from.plan i held)))
