-- Laws of rules, plans and rings: the earliest plan is unique, negation is exact, a negative ring excludes every arrangement.
use Prim.Native.Nat.{ℕ, ◌+◌, ◌≤◌, ◌<◌}
use native.Mathlib.Omega.{arith}
use mathlib.Core.Path.{◌≡◌, refl, sym, ap, subst}
use mathlib.Core.List.{List, [], ◌∷◌}
use mathlib.Core.Logic.{◌⊎◌, inl, inr, ◌↔◌}
use lib.IntN.{ℤ, pos, neg_ℤ, ◌-ℤ◌}
use Rattle.meaning.specs.Rules.{Rule, Keeps, InSteps, negation, Arrangement, Plan, Earliest, Always, Never, Fits, Leads, All, total, more, plus, Refutes}
use Rattle.meaning.proofs.More.{more_new, more_either, more_arrangement, arrangement_new, arrangement_old}
use Rattle.meaning.specs.Reckoning.{up, dn}
use Rattle.meaning.proofs.Whole.{lt→, →eq, add_is, minus_is, up_neg, dn_neg, keeps→, →keeps, plan→, →plan, keeps?}

-- ---- the earliest plan

-- Two earliest plans of the same rules have the same days below n.
pub earliest_unique : {n : ℕ} {R : ℕ → Rule} {H : ℕ → Type 0} {p q : ℕ → ℕ} → Earliest n R H p → Earliest n R H q → (v : ℕ) → v < n → p v ≡ q v
earliest_unique {p} {q} a b v h = omega (arith, a.no_later q b.plan v h, b.no_later p a.plan v h)

-- What is said of the rules held is said of any family with the same rules under the numbers held.
pub arrangement_same : {R S : ℕ → Rule} {H G : ℕ → Type 0} (d : ℕ → ℤ) → ((i : ℕ) → G i → H i) → ((i : ℕ) → G i → R i ≡ S i) → Arrangement R H d → Arrangement S G d
arrangement_same d sub e a i g = subst (Keeps d) (e i g) (a i (sub i g))

pub earliest_same : {n : ℕ} {R S : ℕ → Rule} {H G : ℕ → Type 0} {p : ℕ → ℕ} → ((i : ℕ) → G i → H i) → ((i : ℕ) → H i → G i) → ((i : ℕ) → G i → R i ≡ S i) → Earliest n R H p → Earliest n S G p
earliest_same {n} {R} {S} {H} {G} {p} down up' e a =
    record {
      plan = arrangement_same (λ v. pos (p v)) down e a.plan;
      no_later = λ q b. a.no_later q (arrangement_same (λ v. pos (q v)) up' (λ i h. sym (e i (up' i h))) b);
    }

-- Only the days below n matter to rules over n steps.
pub plan_ext : (n : ℕ) (R : ℕ → Rule) (H : ℕ → Type 0) (p q : ℕ → ℕ) → ((i : ℕ) → H i → InSteps n (R i)) → ((v : ℕ) → v < n → p v ≡ q v) → Plan R H p → Plan R H q
plan_ext n R H p q steps e a i h =
    →plan q (R i) (omega (arith, plan→ p (R i) (a i h), e (R i).first (steps i h).first_in, e (R i).second (steps i h).second_in))

pub earliest_ext : (n : ℕ) (R : ℕ → Rule) (H : ℕ → Type 0) (p q : ℕ → ℕ) → ((i : ℕ) → H i → InSteps n (R i)) → ((v : ℕ) → v < n → p v ≡ q v) → Earliest n R H p → Earliest n R H q
earliest_ext n R H p q steps e a =
    record { plan = plan_ext n R H p q steps e a.plan; no_later = λ o b v h. omega (arith, a.no_later o b v h, e v h) }

-- ---- negation

-- Rules with the same steps and amount are the same.
pub rule_eq : (r s : Rule) → r.first ≡ s.first → r.second ≡ s.second → r.amount ≡ s.amount → r ≡ s
rule_eq r s p q e i = record { first = p i; second = q i; amount = e i }

-- Not not r is r.
pub not_not : (r : Rule) → negation (negation r) ≡ r
not_not r = rule_eq (negation (negation r)) r refl refl (→eq (negation (negation r)).amount r.amount (omega (arith, twice)))
  where
    c : ℤ
    c = r.amount

    once : ℤ
    once = neg_ℤ c -ℤ pos 1

    twice : up (neg_ℤ once -ℤ pos 1) + dn c ≡ up c + dn (neg_ℤ once -ℤ pos 1)
    twice = omega (arith, minus_is (neg_ℤ c) (pos 1), up_neg c, dn_neg c, minus_is (neg_ℤ once) (pos 1), up_neg once, dn_neg once)

-- Under any days exactly one of r and not r holds.
pub one_holds : (d : ℕ → ℤ) (r : Rule) → Keeps d r ⊎ Keeps d (negation r)
one_holds d r = tell (keeps? d r)
  where
    tell : Dec (Keeps d r) → Keeps d r ⊎ Keeps d (negation r)
    tell (yes k) = inl k
    tell (no k) = inr (→keeps d (negation r) (omega (arith, apart, minus_is (neg_ℤ r.amount) (pos 1), up_neg r.amount, dn_neg r.amount)))
      where
        apart : ¬ (up (d r.first) + dn (d r.second) + dn r.amount ≤ dn (d r.first) + up (d r.second) + up r.amount)
        apart h = k (→keeps d r h)

pub not_both : (d : ℕ → ℤ) (r : Rule) → Keeps d r → Keeps d (negation r) → ⊥
not_both d r h k = omega (arith, keeps→ d r h, keeps→ d (negation r) k, minus_is (neg_ℤ r.amount) (pos 1), up_neg r.amount, dn_neg r.amount)

-- r holds in all arrangements exactly when held rules and not r conflict; r holds in none exactly when held rules and r conflict.
pub always_is : (R : ℕ → Rule) (H : ℕ → Type 0) (r : Rule) → Always R H r ↔ (Fits R H (negation r) → ⊥)
always_is R H r = (λ all f. not_both f.days r (all f.days f.arrangement) f.kept, back)
  where
    back : (Fits R H (negation r) → ⊥) → Always R H r
    back none d a = tell (one_holds d r)
      where
        tell : Keeps d r ⊎ Keeps d (negation r) → Keeps d r
        tell (inl k) = k
        tell (inr k) = absurd (none (record { days = d; arrangement = a; kept = k }))

pub never_is : (R : ℕ → Rule) (H : ℕ → Type 0) (r : Rule) → Never R H r ↔ (Fits R H r → ⊥)
never_is R H r = (λ all f. all f.days f.arrangement f.kept, λ none d a k. none (record { days = d; arrangement = a; kept = k }))

-- r holds in none exactly when not r holds in all.
pub never_is_always_not : (R : ℕ → Rule) (H : ℕ → Type 0) (r : Rule) → Never R H r ↔ Always R H (negation r)
never_is_always_not R H r = (to, λ all d a k. not_both d r k (all d a))
  where
    to : Never R H r → Always R H (negation r)
    to none d a = tell (one_holds d r)
      where
        tell : Keeps d r ⊎ Keeps d (negation r) → Keeps d (negation r)
        tell (inl k) = absurd (none d a k)
        tell (inr k) = k

-- ---- rings

-- The days at the two ends of a list of rules that are kept differ by no more than the sum of the amounts.
pub walk_bound : (R : ℕ → Rule) (d : ℕ → ℤ) (l : List ℕ) (a b : ℕ) → Leads R l a b → All (λ i. Keeps d (R i)) l → up (d a) + dn (d b) + dn (total R l) ≤ dn (d a) + up (d b) + up (total R l)
walk_bound R d [] a b e k = omega (arith, ap (λ v. up (d v)) e, ap (λ v. dn (d v)) e)
walk_bound R d (i ∷ l) a b e k =
    omega (
      arith,
      ap (λ v. up (d v)) e.0,
      ap (λ v. dn (d v)) e.0,
      keeps→ d (R i) k.0,
      add_is (R i).amount (total R l),
      walk_bound R d l (R i).second b e.1 k.1,
    )

-- What holds of every number held holds of every number of a list of them.
pub all_implies : {P Q : ℕ → Type 0} → ((i : ℕ) → P i → Q i) → (l : List ℕ) → All P l → All Q l
all_implies f [] h = tt
all_implies f (i ∷ l) h = (f i h.0, all_implies f l h.1)

-- A negative ring excludes every arrangement that keeps the refused rule too.
pub ring_excludes : (R : ℕ → Rule) (H : ℕ → Type 0) (k : ℕ) (r : Rule) (l : List ℕ) → Refutes R H k r l → Fits R H r → ⊥
ring_excludes R H k r [] h f = h
ring_excludes R H k r (j ∷ l) h f =
    omega (arith, walk_bound (more R k r) f.days (k ∷ l) start start h.1.ring.leads_back kept, lt→ (total (more R k r) (k ∷ l)) _ h.1.negative)
  where
    start : ℕ
    start = (more R k r k).first

    kept : All (λ i. Keeps f.days (more R k r i)) (k ∷ l)
    kept = (
      subst (Keeps f.days) (sym (more_new R k r)) f.kept,
      all_implies (λ i g. more_either (Keeps f.days) R k r i f.kept (f.arrangement i g)) l h.1.rest_held,
    )

-- The days of a fit are an arrangement of the larger family, and an arrangement of the larger family is a fit.
pub fits_more : (R : ℕ → Rule) (H : ℕ → Type 0) (k : ℕ) (r : Rule) (f : Fits R H r) → Arrangement (more R k r) (plus H k) f.days
fits_more R H k r f = more_arrangement R H k r f.days f.arrangement f.kept

pub more_fits : (R : ℕ → Rule) (H : ℕ → Type 0) (k : ℕ) (r : Rule) → (H k → ⊥) → (d : ℕ → ℤ) → Arrangement (more R k r) (plus H k) d → Fits R H r
more_fits R H k r free d a = record { days = d; arrangement = arrangement_old R H k r d free a; kept = arrangement_new R H k r d a }
