-- What refutes a rule: its would-be number, and then what closes the ring from its second step to its first, with different first steps.
use Prim.Native.Nat.{ℕ}
use native.Mathlib.Omega.{arith}
use mathlib.Core.Path.{◌≡◌, refl, sym, subst}
use mathlib.Core.Bool.{Bool}
use mathlib.Core.List.{List, ◌∷◌, map}
use lib.IntN.{pos}
use Rattle.meaning.specs.Rules.{Rule, All, Different, Ring, Negative, total, more, Refutes, RefutesBy}
use Rattle.meaning.proofs.Whole.{lt→, →lt, add_is}
use Rattle.meaning.proofs.More.{more_new, more_old}
use Rattle.meaning.proofs.Theory.{all_implies}
use Rattle.meaning.proofs.Rings.{leads_same, total_same, firsts_same}
use Rattle.lent.specs.Decides.{Decides, decides_same}
use Rattle.lent.specs.Lent.{Biased, BIAS}
use Rattle.ringcheck.specs.Closing.{Closes}

-- The first steps of the rules in the list.
abbrev pub firsts : (ℕ → Rule) → List ℕ → List ℕ
firsts R l = map (λ i. (R i).first) l

-- Over another family with the same rules under the held numbers, the same lists close a ring.
closes_same : (F G : ℕ → Rule) (H : ℕ → Type 0) (x reached sum low : ℕ) (l : List ℕ) → ((i : ℕ) → H i → F i ≡ G i) → Closes F H x reached sum low l → Closes G H x reached sum low l
closes_same F G H x reached sum low l same closes = record {
  rest_held = closes.rest_held;
  leads = leads_same F G l reached x each closes.leads;
  negative = rw (total_same F G l each) at closes.negative;
}
  where
    each : All (λ i. F i ≡ G i) l
    each = all_implies same l closes.rest_held

-- The list closes a ring after the rule r: from its second step to its first, with its amount, which is given as b, the amount + BIAS, in the sum.
abbrev pub ClosesAfter : (ℕ → Rule) → (ℕ → Type 0) → Rule → ℕ → List ℕ → Type 0
ClosesAfter R H r b l = Closes R H r.first r.second b BIAS l

-- The rule r and the rules in the list have different first steps.
abbrev pub DifferentAfter : (ℕ → Rule) → Rule → List ℕ → Type 0
DifferentAfter R r l = Different (r.first ∷ firsts R l)

-- Number k and then l are a negative ring exactly when l closes it after the rule under k, and the first steps are different.
module _ (F : ℕ → Rule) (H : ℕ → Type 0) (k b : ℕ) (biased : Biased (F k).amount b) (l : List ℕ) where
  -- The rest of a negative ring closes it.
  ring→closes : Ring F k l → Negative F k l → All H l → ClosesAfter F H (F k) b l
  ring→closes ring negative held = record {
    rest_held = held;
    leads = ring.leads_back.1;
    negative = omega (arith, lt→ (total F (k ∷ l)) (pos 0) negative, add_is (F k).amount (total F l), biased.is);
  }

  -- With what closes it, number k makes a ring, where the first steps are different.
  closes→ring : ClosesAfter F H (F k) b l → DifferentAfter F (F k) l → Ring F k l
  closes→ring closes different = record { leads_back = (refl, closes.leads); no_step_twice = different }

  -- And the ring is negative.
  closes→negative : ClosesAfter F H (F k) b l → Negative F k l
  closes→negative closes = →lt (total F (k ∷ l)) (pos 0) (omega (arith, closes.negative, add_is (F k).amount (total F l), biased.is))

-- The same where number k is that of a rule to be added, and the rest is read from the rules held.
module _ (R : ℕ → Rule) (H : ℕ → Type 0) (k : ℕ) (r : Rule) (free : H k → ⊥) (b : ℕ) (biased : Biased r.amount b) where
  -- The rules held and the rule to be added.
  abbrev F : ℕ → Rule
  F = more R k r

  -- Under a held number stands the held rule.
  same : (i : ℕ) → H i → F i ≡ R i
  same i held = more_old R k r i (λ e. free (subst H e held))

  -- The amount of the rule to be added is given.
  biased_new : Biased (F k).amount b
  biased_new = subst (λ (s : Rule). Biased s.amount b) (sym (more_new R k r)) biased

  -- The first steps of rules held are the same in both.
  firsts_are : (l : List ℕ) → All H l → (F k).first ∷ firsts F l ≡ r.first ∷ firsts R l
  firsts_are l held = λ j. (more_new R k r j).first ∷ firsts_same F R l (all_implies same l held) j

  -- Where number k and then l refute the rule, l closes the ring.
  refutes→closes : (l : List ℕ) → RefutesBy R H k r l → ClosesAfter R H r b l
  refutes→closes l by =
      closes_same F R H r.first r.second b BIAS l same
      (subst (λ (s : Rule). ClosesAfter F H s b l) (more_new R k r) (ring→closes F H k b biased_new l by.ring by.negative by.rest_held))

  -- And the first steps are different.
  refutes→different : (l : List ℕ) → RefutesBy R H k r l → DifferentAfter R r l
  refutes→different l by = subst Different (firsts_are l by.rest_held) by.ring.no_step_twice

  -- Where l closes the ring and the first steps are different, number k and then l refute the rule.
  closes→refutes : (l : List ℕ) → ClosesAfter R H r b l → DifferentAfter R r l → RefutesBy R H k r l
  closes→refutes l closes different = record {
    ring = closes→ring F H k b biased_new l over-all (subst Different (sym (firsts_are l closes.rest_held)) different);
    negative = closes→negative F H k b biased_new l over-all;
    rest_held = closes.rest_held;
  }
    where
      over-all : ClosesAfter F H (F k) b l
      over-all =
          subst (λ (s : Rule). ClosesAfter F H s b l) (sym (more_new R k r))
          (closes_same R F H r.first r.second b BIAS l (λ i held. sym (same i held)) closes)

  -- A list that refutes the rule closes the ring after its first number.
  pub refutes_closes : (j : ℕ) (l : List ℕ) → Refutes R H k r (j ∷ l) → ClosesAfter R H r b l
  refutes_closes j l refutes = refutes→closes l refutes.1

  -- Where the list closes the ring, what decides whether the first steps are different decides whether it refutes the rule.
  pub different_decides : {t : Bool} (j : ℕ) (l : List ℕ) → j ≡ k → ClosesAfter R H r b l → Decides t (DifferentAfter R r l) → Decides t (Refutes R H k r (j ∷ l))
  different_decides j l first closes rest = decides_same (λ different. (first, closes→refutes l closes different)) (λ refutes. refutes→different l refutes.1) rest
