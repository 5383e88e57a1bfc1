-- The least of the shortest ways from y to x below t is, with the number of the refused rule in front, its reason.
use Prim.Native.Nat.{ℕ, suc, ◌+◌, ◌-◌, ◌≤◌, ◌<◌}
use native.Mathlib.Omega.{arith}
use mathlib.Core.Path.{◌≡◌, refl, sym, ◌∙◌, ap, subst}
use mathlib.Core.List.{List, [], ◌∷◌, map}
use mathlib.Core.Logic.{◌⊎◌, inl, inr}
use lib.ListN.{length}
use lib.IntN.{ℤ, pos, ◌+ℤ◌}
use lib.Signed.{◌<ℤ◌}
use Rattle.meaning.specs.Rules.{Rule, rule, InSteps, Plan, Leads, All, Different, total, more, Refutes, RefutesBy, Before, Reason}
use Rattle.meaning.specs.Reckoning.{up, dn}
use Rattle.meaning.proofs.Whole.{→lt, lt→, add_is, plan→}
use Rattle.meaning.proofs.More.{more_new, more_old}
use Rattle.meaning.proofs.Theory.{all_implies}
use Rattle.meaning.proofs.Counting.{ring_length}
use Rattle.meaning.proofs.Rings.{leads_same, total_same, firsts_same}
use Rattle.shortest.specs.Walks.{spare, spent, Way, Least, Open}
use Rattle.shortest.specs.Clauses.{Fewest}

-- ---- the shortest way meets no step twice

module _ (R : ℕ → Rule) (H : ℕ → Type 0) (w : ℕ → ℕ) (x : ℕ) where
  -- No way from v below the bound has fewer than h rules.
  abbrev NoneShorter : ℕ → ℕ → ℕ → Type 0
  NoneShorter v bound h = (k : ℕ) → Open R H w x v k bound → h ≤ k

  -- A way that is shorter than the ways from v starts no rule from v.
  never_from : (v bound h : ℕ) → NoneShorter v bound h → (l : List ℕ) (u : ℕ) → Leads R l u x → All H l → length l < h → spent w l < bound → All (λ a. v ≡ a → ⊥) (map (λ i. (R i).first) l)
  never_from v bound h none [] u leads held short small = tt
  never_from v bound h none (i ∷ l) u leads held short small = (
    λ e. absurd (omega (arith, short, none (suc (length l)) (i ∷ l, record { leads = (sym e, leads.1); held = held; long = refl; below = small }))),
    never_from v bound h none l (R i).second leads.1 held.1 (omega (arith, short)) (omega (arith, small)),
  )

  -- What follows the first rule of a shortest way is a shortest way.
  rest_shortest : (i : ℕ) (l : List ℕ) (v bound : ℕ) → (R i).first ≡ v → H i → w i < bound → NoneShorter v bound (suc (length l)) → NoneShorter (R i).second (bound - w i) (length l)
  rest_shortest i l v bound own held small none k (o, way) =
      omega (arith, none (suc k) (i ∷ o, record { leads = (own, way.leads); held = (held, way.held); long = ap suc way.long; below = omega (arith, way.below) }))

  -- So a shortest way starts no two rules from one step, and none from x.
  pub shortest_different :
      (l : List ℕ) (v bound : ℕ) → Leads R l v x → All H l → spent w l < bound → NoneShorter v bound (length l) → Different (x ∷ map (λ i. (R i).first) l)
  shortest_different [] v bound leads held small none = (tt, tt)
  shortest_different (i ∷ l) v bound leads held small none =
      let rest : Different (x ∷ map (λ j. (R j).first) l) =
      shortest_different l (R i).second (bound - w i) leads.1 held.1 (omega (arith, small)) (rest_shortest i l v bound leads.0 held.0 (omega (arith, small)) none) in (
        ((λ e. absurd (omega (arith, none 0 ([], record { leads = sym leads.0 ∙ sym e; held = tt; long = refl; below = omega (arith, small) })))), rest.0),
        (
          subst (λ (a : ℕ). All (λ b. a ≡ b → ⊥) (map (λ j. (R j).first) l)) (sym leads.0)
              (never_from v bound (suc (length l)) none l (R i).second leads.1 held.1 (omega arith) (omega (arith, small))),
          rest.1,
        ),
      )

-- ---- ways and rings

-- Held rules with a plan p, and a new rule from x to y under a free number k.
module _ (n : ℕ) (R : ℕ → Rule) (H : ℕ → Type 0) (in_steps : (i : ℕ) → H i → InSteps n (R i)) (p : ℕ → ℕ) (plan : Plan R H p) (k : ℕ) (free : H k → ⊥) (x y : ℕ) (c : ℤ) where
  -- What each rule has to spare, what the days lack for the new rule, and the rules with it.
  abbrev w : ℕ → ℕ
  w = spare R p

  abbrev pub lack : ℕ
  lack = p x + dn c - (p y + up c)

  abbrev F : ℕ → Rule
  F = more R k (rule x y c)

  -- What the rules of a walk have to spare is its sum, with the days at its two ends.
  spent_is : (l : List ℕ) (v : ℕ) → Leads R l v x → All H l → p v + dn (total R l) + spent w l ≡ p x + up (total R l)
  spent_is [] v leads held = omega (arith, ap p leads)
  spent_is (i ∷ l) v leads held =
      omega (arith, spent_is l (R i).second leads.1 held.1, ap p leads.0, add_is (R i).amount (total R l), plan→ p (R i) (plan i held.0))

  -- Held rules are the same with the new rule.
  same : (l : List ℕ) → All H l → All (λ i. R i ≡ F i) l
  same l held = all_implies (λ i h. sym (more_old R k (rule x y c) i (λ e. free (subst H e h)))) l held

  new : rule x y c ≡ F k
  new = sym (more_new R k (rule x y c))

  -- What refutes the new rule is a way from y to x that stays below what the days lack.
  pub refutes_way : (l : List ℕ) → RefutesBy R H k (rule x y c) l → Way R H w x y (length l) lack l
  refutes_way l by = record { leads = leads; held = held; long = refl; below = omega (arith, spent_is l y leads held, sum) }
    where
      held : All H l
      held = by.rest_held

      back : All (λ i. F i ≡ R i) l
      back = all_implies (λ i e. sym e) l (same l held)

      leads : Leads R l y x
      leads = leads_same F R l y x back (subst (λ (q : Rule). Leads F l q.second q.first) (sym new) by.ring.leads_back.1)

      sum : up c + up (total R l) < dn c + dn (total R l)
      sum =
          omega (
            arith,
            lt→ (c +ℤ total R l) (pos 0)
                (subst (λ (z : ℤ). z <ℤ pos 0) (λ j. (sym new j).amount +ℤ total_same F R l back j) by.negative),
            add_is c (total R l),
          )

  -- A shortest such way refutes it.
  pub way_refutes : (h : ℕ) (l : List ℕ) → Way R H w x y h lack l → Fewest R H w lack x y h → Refutes R H k (rule x y c) (k ∷ l)
  way_refutes h l way few = (
    refl,
    record {
      ring = record {
        leads_back = (refl, subst (λ (q : Rule). Leads F l q.second q.first) new (leads_same R F l y x (same l way.held) way.leads));
        no_step_twice = subst Different (λ j. (new j).first ∷ firsts_same R F l (same l way.held) j)
            (shortest_different R H w x l y lack way.leads way.held way.below (λ j o. omega (arith, few.fewest j o, way.long)));
      };
      negative = subst (λ (z : ℤ). z <ℤ pos 0) (λ j. (new j).amount +ℤ total_same R F l (same l way.held) j)
          (→lt (c +ℤ total R l) (pos 0) (omega (arith, add_is c (total R l), spent_is l y way.leads way.held, way.below)));
      rest_held = way.held;
    },
  )

  -- What refutes the new rule has no more rules than there are steps, so there is a way of fewer rules.
  pub some_way : x < n → y < n → (o : List ℕ) → Refutes R H k (rule x y c) o → (h : ℕ) × (h < n) × Open R H w x y h lack
  some_way x-in y-in [] refutes = absurd refutes
  some_way x-in y-in (j ∷ l) refutes = (
    length l,
    omega (arith, ring_length n R H k (rule x y c) (j ∷ l) in_steps (record { first_in = x-in; second_in = y-in }) refutes),
    (l, refutes_way l refutes.1),
  )

  -- The least of the shortest ways is the reason.
  pub least_reason : (h : ℕ) (l : List ℕ) → Least R H w x y h lack l → Fewest R H w lack x y h → Reason R H k (rule x y c) (k ∷ l)
  least_reason h l least few = record {
    refutes = way_refutes h l least.way few;
    fewest = fewest;
    others_after = others_after;
  }
    where
      fewest : (o : List ℕ) → Refutes R H k (rule x y c) o → suc (length l) ≤ length o
      fewest [] refutes = absurd refutes
      fewest (j ∷ o) refutes = omega (arith, few.fewest (length o) (o, refutes_way o refutes.1), least.way.long)

      after : (j : ℕ) (o : List ℕ) → j ≡ k → (o ≡ l) ⊎ Before l o → (j ∷ o ≡ k ∷ l) ⊎ Before (k ∷ l) (j ∷ o)
      after j o e (inl is) = inl (λ i. e i ∷ is i)
      after j o e (inr before) = inr (inr (sym e, before))

      others_after : (o : List ℕ) → Refutes R H k (rule x y c) o → length o ≡ suc (length l) → (o ≡ k ∷ l) ⊎ Before (k ∷ l) o
      others_after [] refutes long = absurd refutes
      others_after (j ∷ o) refutes long =
          after j o refutes.0
          (least.others_after o (subst (λ (g : ℕ). Way R H w x y g lack o) (as_long o long) (refutes_way o refutes.1)))
        where
          as_long : (o : List ℕ) → suc (length o) ≡ suc (length l) → length o ≡ h
          as_long o long = omega (arith, least.way.long)
