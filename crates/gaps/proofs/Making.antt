-- The slacks of single rules can be made: rule by rule, the smaller each time.
use Prim.Native.Nat.{ℕ, zero, suc, ◌≤◌, ◌<◌, min}
use native.Mathlib.Omega.{arith}
use native.Mathlib.Decide.{ℕ_discrete}
use mathlib.Core.Path.{◌≡◌, refl, sym, subst}
use mathlib.Core.Logic.{◌⊎◌, inl, inr}
use Rattle.meaning.specs.Rules.{Rule, Plan}
use Rattle.meaning.proofs.Below.{both?}
use Rattle.gaps.specs.Slacks.{NONE, Spares, Slacks}
use Rattle.gaps.proofs.Closing.{picked, picked_yes, picked_no, spares_some}
use Rattle.gaps.proofs.Stages.{min_either}

-- No rule yet: 0 of a step to itself, else NONE.
no_rule : ℕ → ℕ → ℕ
no_rule x y = picked 0 NONE (ℕ_discrete x y)

-- The slacks, with at most s of the pair a, b.
lower : {A : Type 0} → ℕ → ℕ → Dec A → ℕ
lower w s (yes h) = min w s
lower w s (no h) = w

with_slack : ℕ → ℕ → ℕ → (ℕ → ℕ → ℕ) → ℕ → ℕ → ℕ
with_slack a b s W x y = lower (W x y) s (both? (ℕ_discrete x a) (ℕ_discrete y b))

-- No slack is larger for it.
lower_most : {A : Type 0} (w s : ℕ) (d : Dec A) → lower w s d ≤ w
unfolding lower
lower_most w s (yes h) = omega arith
lower_most w s (no h) = omega arith

lower_there : {A : Type 0} (w s : ℕ) (d : Dec A) → A → lower w s d ≤ s
unfolding lower
lower_there w s (yes h) so = omega arith
lower_there w s (no h) so = absurd (h so)

lower_either : {A : Type 0} (w s : ℕ) (d : Dec A) → (lower w s d ≡ w) ⊎ (A × (lower w s d ≡ s))
unfolding lower
lower_either {A} w s (yes h) = told (min_either w s)
  where
    told : ((w ≤ s) × (min w s ≡ w)) ⊎ ((s ≤ w) × (min w s ≡ s)) → (min w s ≡ w) ⊎ (A × (min w s ≡ s))
    told (inl (k, e)) = inl e
    told (inr (k, e)) = inr (h, e)
lower_either w s (no h) = inl refl

-- What is held of the numbers below m.
abbrev HeldBelow : ℕ → (ℕ → Type 0) → ℕ → Type 0
HeldBelow m H i = (i < m) × H i

-- What the slack of a pair is.
abbrev Given : (ℕ → Rule) → (ℕ → Type 0) → (ℕ → ℕ) → ℕ → ℕ → ℕ → Type 0
Given R H p x y w = (w ≡ NONE) ⊎ ((x ≡ y) × (w ≡ 0)) ⊎ ((i : ℕ) × H i × ((R i).first ≡ x) × ((R i).second ≡ y) × Spares R p i w)

given_more : (R : ℕ → Rule) (H G : ℕ → Type 0) (p : ℕ → ℕ) (x y w : ℕ) → ((i : ℕ) → H i → G i) → Given R H p x y w → Given R G p x y w
given_more R H G p x y w sub (inl e) = inl e
given_more R H G p x y w sub (inr (inl e)) = inr (inl e)
given_more R H G p x y w sub (inr (inr (i, held, e, f, spares))) = inr (inr (i, sub i held, e, f, spares))

-- Slacks of rules held are slacks of rules held in other words.
slacks_words :
    (n : ℕ) (R : ℕ → Rule) (H G : ℕ → Type 0) (p : ℕ → ℕ) (W : ℕ → ℕ → ℕ) → ((i : ℕ) → H i → G i) → ((i : ℕ) → G i → H i) → Slacks n R H p W → Slacks n R G p W
slacks_words n R H G p W to from s = record {
  self = s.self;
  under = λ i w held spares. s.under i w (from i held) spares;
  given = λ x y in-x in-y. given_more R H G p x y (W x y) to (s.given x y in-x in-y);
}

slacks_none : (n : ℕ) (R : ℕ → Rule) (H : ℕ → Type 0) (p : ℕ → ℕ) → Slacks n R (HeldBelow 0 H) p no_rule
unfolding no_rule
slacks_none n R H p = record {
  self = λ v below. picked_yes 0 NONE (ℕ_discrete v v) refl;
  under = λ i w held spares. absurd (omega (arith, held.0));
  given = λ x y in-x in-y. given x y (ℕ_discrete x y);
}
  where
    given : (x y : ℕ) → Dec (x ≡ y) → Given R (HeldBelow 0 H) p x y (no_rule x y)
    given x y (yes e) = inr (inl (e, picked_yes 0 NONE (ℕ_discrete x y) e))
    given x y (no e) = inl (picked_no 0 NONE (ℕ_discrete x y) e)

-- The slacks with one number more, under which a rule is held that has s to spare.
slacks_rule :
    (n m : ℕ) (R : ℕ → Rule) (H : ℕ → Type 0) (p : ℕ → ℕ) (W : ℕ → ℕ → ℕ) (s : ℕ) → H m → Spares R p m s → Slacks n R (HeldBelow m H) p W →
    Slacks n R (HeldBelow (suc m) H) p (with_slack (R m).first (R m).second s W)
unfolding with_slack
slacks_rule n m R H p W s held spares before = record {
  self = λ v below. omega (arith, before.self v below, lower_most (W v v) s (both? (ℕ_discrete v (R m).first) (ℕ_discrete v (R m).second)));
  under = λ i w there spares'. under i w there spares' (ℕ_discrete i m);
  given = λ x y in-x in-y. given x y in-x in-y (lower_either (W x y) s (both? (ℕ_discrete x (R m).first) (ℕ_discrete y (R m).second)));
}
  where
    new : ℕ → ℕ → ℕ
    new = with_slack (R m).first (R m).second s W

    under : (i w : ℕ) → HeldBelow (suc m) H i → Spares R p i w → Dec (i ≡ m) → new (R i).first (R i).second ≤ w
    under i w there spares' (yes e) = subst (λ j. Spares R p j w → new (R j).first (R j).second ≤ w) (sym e) here spares'
      where
        here : Spares R p m w → new (R m).first (R m).second ≤ w
        here spares'' =
            omega (
              arith,
              spares,
              spares'',
              lower_there (W (R m).first (R m).second) s (both? (ℕ_discrete (R m).first (R m).first) (ℕ_discrete (R m).second (R m).second)) (refl, refl),
            )
    under i w there spares' (no e) =
        omega (
          arith,
          before.under i w (omega (arith, there.0), there.1) spares',
          lower_most (W (R i).first (R i).second) s (both? (ℕ_discrete (R i).first (R m).first) (ℕ_discrete (R i).second (R m).second)),
        )

    given :
        (x y : ℕ) → x < n → y < n → (new x y ≡ W x y) ⊎ (((x ≡ (R m).first) × (y ≡ (R m).second)) × (new x y ≡ s)) → Given R (HeldBelow (suc m) H) p x y (new x y)
    given x y in-x in-y (inl e) =
        subst (Given R (HeldBelow (suc m) H) p x y) (sym e)
        (given_more R (HeldBelow m H) (HeldBelow (suc m) H) p x y (W x y) (λ i h. (omega (arith, h.0), h.1)) (before.given x y in-x in-y))
    given x y in-x in-y (inr (at, e)) = inr (inr (m, (omega arith, held), sym at.0, sym at.1, subst (Spares R p m) (sym e) spares))

-- The slacks of the numbers below m.
slacks_below :
    (n : ℕ) (R : ℕ → Rule) (H : ℕ → Type 0) (p : ℕ → ℕ) → Plan R H p → ((i : ℕ) → Dec (H i)) → (m : ℕ) →
    (W : ℕ → ℕ → ℕ) × Slacks n R (HeldBelow m H) p W
slacks_below n R H p plan held? zero = (no_rule, slacks_none n R H p)
slacks_below n R H p plan held? (suc m) = told (held? m) (slacks_below n R H p plan held? m)
  where
    told : Dec (H m) → (W : ℕ → ℕ → ℕ) × Slacks n R (HeldBelow m H) p W → (W : ℕ → ℕ → ℕ) × Slacks n R (HeldBelow (suc m) H) p W
    told (yes held) (W, before) = (
      with_slack (R m).first (R m).second (spares_some R H p plan m held).0 W,
      slacks_rule n m R H p W (spares_some R H p plan m held).0 held (spares_some R H p plan m held).1 before,
    )
    told (no free) (W, before) = (W, slacks_words n R (HeldBelow m H) (HeldBelow (suc m) H) p W (λ i h. (omega (arith, h.0), h.1)) back before)
      where
        back : (i : ℕ) → HeldBelow (suc m) H i → HeldBelow m H i
        back i (lower, held) = place (ℕ_discrete i m)
          where
            place : Dec (i ≡ m) → HeldBelow m H i
            place (yes e) = absurd (free (subst H e held))
            place (no e) = (omega arith, held)

-- Where it can be told which rules are held, all under numbers below m, the slacks of single rules over a plan exist.
pub slacks_exist :
    (n m : ℕ) (R : ℕ → Rule) (H : ℕ → Type 0) (p : ℕ → ℕ) → Plan R H p → ((i : ℕ) → Dec (H i)) → ((i : ℕ) → H i → i < m) →
    (W : ℕ → ℕ → ℕ) × Slacks n R H p W
slacks_exist n m R H p plan held? numbered = told (slacks_below n R H p plan held? m)
  where
    told : (W : ℕ → ℕ → ℕ) × Slacks n R (HeldBelow m H) p W → (W : ℕ → ℕ → ℕ) × Slacks n R H p W
    told (W, slacks) = (W, slacks_words n R (HeldBelow m H) H p W (λ i h. h.1) (λ i held. (numbered i held, held)) slacks)
