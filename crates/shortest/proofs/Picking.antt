-- The lowest rule that fits is the first of the least way.
use Prim.Native.Nat.{ℕ, suc, ◌+◌, ◌-◌, ◌≤◌}
use native.Mathlib.Omega.{arith}
use native.Mathlib.Decide.{ℕ_discrete}
use mathlib.Core.Path.{◌≡◌, sym, ap, subst}
use mathlib.Core.List.{List, [], ◌∷◌}
use mathlib.Core.Logic.{◌⊎◌, inl, inr}
use Rattle.meaning.specs.Rules.{Rule, InSteps, Before}
use Rattle.shortest.specs.Walks.{Way, Least, Open}
use Rattle.shortest.specs.Layers.{Deep, Layer, Fitting, Lowest}
use Rattle.shortest.proofs.Layers.{way_none, way_more, way_wider, Split, split, none_there}

module _ (n : ℕ) (R : ℕ → Rule) (H : ℕ → Type 0) (w : ℕ → ℕ) (x t : ℕ) (in_steps : (i : ℕ) → H i → InSteps n (R i)) (d : ℕ → ℕ) (g : ℕ) (deep : Deep R H w t d) (h : ℕ) (f : ℕ → ℕ) (layer : Layer n R H w d g x t h f) (v bound : ℕ) (bound_in : bound ≤ t) (near : d v + suc h ≤ g) where
  -- The first rule of a way fits.
  pub first_fits : (o : List ℕ) (s : Split R H w x v h bound o) → Fitting R H w f v bound s.rule
  first_fits o s = record {
    held = s.held;
    own = s.own;
    below = omega (
      arith,
      s.small,
      s.way.below,
      layer.least (R s.rule).second (in_steps s.rule s.held).second_in
          (omega (arith, near, ap d s.own, deep s.rule s.held (omega (arith, s.small)))) s.rest
          (way_wider R H w x (R s.rule).second h (bound - w s.rule) t s.rest (omega arith) s.way),
    );
  }

  -- Where there is a way, some rule fits.
  pub some_fits : Open R H w x v (suc h) bound → (i : ℕ) × Fitting R H w f v bound i
  some_fits (o, way) =
      let s : Split R H w x v h bound o = split R H w x v h bound o way in
      (s.rule, first_fits o s)

  -- From the second step of a rule that fits there is a way below what is left of the bound.
  pub goes_on : (i : ℕ) → Fitting R H w f v bound i → Open R H w x (R i).second h (bound - w i)
  goes_on i fit =
      let (l, way) = layer.reached (R i).second (in_steps i fit.held).second_in (omega (arith, fit.below)) in
      (l, way_wider R H w x (R i).second h (suc (f (R i).second)) (bound - w i) l (omega (arith, fit.below)) way)

  -- With the lowest rule that fits in front, the least way from its second step is the least way.
  pub least_more : (i : ℕ) → Lowest R H w f v bound i → (l : List ℕ) → Least R H w x (R i).second h (bound - w i) l → Least R H w x v (suc h) bound (i ∷ l)
  least_more i low l least = record {
    way = subst (λ (u : ℕ). Way R H w x u (suc h) bound (i ∷ l)) low.fits.own
        (way_more R H w x h bound i l low.fits.held (omega (arith, low.fits.below)) least.way);
    others_after = λ o way. after o (split R H w x v h bound o way);
  }
    where
      after : (o : List ℕ) → Split R H w x v h bound o → (o ≡ i ∷ l) ⊎ Before (i ∷ l) o
      after o s = subst (λ (k : List ℕ). (k ≡ i ∷ l) ⊎ Before (i ∷ l) k) (sym s.is) (by_first (ℕ_discrete i s.rule))
        where
          by-rest : i ≡ s.rule → (s.rest ≡ l) ⊎ Before l s.rest → (s.rule ∷ s.rest ≡ i ∷ l) ⊎ Before (i ∷ l) (s.rule ∷ s.rest)
          by-rest e (inl same) = inl (λ j. sym e j ∷ same j)
          by-rest e (inr before) = inr (inr (e, before))

          by_first : Dec (i ≡ s.rule) → (s.rule ∷ s.rest ≡ i ∷ l) ⊎ Before (i ∷ l) (s.rule ∷ s.rest)
          by_first (yes e) =
              by-rest e (least.others_after s.rest (subst (λ (k : ℕ). Way R H w x (R k).second h (bound - w k) s.rest) (sym e) s.way))
          by_first (no other) = inr (inl (omega (arith, other, low.lowest s.rule (first_fits o s))))

-- The empty way is the least of no rules.
pub least_none : (R : ℕ → Rule) (H : ℕ → Type 0) (w : ℕ → ℕ) (x v bound : ℕ) → Open R H w x v 0 bound → Least R H w x v 0 bound []
least_none R H w x v bound (l, way) = record {
  way = way_none R H w x v bound (none_there R H w x v bound l way).0 (omega (arith, way.below));
  others_after = λ o other. inl (none_there R H w x v bound o other).1;
}
