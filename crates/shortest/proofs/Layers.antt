-- Layers are made one from the other: layer 0 knows the empty way alone, and what follows layer h is layer h + 1.
use Prim.Native.Nat.{ℕ, suc, ◌+◌, ◌-◌, ◌≤◌, ◌<◌}
use native.Mathlib.Omega.{arith}
use native.Mathlib.Decide.{ℕ_discrete}
use mathlib.Core.Path.{◌≡◌, refl, sym, ap, subst}
use mathlib.Core.List.{List, [], ◌∷◌}
use Rattle.meaning.specs.Rules.{Rule, InSteps}
use Rattle.shortest.specs.Walks.{spent, Way, Open}
use Rattle.shortest.specs.Layers.{Deep, Layer, Begun, Next}

module _ (R : ℕ → Rule) (H : ℕ → Type 0) (w : ℕ → ℕ) (x : ℕ) where
  -- The empty way, from x.
  pub way_none : (v bound : ℕ) → v ≡ x → 0 < bound → Way R H w x v 0 bound []
  way_none v bound e some = record { leads = e; held = tt; long = refl; below = some }

  -- A rule in front of a way from its second step.
  pub way_more :
      (h bound i : ℕ) (l : List ℕ) → H i → w i < bound → Way R H w x (R i).second h (bound - w i) l → Way R H w x (R i).first (suc h) bound (i ∷ l)
  way_more h bound i l held small way = record { leads = (refl, way.leads); held = (held, way.held); long = ap suc way.long; below = omega (arith, way.below) }

  -- What a way of one rule more is: its first rule, and a way from there.
  pub record Split (v h bound : ℕ) (o : List ℕ) : Type 0 where
    pub rule : ℕ
    pub rest : List ℕ
    pub is : o ≡ rule ∷ rest
    pub held : H rule
    pub own : (R rule).first ≡ v
    pub small : w rule < bound
    pub way : Way R H w x (R rule).second h (bound - w rule) rest

  pub split : (v h bound : ℕ) (o : List ℕ) → Way R H w x v (suc h) bound o → Split v h bound o
  split v h bound [] way = absurd (omega (arith, way.long))
  split v h bound (i ∷ l) way = record {
    rule = i;
    rest = l;
    is = refl;
    held = way.held.0;
    own = way.leads.0;
    small = omega (arith, way.below);
    way = record { leads = way.leads.1; held = way.held.1; long = omega (arith, way.long); below = omega (arith, way.below) };
  }

  -- A way below a bound is one below a higher bound.
  pub way_wider : (v h bound wider : ℕ) (l : List ℕ) → bound ≤ wider → Way R H w x v h bound l → Way R H w x v h wider l
  way_wider v h bound wider l within way = record { leads = way.leads; held = way.held; long = way.long; below = omega (arith, way.below) }

  -- From where a way of no rules leads, it is at x, and empty.
  pub none_there : (v bound : ℕ) (l : List ℕ) → Way R H w x v 0 bound l → (v ≡ x) × (l ≡ [])
  none_there v bound [] way = (way.leads, refl)
  none_there v bound (i ∷ l) way = absurd (omega (arith, way.long))

  module _ (n t : ℕ) (in_steps : (i : ℕ) → H i → InSteps n (R i)) (d : ℕ → ℕ) (g : ℕ) where
    -- Layer 0.
    pub layer_none : (f : ℕ → ℕ) → Begun n x t f → Layer n R H w d g x t 0 f
    layer_none f b = record {
      reached = λ v v-in small. ([], way_none v (suc (f v)) (at_x v v-in small (ℕ_discrete v x)) (omega arith));
      least = λ v v-in near l way. omega (arith, ap f (none_there v t l way).0, b.here);
    }
      where
        at_x : (v : ℕ) → v < n → f v < t → Dec (v ≡ x) → v ≡ x
        at_x v v-in small (yes e) = e
        at_x v v-in small (no other) = absurd (omega (arith, b.elsewhere v v-in other))

    -- What has the same values is the same layer.
    pub layer_same : (h : ℕ) (f f' : ℕ → ℕ) → ((v : ℕ) → v < n → f' v ≡ f v) → Layer n R H w d g x t h f → Layer n R H w d g x t h f'
    layer_same h f f' same layer = record {
      reached = λ v v-in small. subst (λ (s : ℕ). Open R H w x v h (suc s)) (sym (same v v-in)) (layer.reached v v-in (omega (arith, same v v-in)));
      least = λ v v-in near l way. omega (arith, same v v-in, layer.least v v-in near l way);
    }

    -- What follows layer h is layer h + 1, where the limit leaves as many rules.
    pub layer_next :
        Deep R H w t d → (h limit : ℕ) (f f' : ℕ → ℕ) → g ≤ limit + suc h → Layer n R H w d g x t h f → Next n R H w d limit t f f' → Layer n R H w d g x t (suc h) f'
    layer_next deep h limit f f' enough layer next = record { reached = reached; least = least }
      where
        reached : (v : ℕ) → v < n → f' v < t → Open R H w x v (suc h) (suc (f' v))
        reached v v-in small =
            let (i, fit) = next.comes v v-in small in
            let (l, way) = layer.reached (R i).second (in_steps i fit.held).second_in (omega (arith, fit.below)) in (
              i ∷ l,
              subst (λ (u : ℕ). Way R H w x u (suc h) (suc (f' v)) (i ∷ l)) fit.own
                  (way_more h (suc (f' v)) i l fit.held (omega (arith, fit.below))
                  (way_wider (R i).second h (suc (f (R i).second)) (suc (f' v) - w i) l (omega (arith, fit.below)) way)),
            )

        least : (v : ℕ) → v < n → d v + suc h ≤ g → (o : List ℕ) → Way R H w x v (suc h) t o → f' v ≤ spent w o
        least v v-in near o way =
            let s : Split v h t o = split v h t o way in
            let i : ℕ = s.rule in
            let at_first : d (R i).first ≡ d v = ap d s.own in
            let rest-least : f (R i).second ≤ spent w s.rest =
            layer.least (R i).second (in_steps i s.held).second_in (omega (arith, near, at_first, deep i s.held s.small)) s.rest (way_wider (R i).second h (t - w i) t s.rest (omega arith) s.way) in
            omega (
              arith,
              ap f' s.own,
              ap (spent w) s.is,
              rest-least,
              s.way.below,
              next.lowered i s.held (omega (arith, near, at_first, enough)) (omega (arith, rest-least, s.way.below)),
            )
