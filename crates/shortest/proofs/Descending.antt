-- The least way is found from its first rule on: one rule, and one part of it after the other.
use Prim.Native.Nat.{ℕ, suc, ◌+◌, ◌-◌, ◌≤◌, ◌<◌}
use native.Mathlib.Omega.{arith}
use mathlib.Core.Path.{◌≡◌, refl, sym, ◌∙◌, subst}
use mathlib.Core.List.{◌∷◌}
use Rattle.meaning.specs.Rules.{Rule, InSteps}
use Rattle.shortest.specs.Walks.{Least, Open, part}
use Rattle.shortest.specs.Layers.{Deep, Layer, Lowest}
use Rattle.shortest.specs.Clauses.{Joins}
use Rattle.shortest.proofs.Picking.{goes_on, least_more, least_none}

module _ (n : ℕ) (R : ℕ → Rule) (H : ℕ → Type 0) (w : ℕ → ℕ) (x t : ℕ) (in_steps : (i : ℕ) → H i → InSteps n (R i)) (d : ℕ → ℕ) (g : ℕ) (deep : Deep R H w t d) where
  -- One rule: the lowest that fits.
  pub joins_one :
      (lo hi : ℕ) (f : ℕ → ℕ) → Layer n R H w d g x t lo f → (v bound place i : ℕ) (list : ℕ → ℕ) → hi ≡ suc lo → bound ≤ t → d v + suc lo ≤ g → Lowest R H w f v bound i → list place ≡ i →
      Joins R H w x lo hi v bound place list (R i).second (bound - w i)
  joins_one lo hi f layer v bound place i list one bound_in near low there = record {
    way = goes_on n R H w x t in_steps d g deep lo f layer v bound bound_in near i low.fits;
    least = λ l same least.
        subst (λ (k : ℕ). Least R H w x v k bound (part l place k)) (sym one)
        (subst (λ (j : ℕ). Least R H w x v (suc lo) bound (j ∷ part l (suc place) lo)) (sym (same place (omega arith) (omega arith) ∙ there))
        (least_more n R H w x t in_steps d g deep lo f layer v bound bound_in near i low (part l (suc place) lo)
        (subst (λ (j : ℕ). Least R H w x (R i).second lo (bound - w i) (part l j lo)) next least)));
  }
    where
      next : place + (hi - lo) ≡ suc place
      next = omega arith

-- Two parts: the rules above mid, then those below it.
pub joins_both :
    (R : ℕ → Rule) (H : ℕ → Type 0) (w : ℕ → ℕ) (x lo mid hi v bound place place' : ℕ) (list list' : ℕ → ℕ) (v' bound' v'' bound'' : ℕ) →
    lo ≤ mid → mid ≤ hi → place' ≡ place + (hi - mid) → ((j : ℕ) → j < place' → list' j ≡ list j) →
    Joins R H w x mid hi v bound place list v' bound' → Joins R H w x lo mid v' bound' place' list' v'' bound'' → Joins R H w x lo hi v bound place list' v'' bound''
joins_both R H w x lo mid hi v bound place place' list list' v' bound' v'' bound'' low high next kept upper lower = record {
  way = lower.way;
  least = λ g same least.
      upper.least g (λ j from below. same j from (omega arith) ∙ kept j (omega arith))
      (subst (λ (p : ℕ). Least R H w x v' mid bound' (part g p mid)) next
      (lower.least g (λ j from below. same j (omega arith) (omega arith))
      (subst (λ (p : ℕ). Least R H w x v'' lo bound'' (part g p lo)) whole least)));
}
  where
    whole : place + (hi - lo) ≡ place' + (mid - lo)
    whole = omega arith

-- No rule: it goes on where it begins.
pub joins_none :
    (R : ℕ → Rule) (H : ℕ → Type 0) (w : ℕ → ℕ) (x h v bound place : ℕ) (list : ℕ → ℕ) → Open R H w x v h bound → Joins R H w x h h v bound place list v bound
joins_none R H w x h v bound place list way = record { way = way; least = λ g same least. subst (λ (p : ℕ). Least R H w x v h bound (part g p h)) none least }
  where
    none : place + (h - h) ≡ place
    none = omega arith

-- All of it: where it goes on there is no rule left.
pub joins_all :
    (R : ℕ → Rule) (H : ℕ → Type 0) (w : ℕ → ℕ) (x h v bound place : ℕ) (list : ℕ → ℕ) (v' bound' : ℕ) →
    Joins R H w x 0 h v bound place list v' bound' → Least R H w x v h bound (part list place h)
joins_all R H w x h v bound place list v' bound' joins = joins.least list (λ j from below. refl) (least_none R H w x v' bound' joins.way)
