-- All of a way is found in parts, one after the other from the start on, each by a layer that is made for it of layer 0.
use Prim.Native.Nat.{ℕ, ◌+◌, ◌*◌, ◌-◌, ◌≤◌, ◌<◌}
use native.Mathlib.Omega.{arith}
use mathlib.Core.Path.{◌≡◌, refl, ◌∙◌, subst}
use mathlib.Core.List.{List}
use mathlib.Core.Logic.{◌⊎◌, inl, inr}
use lib.ListN.{length}
use Rattle.meaning.specs.Tables.{at}
use Rattle.shortest.specs.declared.Search.{Search}
use Rattle.shortest.specs.Clauses.{LAYERS, cap_of, rules_of, on, spares_of, Between, UpperPart, Share, Joins}
use Rattle.shortest.specs.Searching.{IsLayer, Way, Descendable, Descended, Written}
use Rattle.shortest.proofs.Descending.{joins_none, joins_both, joins_all}

-- The share of the cap is the cap where a layer less is kept.
part_is : (part : ℕ) → Share (cap_of (LAYERS - 1)) part → part ≡ cap_of (LAYERS - 2)
part_is part share = omega (arith, share.no_more, share.enough)

module _ (s : Search) (h : ℕ) (list : List ℕ) where
  -- The rules above top are written, and the way goes on from the step with what is left of the bound.
  pub record Found (top step left : ℕ) (list' : List ℕ) : Type 0 where
    pub within : top ≤ h
    pub step_in : step < s.steps
    pub bound_in : left ≤ s.lack
    pub near : at s.depths.now step + top ≤ h
    pub joins : Joins (rules_of s.held) (on s.held) (spares_of s.held) s.goal top h s.start s.lack 1 (at list') step left
    pub others : Between 1 (1 + (h - top)) list list'

  -- None is, one part more, all.
  pub found_none : Way s s.start h s.lack → Found h s.start s.lack list
  found_none way = record {
    within = omega arith;
    step_in = s.ends.start_in;
    bound_in = omega arith;
    near = omega (arith, s.ends.begins);
    joins = joins_none (rules_of s.held) (on s.held) (spares_of s.held) s.goal h s.start s.lack 1 (at list) way;
    others = λ j outside. refl;
  }

  module _ (list' : List ℕ) (top step left : ℕ) (found : Found top step left list') (some : 0 < top) (upper : ℕ) (above : UpperPart top (cap_of (LAYERS - 1)) upper) where
    -- The part can be looked for.
    pub part_descendable :
        (part : ℕ) (layer room : List ℕ) → Share (cap_of (LAYERS - 1)) part → IsLayer s h (top - upper) layer → (LAYERS - 1) * s.steps ≤ length room → h + 1 ≤ length list' →
        Descendable s h (top - upper) top step left part layer room list'
    part_descendable part layer room share here layers-room list-room = record {
      some = omega (arith, some, above.some);
      step_in = found.step_in;
      bound_in = found.bound_in;
      list_room = omega (arith, list-room);
      depth = LAYERS - 2;
      cap_is = part_is part share;
      some_cap = λ more. omega (arith, share.enough);
      layers_room = layers-room;
      from_layer = here;
      near = found.near;
      way = found.joins.way;
    }

    pub found_more :
        (list₃ : List ℕ) (v' bound' : ℕ) → Descended s h (top - upper) top step left list' list₃ v' bound' → Found (top - upper) v' bound' list₃
    found_more list₃ v' bound' descended = record {
      within = omega (arith, found.within);
      step_in = descended.step_in;
      bound_in = omega (arith, descended.bound_in, found.bound_in);
      near = descended.near;
      joins = joins_both (rules_of s.held) (on s.held) (spares_of s.held) s.goal (top - upper) top h s.start s.lack 1 (1 + (h - top)) (at list') (at list₃) step left v' bound'
          (omega arith) found.within refl (λ j before-it. descended.others j (inl before-it)) found.joins descended.joins;
      others = others;
    }
      where
        others : (j : ℕ) → (j < 1) ⊎ (1 + (h - (top - upper)) ≤ j) → at list₃ j ≡ at list j
        others j (inl low) = descended.others j (inl (omega arith)) ∙ found.others j (inl low)
        others j (inr high) = descended.others j (inr high) ∙ found.others j (inr (omega (arith, high, found.within)))

  pub found_all : (top step left : ℕ) (list' : List ℕ) → Found top step left list' → top ≡ 0 → Written s h list list'
  found_all top step left list' found none = record {
    least = joins_all (rules_of s.held) (on s.held) (spares_of s.held) s.goal h s.start s.lack 1 (at list') step left
        (subst (λ (k : ℕ). Joins (rules_of s.held) (on s.held) (spares_of s.held) s.goal k h s.start s.lack 1 (at list') step left) none found.joins);
    others = others;
  }
    where
      others : (j : ℕ) → (j < 1) ⊎ (h + 1 ≤ j) → at list' j ≡ at list j
      others j (inl low) = found.others j (inl low)
      others j (inr high) = found.others j (inr (omega (arith, high)))
