-- A way is found in parts: a span of one rule by the lowest that fits, any other by its upper part and then what is left of it.
use Prim.Native.Nat.{ℕ, zero, suc, ◌+◌, ◌*◌, ◌-◌, ◌≤◌, ◌<◌}
use native.Mathlib.Omega.{arith}
use native.Mathlib.Nat.{pow-suc, add-mul, one-mul}
use mathlib.Core.Path.{◌≡◌, refl, sym, ◌∙◌, ap, subst}
use mathlib.Core.List.{List}
use mathlib.Core.Logic.{◌⊎◌, inl, inr}
use lib.ListN.{length, set}
use lib.Seq.{get_or-set_same, get_or-set_other}
use Rattle.meaning.specs.Tables.{at}
use Rattle.shortest.specs.declared.Search.{Search}
use Rattle.shortest.specs.Clauses.{rules_of, on, spares_of, SHARE, cap_of, UpperPart, Share, Joins}
use Rattle.shortest.specs.Searching.{IsLayer, Way, Pickable, Picked, Descendable, Descended}
use Rattle.shortest.proofs.Picking.{some_fits}
use Rattle.shortest.proofs.Descending.{joins_one, joins_both}

-- The share of a cap is the cap with one layer less, and where the cap is more than one rule it is no 0.
share_fits : (cap part depth : ℕ) → 0 < cap → cap ≡ cap_of depth → Share cap part → (before : ℕ) × (depth ≡ suc before) × (part ≡ cap_of before) × (1 < cap → 0 < part)
share_fits cap part zero some is share = absurd (omega arith)
share_fits cap part (suc zero) some is share = (0, refl, omega (arith, share.no_more), λ more. absurd (omega arith))
share_fits cap part (suc (suc before)) some is share =
    (suc before, refl, omega (arith, pow-suc SHARE before, share.no_more, share.enough), λ more. omega (arith, pow-suc SHARE before, share.no_more, share.enough))

-- Room for one layer more.
more_room : (k n : ℕ) → (k + 1) * n ≡ k * n + n
more_room k n = omega (arith, add-mul k 1 n, one-mul n)

module _ (s : Search) (g lo cap : ℕ) (layer : List ℕ) where
  -- What is left of a span, the rules lo to top, can be looked for, and once it is found so is the whole.
  pub record Rest (hi v bound : ℕ) (list : List ℕ) (top step left : ℕ) (room list' : List ℕ) : Type 0 where
    pub rest : Descendable s g lo top step left cap layer room list'
    pub whole : (list'' : List ℕ) (v' bound' : ℕ) → Descended s g lo top step left list' list'' v' bound' → Descended s g lo hi v bound list list'' v' bound'

  module _ (hi v bound : ℕ) (room list : List ℕ) (here : Descendable s g lo hi v bound cap layer room list) where
    -- At first that is all of it.
    pub rest_all : Rest hi v bound list hi v bound room list
    rest_all = record { rest = here; whole = λ list'' v' bound' found. found }

    -- ---- one rule

    module _ (one : hi ≡ lo + 1) where
      way_of_one : Way s v (suc lo) bound
      way_of_one = subst (λ (h : ℕ). Way s v h bound) (omega (arith, one)) here.way

      near_one : at s.depths.now v + suc lo ≤ g
      near_one = omega (arith, one, here.near)

      -- Some rule fits.
      pub one_pickable : Pickable s v bound layer
      one_pickable = record {
        room = omega (arith, here.from_layer.long);
        some = some_fits s.steps (rules_of s.held) (on s.held) (spares_of s.held) s.goal s.lack s.chained.kept.in_steps (at s.depths.now) g s.chained.deep lo (at layer) here.from_layer.is v bound
            here.bound_in near_one way_of_one;
      }

      -- The lowest is written, and the way goes on from its second step.
      pub one_descended :
          (i v' left : ℕ) → Picked s v bound layer i → v' ≡ at s.held.rules.ys.now i → left ≡ bound - spares_of s.held i → Descended s g lo hi v bound list (set list (g - lo) i) v' left
      one_descended i v' left low v-is left_is = record {
        step_in = omega (arith, v-is, (s.chained.kept.in_steps i low.fits.held).second_in);
        bound_in = omega (arith, left_is);
        near = omega (arith, one, here.near, ap (at s.depths.now) v-is, ap (at s.depths.now) low.fits.own, s.chained.deep i low.fits.held (omega (arith, low.fits.below, here.bound_in)));
        joins = subst (λ (u : ℕ). Joins (rules_of s.held) (on s.held) (spares_of s.held) s.goal lo hi v bound (1 + (g - hi)) (at (set list (g - lo) i)) u left) (sym v-is)
            (subst (λ (b : ℕ). Joins (rules_of s.held) (on s.held) (spares_of s.held) s.goal lo hi v bound (1 + (g - hi)) (at (set list (g - lo) i)) (at s.held.rules.ys.now i) b) (sym left_is)
            (joins_one s.steps (rules_of s.held) (on s.held) (spares_of s.held) s.goal s.lack s.chained.kept.in_steps (at s.depths.now) g s.chained.deep lo hi (at layer) here.from_layer.is v bound
            (1 + (g - hi)) i (at (set list (g - lo) i)) (omega (arith, one)) here.bound_in near_one low
            (ap (at (set list (g - lo) i)) place ∙ get_or-set_same list (g - lo) i 0 here.list_room)));
        others = λ j outside. get_or-set_other list (g - lo) j i 0 (apart j outside);
      }
        where
          place : 1 + (g - hi) ≡ g - lo
          place = omega (arith, one, near_one)

          apart : (j : ℕ) → (j < 1 + (g - hi)) ⊎ (1 + (g - lo) ≤ j) → j ≡ g - lo → ⊥
          apart j (inl below) e = omega (arith, place)
          apart j (inr past) e = omega arith

    -- ---- two parts

    -- The upper part has rules, the lower part has rules, more than one above have a cap, and there is room for the layer of the upper part and more.
    pub record Parted (upper part : ℕ) : Type 0 where
      pub some_upper : 0 < upper
      pub some_lower : lo < hi - upper
      pub depth : ℕ
      pub cap_is : part ≡ cap_of depth
      pub some_cap : 1 < upper → 0 < part
      pub layers_room : (depth + 1) * s.steps + s.steps ≤ length room

    pub parted : (hi ≡ lo + 1 → ⊥) → (upper part : ℕ) → UpperPart (hi - lo) cap upper → Share cap part → Parted upper part
    parted more upper part above share =
        let (before, is, part_is, some-part) = share_fits cap part here.depth (here.some_cap more) here.cap_is share in record {
          some_upper = above.some;
          some_lower = omega (arith, here.some, more, above.half);
          depth = before;
          cap_is = part_is;
          some_cap = λ several. some-part (omega (arith, above.capped));
          layers_room = omega (arith, subst (λ (k : ℕ). (k + 1) * s.steps ≤ length room) is here.layers_room, more_room (suc before) s.steps, ap (λ (k : ℕ). k * s.steps) (counted before));
        }
      where
        counted : (before : ℕ) → suc before ≡ before + 1
        counted before = omega arith

    module _ (upper part : ℕ) (parts : Parted upper part) where
      -- The room behind the upper layer is enough to raise it.
      pub rest_room : (rest : List ℕ) → length rest + s.steps ≡ length room → s.steps ≤ length rest
      rest_room rest long = omega (arith, parts.layers_room, long, more_room parts.depth s.steps)

      -- The upper part can be looked for by its layer.
      pub upper_descendable :
          (over rest : List ℕ) → IsLayer s g (hi - upper) over → length rest + s.steps ≡ length room → Descendable s g (hi - upper) hi v bound part over rest list
      upper_descendable over rest over-is long = record {
        some = omega (arith, parts.some_upper, here.some);
        step_in = here.step_in;
        bound_in = here.bound_in;
        list_room = omega (arith, parts.some_lower, here.list_room);
        depth = parts.depth;
        cap_is = parts.cap_is;
        some_cap = λ more. parts.some_cap (omega (arith, more, parts.some_upper, parts.some_lower));
        layers_room = omega (arith, parts.layers_room, long);
        from_layer = over-is;
        near = here.near;
        way = here.way;
      }

      module _ (room₂ list₂ : List ℕ) (v' bound' : ℕ) (long : length room₂ ≡ length room) (list-long : length list₂ ≡ length list)
          (above : Descended s g (hi - upper) hi v bound list list₂ v' bound') where
        -- So can the lower part, from where the upper part ended.
        lower_descendable : Descendable s g lo (hi - upper) v' bound' cap layer room₂ list₂
        lower_descendable = record {
          some = parts.some_lower;
          step_in = above.step_in;
          bound_in = omega (arith, above.bound_in, here.bound_in);
          list_room = omega (arith, list-long, here.list_room);
          depth = here.depth;
          cap_is = here.cap_is;
          some_cap = λ more. here.some_cap (λ one. omega (arith, one, parts.some_upper, parts.some_lower));
          layers_room = omega (arith, long, here.layers_room);
          from_layer = here.from_layer;
          near = above.near;
          way = above.joins.way;
        }

        -- Both parts are the whole.
        both_descended :
            (list₃ : List ℕ) (v'' bound'' : ℕ) → Descended s g lo (hi - upper) v' bound' list₂ list₃ v'' bound'' → Descended s g lo hi v bound list list₃ v'' bound''
        both_descended list₃ v'' bound'' below = record {
          step_in = below.step_in;
          bound_in = omega (arith, below.bound_in, above.bound_in);
          near = below.near;
          joins = joins_both (rules_of s.held) (on s.held) (spares_of s.held) s.goal lo (hi - upper) hi v bound (1 + (g - hi)) (1 + (g - (hi - upper))) (at list₂) (at list₃) v' bound' v'' bound''
              (omega (arith, parts.some_lower)) (omega arith) (omega (arith, parts.some_lower, here.near))
              (λ j before-it. below.others j (inl before-it))
              above.joins below.joins;
          others = others;
        }
          where
            others : (j : ℕ) → (j < 1 + (g - hi)) ⊎ (1 + (g - lo) ≤ j) → at list₃ j ≡ at list j
            others j (inl low) = below.others j (inl (omega arith)) ∙ above.others j (inl low)
            others j (inr high) = below.others j (inr high) ∙ above.others j (inr (omega (arith, parts.some_lower)))

        -- The lower part is what is left then.
        pub rest_lower :
            (hi₀ v₀ bound₀ : ℕ) (list₀ : List ℕ) → Rest hi₀ v₀ bound₀ list₀ hi v bound room list → Rest hi₀ v₀ bound₀ list₀ (hi - upper) v' bound' room₂ list₂
        rest_lower hi₀ v₀ bound₀ list₀ so_far = record {
          rest = lower_descendable;
          whole = λ list₃ v'' bound'' below. so_far.whole list₃ v'' bound'' (both_descended list₃ v'' bound'' below);
        }
