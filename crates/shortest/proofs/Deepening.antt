-- Depths are found level by level: the steps that a level leads to get the next one, and at the end all others one more.
use Prim.Native.Nat.{ℕ, suc, ◌+◌, ◌≤◌, ◌<◌}
use Rattle.std.proofs.Common.{min}
use native.Mathlib.Omega.{arith}
use native.Mathlib.Decide.{ℕ_discrete, dec_lt, dec_le}
use mathlib.Core.Path.{◌≡◌, refl, sym, ◌∙◌, ap, subst}
use mathlib.Core.List.{List}
use mathlib.Core.Logic.{◌⊎◌, inl, inr}
use lib.ListN.{length, set}
use lib.Seq.{get_or-set_same, get_or-set_other}
use Rattle.meaning.specs.Tables.{at}
use Rattle.chains.specs.Chains.{number}
use Rattle.chains.specs.declared.Held.{Held}
use Rattle.chains.proofs.Walk.{Met, met_head, met_next}
use Rattle.shortest.specs.Clauses.{on, spares_of, FAR, KeptOn, Leading, Risen, Entered, Spread, Widened, Levelled, Settled, Deepened}

-- ---- depths that were given

pub risen_none : (level : ℕ) (depths : List ℕ) → Risen level depths depths
risen_none level depths v = inl refl

pub risen_both : (level : ℕ) (before depths after : List ℕ) → Risen level before depths → Risen level depths after → Risen level before after
risen_both level before depths after one two v = both (one v) (two v)
  where
    both :
        (at depths v ≡ at before v) ⊎ ((FAR ≤ at before v) × (at depths v ≡ level + 1)) → (at after v ≡ at depths v) ⊎ ((FAR ≤ at depths v) × (at after v ≡ level + 1)) →
        (at after v ≡ at before v) ⊎ ((FAR ≤ at before v) × (at after v ≡ level + 1))
    both (inl same) (inl too) = inl (too ∙ same)
    both (inl same) (inr (far, is)) = inr (omega (arith, far, same), is)
    both (inr (far, is)) (inl same) = inr (far, same ∙ is)
    both (inr (far, is)) (inr (still, too)) = inr (far, too)

-- What had a depth still has it.
pub risen_has : (level : ℕ) (before after : List ℕ) → level + 1 < FAR → Risen level before after → (v : ℕ) → at before v < FAR → (at after v ≡ at before v) × (at after v < FAR)
risen_has level before after low risen v has = by-change (risen v)
  where
    by-change : (at after v ≡ at before v) ⊎ ((FAR ≤ at before v) × (at after v ≡ level + 1)) → (at after v ≡ at before v) × (at after v < FAR)
    by-change (inl same) = (same, omega (arith, same, has))
    by-change (inr (far, is)) = absurd (omega (arith, far, has))

-- The rules of v from the link on have been met.
pub record Walking (links : Held) (t level v link : ℕ) (before depths : List ℕ) : Type 0 where
  pub risen : Risen level before depths
  pub met : Met (λ j. spares_of links j < t → at depths (at links.rules.ys.now j) < FAR) (on links) number links.rules.xs.now v link

-- Steps below v have been passed.
pub record Widening (links : Held) (t level v : ℕ) (before depths : List ℕ) : Type 0 where
  pub risen : Risen level before depths
  pub passed : (i : ℕ) → on links i → at before (at links.rules.xs.now i) ≡ level → at links.rules.xs.now i < v → spares_of links i < t → at depths (at links.rules.ys.now i) < FAR

module _ (n : ℕ) (links : Held) (t level : ℕ) (low : level + 1 < FAR) where
  -- ---- the rules of one step

  module _ (leading : Leading n links) (v : ℕ) where
    pub walking_none : v < n → (depths : List ℕ) → Walking links t level v (at links.heads.now v) depths depths
    walking_none v-in depths = record {
      risen = risen_none level depths;
      met = met_head n (on links) number links.rules.xs.now links.heads.now links.nexts.now leading.chained (λ j. spares_of links j < t → at depths (at links.rules.ys.now j) < FAR) v v-in;
    }

    pub walking_more :
        (i : ℕ) (before depths after : List ℕ) → on links i → at links.rules.xs.now i ≡ v → Entered links t level i depths after → Walking links t level v (suc i) before depths →
        Walking links t level v (at links.nexts.now i) before after
    walking_more i before depths after held own entered walking = record {
      risen = risen_both level before depths after walking.risen entered.risen;
      met = met_next n (on links) number links.rules.xs.now links.heads.now links.nexts.now leading.chained (λ j. spares_of links j < t → at after (at links.rules.ys.now j) < FAR) v i held own
          (λ j of-H above of-v small. (risen_has level depths after low entered.risen (at links.rules.ys.now j) (walking.met j of-H above of-v small)).1) entered.has;
    }

    pub walking_end : (before depths : List ℕ) → Walking links t level v 0 before depths → Spread links t level v before depths
    walking_end before depths walking = record { risen = walking.risen; all = λ i held own small. walking.met i held (omega arith) own small }

  -- ---- all steps of the level

  pub widening_none : (depths : List ℕ) → Widening links t level 0 depths depths
  widening_none depths = record { risen = risen_none level depths; passed = λ i held here below. absurd (omega arith) }

  -- A step of the level still is one.
  still : (before depths : List ℕ) → Risen level before depths → (v : ℕ) → at before v ≡ level → at depths v ≡ level
  still before depths risen v here = (risen_has level before depths low risen v (omega (arith, here, low))).0 ∙ here

  pub widening_skipped : (v r : ℕ) (before depths : List ℕ) → ((k : ℕ) → v ≤ k → k < r → at depths k ≡ level → ⊥) → Widening links t level v before depths → Widening links t level r before depths
  widening_skipped v r before depths others widening =
      record { risen = widening.risen; passed = λ i held here below small. by_place i held here below small (dec_lt (at links.rules.xs.now i) v) }
    where
      by_place : (i : ℕ) → on links i → at before (at links.rules.xs.now i) ≡ level → at links.rules.xs.now i < r → spares_of links i < t → Dec (at links.rules.xs.now i < v) → at depths (at links.rules.ys.now i) < FAR
      by_place i held here below small (yes lower) = widening.passed i held here lower small
      by_place i held here below small (no not_lower) =
          absurd (others (at links.rules.xs.now i) (omega (arith, not_lower)) below (still before depths widening.risen (at links.rules.xs.now i) here))

  pub widening_more :
      (v : ℕ) (before depths after : List ℕ) → Spread links t level v depths after → Widening links t level v before depths → Widening links t level (v + 1) before after
  widening_more v before depths after spread widening = record {
    risen = risen_both level before depths after widening.risen spread.risen;
    passed = λ i held here below small. by_place i held here below small (ℕ_discrete (at links.rules.xs.now i) v);
  }
    where
      by_place : (i : ℕ) → on links i → at before (at links.rules.xs.now i) ≡ level → at links.rules.xs.now i < v + 1 → spares_of links i < t → Dec (at links.rules.xs.now i ≡ v) → at after (at links.rules.ys.now i) < FAR
      by_place i held here below small (yes e) = spread.all i held e small
      by_place i held here below small (no other) =
          (risen_has level depths after low spread.risen (at links.rules.ys.now i) (widening.passed i held here (omega (arith, other)) small)).1

  pub widening_all : KeptOn n links → (before depths : List ℕ) → Widening links t level n before depths → Widened links t level before depths
  widening_all kept before depths widening =
      record { risen = widening.risen; all = λ i held here small. widening.passed i held here (kept.in_steps i held).first_in small }

  -- ---- one level more

  pub levelled_more :
      KeptOn n links → (y : ℕ) (before after : List ℕ) → Widened links t level before after → Levelled n links t y level before →
      Levelled n links t y (level + 1) after
  levelled_more kept y before after widened levelled = record { begins = begins; bounded = bounded; above = above }
    where
      begins : at after y ≡ 0
      begins = (risen_has level before after low widened.risen y (omega (arith, levelled.begins))).0 ∙ levelled.begins

      bounded : (v : ℕ) → v < n → at after v < FAR → at after v ≤ level + 1
      bounded v v-in has = by-change (widened.risen v)
        where
          by-change : (at after v ≡ at before v) ⊎ ((FAR ≤ at before v) × (at after v ≡ level + 1)) → at after v ≤ level + 1
          by-change (inl same) = omega (arith, same, levelled.bounded v v-in (omega (arith, same, has)))
          by-change (inr (far, is)) = omega (arith, is)

      above : (i : ℕ) → on links i → spares_of links i < t → at after (at links.rules.xs.now i) < level + 1 → at after (at links.rules.ys.now i) ≤ at after (at links.rules.xs.now i) + 1
      above i held small low-enough = by-change (widened.risen (at links.rules.xs.now i)) (ℕ_discrete (at before (at links.rules.xs.now i)) level)
        where
          by-change :
              (at after (at links.rules.xs.now i) ≡ at before (at links.rules.xs.now i)) ⊎ ((FAR ≤ at before (at links.rules.xs.now i)) × (at after (at links.rules.xs.now i) ≡ level + 1)) → Dec (at before (at links.rules.xs.now i) ≡ level) →
              at after (at links.rules.ys.now i) ≤ at after (at links.rules.xs.now i) + 1
          by-change (inr (far, is)) here = absurd (omega (arith, is, low-enough))
          by-change (inl same) (yes here) = omega (arith, same, here, bounded (at links.rules.ys.now i) (kept.in_steps i held).second_in (widened.all i held here small))
          by-change (inl same) (no other) =
              let old : at before (at links.rules.ys.now i) ≤ at before (at links.rules.xs.now i) + 1 = levelled.above i held small (omega (arith, same, other, low-enough)) in
              omega (arith, same, old, low-enough, (risen_has level before after low widened.risen (at links.rules.ys.now i) (omega (arith, old, same, low-enough, low))).0)

-- ---- the first level, and the last

module _ (n : ℕ) (links : Held) (t y : ℕ) where
  -- Only y has a depth.
  pub levelled_none :
      (depths : List ℕ) → ((v : ℕ) → v < n → at depths v ≡ FAR) → y < length depths → Levelled n links t y 0 (set depths y 0)
  levelled_none depths all room = record {
    begins = get_or-set_same depths y 0 0 room;
    bounded = λ v v-in has. by_step v v-in has (ℕ_discrete v y);
    above = λ i held small none. absurd (omega (arith, none));
  }
    where
      by_step : (v : ℕ) → v < n → at (set depths y 0) v < FAR → Dec (v ≡ y) → at (set depths y 0) v ≤ 0
      by_step v v-in has (yes e) = omega (arith, ap (at (set depths y 0)) e, get_or-set_same depths y 0 0 room)
      by_step v v-in has (no other) = absurd (omega (arith, has, all v v-in, get_or-set_other depths y v 0 0 other))

  -- With all deeper ones one below the last level, no rule leads deeper than one below.
  pub deepened :
      KeptOn n links → y < n → (level : ℕ) (before after : List ℕ) → Levelled n links t y level before → Settled n level before after →
      Deepened links t y after
  deepened kept y-in level before after levelled settled = record { begins = begins (settled y y-in); deep = λ i held small. deeper i held small (settled (at links.rules.xs.now i) (kept.in_steps i held).first_in) (settled (at links.rules.ys.now i) (kept.in_steps i held).second_in) (ℕ_discrete (at before (at links.rules.xs.now i)) level) }
    where
      Either : ℕ → Type 0
      Either v = ((at before v ≤ level) × (at after v ≡ at before v)) ⊎ ((level < at before v) × (at after v ≡ level + 1))

      begins : Either y → at after y ≡ 0
      begins (inl (low, same)) = same ∙ levelled.begins
      begins (inr (high, is)) = absurd (omega (arith, high, levelled.begins))

      deeper : (i : ℕ) → on links i → spares_of links i < t → Either (at links.rules.xs.now i) → Either (at links.rules.ys.now i) → Dec (at before (at links.rules.xs.now i) ≡ level) → at after (at links.rules.ys.now i) ≤ suc (at after (at links.rules.xs.now i))
      deeper i held small (inr (high, is)) (inl (low, same)) here = omega (arith, is, low, same)
      deeper i held small (inr (high, is)) (inr (too, also)) here = omega (arith, is, also)
      deeper i held small (inl (low, same)) (inr (too, also)) (yes here) = omega (arith, same, also, here)
      deeper i held small (inl (low, same)) (inl (low', same')) (yes here) = omega (arith, same, same', here, low')
      deeper i held small (inl (low, same)) (inl (low', same')) (no other) =
          omega (arith, same, same', levelled.above i held small (omega (arith, low, other)))
      deeper i held small (inl (low, same)) (inr (too, also)) (no other) =
          absurd (omega (arith, too, low, other, levelled.above i held small (omega (arith, low, other))))

-- The first v depths are settled, the others as they were.
pub record Settling (v level : ℕ) (before depths : List ℕ) : Type 0 where
  pub done : Settled v level before depths
  pub rest : (k : ℕ) → v ≤ k → at depths k ≡ at before k

pub settling_none : (level : ℕ) (depths : List ℕ) → Settling 0 level depths depths
settling_none level depths = record { done = λ v v-in. absurd (omega arith); rest = λ k from. refl }

-- One depth more.
pub settling_more :
    (v level : ℕ) (before depths : List ℕ) → v < length depths → Settling v level before depths → Settling (v + 1) level before (set depths v (min (at depths v) (level + 1)))
settling_more v level before depths room so_far = record { done = λ k k-in. by_step k k-in (ℕ_discrete k v); rest = λ k from. elsewhere k (λ e. omega (arith, e)) ∙ so_far.rest k (omega arith) }
  where
    after : List ℕ
    after = set depths v (min (at depths v) (level + 1))

    elsewhere : (k : ℕ) → (k ≡ v → ⊥) → at after k ≡ at depths k
    elsewhere k other = get_or-set_other depths v k (min (at depths v) (level + 1)) 0 other

    here : at after v ≡ min (at before v) (level + 1)
    here = get_or-set_same depths v (min (at depths v) (level + 1)) 0 room ∙ ap (λ (c : ℕ). min c (level + 1)) (so_far.rest v (omega arith))

    settled : (k : ℕ) → k ≡ v → Dec (at before k ≤ level) → ((at before k ≤ level) × (at after k ≡ at before k)) ⊎ ((level < at before k) × (at after k ≡ level + 1))
    settled k e (yes low) = inl (low, omega (arith, low, ap (at after) e, ap (at before) e, here))
    settled k e (no high) = inr (omega (arith, high), omega (arith, high, ap (at after) e, ap (at before) e, here))

    by_step : (k : ℕ) → k < v + 1 → Dec (k ≡ v) → ((at before k ≤ level) × (at after k ≡ at before k)) ⊎ ((level < at before k) × (at after k ≡ level + 1))
    by_step k k-in (yes e) = settled k e (dec_le (at before k) level)
    by_step k k-in (no other) =
        subst (λ (s : ℕ). ((at before k ≤ level) × (s ≡ at before k)) ⊎ ((level < at before k) × (s ≡ level + 1))) (sym (elsewhere k other)) (so_far.done k (omega (arith, other)))
