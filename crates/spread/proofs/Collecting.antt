-- Collecting the steps with a gain, one step at a time.
use Prim.Native.Nat.{ℕ, ◌+◌, ◌≤◌, ◌<◌}
use native.Mathlib.Omega.{arith}
use native.Mathlib.Decide.{ℕ_discrete}
use native.Mathlib.Numerals.{add-one}
use mathlib.Core.Path.{◌≡◌, refl, sym, ◌∙◌, ap}
use mathlib.Core.Logic.{◌⊎◌, inl, inr}
use mathlib.Core.List.{List}
use mathlib.Core.Bool.{Bool, true, false, cond}
use lib.Dec.{eqb}
use lib.ListN.{length, set}
use borrow.Author.Tests.{ne_eqb}
use Rattle.meaning.specs.Tables.{at}
use Rattle.meaning.specs.Reckoning.{count}
use Rattle.meaning.proofs.Counting.{count_none, count_suc, count_more, count_at_most}
use Rattle.spread.specs.State.{without_gain, StandsIn}
use Rattle.waiting.specs.Places.{Put}
use Rattle.waiting.specs.Waiting.{Entered}
use Rattle.waiting.specs.declared.Waiting.{Waiting}
use Rattle.spread.specs.Clauses.{Collected, alone}
use Rattle.waiting.proofs.Places.{put_set, put_here}
use Rattle.spread.proofs.Places.{put_instead}

-- Of no steps there is nothing to collect.
pub collected_none : (g by list : ℕ → ℕ) → Collected 0 g by list 0
collected_none g by list = record {
  listed = record { step = λ j j-in. absurd (omega arith); gain = λ j j-in. absurd (omega arith); once = λ i j i-in. absurd (omega arith) };
  all_listed = λ v v-in. absurd (omega arith);
  counted = omega (arith, count_none (λ v. eqb (g v) 0));
  not_raised = λ v v-in. absurd (omega arith);
}

-- One step more is counted by its own test.
without_one_more : (g : ℕ → ℕ) (v : ℕ) → without_gain (v + 1) g ≡ without_gain v g + cond (eqb (g v) 0) 1 0
without_one_more g v = ap (count (λ w. eqb (g w) 0)) (add-one v) ∙ count_suc (λ w. eqb (g w) 0) v

-- It adds at most 1.
at_most_one : (t : Bool) → cond t 1 0 ≤ 1
at_most_one true = omega arith
at_most_one false = omega arith

-- A step without gain is passed over.
pub collected_past : (g by list : ℕ → ℕ) (k v : ℕ) → g v ≡ 0 → Collected v g by list k → Collected (v + 1) g by list k
collected_past g by list k v none c = record {
  listed = record { step = λ j j-in. omega (arith, c.listed.step j j-in); gain = c.listed.gain; once = c.listed.once };
  all_listed = λ w w-in has. c.all_listed w (before w w-in has) has;
  counted = omega (arith, c.counted, without_one_more g v, at_most_one (eqb (g v) 0));
  not_raised = λ w w-in has. c.not_raised w (before w w-in has) has;
}
  where
    before : (w : ℕ) → w < v + 1 → 0 < g w → w < v
    before w w-in has = tell (ℕ_discrete w v)
      where
        tell : Dec (w ≡ v) → w < v
        tell (yes e) = absurd (omega (arith, ap g e))
        tell (no e) = omega arith

-- A step with a gain is put at the end of the list, and no rule is named for it.
pub collected_more :
    (g by by' list list' : ℕ → ℕ) (k v : ℕ) → 0 < g v → Put k v list list' → Put v 0 by by' → Collected v g by list k → Collected (v + 1) g by' list' (k + 1)
collected_more g by by' list list' k v has put cleared c = record {
  listed = record {
    step = λ j j-in. step j j-in (ℕ_discrete j k);
    gain = λ j j-in. gain j j-in (ℕ_discrete j k);
    once = λ i j i-in j-in e. once i j i-in j-in e (ℕ_discrete i k) (ℕ_discrete j k);
  };
  all_listed = λ w w-in w-has. all_listed w w-in w-has (ℕ_discrete w v);
  counted =
      let adds : ◌≡◌ {A = ℕ} (cond (eqb (g v) 0) 1 0) 0 = rw (ne_eqb (g v) 0 (omega arith)) in
      omega (arith, c.counted, without_one_more g v);
  not_raised = λ w w-in w-has. not_raised w w-in w-has (ℕ_discrete w v);
}
  where
    old : (j : ℕ) → j < k → list' j ≡ list j
    old j j-in = put.others j (omega arith)

    new : (j : ℕ) → j ≡ k → list' j ≡ v
    new j e = ap list' e ∙ put.there

    step : (j : ℕ) → j < k + 1 → Dec (j ≡ k) → list' j < v + 1
    step j j-in (yes e) = omega (arith, new j e)
    step j j-in (no e) = omega (arith, old j (omega arith), c.listed.step j (omega arith))

    gain : (j : ℕ) → j < k + 1 → Dec (j ≡ k) → 0 < g (list' j)
    gain j j-in (yes e) = omega (arith, ap g (new j e))
    gain j j-in (no e) = omega (arith, ap g (old j (omega arith)), c.listed.gain j (omega arith))

    once : (i j : ℕ) → i < k + 1 → j < k + 1 → list' i ≡ list' j → Dec (i ≡ k) → Dec (j ≡ k) → i ≡ j
    once i j i-in j-in e (yes p) (yes q) = p ∙ sym q
    once i j i-in j-in e (yes p) (no q) = absurd (omega (arith, new i p, old j (omega arith), c.listed.step j (omega arith)))
    once i j i-in j-in e (no p) (yes q) = absurd (omega (arith, new j q, old i (omega arith), c.listed.step i (omega arith)))
    once i j i-in j-in e (no p) (no q) =
        c.listed.once i j (omega arith) (omega arith) (sym (old i (omega arith)) ∙ e ∙ old j (omega arith))

    all_listed : (w : ℕ) → w < v + 1 → 0 < g w → Dec (w ≡ v) → StandsIn list' (k + 1) w
    all_listed w w-in w-has (yes e) = record { place = k; place_in = omega arith; there = put.there ∙ sym e }
    all_listed w w-in w-has (no e) = later (c.all_listed w (omega arith) w-has)
      where
        later : StandsIn list k w → StandsIn list' (k + 1) w
        later h = record { place = h.place; place_in = omega (arith, h.place_in); there = old h.place h.place_in ∙ h.there }

    not_raised : (w : ℕ) → w < v + 1 → 0 < g w → Dec (w ≡ v) → by' w ≡ 0
    not_raised w w-in w-has (yes e) = ap by' e ∙ cleared.there
    not_raised w w-in w-has (no e) = cleared.others w e ∙ c.not_raised w (omega arith) w-has

-- Where one step alone has a gain, and stands in the list, all steps with a gain are collected.
pub collected_alone :
    (n y gain : ℕ) (g g' by' list' : ℕ → ℕ) → y < n → 0 < gain → ((v : ℕ) → v < n → g v ≡ 0) → Put y gain g g' → by' y ≡ 0 → list' 0 ≡ y → Collected n g' by' list' 1
collected_alone n y gain g g' by' list' y-in some none put by_none there = record {
  listed = record {
    step = λ j j-in. omega (arith, only j j-in);
    gain = λ j j-in. omega (arith, ap g' (only j j-in), put.there);
    once = λ i j i-in j-in e. omega arith;
  };
  all_listed = λ v v-in has. record { place = 0; place_in = omega arith; there = there ∙ sym (is_y v v-in has) };
  counted =
      omega (
        arith,
        count_more (λ v. eqb (g' v) 0) (λ v. true) n (λ v below e. refl) y y-in (ne_eqb (g' y) 0 (omega (arith, put.there))) refl,
        count_at_most (λ v. true) n,
      );
  not_raised = λ v v-in has. ap by' (is_y v v-in has) ∙ by_none;
}
  where
    only : (j : ℕ) → j < 1 → list' j ≡ y
    only j j-in = ap list' (zero_is j j-in) ∙ there
      where
        zero_is : (j : ℕ) → j < 1 → j ≡ 0
        zero_is j j-in = omega arith

    is_y : (v : ℕ) → v < n → 0 < g' v → v ≡ y
    is_y v v-in has = tell (ℕ_discrete v y)
      where
        tell : Dec (v ≡ y) → v ≡ y
        tell (yes e) = e
        tell (no e) = absurd (omega (arith, put.others v e, none v v-in))

-- The gain that is asked for at y alone is the gain at y.
pub alone_there : (y gain v : ℕ) → v ≡ y → alone y gain v ≡ gain
alone_there y gain = put_here y gain (λ v. 0) (alone y gain) (put_instead y gain (λ v. 0))

-- At every other step it is 0.
pub alone_elsewhere : (y gain v : ℕ) → (v ≡ y → ⊥) → alone y gain v ≡ 0
alone_elsewhere y gain = (put_instead y gain (λ v. 0)).others

-- Where no step had a gain and y has got one, the gains are those asked for at y alone.
pub alone_is : (n y gain : ℕ) (g g' : ℕ → ℕ) → ((v : ℕ) → v < n → g v ≡ 0) → Put y gain g g' → (v : ℕ) → v < n → alone y gain v ≡ g' v
alone_is n y gain g g' none put v v-in = tell (ℕ_discrete v y)
  where
    tell : Dec (v ≡ y) → alone y gain v ≡ g' v
    tell (yes e) = alone_there y gain v e ∙ sym (ap g' e ∙ put.there)
    tell (no e) = alone_elsewhere y gain v e ∙ sym (put.others v e ∙ none v v-in)

-- One step more: it waits from then on where it has a gain.
pub collected_one :
    {N G : ℕ} (gains by by' : List ℕ) (before after : Waiting N G) (v : ℕ) → v < length by → Collected v (at gains) (at by) (at before.list) before.count →
    ((0 < at gains v) × (by' ≡ set by v 0) × Entered gains v before after) ⊎ ((at gains v ≤ 0) × (by' ≡ by) × (after ≡ before)) →
    Collected (v + 1) (at gains) (at by') (at after.list) after.count
collected_one gains by by' before after v by_room c (inl (has, by-is, entered)) =
    let counted : after.count ≡ before.count + 1 = entered.one_more ∙ sym (add-one before.count) in
    rw (by-is, counted)
    (collected_more (at gains) (at by) (at (set by v 0)) (at before.list) (at after.list) before.count v has entered.put (put_set by v 0 by_room) c)
collected_one gains by by' before after v by_room c (inr (none, by-is, same)) =
    rw (by-is, same) (collected_past (at gains) (at by) (at before.list) before.count v (omega arith) c)
