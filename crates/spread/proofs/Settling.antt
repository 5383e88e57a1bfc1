-- Settling the open step of largest gain keeps what the turns keep; and passing over numbers that are no rules of the step settled last.
use Prim.Native.Nat.{ℕ, suc, ◌+◌, ◌-◌, ◌≤◌, ◌<◌}
use native.Mathlib.Omega.{arith}
use native.Mathlib.Decide.{ℕ_discrete, dec_lt}
use mathlib.Core.Path.{◌≡◌, sym, ◌∙◌, ap}
use Rattle.meaning.specs.Rules.{Rule, InSteps}
use Rattle.meaning.specs.Reckoning.{up, dn}
use Rattle.spread.specs.Trace.{CameBy}
use Rattle.spread.specs.State.{Listed, StandsIn, None, Every, Spreading}
use Rattle.waiting.specs.Places.{Put}
use Rattle.spread.specs.Relax.{instead}
use Rattle.waiting.proofs.Places.{put_here}
use Rattle.spread.proofs.Places.{put_instead}

-- What the turns keep, with other rules of the step settled last seen to, where those are kept.
pub seen_to :
    (n : ℕ) (R : ℕ → Rule) (H : ℕ → Type 0) (d low : ℕ → ℕ) (turns last : ℕ) (From To : ℕ → Type 0) (rank g by list : ℕ → ℕ) (k : ℕ) →
    ((i : ℕ) → H i → rank (R i).first < turns → ((R i).first ≡ last → To i) →
    d (R i).first + g (R i).first + dn (R i).amount ≤ d (R i).second + g (R i).second + up (R i).amount) →
    Spreading n R H d low turns last From rank g by list k → Spreading n R H d low turns last To rank g by list k
seen_to n R H d low turns last From To rank g by list k kept s = record {
  forced = s.forced;
  settled_first = s.settled_first;
  last_least = s.last_least;
  kept = kept;
  open_rank = s.open_rank;
  listed = s.listed;
  listed_open = s.listed_open;
  open_listed = s.open_listed;
  counted = s.counted;
  not_raised = s.not_raised;
  raised = s.raised;
  raised_from = s.raised_from;
}

-- What holds of fewer rules of the step settled last.
pub skip :
    (n : ℕ) (R : ℕ → Rule) (H : ℕ → Type 0) (d low : ℕ → ℕ) (turns last : ℕ) (From To : ℕ → Type 0) (rank g by list : ℕ → ℕ) (k : ℕ) →
    ((i : ℕ) → H i → (R i).first ≡ last → To i → From i) →
    Spreading n R H d low turns last From rank g by list k → Spreading n R H d low turns last To rank g by list k
skip n R H d low turns last From To rank g by list k fewer s =
    seen_to n R H d low turns last From To rank g by list k (λ i held settled seen. s.kept i held settled (λ e. fewer i held e (seen e))) s

module _
    (n : ℕ) (R : ℕ → Rule) (H : ℕ → Type 0) (d low : ℕ → ℕ) (turns last : ℕ) (rank g by list list' : ℕ → ℕ) (k j : ℕ)
    (steps : (i : ℕ) → H i → InSteps n (R i)) (s : Spreading n R H d low turns last Every rank g by list k) (some : j < k)
    (largest : (i : ℕ) → i < k → g (list i) ≤ g (list j)) (out : Put j (list (k - 1)) list list') where
  -- Fewer turns were made than there are steps.
  open_now : turns < n
  open_now = omega (arith, s.counted)

  -- The step at place j was open.
  was_open : turns ≤ rank (list j)
  was_open = s.listed_open j some

  -- Its rank is now the turn's.
  here : (v : ℕ) → v ≡ list j → instead (list j) turns rank v ≡ turns
  here = put_here (list j) turns rank (instead (list j) turns rank) (put_instead (list j) turns rank)

  -- Every other rank is what it was.
  elsewhere : (v : ℕ) → (v ≡ list j → ⊥) → instead (list j) turns rank v ≡ rank v
  elsewhere = (put_instead (list j) turns rank).others

  -- A step that is open now is another one.
  other_open : (v : ℕ) → suc turns ≤ instead (list j) turns rank v → v ≡ list j → ⊥
  other_open v v-open e = omega (arith, here v e)

  -- It was open before.
  open_before : (v : ℕ) → suc turns ≤ instead (list j) turns rank v → turns ≤ rank v
  open_before v v-open = omega (arith, elsewhere v (other_open v v-open))

  -- Another step that is settled now was settled before.
  settled_before : (v : ℕ) → v < n → (v ≡ list j → ⊥) → instead (list j) turns rank v < suc turns → rank v < turns
  settled_before v v-in other v-settled = tell (dec_lt (rank v) turns)
    where
      tell : Dec (rank v < turns) → rank v < turns
      tell (yes h) = h
      tell (no h) = absurd (omega (arith, elsewhere v other, open_now, s.open_rank v v-in (omega arith)))

  -- No open step has a larger gain than the one settled now.
  no_larger : (w : ℕ) → w < n → turns ≤ rank w → g w ≤ g (list j)
  no_larger w w-in w-open = tell (dec_lt 0 (g w))
    where
      from_list : StandsIn list k w → g w ≤ g (list j)
      from_list h = omega (arith, ap g h.there, largest h.place h.place_in)

      tell : Dec (0 < g w) → g w ≤ g (list j)
      tell (yes h) = from_list (s.open_listed w w-in h w-open)
      tell (no h) = omega arith

  -- No open step has a larger gain than a settled one.
  settled_first : (v w : ℕ) → v < n → w < n → instead (list j) turns rank v < suc turns → suc turns ≤ instead (list j) turns rank w → g w ≤ g v
  settled_first v w v-in w-in v-settled w-open = tell (ℕ_discrete v (list j))
    where
      tell : Dec (v ≡ list j) → g w ≤ g v
      tell (yes e) = omega (arith, ap g e, no_larger w w-in (open_before w w-open))
      tell (no e) = s.settled_first v w v-in w-in (settled_before v v-in e v-settled) (open_before w w-open)

  -- No settled step has a smaller gain than the one settled now.
  last_least : (v : ℕ) → v < n → instead (list j) turns rank v < suc turns → g (list j) ≤ g v
  last_least v v-in v-settled = tell (ℕ_discrete v (list j))
    where
      tell : Dec (v ≡ list j) → g (list j) ≤ g v
      tell (yes e) = omega (arith, ap g e)
      tell (no e) = s.settled_first v (list j) v-in (s.listed.step j some) (settled_before v v-in e v-settled) was_open

  -- Where the first k - 1 places now have their steps from.
  from : ℕ → ℕ
  from = instead j (k - 1) (λ i. i)

  -- Place j has its step from the last place.
  from_last : (i : ℕ) → i ≡ j → from i ≡ k - 1
  unfolding from
  from_last = put_here j (k - 1) (λ i. i) (instead j (k - 1) (λ i. i)) (put_instead j (k - 1) (λ i. i))

  -- Every other place has its own.
  from_same : (i : ℕ) → (i ≡ j → ⊥) → from i ≡ i
  unfolding from
  from_same = (put_instead j (k - 1) (λ i. i)).others

  -- What stands at place i now stood at a place before that was not j.
  record Was (i : ℕ) : Type 0 where
    there : list' i ≡ list (from i)
    inside : from i < k
    another : from i ≡ j → ⊥

  -- So it is with every place below k - 1.
  was : (i : ℕ) → i < k - 1 → Was i
  was i i-in = tell (ℕ_discrete i j)
    where
      tell : Dec (i ≡ j) → Was i
      tell (yes e) = record {
        there = ap list' e ∙ out.there ∙ ap list (sym (from_last i e));
        inside = omega (arith, from_last i e);
        another = λ h. omega (arith, from_last i e);
      }
      tell (no e) = record {
        there = out.others i e ∙ ap list (sym (from_same i e));
        inside = omega (arith, from_same i e);
        another = λ h. e (sym (from_same i e) ∙ h);
      }

  -- No two of them have their steps from one place.
  from_once : (a b : ℕ) → a < k - 1 → b < k - 1 → from a ≡ from b → a ≡ b
  from_once a b a_in b-in e = tell (ℕ_discrete a j) (ℕ_discrete b j)
    where
      tell : Dec (a ≡ j) → Dec (b ≡ j) → a ≡ b
      tell (yes p) (yes q) = omega arith
      tell (yes p) (no q) = absurd (omega (arith, from_last a p, from_same b q))
      tell (no p) (yes q) = absurd (omega (arith, from_same a p, from_last b q))
      tell (no p) (no q) = omega (arith, from_same a p, from_same b q)

  -- The list has different steps, each with a gain.
  still_listed : Listed n g list' (k - 1)
  still_listed = record {
    step = λ i i-in. omega (arith, (was i i-in).there, s.listed.step (from i) (was i i-in).inside);
    gain = λ i i-in. omega (arith, ap g (was i i-in).there, s.listed.gain (from i) (was i i-in).inside);
    once = λ a b a_in b-in e.
        from_once a b a_in b-in
        (s.listed.once (from a) (from b) (was a a_in).inside (was b b-in).inside (sym (was a a_in).there ∙ e ∙ (was b b-in).there));
  }

  -- They are open.
  still_open : (i : ℕ) → i < k - 1 → suc turns ≤ instead (list j) turns rank (list' i)
  still_open i i-in =
      let other : list' i ≡ list j → ⊥ = λ e. (was i i-in).another (s.listed.once (from i) j (was i i-in).inside some (sym (was i i-in).there ∙ e)) in
      omega (
        arith,
        open_now,
        elsewhere (list' i) other,
        ap rank (was i i-in).there,
        s.open_rank (list (from i)) (s.listed.step (from i) (was i i-in).inside) (s.listed_open (from i) (was i i-in).inside),
      )

  -- Each open step with a gain is among them.
  open_listed : (v : ℕ) → v < n → 0 < g v → suc turns ≤ instead (list j) turns rank v → StandsIn list' (k - 1) v
  open_listed v v-in has v-open = moved (s.open_listed v v-in has (open_before v v-open))
    where
      moved : StandsIn list k v → StandsIn list' (k - 1) v
      moved h = tell (ℕ_discrete h.place (k - 1))
        where
          apart : h.place ≡ j → ⊥
          apart e = other_open v v-open (sym h.there ∙ ap list e)

          tell : Dec (h.place ≡ k - 1) → StandsIn list' (k - 1) v
          tell (yes e) = record { place = j; place_in = omega (arith, h.place_in, apart); there = out.there ∙ ap list (sym e) ∙ h.there }
          tell (no e) = record { place = h.place; place_in = omega (arith, h.place_in); there = out.others h.place apart ∙ h.there }

  -- A step that raised another was settled before, and so is not the one settled now.
  raiser : (v : ℕ) → v < n → 0 < g v → (i : ℕ) → by v ≡ suc i → instead (list j) turns rank (R i).first ≡ rank (R i).first
  raiser v v-in has i named =
      elsewhere (R i).first (λ e. omega (arith, was_open, ap rank e, s.raised_from v v-in has i named))

  -- A step for which a rule is named came by that rule.
  raised : (v : ℕ) → v < n → 0 < g v → (i : ℕ) → by v ≡ suc i → CameBy R H (λ w. d w + g w) (instead (list j) turns rank) v i
  raised v v-in has i named = still (s.raised v v-in has i named) (ℕ_discrete v (list j))
    where
      still : CameBy R H (λ w. d w + g w) rank v i → Dec (v ≡ list j) → CameBy R H (λ w. d w + g w) (instead (list j) turns rank) v i
      still h (yes e) = record {
        held = h.held;
        leads_to = h.leads_to;
        tight = h.tight;
        before = omega (arith, here v e, raiser v v-in has i named, s.raised_from v v-in has i named);
      }
      still h (no e) = record {
        held = h.held;
        leads_to = h.leads_to;
        tight = h.tight;
        before = omega (arith, elsewhere v e, raiser v v-in has i named, h.before);
      }

  -- The state after the step at place j of the list has been settled, where none of its rules is seen to yet.
  pub settle_keeps : Spreading n R H d low (suc turns) (list j) None (instead (list j) turns rank) g by list' (k - 1)
  settle_keeps = record {
    forced = s.forced;
    settled_first = settled_first;
    last_least = last_least;
    kept = λ i held settled seen.
        s.kept i held (settled_before (R i).first (steps i held).first_in seen settled) (λ e. tt);
    open_rank = λ v v-in v-open. omega (arith, elsewhere v (other_open v v-open), s.open_rank v v-in (open_before v v-open));
    listed = still_listed;
    listed_open = still_open;
    open_listed = open_listed;
    counted = omega (arith, s.counted);
    not_raised = s.not_raised;
    raised = raised;
    raised_from = λ v v-in has i named. omega (arith, raiser v v-in has i named, s.raised_from v v-in has i named);
  }
