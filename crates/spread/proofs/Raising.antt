-- Raising a step by a rule of the step that was settled last keeps what the turns keep, and sees to that rule.
use Prim.Native.Nat.{ℕ, suc, ◌+◌, ◌^◌, ◌≤◌, ◌<◌}
use native.Mathlib.Omega.{arith}
use native.Mathlib.Decide.{ℕ_discrete, dec_lt}
use mathlib.Core.Path.{◌≡◌, refl, sym, ◌∙◌, ap, subst}
use mathlib.Core.Logic.{◌⊎◌, inl, inr}
use lib.Dec.{eqb}
use borrow.Author.Tests.{eq-eqb, ne_eqb, eqb-true}
use Rattle.meaning.specs.Rules.{Rule, Plan, InSteps, plus}
use Rattle.meaning.proofs.More.{plus_other}
use Rattle.meaning.specs.Reckoning.{up, dn}
use Rattle.meaning.proofs.Whole.{plan→}
use Rattle.meaning.proofs.Counting.{count_no_less, count_more}
use Rattle.lent.specs.Lent.{BIAS}
use Rattle.spread.specs.Least.{ForcedFrom}
use Rattle.spread.specs.Trace.{CameBy}
use Rattle.spread.specs.State.{without_gain, Listed, StandsIn, Ready, Spreading}
use Rattle.spread.specs.Relax.{Raise}

-- Where no gain falls, no more steps are without gain.
pub without_no_more : (n : ℕ) (g g' : ℕ → ℕ) → ((v : ℕ) → g v ≤ g' v) → without_gain n g' ≤ without_gain n g
without_no_more n g g' grows =
    count_no_less (λ v. eqb (g' v) 0) (λ v. eqb (g v) 0) n (λ v below none. eq-eqb (g v) 0 (omega (arith, grows v, eqb-true (g' v) 0 none)))

-- Where a step gets its first gain besides, fewer are without.
pub without_fewer : (n : ℕ) (g g' : ℕ → ℕ) → ((v : ℕ) → g v ≤ g' v) → (y : ℕ) → y < n → g y ≡ 0 → 0 < g' y → without_gain n g' < without_gain n g
without_fewer n g g' grows y y-in had has =
    count_more (λ v. eqb (g' v) 0) (λ v. eqb (g v) 0) n
    (λ v below none. eq-eqb (g v) 0 (omega (arith, grows v, eqb-true (g' v) 0 none)))
    y y-in (ne_eqb (g' y) 0 (omega arith)) (eq-eqb (g y) 0 had)

-- Place j, where v stands now, is one of the k old ones, or it is the new one of step y, which had no gain.
abbrev OldOrNew : ℕ → ℕ → ℕ → ℕ → ℕ → Type 0
OldOrNew k v y had j = (j < k) ⊎ ((j ≡ k) × (v ≡ y) × (had ≡ 0))

module _
    (n : ℕ) (R : ℕ → Rule) (H : ℕ → Type 0) (d : ℕ → ℕ) (i : ℕ) (g by list : ℕ → ℕ) (k : ℕ) (g' by' list' : ℕ → ℕ) (k' reach : ℕ)
    (steps : (j : ℕ) → H j → InSteps n (R j)) (plan : Plan R H d) (held : H i) (far : reach ≡ d (R i).first + g (R i).first + BIAS)
    (r : Raise d (R i).second (R i).amount i reach g by list k g' by' list' k') where
  -- The second step's gain rises.
  rises : g (R i).second < g' (R i).second
  rises = omega (arith, r.short, r.reaches)

  -- It does not come above that of the first step, since the days alone keep the rule.
  at_most : g' (R i).second ≤ g (R i).first
  at_most = omega (arith, r.reaches, far, plan→ d (R i) (plan i held))

  -- No gain falls.
  grows : (v : ℕ) → g v ≤ g' v
  grows v = tell (ℕ_discrete v (R i).second)
    where
      tell : Dec (v ≡ (R i).second) → g v ≤ g' v
      tell (yes e) = omega (arith, rises, ap g e, ap g' e)
      tell (no e) = omega (arith, r.other_gains v e)

  -- A rule never raises its own first step.
  second_other : (R i).second ≡ (R i).first → ⊥
  second_other e = omega (arith, ap g e, rises, at_most)

  -- So the first step keeps its gain.
  pub first_same : g' (R i).first ≡ g (R i).first
  first_same = r.other_gains (R i).first (λ e. second_other (sym e))

  -- The old places have the steps that they had.
  same_place : (j : ℕ) → j < k → list' j ≡ list j
  same_place j below = tell (ℕ_discrete (g (R i).second) 0)
    where
      tell : Dec (g (R i).second ≡ 0) → list' j ≡ list j
      tell (yes e) = (r.entered.new e).1.others j (omega arith)
      tell (no e) = (r.entered.old (omega arith)).1 j

  -- Each place is an old one or the new one.
  place_of : (j : ℕ) → j < k' → OldOrNew k (list' j) (R i).second (g (R i).second) j
  place_of j below = tell (ℕ_discrete (g (R i).second) 0) (dec_lt j k)
    where
      tell : Dec (g (R i).second ≡ 0) → Dec (j < k) → OldOrNew k (list' j) (R i).second (g (R i).second) j
      tell (yes e) (yes h) = inl h
      tell (yes e) (no h) =
          let at_end : j ≡ k = omega (arith, (r.entered.new e).0) in
          inr (at_end, (ap list' at_end ∙ (r.entered.new e).1.there), e)
      tell (no e) (yes h) = inl h
      tell (no e) (no h) = absurd (omega (arith, (r.entered.old (omega arith)).0))

  -- No place is lost.
  at_least_k : k ≤ k'
  at_least_k = tell (ℕ_discrete (g (R i).second) 0)
    where
      tell : Dec (g (R i).second ≡ 0) → k ≤ k'
      tell (yes e) = omega (arith, (r.entered.new e).0)
      tell (no e) = omega (arith, (r.entered.old (omega arith)).0)

  -- No more steps are without gain or in the list than were.
  pub no_more : without_gain n g' + k' ≤ without_gain n g + k
  no_more = tell (ℕ_discrete (g (R i).second) 0)
    where
      tell : Dec (g (R i).second ≡ 0) → without_gain n g' + k' ≤ without_gain n g + k
      tell (yes e) =
          omega (arith, (r.entered.new e).0, without_fewer n g g' grows (R i).second (steps i held).second_in e (omega (arith, rises)))
      tell (no e) = omega (arith, (r.entered.old (omega arith)).0, without_no_more n g g' grows)

  -- Another turn can be made.
  pub raise_ready : Ready n g list k → Ready n g' list' k'
  raise_ready ready = record {
    small = λ v v-in. small v v-in (ℕ_discrete v (R i).second);
    listed_in = λ j j-in. listed_in j (place_of j j-in);
    room = omega (arith, ready.room, no_more);
  }
    where
      small : (v : ℕ) → v < n → Dec (v ≡ (R i).second) → g' v < 2 ^ 62
      small v v-in (yes e) = omega (arith, ap g' e, at_most, ready.small (R i).first (steps i held).first_in)
      small v v-in (no e) = omega (arith, r.other_gains v e, ready.small v v-in)

      listed_in : (j : ℕ) → OldOrNew k (list' j) (R i).second (g (R i).second) j → list' j < n
      listed_in j (inl h) = omega (arith, same_place j h, ready.listed_in j h)
      listed_in j (inr h) = omega (arith, h.1, (steps i held).second_in)

  module _
      (low : ℕ → ℕ) (turns : ℕ) (Seen : ℕ → Type 0) (rank : ℕ → ℕ) (settled : rank (R i).first < turns)
      (s : Spreading n R H d low turns (R i).first Seen rank g by list k) where
    -- The second step is open: a settled one has no smaller gain than the step settled last.
    second-open : turns ≤ rank (R i).second
    second-open = tell (dec_lt (rank (R i).second) turns)
      where
        tell : Dec (rank (R i).second < turns) → turns ≤ rank (R i).second
        tell (yes h) = absurd (omega (arith, rises, at_most, s.last_least (R i).second (steps i held).second_in h))
        tell (no h) = omega arith

    -- A settled step is another one.
    settled-other : (v : ℕ) → rank v < turns → v ≡ (R i).second → ⊥
    settled-other v h e = omega (arith, second-open, ap rank e)

    -- So its gain is what it was.
    settled_same : (v : ℕ) → rank v < turns → g' v ≡ g v
    settled_same v h = r.other_gains v (settled-other v h)

    -- The new days are forced.
    forced : ForcedFrom n R H low (λ v. d v + g' v)
    forced = record {
      not_below = λ v below. omega (arith, s.forced.not_below v below, grows v);
      no_later = λ q other above v below. by_step q other above v below (ℕ_discrete v (R i).second);
    }
      where
        by_step : (q : ℕ → ℕ) → Plan R H q → ((v : ℕ) → v < n → low v ≤ q v) → (v : ℕ) → v < n → Dec (v ≡ (R i).second) → d v + g' v ≤ q v
        by_step q other above v below (yes e) =
            omega (
              arith,
              ap d e,
              ap g' e,
              ap q e,
              r.reaches,
              far,
              plan→ q (R i) (other i held),
              s.forced.no_later q other above (R i).first (steps i held).first_in,
            )
        by_step q other above v below (no e) = omega (arith, s.forced.no_later q other above v below, r.other_gains v e)

    -- No open step has a larger gain than a settled one.
    settled_first : (v w : ℕ) → v < n → w < n → rank v < turns → turns ≤ rank w → g' w ≤ g' v
    settled_first v w v-in w-in v-settled w-open = tell (ℕ_discrete w (R i).second)
      where
        tell : Dec (w ≡ (R i).second) → g' w ≤ g' v
        tell (yes e) = omega (arith, ap g' e, at_most, s.last_least v v-in v-settled, settled_same v v-settled)
        tell (no e) = omega (arith, r.other_gains w e, settled_same v v-settled, s.settled_first v w v-in w-in v-settled w-open)

    -- The rule under i is kept now, and every rule that was kept still is.
    kept :
        (j : ℕ) → H j → rank (R j).first < turns → ((R j).first ≡ (R i).first → plus Seen i j) →
        d (R j).first + g' (R j).first + dn (R j).amount ≤ d (R j).second + g' (R j).second + up (R j).amount
    kept j j-held j-settled seen = tell (ℕ_discrete j i)
      where
        later : (j ≡ i → ⊥) → (R j).first ≡ (R i).first → Seen j
        later e of-last = plus_other Seen i j e (seen of-last)

        tell :
            Dec (j ≡ i) → d (R j).first + g' (R j).first + dn (R j).amount ≤ d (R j).second + g' (R j).second + up (R j).amount
        tell (yes e) =
            subst (λ (h : ℕ). d (R h).first + g' (R h).first + dn (R h).amount ≤ d (R h).second + g' (R h).second + up (R h).amount) (sym e)
            (omega (arith, r.reaches, far, settled_same (R i).first settled))
        tell (no e) = omega (arith, s.kept j j-held j-settled (later e), settled_same (R j).first j-settled, grows (R j).second)

    -- The list has different steps, each with a gain.
    listed : Listed n g' list' k'
    listed = record {
      step = λ j below. step j (place_of j below);
      gain = λ j below. gain j (place_of j below);
      once = λ a b a_in b-in e. once a b (place_of a a_in) (place_of b b-in) e;
    }
      where
        step : (j : ℕ) → OldOrNew k (list' j) (R i).second (g (R i).second) j → list' j < n
        step j (inl h) = omega (arith, same_place j h, s.listed.step j h)
        step j (inr h) = omega (arith, h.1, (steps i held).second_in)

        gain : (j : ℕ) → OldOrNew k (list' j) (R i).second (g (R i).second) j → 0 < g' (list' j)
        gain j (inl h) = omega (arith, ap g (same_place j h), grows (list' j), s.listed.gain j h)
        gain j (inr h) = omega (arith, ap g' h.1, rises)

        -- A step that stood in the list had a gain, and the new one had none.
        differ : (a b : ℕ) → a < k → list' b ≡ (R i).second → g (R i).second ≡ 0 → list' a ≡ list' b → ⊥
        differ a b a_in b-new had e =
            omega (arith, s.listed.gain a a_in, ap g (sym (same_place a a_in) ∙ e ∙ b-new))

        once :
            (a b : ℕ) → OldOrNew k (list' a) (R i).second (g (R i).second) a → OldOrNew k (list' b) (R i).second (g (R i).second) b →
            list' a ≡ list' b → a ≡ b
        once a b (inl ha) (inl hb) e = s.listed.once a b ha hb (sym (same_place a ha) ∙ e ∙ same_place b hb)
        once a b (inl ha) (inr hb) e = absurd (differ a b ha hb.1 hb.2 e)
        once a b (inr ha) (inl hb) e = absurd (differ b a hb ha.1 ha.2 (sym e))
        once a b (inr ha) (inr hb) e = omega (arith, ha.0, hb.0)

    -- They are open.
    listed_open : (j : ℕ) → j < k' → turns ≤ rank (list' j)
    listed_open j below = tell (place_of j below)
      where
        tell : OldOrNew k (list' j) (R i).second (g (R i).second) j → turns ≤ rank (list' j)
        tell (inl h) = omega (arith, ap rank (same_place j h), s.listed_open j h)
        tell (inr h) = omega (arith, ap rank h.1, second-open)

    -- Each open step with a gain is among them.
    open_listed : (v : ℕ) → v < n → 0 < g' v → turns ≤ rank v → StandsIn list' k' v
    open_listed v v-in has v-open = tell (dec_lt 0 (g v))
      where
        stays : StandsIn list k v → StandsIn list' k' v
        stays h = record { place = h.place; place_in = omega (arith, h.place_in, at_least_k); there = same_place h.place h.place_in ∙ h.there }

        new : (g v ≡ 0) → Dec (v ≡ (R i).second) → StandsIn list' k' v
        new had (yes e) =
            let none : g (R i).second ≡ 0 = sym (ap g e) ∙ had in
            record { place = k; place_in = omega (arith, (r.entered.new none).0); there = (r.entered.new none).1.there ∙ sym e }
        new had (no e) = absurd (omega (arith, r.other_gains v e))

        tell : Dec (0 < g v) → StandsIn list' k' v
        tell (yes h) = stays (s.open_listed v v-in h v-open)
        tell (no h) = new (omega arith) (ℕ_discrete v (R i).second)

    -- A step for which no rule is named has its day of low.
    not_raised : (v : ℕ) → v < n → 0 < g' v → by' v ≡ 0 → d v + g' v ≡ low v
    not_raised v v-in has none = tell (ℕ_discrete v (R i).second)
      where
        tell : Dec (v ≡ (R i).second) → d v + g' v ≡ low v
        tell (yes e) = absurd (omega (arith, ap by' e, r.named.there))
        tell (no e) = omega (arith, r.other_gains v e, r.named.others v e, s.not_raised v v-in (omega (arith, r.other_gains v e)) (sym (r.named.others v e) ∙ none))

    -- A step that raised another is settled.
    raised_from : (v : ℕ) → v < n → 0 < g' v → (j : ℕ) → by' v ≡ suc j → rank (R j).first < turns
    raised_from v v-in has j named = tell (ℕ_discrete v (R i).second)
      where
        tell : Dec (v ≡ (R i).second) → rank (R j).first < turns
        tell (yes e) =
            let same : j ≡ i = omega (arith, ap by' e, r.named.there, named) in
            subst (λ (h : ℕ). rank (R h).first < turns) (sym same) settled
        tell (no e) = s.raised_from v v-in (omega (arith, r.other_gains v e)) j (sym (r.named.others v e) ∙ named)

    -- A step for which a rule is named came by that rule.
    raised : (v : ℕ) → v < n → 0 < g' v → (j : ℕ) → by' v ≡ suc j → CameBy R H (λ w. d w + g' w) rank v j
    raised v v-in has j named = tell (ℕ_discrete v (R i).second)
      where
        old : (v ≡ (R i).second → ⊥) → CameBy R H (λ w. d w + g w) rank v j → CameBy R H (λ w. d w + g' w) rank v j
        old e h = record {
          held = h.held;
          leads_to = h.leads_to;
          tight = omega (arith, h.tight, r.other_gains v e, settled_same (R j).first (raised_from v v-in has j named));
          before = h.before;
        }

        here : CameBy R H (λ w. d w + g' w) rank (R i).second i
        here = record {
          held = held;
          leads_to = refl;
          tight = omega (arith, r.reaches, far, settled_same (R i).first settled);
          before = omega (arith, second-open);
        }

        tell : Dec (v ≡ (R i).second) → CameBy R H (λ w. d w + g' w) rank v j
        tell (yes e) =
            let same : j ≡ i = omega (arith, ap by' e, r.named.there, named) in
            subst (λ (h : ℕ). CameBy R H (λ w. d w + g' w) rank h j) (sym e)
            (subst (λ (h : ℕ). CameBy R H (λ w. d w + g' w) rank (R i).second h) (sym same) here)
        tell (no e) = old e (s.raised v v-in (omega (arith, r.other_gains v e)) j (sym (r.named.others v e) ∙ named))

    -- The state after the rule under i has raised its second step.
    pub raise_keeps : Spreading n R H d low turns (R i).first (plus Seen i) rank g' by' list' k'
    raise_keeps = record {
      forced = forced;
      settled_first = settled_first;
      last_least = λ v v-in h. omega (arith, settled_same v h, settled_same (R i).first settled, s.last_least v v-in h);
      kept = kept;
      open_rank = s.open_rank;
      listed = listed;
      listed_open = listed_open;
      open_listed = open_listed;
      counted = omega (arith, s.counted, no_more);
      not_raised = not_raised;
      raised = raised;
      raised_from = raised_from;
    }
