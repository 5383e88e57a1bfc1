-- Relaxing the rules of one step, along its chain.
use Prim.Native.Nat.{ℕ, suc, ◌+◌, ◌≤◌, ◌<◌}
use native.Mathlib.Omega.{arith}
use native.Mathlib.Decide.{ℕ_discrete}
use mathlib.Core.Path.{◌≡◌, refl, sym, ◌∙◌, subst}
use mathlib.Core.Logic.{inl, inr}
use mathlib.Core.Bool.{false, false≢true}
use mathlib.Core.List.{List}
use lib.IntN.{ℤ}
use lib.Dec.{eqb}
use borrow.Author.Tests.{eq-eqb}
use Rattle.meaning.specs.Rules.{Rule, plus}
use Rattle.meaning.specs.Tables.{at}
use Rattle.meaning.specs.Reckoning.{up, dn}
use Rattle.meaning.proofs.Counting.{count_more}
use Rattle.meaning.proofs.More.{plus_other}
use Rattle.lent.specs.Lent.{BIAS}
use Rattle.chains.specs.Chains.{top}
use Rattle.chains.proofs.Walk.{above_next}
use Rattle.spread.specs.State.{without_gain, Ready, None, Every, Spreading}
use Rattle.spread.specs.Relax.{Raise, Kept, Relaxable, Relaxed}
use Rattle.spread.specs.Ground.{rules, Ground}
use Rattle.spread.specs.Clauses.{StepsRoom, RelaxedAll}
use Rattle.spread.proofs.Raising.{first_same, no_more, raise_ready, raise_keeps}
use Rattle.spread.proofs.Settling.{seen_to, skip}

-- Where a step below n has no gain, one at least is counted.
some_without : (n : ℕ) (g : ℕ → ℕ) (y : ℕ) → y < n → g y ≡ 0 → 0 < without_gain n g
some_without n g y y-in none =
    omega (arith, count_more (λ v. false) (λ v. eqb (g v) 0) n (λ v below e. absurd (false≢true e)) y y-in refl (eq-eqb (g y) 0 none))

-- Every rule held can be relaxed.
pub relaxable :
    (n : ℕ) (H : ℕ → Type 0) (order : ℕ → ℕ) (xs ys : List ℕ) (cs : List ℤ) (days heads nexts gains by list : List ℕ) (k i most : ℕ) →
    Ground n H order xs ys cs days heads nexts → H i → StepsRoom n most gains by → Ready n (at gains) (at list) k → Relaxable n ys cs days gains by k i
relaxable n H order xs ys cs days heads nexts gains by list k i most ground held room ready = record {
  second_place = (ground.placed i held).second_place;
  amount_place = (ground.placed i held).amount_place;
  second_in = (ground.in_steps i held).second_in;
  second_day = omega (arith, ground.days_room, (ground.in_steps i held).second_in);
  second_gain = omega (arith, room.gains_room, (ground.in_steps i held).second_in);
  second_by = omega (arith, room.by_room, (ground.in_steps i held).second_in);
  number_fits = omega (arith, ground.number_in i held);
  small = ready.small (at ys i) (ground.in_steps i held).second_in;
  room = λ none. omega (arith, ready.room, some_without n (at gains) (at ys i) (ground.in_steps i held).second_in none);
}

-- A rule that is kept as it is has been seen to.
pub seen_kept :
    (n : ℕ) (R : ℕ → Rule) (H : ℕ → Type 0) (d low : ℕ → ℕ) (turns last : ℕ) (Seen : ℕ → Type 0) (i : ℕ) (rank g by list : ℕ → ℕ) (k : ℕ) →
    d (R i).first + g (R i).first + dn (R i).amount ≤ d (R i).second + g (R i).second + up (R i).amount →
    Spreading n R H d low turns last Seen rank g by list k → Spreading n R H d low turns last (plus Seen i) rank g by list k
seen_kept n R H d low turns last Seen i rank g by list k kept s =
    seen_to n R H d low turns last Seen (plus Seen i) rank g by list k (λ j held settled seen. all_kept j held settled seen (ℕ_discrete j i)) s
  where
    all_kept :
        (j : ℕ) → H j → rank (R j).first < turns → ((R j).first ≡ last → plus Seen i j) → Dec (j ≡ i) →
        d (R j).first + g (R j).first + dn (R j).amount ≤ d (R j).second + g (R j).second + up (R j).amount
    all_kept j held settled seen (yes e) =
        subst (λ (h : ℕ). d (R h).first + g (R h).first + dn (R h).amount ≤ d (R h).second + g (R h).second + up (R h).amount) (sym e) kept
    all_kept j held settled seen (no e) = s.kept j held settled (λ of-last. plus_other Seen i j e (seen of-last))

-- The rules of a step that rank at or above the link.
abbrev pub From : (ℕ → ℕ) → ℕ → ℕ → Type 0
From order link j = top order link ≤ order j

-- The rules of step x from the link on were relaxed, from the state with `gains` to that with `gains'`; `reach` is the day of x with its
-- gain, plus BIAS.
pub record Walked
    (n : ℕ) (H : ℕ → Type 0) (order : ℕ → ℕ) (xs ys : List ℕ) (cs : List ℤ) (days : List ℕ) (x link reach : ℕ) (gains by list : List ℕ) (k : ℕ)
    (gains' by' list' : List ℕ) (k' : ℕ) : Type 0 where
  pub far : reach ≡ at days x + at gains' x + BIAS
  pub ready : Ready n (at gains') (at list') k'
  pub no_more : without_gain n (at gains') + k' ≤ without_gain n (at gains) + k
  pub past : (v : ℕ) → n ≤ v → at gains' v ≡ at gains v
  pub keeps :
      (low rank : ℕ → ℕ) (turns : ℕ) → rank x < turns →
      Spreading n (rules xs ys cs) H (at days) low turns x None rank (at gains) (at by) (at list) k →
      Spreading n (rules xs ys cs) H (at days) low turns x (From order link) rank (at gains') (at by') (at list') k'

-- Before the first rule.
pub walked_none :
    (n : ℕ) (H : ℕ → Type 0) (order : ℕ → ℕ) (xs ys : List ℕ) (cs : List ℤ) (days heads nexts : List ℕ) (x reach : ℕ) (gains by list : List ℕ) (k : ℕ) →
    Ground n H order xs ys cs days heads nexts → x < n → reach ≡ at days x + at gains x + BIAS → Ready n (at gains) (at list) k →
    Walked n H order xs ys cs days x (at heads x) reach gains by list k gains by list k
walked_none n H order xs ys cs days heads nexts x reach gains by list k ground x-in far ready = record {
  far = far;
  ready = ready;
  no_more = omega arith;
  past = λ v beyond. refl;
  keeps = λ low rank turns settled s.
      skip n (rules xs ys cs) H (at days) low turns x None (From order (at heads x)) rank (at gains) (at by) (at list) k
      (λ j held own above. omega (arith, ground.chained.head_newest x j x-in held own, above)) s;
}

-- After the last.
pub walked_all :
    (n : ℕ) (H : ℕ → Type 0) (order : ℕ → ℕ) (xs ys : List ℕ) (cs : List ℤ) (days : List ℕ) (x reach : ℕ) (gains by list : List ℕ) (k : ℕ) (gains' by' list' : List ℕ) (k' : ℕ) →
    Walked n H order xs ys cs days x 0 reach gains by list k gains' by' list' k' → RelaxedAll n H xs ys cs days x gains by list k gains' by' list' k'
walked_all n H order xs ys cs days x reach gains by list k gains' by' list' k' w = record {
  ready = w.ready;
  no_more = w.no_more;
  past = w.past;
  keeps = λ low rank turns settled s.
      skip n (rules xs ys cs) H (at days) low turns x (From order 0) Every rank (at gains') (at by') (at list') k' (λ j held own every. omega arith)
      (w.keeps low rank turns settled s);
}

module _
    (n : ℕ) (H : ℕ → Type 0) (order : ℕ → ℕ) (xs ys : List ℕ) (cs : List ℤ) (days heads nexts : List ℕ) (ground : Ground n H order xs ys cs days heads nexts) (i : ℕ) (held : H i)
    (reach : ℕ) (gains by list : List ℕ) (k : ℕ) (gains₁ by₁ list₁ : List ℕ) (k₁ : ℕ) (gains₂ by₂ list₂ : List ℕ) (k₂ : ℕ) where
  -- No rule of the step stands between rule i and the next on its chain.
  none_between : (j : ℕ) → H j → at xs j ≡ at xs i → From order (at nexts i) j → plus (From order (suc i)) i j
  none_between j j-held same above = by_place (ℕ_discrete j i)
    where
      by_place : Dec (j ≡ i) → plus (From order (suc i)) i j
      by_place (yes e) = inl e
      by_place (no apart) = inr (above_next n H order xs heads nexts ground.chained i j held j-held same apart above)

  -- The rule under i is kept as it is.
  kept_more :
      Kept (at days) (at ys i) (rules xs ys cs i).amount reach gains₁ by₁ list₁ k₁ gains₁ by₁ list₁ k₁ →
      Walked n H order xs ys cs days (at xs i) (suc i) reach gains by list k gains₁ by₁ list₁ k₁ →
      Walked n H order xs ys cs days (at xs i) (at nexts i) reach gains by list k gains₁ by₁ list₁ k₁
  kept_more h w = record {
    far = w.far;
    ready = w.ready;
    no_more = w.no_more;
    past = w.past;
    keeps = λ low rank turns settled s.
        skip n (rules xs ys cs) H (at days) low turns (at xs i) (plus (From order (suc i)) i) (From order (at nexts i)) rank (at gains₁) (at by₁) (at list₁) k₁ none_between
        (seen_kept n (rules xs ys cs) H (at days) low turns (at xs i) (From order (suc i)) i rank (at gains₁) (at by₁) (at list₁) k₁
        (omega (arith, h.enough, w.far)) (w.keeps low rank turns settled s));
  }

  -- The rule under i raises its second step.
  raised_more :
      Raise (at days) (at ys i) (rules xs ys cs i).amount i reach (at gains₁) (at by₁) (at list₁) k₁ (at gains₂) (at by₂) (at list₂) k₂ →
      Walked n H order xs ys cs days (at xs i) (suc i) reach gains by list k gains₁ by₁ list₁ k₁ →
      Walked n H order xs ys cs days (at xs i) (at nexts i) reach gains by list k gains₂ by₂ list₂ k₂
  raised_more r w =
      let R : ℕ → Rule = rules xs ys cs in
      let steps = ground.in_steps in
      let plan = ground.plan in
      record {
        far =
            omega (arith, w.far, first_same n R H (at days) i (at gains₁) (at by₁) (at list₁) k₁ (at gains₂) (at by₂) (at list₂) k₂ reach steps plan held w.far r);
        ready =
            raise_ready n R H (at days) i (at gains₁) (at by₁) (at list₁) k₁ (at gains₂) (at by₂) (at list₂) k₂ reach steps plan held w.far r w.ready;
        no_more =
            omega (arith, w.no_more, no_more n R H (at days) i (at gains₁) (at by₁) (at list₁) k₁ (at gains₂) (at by₂) (at list₂) k₂ reach steps plan held w.far r);
        past = λ v beyond. r.other_gains v (λ e. omega (arith, (steps i held).second_in)) ∙ w.past v beyond;
        keeps = λ low rank turns settled s.
            skip n R H (at days) low turns (at xs i) (plus (From order (suc i)) i) (From order (at nexts i)) rank (at gains₂) (at by₂) (at list₂) k₂ none_between
            (raise_keeps n R H (at days) i (at gains₁) (at by₁) (at list₁) k₁ (at gains₂) (at by₂) (at list₂) k₂ reach steps plan held w.far r low turns (From order (suc i)) rank settled
            (w.keeps low rank turns settled s));
      }

  -- The rule under i, which leads from step x, was relaxed.
  pub walked_more :
      (x : ℕ) → at xs i ≡ x → Relaxed ys cs days i reach gains₁ by₁ list₁ k₁ gains₂ by₂ list₂ k₂ →
      Walked n H order xs ys cs days x (suc i) reach gains by list k gains₁ by₁ list₁ k₁ →
      Walked n H order xs ys cs days x (at nexts i) reach gains by list k gains₂ by₂ list₂ k₂
  walked_more x own (inl h) w =
      rw (h.same_gains, h.same_by, h.same_list, h.same_count)
      (subst
      (λ (y : ℕ). Walked n H order xs ys cs days y (suc i) reach gains by list k gains₁ by₁ list₁ k₁ → Walked n H order xs ys cs days y (at nexts i) reach gains by list k gains₁ by₁ list₁ k₁)
      own
      (kept_more (rw (h.same_gains, h.same_by, h.same_list, h.same_count) at h))
      w)
  walked_more x own (inr r) w =
      subst
      (λ (y : ℕ). Walked n H order xs ys cs days y (suc i) reach gains by list k gains₁ by₁ list₁ k₁ → Walked n H order xs ys cs days y (at nexts i) reach gains by list k gains₂ by₂ list₂ k₂)
      own
      (raised_more r)
      w
