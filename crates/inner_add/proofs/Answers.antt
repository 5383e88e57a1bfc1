-- From the plan of a new rule to what Add and Trial promise.
use Prim.Native.Nat.{ℕ, ◌+◌, ◌≤◌, ◌<◌}
use native.Mathlib.Omega.{arith}
use native.Mathlib.Decide.{dec_lt}
use mathlib.Core.Path.{◌≡◌, refl, sym, ◌∙◌, ap, subst}
use mathlib.Core.List.{List}
use Rattle.std.specs.Prelude.{Ok, Err}
use lib.ListN.{length, set, take, replicate, get_or-replicate, length-replicate}
use lib.IntN.{ℤ, pos}
use Rattle.meaning.specs.declared.Counts.{Counts}
use Rattle.meaning.specs.declared.Refusal.TheVariants.{Conflict}
use Rattle.meaning.specs.Bounds.{STEPS, RULES, LARGEST}
use Rattle.meaning.specs.Rules.{Keeps, InBounds, Earliest, Fits, Reason, largest, more, plus, rule}
use Rattle.meaning.specs.Tables.{Columns, ColumnsRoom, rule_at, put, at, lowest_free}
use Rattle.meaning.specs.Promise as promise
use Rattle.meaning.proofs.Below.{both?}
use Rattle.meaning.proofs.Places.{lowest_counted}
use Rattle.meaning.proofs.Reason.{conflict_iff_ring}
use Rattle.meaning.proofs.More.{more_all}
use Rattle.meaning.proofs.Theory.{earliest_ext}
use Rattle.meaning.proofs.Counting.{ring_length}
use Rattle.meaning.proofs.Lists.{past_refl, filled_length}
use Rattle.meaning.proofs.DayBound.{amount_down, day_bound}
use Rattle.meaning.proofs.Needs.{obeys_done, obeys_conflict}
use Rattle.meaning.specs.Calls.{Asked}
use Rattle.meaning.proofs.Possible.{plan_fits, first_conflict}
use Rattle.lent.specs.Lent.{columns, tables, Placed, held_by}
use Rattle.chains.specs.Chains.{number, OFF, linked, LentChains}
use Rattle.chains.proofs.Laws.{chains_lent}
use Rattle.lent.specs.Promises.{Border}
use Rattle.inner_watch.proofs.Equal.{tables_equal}
use Rattle.spread.specs.Ground.{rules}
use Rattle.shortest.specs.Clauses.{Refuted, ReasonIn}
use Rattle.spread.proofs.Uses.{kept_earliest}
use Rattle.inner_add.specs.Planning.{Base, NoGains, Raised, Raisable}
use Rattle.inner_add.specs.Lending.{Holdable}
use Rattle.inner_add.specs.Fit.{Taken, Left, one_more}
use Rattle.inner_add.specs.Kept.{BothRoom, Counted, TrialKept, AddKept}
use Rattle.inner_add.proofs.Raising.{moved_self}

-- There is a place for one rule more.
pub placed : (xs ys : List ℕ) (cs : List ℤ) (m : ℕ) → ColumnsRoom RULES (columns xs ys cs) → m < RULES → Placed xs ys cs m
placed xs ys cs m room more-fit = record {
  first_place = omega (arith, room.firsts_room);
  second_place = omega (arith, room.seconds_room);
  amount_place = omega (arith, room.amounts_room);
}

-- On sound tables with their chains a new rule can be planned.
pub base :
    (counts : Counts) (xs ys : List ℕ) (cs : List ℤ) (days levels wxs wys : List ℕ) (wcs : List ℤ) →
    Border (tables counts xs ys cs days levels wxs wys wcs) → (heads nexts : List ℕ) →
    LentChains counts.steps (held_by levels) xs heads nexts →
    Base counts.steps (held_by levels) number xs ys cs days heads nexts
base counts xs ys cs days levels wxs wys wcs b heads nexts l = record {
  ground = record {
    steps_in = b.sound.counts_in.steps_in;
    number_in = λ i h. h.0;
    placed = λ i h. placed xs ys cs i b.room.rules_room h.0;
    next_place = λ i h. omega (arith, h.0, l.nexts_room);
    days_room = omega (arith, b.room.days_room, b.sound.counts_in.steps_in);
    heads_room = l.heads_room;
    in_steps = λ i h. (b.sound.rules_good i h).steps_in;
    plan = b.sound.days_earliest.plan;
    chained = chains_lent counts.steps (held_by levels) xs heads nexts l;
  };
  earliest = b.sound.days_earliest;
  rules_good = b.sound.rules_good;
  columns_room = b.room.rules_room;
}

-- And the levels are counted.
pub counted :
    (counts : Counts) (xs ys : List ℕ) (cs : List ℤ) (days levels wxs wys : List ℕ) (wcs : List ℤ) →
    Border (tables counts xs ys cs days levels wxs wys wcs) → Counted counts levels
counted counts xs ys cs days levels wxs wys wcs b = record {
  levels_room = b.room.levels_room;
  rules_counted = b.sound.rules_counted;
  marks_in = b.sound.counts_in.marks_in;
}

-- Lists of zeros have no gains.
pub no_gains : (n s : ℕ) → n ≤ s → NoGains n (replicate s 0) (replicate s 0)
no_gains n s few = record {
  none_yet = λ v h. get_or-replicate s v 0 0 (omega (arith, h));
  gains_room = omega (arith, length-replicate {A = ℕ} s 0);
  by_room = omega (arith, length-replicate {A = ℕ} s 0);
}

module _
    (n : ℕ) (H : ℕ → Type 0) (order : ℕ → ℕ) (k : ℕ) (xs ys : List ℕ) (cs : List ℤ) (days heads nexts : List ℕ) (x y : ℕ) (c : ℤ) (r : Holdable n H order k xs ys cs days heads nexts x y c)
    (gains : List ℕ) (e : Earliest n (more (rules xs ys cs) k (rule x y c)) (plus H k) (λ v. at days v + at gains v)) where
  -- All rules held with the new one are within bounds.
  bounds : (i : ℕ) → plus H k i → InBounds n (more (rules xs ys cs) k (rule x y c) i)
  bounds = more_all (InBounds n) (rules xs ys cs) H k (rule x y c) r.new_good r.base.rules_good

  -- An earliest day fits the day table.
  pub raisable : (list : List ℕ) → n ≤ length gains → n ≤ length list → Raisable n days gains list
  raisable list gains_room list_room = record {
    days_room = r.base.ground.days_room;
    gains_room = gains_room;
    list_room = list_room;
    few = r.base.ground.steps_in;
    fits = λ v h. omega (
      arith,
      day_bound n (more (rules xs ys cs) k (rule x y c)) (plus H k) (λ w. at days w + at gains w) bounds e v h,
      r.base.ground.steps_in,
    );
  }

  -- The list that has them has the earliest plan.
  pub planned_list :
      (before after : List ℕ) (count : ℕ) → Raised n days gains before after count → promise.Planned n (more (rules xs ys cs) k (rule x y c)) (plus H k) before after
  planned_list before after count w = record {
    earliest =
        earliest_ext n (more (rules xs ys cs) k (rule x y c)) (plus H k) (λ v. at days v + at gains v) (at after) (λ i h. (bounds i h).steps_in)
        (λ v h. sym (w.each v h)) e;
    past = w.past;
  }

  -- The rule was planned and fits: with the days raised and the rule written it is held.
  pub taken :
      (last : ℕ) (days' : List ℕ) (count last' : ℕ) (after : Columns) → Raised n days gains days days' count → last' ≡ largest n (at days') → after ≡ put (columns xs ys cs) k (rule x y c) →
      Taken n H k (rule x y c) (columns xs ys cs) days last count after days' last'
  taken last days' count last' after raised latest written = record { written = written; planned = planned_list days days' count raised; count_moved = raised.count; last_day = λ was. latest }

-- The days keep the rule: they are the earliest plan with it, none moves, and the last day stays.
pub taken_at_once :
    (n : ℕ) (H : ℕ → Type 0) (order : ℕ → ℕ) (k : ℕ) (xs ys : List ℕ) (cs : List ℤ) (days heads nexts : List ℕ) (x y : ℕ) (c : ℤ) → Holdable n H order k xs ys cs days heads nexts x y c →
    Keeps (λ v. pos (at days v)) (rule x y c) → (last : ℕ) (after : Columns) → after ≡ put (columns xs ys cs) k (rule x y c) →
    Taken n H k (rule x y c) (columns xs ys cs) days last 0 after days last
taken_at_once n H order k xs ys cs days heads nexts x y c r kept last after written = record {
  written = written;
  planned = record {
    earliest = kept_earliest n (rules xs ys cs) H (at days) k (rule x y c) r.free r.base.earliest kept;
    past = past_refl n days;
  };
  count_moved = moved_self n days;
  last_day = λ was. was;
}

-- ---- the answers

module _
    (counts : Counts) (xs ys : List ℕ) (cs : List ℤ) (days levels heads nexts : List ℕ) (x y : ℕ) (c : ℤ) (m : ℕ) (is : m ≡ lowest_free RULES levels)
    (ready : Holdable counts.steps (held_by levels) number m xs ys cs days heads nexts x y c) where
  -- On sound tables the rule can be asked for.
  asked : (wxs wys : List ℕ) (wcs : List ℤ) → Border (tables counts xs ys cs days levels wxs wys wcs) → Asked (rule x y c) (tables counts xs ys cs days levels wxs wys wcs)
  asked wxs wys wcs b = record {
    room = b.room;
    sound = b.sound;
    steps_in = ready.new_good.steps_in;
    amount_in = ready.new_good.amount_in;
    not_full = omega (arith, b.sound.rules_counted, lowest_counted RULES levels (omega (arith, is, ready.not_full)));
  }

  -- What is planned with the rule under m, and a reason with it under m, are so with it under the next number.
  planned_next :
      {before after : List ℕ} → promise.Planned counts.steps (more (rules xs ys cs) m (rule x y c)) (plus (held_by levels) m) before after →
      promise.Planned counts.steps (more (rules xs ys cs) (lowest_free RULES levels) (rule x y c)) (plus (held_by levels) (lowest_free RULES levels)) before after
  planned_next {before} {after} = subst (λ (j : ℕ). promise.Planned counts.steps (more (rules xs ys cs) j (rule x y c)) (plus (held_by levels) j) before after) is

  reason_next : {k : ℕ} {before after : List ℕ} → ReasonIn (held_by levels) m xs ys cs x y c k before after → ReasonIn (held_by levels) (lowest_free RULES levels) xs ys cs x y c k before after
  reason_next {k} {before} {after} = subst (λ (j : ℕ). ReasonIn (held_by levels) j xs ys cs x y c k before after) is

  -- Trial, where the rule fits.
  pub trial_done :
      (one two one' : List ℕ) → BothRoom one two → (k : ℕ) →
      promise.Planned counts.steps (more (rules xs ys cs) m (rule x y c)) (plus (held_by levels) m) one one' →
      k ≡ promise.moved counts.steps days one' →
      TrialKept counts xs ys cs days levels one two x y c (Ok k) one' two
  trial_done one two one' long k p count wxs wys wcs b =
      let a = asked wxs wys wcs b in
      obeys_done _ _ k 0 _
      ((a.room, long.one_room, long.two_room), (a.sound, (a.steps_in, (a.amount_in, (a.not_full, (plan_fits (rule x y c) _ a (at one') (planned_next p).earliest, tt))))))
      (record { tables_stay = refl; planned = planned_next p; count_moved = count; no_second = refl; two_stays = refl })

  -- Trial, on conflict.
  pub trial_conflict :
      (one two one' two' : List ℕ) → one' ≡ one → BothRoom one two → (k : ℕ) → ReasonIn (held_by levels) m xs ys cs x y c k two two' →
      TrialKept counts xs ys cs days levels one two x y c (Err (Conflict k)) one' two'
  trial_conflict one two one' two' same long k ring wxs wys wcs b =
      let a = asked wxs wys wcs b in
      obeys_conflict _ _ k _ (first_conflict (rule x y c) _ a (take k two') (a.room, long.one_room, long.two_room) (reason_next ring).holds.refutes)
      (record { tables_stay = refl; one_stays = same; ring_given = reason_next ring })

  -- Add, where the rule fits.
  pub add_done :
      (list : List ℕ) → STEPS ≤ length list → (k : ℕ) (after : Counts) (xs' ys' : List ℕ) (cs' : List ℤ) (days' : List ℕ) (last' level : ℕ) → after ≡ one_more last' counts →
      level ≡ counts.marks + 1 →
      Taken counts.steps (held_by levels) m (rule x y c) (columns xs ys cs) days counts.last k (columns xs' ys' cs') days' last' →
      AddKept counts xs ys cs days levels list x y c (Ok (record { counts = after; moved = k })) after xs' ys' cs' days' (set levels m level) list
  add_done list long k after xs' ys' cs' days' last' level counted level_is t wxs wys wcs b =
      let a = asked wxs wys wcs b in
      obeys_done _ _ k 0 _
      ((a.room, long), (a.sound, (a.steps_in, (a.amount_in, (a.not_full, (plan_fits (rule x y c) _ a (at days') (planned_next t.planned).earliest, tt))))))
      (record {
        rule_held = tables_equal _ _ (counted ∙ ap (λ j. one_more j counts) (t.last_day b.sound.last_largest))
            (t.written ∙ ap (λ (j : ℕ). put (columns xs ys cs) j (rule x y c)) is) refl (ap (set levels m) level_is ∙ ap (λ (j : ℕ). set levels j (counts.marks + 1)) is) refl;
        planned = planned_next t.planned;
        count_moved = t.count_moved;
        no_second = refl;
        list_stays = refl;
      })

  -- Add, on conflict.
  pub add_conflict :
      (list list' : List ℕ) → STEPS ≤ length list → (k : ℕ) (xs' ys' : List ℕ) (cs' : List ℤ) (days' : List ℕ) →
      Left (held_by levels) (rule x y c) (columns xs ys cs) days (columns xs' ys' cs') days' →
      ReasonIn (held_by levels) m xs ys cs x y c k list list' →
      AddKept counts xs ys cs days levels list x y c (Err (Conflict k)) counts xs' ys' cs' days' levels list'
  add_conflict list list' long k xs' ys' cs' days' left ring wxs wys wcs b =
      let a = asked wxs wys wcs b in
      obeys_conflict _ _ k _ (first_conflict (rule x y c) _ a (take k list') (a.room, long) (reason_next ring).holds.refutes)
      (record { tables_stay = tables_equal _ _ refl left.rules_stay left.days_stay refl refl; ring_given = reason_next ring })

-- A reason found in columns that are as before is one of those before.
pub ring_before :
    (H : ℕ → Type 0) (m : ℕ) (xs ys : List ℕ) (cs : List ℤ) (xs' ys' : List ℕ) (cs' : List ℤ) (x y : ℕ) (c : ℤ) (k : ℕ) (list list' : List ℕ) → columns xs' ys' cs' ≡ columns xs ys cs →
    ReasonIn H m xs' ys' cs' x y c k list list' → ReasonIn H m xs ys cs x y c k list list'
ring_before H m xs ys cs xs' ys' cs' x y c k list list' same =
    subst (λ (r : Columns). promise.Filled k (Reason (rule_at r) H m (rule x y c)) list list') same

-- A reason has no more rules than there are steps.
pub ring_short :
    (n : ℕ) (H : ℕ → Type 0) (order : ℕ → ℕ) (m : ℕ) (xs ys : List ℕ) (cs : List ℤ) (days heads nexts : List ℕ) (x y : ℕ) (c : ℤ) → Holdable n H order m xs ys cs days heads nexts x y c →
    (k : ℕ) (before after : List ℕ) → ReasonIn H m xs ys cs x y c k before after → k ≤ STEPS
ring_short n H order m xs ys cs days heads nexts x y c r k before after ring =
    omega (
      arith,
      filled_length k before after ring,
      ring_length n (rules xs ys cs) H m (rule x y c) (take k after) (λ i h. (r.base.rules_good i h).steps_in) r.new_good.steps_in ring.holds.refutes,
      r.base.ground.steps_in,
    )

-- A rule that can be held and does not fit is refuted, and there is room to find the reason.
pub refuted :
    (n m : ℕ) (xs ys : List ℕ) (cs : List ℤ) (days heads nexts : List ℕ) (x y : ℕ) (c : ℤ) → Holdable n (linked nexts) number m xs ys cs days heads nexts x y c →
    (Fits (rules xs ys cs) (linked nexts) (rule x y c) → ⊥) → RULES ≤ length nexts → (list : List ℕ) → STEPS ≤ length list → Refuted n (linked nexts) m xs ys cs days heads nexts x y c list
refuted n m xs ys cs days heads nexts x y c r unfit nexts_room list long =
    let ground = r.base.ground in
    record {
      kept = record {
        steps_in = ground.steps_in;
        number_in = ground.number_in;
        placed = ground.placed;
        days_room = ground.days_room;
        in_steps = ground.in_steps;
        plan = ground.plan;
      };
      heads_room = ground.heads_room;
      nexts_room = nexts_room;
      firsts_room = r.base.columns_room.firsts_room;
      seconds_room = r.base.columns_room.seconds_room;
      first_in = r.new_good.steps_in.first_in;
      second_in = r.new_good.steps_in.second_in;
      free = r.free;
      free_in = omega (arith, r.not_full);
      small = omega (
        arith,
        day_bound n (rules xs ys cs) (linked nexts) (at days) r.base.rules_good r.base.earliest x r.new_good.steps_in.first_in,
        ground.steps_in,
        amount_down LARGEST c r.new_good.amount_in.not_below,
      );
      list_room = omega (arith, long, ground.steps_in);
      refuted =
          (conflict_iff_ring n RULES (rules xs ys cs) (linked nexts) (λ i. both? (dec_lt i RULES) (dec_lt (at nexts i) OFF)) (λ i on. on.0) ground.in_steps (λ v. pos (at days v)) ground.plan
          m r.free (rule x y c)).0 unfit;
    }

-- Where a rule was tried and left out, it can be held as before.
pub left_ready :
    {n : ℕ} {H : ℕ → Type 0} {order : ℕ → ℕ} {k : ℕ} {xs ys : List ℕ} {cs : List ℤ} {days heads nexts : List ℕ} {x y : ℕ} {c : ℤ} {xs' ys' : List ℕ} {cs' : List ℤ} {days' : List ℕ} →
    Left H (rule x y c) (columns xs ys cs) days (columns xs' ys' cs') days' → Holdable n H order k xs ys cs days heads nexts x y c → Holdable n H order k xs' ys' cs' days' heads nexts x y c
left_ready {n} {H} {order} {k} {xs} {ys} {cs} {days} {heads} {nexts} {x} {y} {c} {xs'} {ys'} {cs'} {days'} left ready =
    subst (λ (r : Columns). Holdable n H order k r.firsts r.seconds r.amounts days' heads nexts x y c) (sym left.rules_stay)
    (subst (λ (l : List ℕ). Holdable n H order k xs ys cs l heads nexts x y c) (sym left.days_stay) ready)

-- And it does not fit still.
pub left_unfit :
    {H : ℕ → Type 0} {xs ys : List ℕ} {cs : List ℤ} {days : List ℕ} {x y : ℕ} {c : ℤ} {xs' ys' : List ℕ} {cs' : List ℤ} {days' : List ℕ} →
    Left H (rule x y c) (columns xs ys cs) days (columns xs' ys' cs') days' → Fits (rules xs' ys' cs') H (rule x y c) → ⊥
left_unfit {H} {xs} {ys} {cs} {days} {x} {y} {c} left fits = left.unfit (subst (λ (r : Columns). Fits (rule_at r) H (rule x y c)) left.rules_stay fits)
