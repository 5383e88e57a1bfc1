-- Sequences of calls: the tables stay sound, Consequences answers the exact split, the last day stored is the largest, and Back restores what was held at the mark.
use Prim.Native.Nat.{ℕ, ◌+◌, ◌-◌, ◌≤◌, ◌<◌}
use native.Mathlib.Omega.{arith}
use native.Mathlib.Decide.{ℕ_discrete}
use mathlib.Core.Path.{◌≡◌, refl, sym, ◌∙◌, ap, subst}
use mathlib.Core.List.{List}
use mathlib.Core.Logic.{◌⊎◌, inl, inr, ⊎_elim, ◌↔◌}
use lib.ListN.{length, set, length-set}
use Rattle.meaning.specs.Bounds.{STEPS, RULES, MARKS, WATCHED, DONE, CONFLICT}
use Rattle.meaning.specs.Rules.{Rule, InBounds, InSteps, InAmount, Earliest, largest, plus}
use Rattle.meaning.specs.Tables.{Tables, Columns, rule_at, put, at, held, next, ColumnsRoom, Room, Sound, opened, with_watched, with_rule, with_mark, freed_above, down_to, without_mark, without_rule, with_days}
use Rattle.meaning.specs.Promise.{Given, gave, Meaning, Obeys, Past, Planned}
use Rattle.meaning.specs.Calls.{WithList, WithLists, rules_of, held_in, rules_and, held_and, Opened, Split, LastDayTold, open_meaning, watch_meaning, add_meaning, mark_meaning, back_meaning, withdraw_meaning, trial_meaning, consequences_meaning, ring_check_meaning, last_day_meaning}
use Rattle.meaning.specs.Runs.{Call, Made, Run, KeepsMark, Names, WithdrawnSince}
use Rattle.meaning.proofs.Theory.{earliest_unique, earliest_same}
use Rattle.meaning.proofs.Needs.{AllMet, done_met, all_met, first_same}
use Rattle.meaning.proofs.Needs as needs
use Rattle.meaning.proofs.LastDay.{largest_same}
use Rattle.meaning.proofs.Determined.{given_eq}
use Rattle.meaning.proofs.More.{more_all}
use Rattle.meaning.proofs.Put.{put_new, put_old, put_more, put_room}
use Rattle.meaning.proofs.Places.{taken_same, taken_at_most, taken_all_free, freed_length, held?, not_held_free, next_free, next_below, with_rule_held, with_rule_level, with_rule_levels, with_rule_counted, without_rule_held, without_rule_levels, without_rule_counted, down_to_held, down_to_levels}

-- The tables are sound and have room.
pub record Kept (t : Tables) : Type 0 where
  pub sound : Sound t
  pub room : Room t

-- ---- each accepted call leaves sound tables with room

days_room : (k : ℕ) (before after : List ℕ) → Past k before after → STEPS ≤ length before → STEPS ≤ length after
days_room k before after p h = omega (arith, p.same_length)

-- The levels are as many as before.
levels_room : (before after : List ℕ) → length after ≡ length before → RULES ≤ length before → RULES ≤ length after
levels_room before after same h = omega (arith, same)

pub opened_kept : (n : ℕ) (t u : Tables) (a b : ℕ) → Room t → 1 ≤ n → n ≤ STEPS → Opened n t a b u → Kept u
opened_kept n t u a b room lo hi x = subst Kept (sym x.emptied) kept
  where
    w : Tables
    w = with_days u.days (opened n u.levels t)

    none : (i : ℕ) → held w i → ⊥
    none i (below, some) = omega (arith, some, x.all_free i below)

    zeros : Earliest n (rule_at t.rules) (held w) (at u.days)
    zeros = record { plan = λ i h. absurd (none i h); no_later = λ q p v h. omega (arith, x.day_0 v h) }

    kept : Kept w
    kept =
        record {
          sound =
              record {
                counts_in = record { some_step = lo; steps_in = hi; rules_in = omega arith; marks_in = omega arith; watched_in = omega arith };
                rules_good = λ i h. absurd (none i h);
                levels_open = λ i h. absurd (none i h);
                rules_counted = sym (taken_all_free RULES u.levels x.all_free);
                watched_good = λ i h. absurd (omega arith);
                days_earliest = zeros;
                last_largest = omega arith;
              };
          room =
              record {
                rules_room = room.rules_room;
                days_room = days_room n t.days u.days x.past room.days_room;
                levels_room = levels_room t.levels u.levels x.past_levels.same_length room.levels_room;
                watched_room = room.watched_room;
              };
        }

-- What holds of every rule of a table below k, and of a rule written under k, holds of every rule of the new table below k + 1.
put_all : (P : Rule → Type 0) (c : Columns) (k m : ℕ) (r : Rule) → ColumnsRoom m c → k < m → ((i : ℕ) → i < k → P (rule_at c i)) → P r → (i : ℕ) → i < k + 1 → P (rule_at (put c k r) i)
put_all P c k m r room h old new i g = tell (ℕ_discrete i k)
  where
    tell : Dec (i ≡ k) → P (rule_at (put c k r) i)
    tell (yes e) = subst (λ j. P (rule_at (put c k r) j)) (sym e) (subst P (sym (put_new c k m r room h)) new)
    tell (no n) = subst P (sym (put_old c k r i n)) (old i (omega arith))

watched_kept : (r : Rule) (t : Tables) → Kept t → InSteps t.counts.steps r → InAmount r.amount → t.counts.watched < WATCHED → Kept (with_watched r t)
watched_kept r t k st am full =
    record {
      sound =
          record {
            counts_in = record { some_step = s.counts_in.some_step; steps_in = s.counts_in.steps_in; rules_in = s.counts_in.rules_in; marks_in = s.counts_in.marks_in; watched_in = omega arith };
            rules_good = s.rules_good;
            levels_open = s.levels_open;
            rules_counted = s.rules_counted;
            watched_good = put_all (InBounds t.counts.steps) t.watched t.counts.watched WATCHED r k.room.watched_room full s.watched_good (record { steps_in = st; amount_in = am });
            days_earliest = s.days_earliest;
            last_largest = s.last_largest;
          };
      room =
          record {
            rules_room = k.room.rules_room;
            days_room = k.room.days_room;
            levels_room = k.room.levels_room;
            watched_room = put_room t.watched t.counts.watched WATCHED r k.room.watched_room;
          };
    }
  where
    s : Sound t
    s = k.sound

-- The earliest plan of the larger family is that of the table with the rule written.
pub planned_put : (r : Rule) (t : Tables) (p : ℕ → ℕ) → Room t → next t < RULES → Earliest t.counts.steps (rules_and r t) (held_and t) p → Earliest t.counts.steps (rules_of (with_rule r t)) (held_in (with_rule r t)) p
planned_put r t p room below =
    earliest_same
    {H = held_and t}
    {G = held_in (with_rule r t)}
    (λ i. (with_rule_held r t i room below).0)
    (λ i. (with_rule_held r t i room below).1)
    (λ i h. put_more t.rules (next t) RULES r room.rules_room below i)

added_kept : (r : Rule) (t u : Tables) → Kept t → InSteps t.counts.steps r → InAmount r.amount → t.counts.rules < RULES → u ≡ with_days u.days (with_rule r t) → Planned t.counts.steps (rules_and r t) (held_and t) t.days u.days → Kept u
added_kept r t u k st am full is p = subst Kept (sym is) kept
  where
    s : Sound t
    s = k.sound

    below : next t < RULES
    below = next_below t s full

    good : (i : ℕ) → held (with_rule r t) i → InBounds t.counts.steps (rule_at (put t.rules (next t) r) i)
    good i h =
        subst (InBounds t.counts.steps) (put_more t.rules (next t) RULES r k.room.rules_room below i)
        (more_all (InBounds t.counts.steps) (rules_of t) (held t) (next t) r (record { steps_in = st; amount_in = am }) s.rules_good i ((with_rule_held r t i k.room below).0 h))

    levels-low : (i : ℕ) → plus (held t) (next t) i → at (with_rule r t).levels i ≤ t.counts.marks + 1
    levels-low i (inl e) = omega (arith, ap (at (with_rule r t).levels) e, with_rule_level r t k.room below)
    levels-low i (inr h) = omega (arith, with_rule_levels r t i h, s.levels_open i h)

    kept : Kept (with_days u.days (with_rule r t))
    kept =
        record {
          sound =
              record {
                counts_in = record { some_step = s.counts_in.some_step; steps_in = s.counts_in.steps_in; rules_in = omega arith; marks_in = s.counts_in.marks_in; watched_in = s.counts_in.watched_in };
                rules_good = good;
                levels_open = λ i h. omega (arith, levels-low i ((with_rule_held r t i k.room below).0 h));
                rules_counted = with_rule_counted r t k.room s full;
                watched_good = s.watched_good;
                days_earliest = planned_put r t (at u.days) k.room below p.earliest;
                last_largest = omega arith;
              };
          room =
              record {
                rules_room = put_room t.rules (next t) RULES r k.room.rules_room;
                days_room = days_room t.counts.steps t.days u.days p.past k.room.days_room;
                levels_room = levels_room t.levels (with_rule r t).levels (length-set t.levels (next t) (t.counts.marks + 1)) k.room.levels_room;
                watched_room = k.room.watched_room;
              };
        }

marked_kept : (t : Tables) → Kept t → t.counts.marks < MARKS → Kept (with_mark t)
marked_kept t k full =
    record {
      sound =
          record {
            counts_in = record { some_step = s.counts_in.some_step; steps_in = s.counts_in.steps_in; rules_in = s.counts_in.rules_in; marks_in = omega arith; watched_in = s.counts_in.watched_in };
            rules_good = s.rules_good;
            levels_open = λ i h. omega (arith, s.levels_open i h);
            rules_counted = s.rules_counted;
            watched_good = s.watched_good;
            days_earliest = s.days_earliest;
            last_largest = s.last_largest;
          };
      room =
          record {
            rules_room = k.room.rules_room;
            days_room = k.room.days_room;
            levels_room = k.room.levels_room;
            watched_room = k.room.watched_room;
          };
    }
  where
    s : Sound t
    s = k.sound

back_kept : (t u : Tables) → Kept t → 1 ≤ t.counts.marks → u ≡ with_days u.days (without_mark t) → Planned t.counts.steps (rules_of t) (held_in (without_mark t)) t.days u.days → Kept u
back_kept t u k some is p = subst Kept (sym is) kept
  where
    s : Sound t
    s = k.sound

    left : ℕ
    left = t.counts.marks - 1

    kept : Kept (with_days u.days (without_mark t))
    kept =
        record {
          sound =
              record {
                counts_in = record {
                  some_step = s.counts_in.some_step;
                  steps_in = s.counts_in.steps_in;
                  rules_in = taken_at_most RULES (freed_above RULES left t.levels);
                  marks_in = omega (arith, s.counts_in.marks_in);
                  watched_in = s.counts_in.watched_in;
                };
                rules_good = λ i h. s.rules_good i ((down_to_held left t i).0 h).0;
                levels_open = λ i h. let low = ((down_to_held left t i).0 h).1 in omega (arith, low, down_to_levels left t i low);
                rules_counted = refl;
                watched_good = s.watched_good;
                days_earliest = p.earliest;
                last_largest = omega arith;
              };
          room =
              record {
                rules_room = k.room.rules_room;
                days_room = days_room t.counts.steps t.days u.days p.past k.room.days_room;
                levels_room = levels_room t.levels (freed_above RULES left t.levels) (freed_length RULES left t.levels) k.room.levels_room;
                watched_room = k.room.watched_room;
              };
        }

withdrawn_kept : (j : ℕ) (t u : Tables) → Kept t → held_in t j → u ≡ with_days u.days (without_rule j t) → Planned t.counts.steps (rules_of t) (held_in (without_rule j t)) t.days u.days → Kept u
withdrawn_kept j t u k there is p = subst Kept (sym is) kept
  where
    s : Sound t
    s = k.sound

    kept : Kept (with_days u.days (without_rule j t))
    kept =
        record {
          sound =
              record {
                counts_in = record { some_step = s.counts_in.some_step; steps_in = s.counts_in.steps_in; rules_in = omega (arith, s.counts_in.rules_in); marks_in = s.counts_in.marks_in; watched_in = s.counts_in.watched_in };
                rules_good = λ i h. s.rules_good i ((without_rule_held j t i).0 h).1;
                levels_open = λ i h. let (other, was) = (without_rule_held j t i).0 h in omega (arith, s.levels_open i was, without_rule_levels j t i other);
                rules_counted = without_rule_counted j t s there;
                watched_good = s.watched_good;
                days_earliest = p.earliest;
                last_largest = omega arith;
              };
          room =
              record {
                rules_room = k.room.rules_room;
                days_room = days_room t.counts.steps t.days u.days p.past k.room.days_room;
                levels_room = levels_room t.levels (set t.levels j 0) (length-set t.levels j 0) k.room.levels_room;
                watched_room = k.room.watched_room;
              };
        }

-- ---- every call

-- A call was carried out, met a conflict, or changed nothing.
by_outcome : {S : Type 0} (m : Meaning S) (before after : S) (g : Given) → Obeys m before g after → (P : Type 0) → (g.number ≡ DONE → P) → (g.number ≡ CONFLICT → P) → (after ≡ before → P) → P
by_outcome m before after g x P done conflict refused = tell (ℕ_discrete g.number DONE) (ℕ_discrete g.number CONFLICT)
  where
    tell : Dec (g.number ≡ DONE) → Dec (g.number ≡ CONFLICT) → P
    tell (yes e) c = done e
    tell (no d) (yes e) = conflict e
    tell (no d) (no c) = refused (x.when_refused d c).1

-- What is to be shown of the tables after a call, where P holds of them before: at an accepted Open, Watch, Add, Mark, Back and Withdraw.
record Through (P : Tables → Type 0) (c : Call) (t u : Tables) : Type 0 where
  at_open : (n a b : ℕ) → Room t → 1 ≤ n → n ≤ STEPS → Opened n t a b u → P u
  at_watch : (r : Rule) → Kept t → InSteps t.counts.steps r → InAmount r.amount → t.counts.watched < WATCHED → u ≡ with_watched r t → P u
  at_add : (r : Rule) → Kept t → InSteps t.counts.steps r → InAmount r.amount → t.counts.rules < RULES → u ≡ with_days u.days (with_rule r t) → Planned t.counts.steps (rules_and r t) (held_and t) t.days u.days → P u
  at_mark : Kept t → t.counts.marks < MARKS → u ≡ with_mark t → P u
  at_back : Kept t → 1 ≤ t.counts.marks → u ≡ with_days u.days (without_mark t) → Planned t.counts.steps (rules_of t) (held_in (without_mark t)) t.days u.days → P u
  at_withdraw : (j : ℕ) → Names c j → Kept t → held_in t j → u ≡ with_days u.days (without_rule j t) → Planned t.counts.steps (rules_of t) (held_in (without_rule j t)) t.days u.days → P u
  at_rest : P t

stays : (P : Tables → Type 0) (t u : Tables) → P t → u ≡ t → P u
stays P t u h e = subst P (sym e) h

through : (P : Tables → Type 0) (c : Call) (t u : Tables) (g : Given) → Made c t g u → Through P c t u → P u
through P (Call.opens n) t u g x s = by_outcome (open_meaning n t) t u g x (P u) done (λ e. absurd (x.on_conflict e).0) (stays P t u s.at_rest)
  where
    done : g.number ≡ DONE → P u
    done e = let h = done_met DONE g.number (open_meaning n t).asks (needs.open_rises n t) x.first_unmet e in s.at_open n g.one g.two h.0 h.1.0.0 h.1.0.1 (x.when_done e)
through P (Call.watches r) t u g x s = by_outcome (watch_meaning r t) t u g x (P u) done (λ e. absurd (x.on_conflict e).0) (stays P t u s.at_rest)
  where
    done : g.number ≡ DONE → P u
    done e =
        let h = done_met DONE g.number (watch_meaning r t).asks (needs.watch_rises r t) x.first_unmet e in
        s.at_watch r (record { sound = h.1.0; room = h.0 }) h.1.1.0 h.1.1.1.0 h.1.1.1.1.0 (x.when_done e).watched
through P (Call.adds r l l') t u g x s = by_outcome (add_meaning r b) b a g x (P u) done (λ e. stays P t u s.at_rest (x.on_conflict e).0.tables_stay) (λ e. stays P t u s.at_rest (ap (λ z. z.tables) e))
  where
    b : WithList
    b = record { tables = t; list = l }

    a : WithList
    a = record { tables = u; list = l' }

    done : g.number ≡ DONE → P u
    done e =
        let h = done_met DONE g.number (add_meaning r b).asks (needs.add_rises r b) x.first_unmet e in
        s.at_add r (record { sound = h.1.0; room = h.0.0 }) h.1.1.0 h.1.1.1.0 h.1.1.1.1.0 (x.when_done e).rule_held (x.when_done e).planned
through P Call.marks t u g x s = by_outcome (mark_meaning t) t u g x (P u) done (λ e. absurd (x.on_conflict e).0) (stays P t u s.at_rest)
  where
    done : g.number ≡ DONE → P u
    done e = let h = done_met DONE g.number (mark_meaning t).asks (needs.mark_rises t) x.first_unmet e in s.at_mark (record { sound = h.1.0; room = h.0 }) h.1.1.0 (x.when_done e).marked
through P Call.goes_back t u g x s = by_outcome (back_meaning t) t u g x (P u) done (λ e. absurd (x.on_conflict e).0) (stays P t u s.at_rest)
  where
    done : g.number ≡ DONE → P u
    done e =
        let h = done_met DONE g.number (back_meaning t).asks (needs.back_rises t) x.first_unmet e in
        s.at_back (record { sound = h.1.0; room = h.0 }) h.1.1.0 (x.when_done e).dropped (x.when_done e).planned
through P (Call.withdraws j) t u g x s = by_outcome (withdraw_meaning j t) t u g x (P u) done (λ e. absurd (x.on_conflict e).0) (stays P t u s.at_rest)
  where
    done : g.number ≡ DONE → P u
    done e =
        let h = done_met DONE g.number (withdraw_meaning j t).asks (needs.withdraw_rises j t) x.first_unmet e in
        s.at_withdraw j refl (record { sound = h.1.0; room = h.0 }) h.1.1.0 (x.when_done e).gone (x.when_done e).planned
through P (Call.tries r l l' m m') t u g x s =
    by_outcome
    (trial_meaning r b)
    b
    (record { tables = u; one = l'; two = m' })
    g
    x
    (P u)
    (λ e. stays P t u s.at_rest (x.when_done e).tables_stay)
    (λ e. stays P t u s.at_rest (x.on_conflict e).0.tables_stay)
    (λ e. stays P t u s.at_rest (ap (λ z. z.tables) e))
  where
    b : WithLists
    b = record { tables = t; one = l; two = m }
through P (Call.asks_consequences l l' m m') t u g x s =
    by_outcome
    (consequences_meaning b)
    b
    (record { tables = u; one = l'; two = m' })
    g
    x
    (P u)
    (λ e. stays P t u s.at_rest (x.when_done e).tables_stay)
    (λ e. absurd (x.on_conflict e).0)
    (λ e. stays P t u s.at_rest (ap (λ z. z.tables) e))
  where
    b : WithLists
    b = record { tables = t; one = l; two = m }
through P (Call.checks_ring r l l') t u g x s =
    by_outcome
    (ring_check_meaning r b)
    b
    (record { tables = u; list = l' })
    g
    x
    (P u)
    (λ e. stays P t u s.at_rest (ap (λ z. z.tables) (x.when_done e).all_stays))
    (λ e. absurd (x.on_conflict e).0)
    (λ e. stays P t u s.at_rest (ap (λ z. z.tables) e))
  where
    b : WithList
    b = record { tables = t; list = l }
through P Call.asks_last_day t u g x s =
    by_outcome (last_day_meaning t) t u g x (P u) (λ e. stays P t u s.at_rest (x.when_done e).all_stays) (λ e. absurd (x.on_conflict e).0) (stays P t u s.at_rest)

-- Every call, refused ones included, leaves sound tables with room where it found them so.
pub call_keeps : (c : Call) (t u : Tables) (g : Given) → Made c t g u → Kept t → Kept u
call_keeps c t u g x k =
    through
    Kept
    c
    t
    u
    g
    x
    (record {
      at_open = λ n a b room lo hi o. opened_kept n t u a b room lo hi o;
      at_watch = λ r kt st am full is. subst Kept (sym is) (watched_kept r t kt st am full);
      at_add = λ r kt st am full is p. added_kept r t u kt st am full is p;
      at_mark = λ kt full is. subst Kept (sym is) (marked_kept t kt full);
      at_back = λ kt some is p. back_kept t u kt some is p;
      at_withdraw = λ j named kt there is p. withdrawn_kept j t u kt there is p;
      at_rest = k;
    })

-- After any sequence of calls the tables are sound.
pub run_kept : (t : Tables) → Run t → Kept t
run_kept t (Run.from_open n s g u x e) = opened_kept n s u g.one g.two h.0 h.1.0.0 h.1.0.1 (x.when_done e)
  where
    h : AllMet (open_meaning n s).asks
    h = done_met DONE g.number (open_meaning n s).asks (needs.open_rises n s) x.first_unmet e
run_kept t (Run.then s k c g u x) = call_keeps c s u g x (run_kept s k)

-- ---- demand 3: one question splits the watched rules exactly

-- On sound tables with room, with lists long enough, Consequences is carried out and what it gives is exactly the split.
pub kept_splits :
    (t : Tables) (l m l' m' : List ℕ) (g : Given) (u : Tables)
    → Kept t
    → t.counts.watched ≤ length l
    → t.counts.watched ≤ length m
    → Made (Call.asks_consequences l l' m m') t g u
    → (g.number ≡ DONE) × Split (record { tables = t; one = l; two = m }) g.one g.two (record { tables = u; one = l'; two = m' })
kept_splits t l m l' m' g u k long_one long_two x = (done, x.when_done done)
  where
    b : WithLists
    b = record { tables = t; one = l; two = m }

    done : g.number ≡ DONE
    done = first_same (consequences_meaning b).asks g.number DONE x.first_unmet (all_met (consequences_meaning b).asks ((k.room, long_one, long_two), (k.sound, tt)))

-- So after any sequence.
pub run_splits :
    (t : Tables) (l m l' m' : List ℕ) (g : Given) (u : Tables)
    → Run t
    → t.counts.watched ≤ length l
    → t.counts.watched ≤ length m
    → Made (Call.asks_consequences l l' m m') t g u
    → (g.number ≡ DONE) × Split (record { tables = t; one = l; two = m }) g.one g.two (record { tables = u; one = l'; two = m' })
run_splits t l m l' m' g u run = kept_splits t l m l' m' g u (run_kept t run)

-- ---- the last day

-- On sound tables with room the last day stored is the largest day of the plan, and Last day is carried out, gives it and changes nothing.
pub kept_last :
    (t : Tables) (g : Given) (u : Tables)
    → Kept t
    → Made Call.asks_last_day t g u
    → (t.counts.last ≡ largest t.counts.steps (at t.days)) × (g ≡ gave DONE t.counts.last 0) × (u ≡ t)
kept_last t g u k x = (k.sound.last_largest, given_eq g (gave DONE t.counts.last 0) done (told.day ∙ sym k.sound.last_largest) told.no_second, told.all_stays)
  where
    done : g.number ≡ DONE
    done = first_same (last_day_meaning t).asks g.number DONE x.first_unmet (all_met (last_day_meaning t).asks (k.room, (k.sound, tt)))

    told : LastDayTold t g.one g.two u
    told = x.when_done done

-- So after any sequence.
pub run_last :
    (t : Tables) (g : Given) (u : Tables)
    → Run t
    → Made Call.asks_last_day t g u
    → (t.counts.last ≡ largest t.counts.steps (at t.days)) × (g ≡ gave DONE t.counts.last 0) × (u ≡ t)
run_last t g u run = kept_last t g u (run_kept t run)

-- ---- Back restores

-- While the mark over tables s stays open: the steps are those of s; every rule held in s whose number was not withdrawn is held, with its level; and no other held rule has a level that was
-- open when the mark was set. `Gone i` says that number i was withdrawn since.
pub record Under (s t : Tables) (Gone : ℕ → Type 0) : Type 0 where
  pub kept : Kept t
  pub still_open : s.counts.marks < t.counts.marks
  pub same_steps : t.counts.steps ≡ s.counts.steps
  pub same_levels : (i : ℕ) → held_in s i → (Gone i → ⊥) → at t.levels i ≡ at s.levels i
  pub same_rules : (i : ℕ) → held_in s i → (Gone i → ⊥) → rule_at t.rules i ≡ rule_at s.rules i
  pub no_other : (i : ℕ) → held_in t i → at t.levels i ≤ s.counts.marks + 1 → held_in s i × (Gone i → ⊥)

-- Nothing was withdrawn right after the mark.
under_mark : (s : Tables) → Kept s → s.counts.marks < MARKS → Under s (with_mark s) (λ i. ⊥)
under_mark s k full =
    record {
      kept = marked_kept s k full;
      still_open = omega arith;
      same_steps = refl;
      same_levels = λ i h gone. refl;
      same_rules = λ i h gone. refl;
      no_other = λ i h low. (h, λ gone. gone);
    }

-- What was withdrawn may be put in other words.
under_words : (s t : Tables) (Gone Lost : ℕ → Type 0) → ((i : ℕ) → Gone i → Lost i) → ((i : ℕ) → Lost i → Gone i) → Under s t Gone → Under s t Lost
under_words s t Gone Lost to from w =
    record {
      kept = w.kept;
      still_open = w.still_open;
      same_steps = w.same_steps;
      same_levels = λ i h stays. w.same_levels i h (λ gone. stays (to i gone));
      same_rules = λ i h stays. w.same_rules i h (λ gone. stays (to i gone));
      no_other = λ i h low. let (was, stays) = w.no_other i h low in (was, λ lost. stays (from i lost));
    }

module _ (s t : Tables) (Gone : ℕ → Type 0) (w : Under s t Gone) where
  -- A rule held in s that was not withdrawn is held.
  still_held : (i : ℕ) → held_in s i → (Gone i → ⊥) → held_in t i
  still_held i (below, some) stays = (below, omega (arith, some, w.same_levels i (below, some) stays))

  under_watch : (r : Rule) → Kept (with_watched r t) → Under s (with_watched r t) Gone
  under_watch r k = record { kept = k; still_open = w.still_open; same_steps = w.same_steps; same_levels = w.same_levels; same_rules = w.same_rules; no_other = w.no_other }

  under_add : (r : Rule) (days : List ℕ) → next t < RULES → Kept (with_days days (with_rule r t)) → Under s (with_days days (with_rule r t)) Gone
  under_add r days below k =
      record {
        kept = k;
        still_open = w.still_open;
        same_steps = w.same_steps;
        same_levels = λ i h stays. with_rule_levels r t i (still_held i h stays) ∙ w.same_levels i h stays;
        same_rules = λ i h stays. put_old t.rules (next t) r i (λ e. next_free t (subst (held_in t) e (still_held i h stays))) ∙ w.same_rules i h stays;
        no_other = λ i h low. old i low ((with_rule_held r t i w.kept.room below).0 h);
      }
    where
      old : (i : ℕ) → at (with_rule r t).levels i ≤ s.counts.marks + 1 → plus (held_in t) (next t) i → held_in s i × (Gone i → ⊥)
      old i low (inl e) = absurd (omega (arith, low, w.still_open, ap (at (with_rule r t).levels) e, with_rule_level r t w.kept.room below))
      old i low (inr h) = w.no_other i h (omega (arith, low, with_rule_levels r t i h))

  under_newer : Kept (with_mark t) → Under s (with_mark t) Gone
  under_newer k =
      record { kept = k; still_open = omega (arith, w.still_open); same_steps = w.same_steps; same_levels = w.same_levels; same_rules = w.same_rules; no_other = w.no_other }

  under_back : (sound : Sound s) (days : List ℕ) → Kept (with_days days (without_mark t)) → s.counts.marks < t.counts.marks - 1 → Under s (with_days days (without_mark t)) Gone
  under_back sound days k still =
      record {
        kept = k;
        still_open = still;
        same_steps = w.same_steps;
        same_levels = λ i h stays. down_to_levels (t.counts.marks - 1) t i (omega (arith, w.same_levels i h stays, sound.levels_open i h, still)) ∙ w.same_levels i h stays;
        same_rules = w.same_rules;
        no_other = λ i h low. let (was, left) = (down_to_held (t.counts.marks - 1) t i).0 h in w.no_other i was (omega (arith, low, down_to_levels (t.counts.marks - 1) t i left));
      }

  -- Where number j is withdrawn, it is gone too.
  under_withdraw : (j : ℕ) (days : List ℕ) → Kept (with_days days (without_rule j t)) → Under s (with_days days (without_rule j t)) (λ i. Gone i ⊎ (i ≡ j))
  under_withdraw j days k =
      record {
        kept = k;
        still_open = w.still_open;
        same_steps = w.same_steps;
        same_levels = λ i h stays. without_rule_levels j t i (λ e. stays (inr e)) ∙ w.same_levels i h (λ gone. stays (inl gone));
        same_rules = λ i h stays. w.same_rules i h (λ gone. stays (inl gone));
        no_other = no_other;
      }
    where
      no_other : (i : ℕ) → held_in (without_rule j t) i → at (without_rule j t).levels i ≤ s.counts.marks + 1 → held_in s i × (Gone i ⊎ (i ≡ j) → ⊥)
      no_other i h low =
          let (other, was) = (without_rule_held j t i).0 h in
          let (in-s, stays) = w.no_other i was (omega (arith, low, without_rule_levels j t i other)) in
          (in-s, ⊎_elim stays other)

-- A call withdraws nothing, or it is a Withdraw.
quiet_or_withdraws : (c : Call) → ((i : ℕ) → Names c i → ⊥) ⊎ ((j : ℕ) × (c ≡ Call.withdraws j))
quiet_or_withdraws (Call.withdraws j) = inr (j, refl)
quiet_or_withdraws (Call.opens n) = inl (λ i named. named)
quiet_or_withdraws (Call.watches r) = inl (λ i named. named)
quiet_or_withdraws (Call.adds r l l') = inl (λ i named. named)
quiet_or_withdraws Call.marks = inl (λ i named. named)
quiet_or_withdraws Call.goes_back = inl (λ i named. named)
quiet_or_withdraws (Call.tries r l l' m m') = inl (λ i named. named)
quiet_or_withdraws (Call.asks_consequences l l' m m') = inl (λ i named. named)
quiet_or_withdraws (Call.checks_ring r l l') = inl (λ i named. named)
quiet_or_withdraws Call.asks_last_day = inl (λ i named. named)

module _ (s : Tables) (sound : Sound s) (t u : Tables) (g : Given) (still : s.counts.marks < u.counts.marks) (Gone : ℕ → Type 0) (w : Under s t Gone) where
  -- A call that withdraws nothing.
  under_quiet : (c : Call) → Made c t g u → ((i : ℕ) → Names c i → ⊥) → Under s u Gone
  under_quiet c x quiet =
      through
      (λ z. Under s z Gone)
      c
      t
      u
      g
      x
      (record {
        at_open = λ n a b room lo hi o. absurd (omega (arith, still, ap (λ z. z.counts.marks) o.emptied));
        at_watch = λ r kt st am full is. subst (λ z. Under s z Gone) (sym is) (under_watch s t Gone w r (subst Kept is kept));
        at_add = λ r kt st am full is p. subst (λ z. Under s z Gone) (sym is) (under_add s t Gone w r u.days (next_below t kt.sound full) (subst Kept is kept));
        at_mark = λ kt full is. subst (λ z. Under s z Gone) (sym is) (under_newer s t Gone w (subst Kept is kept));
        at_back =
            λ kt some is p.
            subst (λ z. Under s z Gone) (sym is) (under_back s t Gone w sound u.days (subst Kept is kept) (subst (λ z. s.counts.marks < z.counts.marks) is still));
        at_withdraw = λ j named kt there is p. absurd (quiet j named);
        at_rest = w;
      })
    where
      kept : Kept u
      kept = call_keeps c t u g x w.kept

  -- Withdraw, accepted or refused.
  under_withdraws : (j : ℕ) → Made (Call.withdraws j) t g u → Under s u (λ i. Gone i ⊎ ((g.number ≡ DONE) × (i ≡ j)))
  under_withdraws j x = tell (ℕ_discrete g.number DONE)
    where
      is : g.number ≡ DONE → u ≡ with_days u.days (without_rule j t)
      is e = (x.when_done e).gone

      tell : Dec (g.number ≡ DONE) → Under s u (λ i. Gone i ⊎ ((g.number ≡ DONE) × (i ≡ j)))
      tell (yes e) =
          subst (λ z. Under s z (λ i. Gone i ⊎ ((g.number ≡ DONE) × (i ≡ j)))) (sym (is e))
          (under_words s (with_days u.days (without_rule j t)) (λ i. Gone i ⊎ (i ≡ j)) (λ i. Gone i ⊎ ((g.number ≡ DONE) × (i ≡ j)))
          (λ i. ⊎_elim inl (λ same. inr (e, same)))
          (λ i. ⊎_elim inl (λ named. inr named.1))
          (under_withdraw s t Gone w j u.days (subst Kept (is e) (call_keeps (Call.withdraws j) t u g x w.kept))))
      tell (no d) =
          subst (λ z. Under s z (λ i. Gone i ⊎ ((g.number ≡ DONE) × (i ≡ j)))) (sym (x.when_refused d (λ e. (x.on_conflict e).0)).1)
          (under_words s t Gone (λ i. Gone i ⊎ ((g.number ≡ DONE) × (i ≡ j))) (λ i gone. inl gone) (λ i. ⊎_elim (λ gone. gone) (λ named. absurd (d named.0))) w)

  under_call : (c : Call) → Made c t g u → Under s u (λ i. Gone i ⊎ ((g.number ≡ DONE) × Names c i))
  under_call c x = tell (quiet_or_withdraws c)
    where
      tell : ((i : ℕ) → Names c i → ⊥) ⊎ ((j : ℕ) × (c ≡ Call.withdraws j)) → Under s u (λ i. Gone i ⊎ ((g.number ≡ DONE) × Names c i))
      tell (inl quiet) =
          under_words s u Gone (λ i. Gone i ⊎ ((g.number ≡ DONE) × Names c i)) (λ i gone. inl gone) (λ i. ⊎_elim (λ gone. gone) (λ named. absurd (quiet i named.1))) (under_quiet c x quiet)
      tell (inr (j, is)) =
          subst (λ (d : Call). Under s u (λ i. Gone i ⊎ ((g.number ≡ DONE) × Names d i))) (sym is) (under_withdraws j (subst (λ (d : Call). Made d t g u) is x))

-- Calls that leave the mark open keep what was there when it was set, but for the rules withdrawn.
pub under_calls :
    (s u : Tables) (t : Tables) → Sound s → Under s u (λ i. ⊥) → (ks : KeepsMark s.counts.marks u t) → Under s t (WithdrawnSince s.counts.marks u t ks)
under_calls s u t sound w KeepsMark.no_call = w
under_calls s u t sound w (KeepsMark.one_more v ks c g t' x h) =
    under_call s sound v t' g h (WithdrawnSince s.counts.marks u v ks) (under_calls s u v sound w ks) c x

-- Steps and marks are those of s. The numbers held are exactly those held in s that are not gone, with their rules and levels; the days are the earliest plan of these, and the last day is theirs.
pub record RestoredBut (s u : Tables) (Gone : ℕ → Type 0) : Type 0 where
  pub steps : u.counts.steps ≡ s.counts.steps
  pub marks : u.counts.marks ≡ s.counts.marks
  pub exactly_held : (i : ℕ) → held_in u i ↔ (held_in s i × (Gone i → ⊥))
  pub each_rule : (i : ℕ) → held_in u i → rules_of u i ≡ rules_of s i
  pub each_level : (i : ℕ) → held_in u i → at u.levels i ≡ at s.levels i
  pub days_earliest : Earliest s.counts.steps (rules_of s) (λ i. held_in s i × (Gone i → ⊥)) (at u.days)
  pub last_largest : u.counts.last ≡ largest s.counts.steps (at u.days)

-- Rules, steps, marks and days are those of s, and so is the last day.
pub record Restored (s u : Tables) : Type 0 where
  pub steps : u.counts.steps ≡ s.counts.steps
  pub rules : u.counts.rules ≡ s.counts.rules
  pub marks : u.counts.marks ≡ s.counts.marks
  pub each_rule : (i : ℕ) → held_in s i → rules_of u i ≡ rules_of s i
  pub each_level : (i : ℕ) → i < RULES → at u.levels i ≡ at s.levels i
  pub each_day : (v : ℕ) → v < s.counts.steps → at u.days v ≡ at s.days v
  pub last : u.counts.last ≡ s.counts.last

-- Where none is gone all is restored.
pub none_gone : (s u : Tables) (Gone : ℕ → Type 0) → Sound s → Sound u → ((i : ℕ) → held_in s i → Gone i → ⊥) → RestoredBut s u Gone → Restored s u
none_gone s u Gone sound sound-u none b =
    record {
      steps = b.steps;
      rules = sound-u.rules_counted ∙ taken_same RULES u.levels s.levels levels ∙ sym sound.rules_counted;
      marks = b.marks;
      each_rule = λ i h. b.each_rule i (there i h);
      each_level = levels;
      each_day = days;
      last = b.last_largest ∙ largest_same s.counts.steps (at u.days) (at s.days) days ∙ sym sound.last_largest;
    }
  where
    there : (i : ℕ) → held_in s i → held_in u i
    there i h = (b.exactly_held i).1 (h, none i h)

    levels : (i : ℕ) → i < RULES → at u.levels i ≡ at s.levels i
    levels i below = tell (held? s i)
      where
        tell : Dec (held_in s i) → at u.levels i ≡ at s.levels i
        tell (yes h) = b.each_level i (there i h)
        tell (no d) = not_held_free u i below (λ h. d ((b.exactly_held i).0 h).0) ∙ sym (not_held_free s i below d)

    days : (v : ℕ) → v < s.counts.steps → at u.days v ≡ at s.days v
    days =
        earliest_unique
        (earliest_same {H = λ i. held_in s i × (Gone i → ⊥)} {G = held_in s} (λ i h. (h, none i h)) (λ i h. h.0) (λ i h. refl) b.days_earliest)
        sound.days_earliest

-- An accepted Mark at sound tables s, then any calls that leave that mark open, then the accepted Back that drops it.
module _
    (s : Tables) (k : Kept s) (g : Given) (marked : Tables) (x : Made Call.marks s g marked) (done : g.number ≡ DONE) (t : Tables) (ks : KeepsMark s.counts.marks marked t)
    (last : t.counts.marks ≡ s.counts.marks + 1) (h : Given) (u : Tables) (y : Made Call.goes_back t h u) (back : h.number ≡ DONE)
  where
    -- The numbers that were withdrawn between.
    abbrev Lost : ℕ → Type 0
    Lost = WithdrawnSince s.counts.marks marked t ks

    full : s.counts.marks < MARKS
    full = (done_met DONE g.number (mark_meaning s).asks (needs.mark_rises s) x.first_unmet done).1.1.0

    w : Under s t Lost
    w = under_calls s marked t k.sound (subst (λ z. Under s z (λ i. ⊥)) (sym (x.when_done done).marked) (under_mark s k full)) ks

    left : t.counts.marks - 1 ≡ s.counts.marks
    left = omega arith

    is : u ≡ with_days u.days (down_to s.counts.marks t)
    is = (y.when_done back).dropped ∙ ap (λ n. with_days u.days (down_to n t)) left

    to : (i : ℕ) → held_in (down_to s.counts.marks t) i → held_in s i × (Lost i → ⊥)
    to i there = let (was, low) = (down_to_held s.counts.marks t i).0 there in w.no_other i was low

    from : (i : ℕ) → held_in s i × (Lost i → ⊥) → held_in (down_to s.counts.marks t) i
    from i (was, stays) = (down_to_held s.counts.marks t i).1 (still_held s t Lost w i was stays, omega (arith, w.same_levels i was stays, k.sound.levels_open i was))

    earliest : Earliest s.counts.steps (rules_of s) (λ i. held_in s i × (Lost i → ⊥)) (at u.days)
    earliest =
        earliest_same
        {H = held_in (down_to s.counts.marks t)}
        {G = λ i. held_in s i × (Lost i → ⊥)}
        from
        to
        (λ i there. w.same_rules i there.0 there.1)
        (subst (λ n. Earliest n (rules_of t) (held_in (down_to s.counts.marks t)) (at u.days)) w.same_steps
        (subst (λ n. Earliest t.counts.steps (rules_of t) (held_in (down_to n t)) (at u.days)) left (y.when_done back).planned.earliest))

    -- **Back restores**: held after it are exactly the numbers held at the mark that no accepted Withdraw named since, with their rules, and the days are the earliest plan of these. The watched list
    -- is as it was just before.
    pub back_restores_but : RestoredBut s u Lost × (u.watched ≡ t.watched) × (u.counts.watched ≡ t.counts.watched)
    back_restores_but = (subst (λ z. RestoredBut s z Lost) (sym is) restored, ap (λ z. z.watched) is, ap (λ z. z.counts.watched) is)
      where
        restored : RestoredBut s (with_days u.days (down_to s.counts.marks t)) Lost
        restored =
            record {
              steps = w.same_steps;
              marks = refl;
              exactly_held = λ i. (to i, from i);
              each_rule = λ i there. let (was, stays) = to i there in w.same_rules i was stays;
              each_level = λ i there. let (was, stays) = to i there in down_to_levels s.counts.marks t i ((down_to_held s.counts.marks t i).0 there).1 ∙ w.same_levels i was stays;
              days_earliest = earliest;
              last_largest = ap (λ n. largest n (at u.days)) w.same_steps;
            }

    -- Where no number held at the mark was withdrawn, rules, steps, marks, days and the last day are those of s.
    pub back_restores : ((i : ℕ) → held_in s i → Lost i → ⊥) → Restored s u × (u.watched ≡ t.watched) × (u.counts.watched ≡ t.counts.watched)
    back_restores none =
        (none_gone s u Lost k.sound (call_keeps Call.goes_back t u h y w.kept).sound none back_restores_but.0, back_restores_but.1, back_restores_but.2)
