-- What levels do to sound tables and to the days that are kept: for whoever keeps both from command to command.
use Prim.Native.Nat.{ℕ, zero, suc, ◌+◌, ◌-◌, ◌≤◌, ◌<◌}
use native.Mathlib.Omega.{arith}
use native.Mathlib.Numerals.{add-one}
use mathlib.Core.Path.{◌≡◌, refl, sym, ◌∙◌, ap, subst}
use mathlib.Core.List.{List}
use Rattle.meaning.specs.Bounds.{RULES, MARKS}
use Rattle.meaning.specs.Rules.{Rule}
use Rattle.meaning.specs.Tables.{Tables, at, taken, Sound, freed_above, down_to, with_days, marks_now, rules_now, last_now}
use Rattle.meaning.specs.Calls.{rules_of, held_in}
use Rattle.meaning.proofs.Theory.{earliest_unique, earliest_same}
use Rattle.meaning.proofs.Lists.{past_same, past_refl}
use Rattle.meaning.proofs.Places.{taken_at_most, freed_of_none, freed_leaves, freed_length, held?, not_held_free, down_to_held, down_to_levels}
use Rattle.lent.specs.Promises.{Border}
use Rattle.levels.specs.declared.Row.{Row}
use Rattle.levels.specs.Levels.{with_marks, held_to, Popped, KeptDays}

-- ---- marks set

-- No mark more leaves the tables as they are.
pub with_no_marks : (t : Tables) → with_marks 0 t ≡ t
with_no_marks t = ap (λ (k : ℕ). record { counts = marks_now k t.counts; rules = t.rules; days = t.days; levels = t.levels; watched = t.watched }) same
  where
    same : t.counts.marks + 0 ≡ t.counts.marks
    same = omega arith

-- Tables with n marks set are sound and have room.
pub with_marks_border : (n : ℕ) {t : Tables} → Border t → t.counts.marks + n ≤ MARKS → Border (with_marks n t)
with_marks_border n {t} b few = record {
  room = record {
    rules_room = b.room.rules_room;
    days_room = b.room.days_room;
    levels_room = b.room.levels_room;
    watched_room = b.room.watched_room;
  };
  sound = record {
    counts_in = record {
      some_step = s.counts_in.some_step;
      steps_in = s.counts_in.steps_in;
      rules_in = s.counts_in.rules_in;
      marks_in = few;
      watched_in = s.counts_in.watched_in;
    };
    rules_good = s.rules_good;
    levels_open = λ i h. omega (arith, s.levels_open i h);
    rules_counted = s.rules_counted;
    watched_good = s.watched_good;
    days_earliest = s.days_earliest;
    last_largest = s.last_largest;
  };
}
  where
    s : Sound t
    s = b.sound

-- ---- marks dropped

-- Where no level is above k no place is freed.
freed_none : (n k : ℕ) (l : List ℕ) → ((i : ℕ) → i < n → at l i ≤ k + 1) → freed_above n k l ≡ l
freed_none zero k l low = freed_of_none k l
freed_none (suc n) k l low =
    subst (λ (j : ℕ). freed_above j k l ≡ freed_above n k l) (add-one n) (freed_leaves n k l (low n (omega arith)))
    ∙ freed_none n k l (λ i h. low i (omega arith))

-- With as many marks left as are open, sound tables keep every place.
pub freed_above_open : (k : ℕ) {t : Tables} → Sound t → t.counts.marks ≤ k → freed_above RULES k t.levels ≡ t.levels
freed_above_open k {t} sound all = freed_none RULES k t.levels (λ i below. low i below (held? t i))
  where
    low : (i : ℕ) → i < RULES → Dec (held_in t i) → at t.levels i ≤ k + 1
    low i below (yes h) = omega (arith, sound.levels_open i h)
    low i below (no d) = omega (arith, not_held_free t i below d)

-- The tables of other counts and levels.
abbrev held_as : (rules marks last : ℕ) → List ℕ → Tables → Tables
held_as rules marks last levels t = record {
  counts = last_now last (marks_now marks (rules_now rules t.counts));
  rules = t.rules;
  days = t.days;
  levels = levels;
  watched = t.watched;
}

-- Dropping no mark leaves sound tables as they are.
pub popped_none : (n : ℕ) {t : Tables} → n ≡ 0 → Sound t → Popped n t t
popped_none n {t} none sound = record {
  dropped = λ i. held_as ((sound.rules_counted ∙ ap (taken RULES) stay) i) (as_many i) (sound.last_largest i) (stay i) t;
  planned = record {
    earliest =
        earliest_same {H = held_in t} {G = held_in (down_to (t.counts.marks - n) t)} (λ i h. ((down_to_held (t.counts.marks - n) t i).0 h).0) (λ i h. (down_to_held (t.counts.marks - n) t i).1 (h, omega (arith, as_many, sound.levels_open i h))) (λ i h. refl)
        sound.days_earliest;
    past = past_refl t.counts.steps t.days;
  };
}
  where
    as_many : t.counts.marks ≡ t.counts.marks - n
    as_many = omega (arith, none)

    stay : t.levels ≡ freed_above RULES (t.counts.marks - n) t.levels
    stay = sym (freed_above_open (t.counts.marks - n) sound (omega (arith, none)))

-- The days after a pop are determined, and so are the tables.
pub popped_same : (n : ℕ) {t u w : Tables} → Popped n t u → Popped n t w → u ≡ w
popped_same n {t} {u} {w} a b = a.dropped ∙ ap (λ (days : List ℕ). with_days days (down_to (t.counts.marks - n) t)) same ∙ sym b.dropped
  where
    same : u.days ≡ w.days
    same =
        past_same t.counts.steps t.days u.days w.days a.planned.past b.planned.past
        (λ v v-in. earliest_unique a.planned.earliest b.planned.earliest v v-in)

pub popped_0 : {t u : Tables} → Popped 0 t u → Sound t → u ≡ t
popped_0 p sound = popped_same 0 p (popped_none 0 refl sound)

-- Tables with n marks dropped are sound and have room.
pub popped_border : (n : ℕ) {t u : Tables} → Border t → Popped n t u → Border u
popped_border n {t} {u} b p = subst Border (sym p.dropped) now
  where
    s : Sound t
    s = b.sound

    now : Border (with_days u.days (down_to (t.counts.marks - n) t))
    now = record {
      room = record {
        rules_room = b.room.rules_room;
        days_room = omega (arith, p.planned.past.same_length, b.room.days_room);
        levels_room = omega (arith, freed_length RULES (t.counts.marks - n) t.levels, b.room.levels_room);
        watched_room = b.room.watched_room;
      };
      sound = record {
        counts_in = record {
          some_step = s.counts_in.some_step;
          steps_in = s.counts_in.steps_in;
          rules_in = taken_at_most RULES (freed_above RULES (t.counts.marks - n) t.levels);
          marks_in = omega (arith, s.counts_in.marks_in);
          watched_in = s.counts_in.watched_in;
        };
        rules_good = λ i h. s.rules_good i ((down_to_held (t.counts.marks - n) t i).0 h).0;
        levels_open = λ i h. let low = ((down_to_held (t.counts.marks - n) t i).0 h).1 in omega (arith, low, down_to_levels (t.counts.marks - n) t i low);
        rules_counted = refl;
        watched_good = s.watched_good;
        days_earliest = p.planned.earliest;
        last_largest = refl;
      };
    }

-- ---- days kept

module _ {steps marks-open : ℕ} {kept : List Row} where
  -- What is kept of the open marks is kept of fewer.
  pub kept_fewer : {R : ℕ → Rule} {levels : List ℕ} {fewer : ℕ} → fewer ≤ marks-open → KeptDays R steps marks-open levels kept → KeptDays R steps fewer levels kept
  kept_fewer few k = record { kept_earliest = λ j j-in. k.kept_earliest j (omega arith) }

  -- Only the rules added before an open mark count.
  pub kept_same :
      {R R' : ℕ → Rule} {levels levels' : List ℕ} → ((k i : ℕ) → k < marks-open → held_to k levels' i → held_to k levels i) →
      ((k i : ℕ) → k < marks-open → held_to k levels i → held_to k levels' i) → ((k i : ℕ) → k < marks-open → held_to k levels' i → R i ≡ R' i) →
      KeptDays R steps marks-open levels kept → KeptDays R' steps marks-open levels' kept
  kept_same {R} {R'} {levels} {levels'} to from same_rules k = record {
    kept_earliest = λ j j-in named. record {
      earliest = earliest_same {H = held_to j levels} {G = held_to j levels'} (λ i. to j i j-in) (λ i. from j i j-in) (λ i. same_rules j i j-in) (k.kept_earliest j j-in named).earliest;
      last_day = (k.kept_earliest j j-in named).last_day;
    };
  }

-- Dropping marks changes no days kept of those that stay open.
pub kept_popped :
    (n : ℕ) {kept : List Row} {t u : Tables} → Popped n t u → KeptDays (rules_of t) t.counts.steps t.counts.marks t.levels kept →
    KeptDays (rules_of u) u.counts.steps u.counts.marks u.levels kept
kept_popped n {kept} {t} {u} p k =
    subst (λ (w : Tables). KeptDays (rules_of w) w.counts.steps w.counts.marks w.levels kept) (sym p.dropped)
    (kept_same {steps = t.counts.steps} {marks-open = t.counts.marks - n} {kept = kept} {R = rules_of t} {levels = t.levels} {levels' = (down_to (t.counts.marks - n) t).levels} older left_over (λ j i j-in h. refl) (kept_fewer (omega arith) k))
  where
    older : (j i : ℕ) → j < t.counts.marks - n → held_to j (down_to (t.counts.marks - n) t).levels i → held_to j t.levels i
    older j i j-in (h, low) =
        let (was, stays) = (down_to_held (t.counts.marks - n) t i).0 h in
        (was, omega (arith, low, down_to_levels (t.counts.marks - n) t i stays))

    left_over : (j i : ℕ) → j < t.counts.marks - n → held_to j t.levels i → held_to j (down_to (t.counts.marks - n) t).levels i
    left_over j i j-in (h, low) =
        let stays : at t.levels i ≤ t.counts.marks - n + 1 = omega (arith, j-in, low) in
        ((down_to_held (t.counts.marks - n) t i).1 (h, stays), omega (arith, low, down_to_levels (t.counts.marks - n) t i stays))
