-- What is lent to a script, the same where it counts: all that a command needs, does and prints hangs on the counts, the rules held with their levels, the record and the declared
-- names alone. The days follow from the rules, being their earliest plan; free places and cells past the counts may differ.
use Prim.Native.Nat.{ℕ, zero, suc, ◌+◌, ◌-◌, ◌≤◌, ◌<◌}
use native.Mathlib.Omega.{arith}
use native.Mathlib.Decide.{ℕ_discrete, dec_le}
use mathlib.Core.Path.{◌≡◌, refl, sym, ◌∙◌, ap, subst}
use mathlib.Core.Bool.{Bool, false, cond}
use mathlib.Core.List.{List, [], ◌∷◌, ◌++◌, map}
use mathlib.Core.Logic.{inl, inr}
use lib.Dec.{eqb, ltb}
use lib.ListN.{length}
use lib.Seq.{get_or-set_other}
use Rattle.meaning.specs.declared.Counts.{Counts}
use Rattle.meaning.specs.Bounds.{STEPS, RULES, DONE}
use Rattle.meaning.specs.Rules.{Rule, InBounds, Fits, Earliest, largest, plus}
use Rattle.meaning.specs.Tables.{Tables, at, next, Room, with_rule, freed_above, down_to, with_days, rules_now, marks_now, last_now}
use Rattle.meaning.specs.Promise.{First}
use Rattle.meaning.specs.Calls.{rules_of, held_in}
use Rattle.meaning.proofs.Theory.{arrangement_same, earliest_same, earliest_unique}
use Rattle.meaning.proofs.LastDay.{largest_same}
use Rattle.meaning.proofs.Put.{put_new, put_old}
use Rattle.meaning.proofs.Places.{taken_same, lowest_same, freed_stays, freed_gone, next_below, with_rule_held, with_rule_level, down_to_held}
use Rattle.meaning.proofs.Sequences.{Kept}
use Rattle.text.specs.Lexicon.{same_bytes}
use Rattle.reading.specs.Tree.{said_by, rules_of_term, Command}
use Rattle.reading.specs.Reading.{Why, Read, reading}
use Rattle.reading.specs.Saying.{seek, step_in, said_needs, resolved}
use Rattle.names.specs.Names.{name_at}
use Rattle.names.proofs.Shelves.{name_new, name_old}
use Rattle.levels.specs.Levels.{with_marks, more_marks}
use Rattle.levels.proofs.Laws.{popped_border}
use Rattle.script_meaning.specs.declared.Notes.{Notes}
use Rattle.script_meaning.specs.Record.{Lent, InForm, Known, name_of, step_of}
use Rattle.script_meaning.specs.Effect.{Does, Changes, prints, AddsAll, with_notes, with_tables, with_name, broken_after, broken_left, either_answer, SAT, UNSAT, forgotten, at_level, one_named, logic_set, sat_told, day_of}
use Rattle.script_meaning.specs.Commands.{mode_needs, room_needs, command_needs, read_needs, text_needs}
use Rattle.script_meaning.specs.Mixed.{on_tables}
use Rattle.script_meaning.specs.Traces.{with_out}
use Rattle.script_meaning.proofs.Granted.{declare_met, assert_met, value_met, text_met}
use Rattle.script_meaning.proofs.Readings.{declared_in_form}
use Rattle.script_meaning.proofs.Adding.{Each, holds_kept}
use Rattle.script_meaning.proofs.Keeping.{Fine, NamesInForm, tables_kept, tables_border, kept_of, shelved_of, rules_in, map_length}
use Rattle.script_meaning.proofs.Printing.{shown_same}

-- The same counts, and the same rules held, with the same levels.
pub record SameHeld (t u : Tables) : Type 0 where
  pub same_counts : t.counts ≡ u.counts
  pub same_levels : (i : ℕ) → i < RULES → at t.levels i ≡ at u.levels i
  pub same_rules : (i : ℕ) → held_in t i → rules_of t i ≡ rules_of u i

-- The same record and the same declared names too.
pub record Alike (l m : Lent) : Type 0 where
  pub tables_alike : SameHeld l.tables m.tables
  pub same_notes : l.notes ≡ m.notes
  pub same_names : (k : ℕ) → k < l.notes.names → name_of l k ≡ name_of m k

-- ---- names

-- Seeking a name looks at the names it passes only.
seek_same :
    (names lens names' lens' w : List ℕ) (left k : ℕ) → ((j : ℕ) → j < k + left → name_at names lens j ≡ name_at names' lens' j) →
    seek left k names lens w ≡ seek left k names' lens' w
unfolding seek
seek_same names lens names' lens' w zero k same = refl
seek_same names lens names' lens' w (suc left) k same =
    ap (λ (v : List ℕ). cond (same_bytes v w) k (seek left (k + 1) names lens w)) (same k (omega arith))
    ∙ ap (λ (n : ℕ). cond (same_bytes (name_at names' lens' k) w) k n) (seek_same names lens names' lens' w left (k + 1) (λ j below. same j (omega arith)))

-- So every name stands for the same step.
pub step_alike : (l m : Lent) → Alike l m → step_of l ≡ step_of m
step_alike l m a i w =
    (seek_same l.names l.lens m.names m.lens w l.notes.names 0 (λ j below. a.same_names j (omega arith))
    ∙ ap (λ (n : Notes). step_in n.names m.names m.lens w) a.same_notes) i

-- ---- needs

-- What is lent, with the counts and the record of another.
abbrev counted : Counts → Notes → Lent → Lent
counted c n m = with_notes n (on_tables (record { counts = c; rules = m.tables.rules; days = m.tables.days; levels = m.tables.levels; watched = m.tables.watched }) m)

-- Needs hang on the counts, the record, and the steps of names.
needs_by :
    (c : Command) (g : ℕ) (l m : Lent) → First (mode_needs c l ++ (said_needs (Known (with_notes l.notes m)) c ++ room_needs c l)) g →
    First (command_needs c (counted l.tables.counts l.notes m)) g
needs_by Command.set_logic g l m h = h
needs_by Command.check_sat g l m h = h
needs_by Command.exit g l m h = h
needs_by (Command.declare w) g l m h = h
needs_by (Command.assert t) g l m h = h
needs_by (Command.push n) g l m h = h
needs_by (Command.pop n) g l m h = h
needs_by (Command.get_value ws) g l m h = h

command_alike : (c : Command) (g : ℕ) (l m : Lent) → Alike l m → First (command_needs c l) g → First (command_needs c m) g
command_alike c g l m a h =
    let steps : step_of l ≡ step_of (with_notes l.notes m) = step_alike l m a ∙ ap (λ (n : Notes). step_in n.names m.names m.lens) (sym a.same_notes) in
    subst (λ (n : Notes). First (command_needs c (counted m.tables.counts n m)) g) a.same_notes
    (subst (λ (k : Counts). First (command_needs c (counted k l.notes m)) g) a.tables_alike.same_counts
    (needs_by c g l m (subst (λ (S : List ℕ → ℕ). First (mode_needs c l ++ (said_needs (λ w. S w < l.notes.names) c ++ room_needs c l)) g) steps h)))

-- **The same needs are met.**
pub read_alike : (r : Read Command) (g : ℕ) (l m : Lent) → Alike l m → First (read_needs r l) g → First (read_needs r m) g
read_alike (Read.got c e) g l m a h = command_alike c g l m a h
read_alike (Read.stop Why.other i) g l m a h = h
read_alike (Read.stop Why.wrong i) g l m a h = h
read_alike (Read.stop Why.size i) g l m a h = h

pub needs_alike : (text : List ℕ) (g : ℕ) (l m : Lent) → Alike l m → First (text_needs text l) g → First (text_needs text m) g
needs_alike text g l m a (inl unmet) = inl unmet
needs_alike text g l m a (inr (spans, h)) = inr (spans, read_alike (reading text) g l m a h)

-- ---- tables

-- The earliest plans of the same rules have the same last day.
lasts_same :
    (n n' : ℕ) (H H' : ℕ → Type 0) (R R' : ℕ → Rule) (d e : List ℕ) → n ≡ n' → ((i : ℕ) → H' i → H i) → ((i : ℕ) → H i → H' i) → ((i : ℕ) → H' i → R i ≡ R' i) → Earliest n R H (at d) →
    Earliest n' R' H' (at e) → largest n (at d) ≡ largest n' (at e)
lasts_same n n' H H' R R' d e steps to from same a b =
    largest_same n (at d) (at e) (earliest_unique (earliest_same {H = H} {G = H'} to from same a) (subst (λ (k : ℕ). Earliest k R' H' (at e)) (sym steps) b)) ∙ ap (λ (k : ℕ). largest k (at e)) steps

module _ (t u : Tables) (same : SameHeld t u) where
  abbrev as_many : (part : Counts → ℕ) → part t.counts ≡ part u.counts
  as_many part = ap part same.same_counts

  below : (i : ℕ) → held_in u i → held_in t i
  below i (h, some) = (h, omega (arith, same.same_levels i h, some))

  above : (i : ℕ) → held_in t i → held_in u i
  above i (h, some) = (h, omega (arith, same.same_levels i h, some))

  -- The same rules fit.
  pub fits_alike : (r : Rule) → Fits (rules_of t) (held_in t) r → Fits (rules_of u) (held_in u) r
  fits_alike r f = record {
    days = f.days;
    arrangement = arrangement_same f.days below (λ i h. same.same_rules i (below i h)) f.arrangement;
    kept = f.kept;
  }

  -- The days of sound tables are the same, being the earliest plan of the same rules.
  pub days_alike : Kept t → Kept u → (v : ℕ) → v < t.counts.steps → at t.days v ≡ at u.days v
  days_alike k j =
      earliest_unique (earliest_same {H = held_in t} {G = held_in u} below above (λ i h. same.same_rules i (below i h)) k.sound.days_earliest)
      (subst (λ (n : ℕ). Earliest n (rules_of u) (held_in u) (at u.days)) (sym (as_many (λ c. c.steps))) j.sound.days_earliest)

  back_alike : SameHeld u t
  back_alike = record {
    same_counts = sym same.same_counts;
    same_levels = λ i h. sym (same.same_levels i h);
    same_rules = λ i h. sym (same.same_rules i (below i h));
  }

  -- The next number is the same.
  next_alike : next t ≡ next u
  next_alike = lowest_same RULES t.levels u.levels same.same_levels

  -- With the same rule written under the next number, and the days of sound tables.
  rule_alike :
      (r : Rule) (d e : List ℕ) → Room t → Room u → next t < RULES → Kept (with_days d (with_rule r t)) → Kept (with_days e (with_rule r u)) →
      SameHeld (with_days d (with_rule r t)) (with_days e (with_rule r u))
  rule_alike r d e room room' few kept kept' = record {
    same_counts = λ i. last_now (lasts i) (rules_now ((same.same_counts i).rules + 1) (same.same_counts i));
    same_levels = levels;
    same_rules = rules;
  }
    where
      few' : next u < RULES
      few' = omega (arith, next_alike, few)

      levels : (i : ℕ) → i < RULES → at (with_rule r t).levels i ≡ at (with_rule r u).levels i
      levels i h = tell (ℕ_discrete i (next t))
        where
          tell : Dec (i ≡ next t) → at (with_rule r t).levels i ≡ at (with_rule r u).levels i
          tell (yes is) =
              ap (at (with_rule r t).levels) is ∙ with_rule_level r t room few ∙ ap (λ (c : Counts). c.marks + 1) same.same_counts ∙ sym (with_rule_level r u room' few')
              ∙ sym (ap (at (with_rule r u).levels) (is ∙ next_alike))
          tell (no other) =
              get_or-set_other t.levels (next t) i (t.counts.marks + 1) 0 other ∙ same.same_levels i h
              ∙ sym (get_or-set_other u.levels (next u) i (u.counts.marks + 1) 0 (λ e. other (e ∙ sym next_alike)))

      rules : (i : ℕ) → held_in (with_rule r t) i → rules_of (with_rule r t) i ≡ rules_of (with_rule r u) i
      rules i h = tell (ℕ_discrete i (next t)) ((with_rule_held r t i room few).0 h)
        where
          tell : Dec (i ≡ next t) → plus (held_in t) (next t) i → rules_of (with_rule r t) i ≡ rules_of (with_rule r u) i
          tell (yes is) there =
              ap (rules_of (with_rule r t)) is ∙ put_new t.rules (next t) RULES r room.rules_room few ∙ sym (put_new u.rules (next u) RULES r room'.rules_room few')
              ∙ sym (ap (rules_of (with_rule r u)) (is ∙ next_alike))
          tell (no other) (inl is) = absurd (other is)
          tell (no other) (inr was) = put_old t.rules (next t) r i other ∙ same.same_rules i was ∙ sym (put_old u.rules (next u) r i (λ e. other (e ∙ sym next_alike)))

      here : (i : ℕ) → held_in (with_rule r u) i → held_in (with_rule r t) i
      here i (h, some) = (h, omega (arith, levels i h, some))

      lasts : largest t.counts.steps (at d) ≡ largest u.counts.steps (at e)
      lasts =
          lasts_same t.counts.steps u.counts.steps (held_in (with_rule r t)) (held_in (with_rule r u)) (rules_of (with_rule r t)) (rules_of (with_rule r u)) d e (as_many (λ c. c.steps)) here
          (λ i there. (there.0, omega (arith, levels i there.0, there.1))) (λ i there. rules i (here i there)) kept.sound.days_earliest kept'.sound.days_earliest

  -- With n marks more.
  marks_alike : (n : ℕ) → SameHeld (with_marks n t) (with_marks n u)
  marks_alike n = record { same_counts = ap (more_marks n) same.same_counts; same_levels = same.same_levels; same_rules = same.same_rules }

  -- The same places are freed.
  freed_alike : (k i : ℕ) → i < RULES → at (freed_above RULES k t.levels) i ≡ at (freed_above RULES k u.levels) i
  freed_alike k i h = tell (dec_le (at t.levels i) (k + 1))
    where
      tell : Dec (at t.levels i ≤ k + 1) → at (freed_above RULES k t.levels) i ≡ at (freed_above RULES k u.levels) i
      tell (yes low) = freed_stays RULES k t.levels i low ∙ same.same_levels i h ∙ sym (freed_stays RULES k u.levels i (omega (arith, low, same.same_levels i h)))
      tell (no high) = freed_gone RULES k t.levels i h (omega (arith, high)) ∙ sym (freed_gone RULES k u.levels i h (omega (arith, high, same.same_levels i h)))

  -- With k marks left, with the days of sound tables.
  cut_alike : (k : ℕ) (d e : List ℕ) → Kept (with_days d (down_to k t)) → Kept (with_days e (down_to k u)) → SameHeld (with_days d (down_to k t)) (with_days e (down_to k u))
  cut_alike k d e kept kept' = record {
    same_counts = λ i. last_now (lasts i) (marks_now k (rules_now (taken_same RULES (freed_above RULES k t.levels) (freed_above RULES k u.levels) (freed_alike k) i) (same.same_counts i)));
    same_levels = freed_alike k;
    same_rules = λ i there. rules i there;
  }
    where
      rules : (i : ℕ) → held_in (down_to k t) i → rules_of t i ≡ rules_of u i
      rules i there = same.same_rules i ((down_to_held k t i).0 there).0

      here : (i : ℕ) → held_in (down_to k u) i → held_in (down_to k t) i
      here i (h, some) = (h, omega (arith, freed_alike k i h, some))

      lasts : largest t.counts.steps (at d) ≡ largest u.counts.steps (at e)
      lasts =
          lasts_same t.counts.steps u.counts.steps (held_in (down_to k t)) (held_in (down_to k u)) (rules_of t) (rules_of u) d e (as_many (λ c. c.steps)) here
          (λ i there. (there.0, omega (arith, freed_alike k i there.0, there.1))) (λ i there. rules i (here i there)) kept.sound.days_earliest kept'.sound.days_earliest

-- Rules added one after the other clash at the same place, and leave the same.
adds_alike :
    (l : List Rule) (t u t' u' : Tables) (x y : Bool) → SameHeld t u → Kept t → Kept u → Each (InBounds t.counts.steps) l → t.counts.rules + length l ≤ RULES →
    AddsAll l t x t' → AddsAll l u y u' → SameHeld t' u' × (x ≡ y)
adds_alike [] t u t' u' x y same k j good room (t-is, x-is) (u-is, y-is) =
    (subst (λ (v : Tables). SameHeld v u') (sym t-is) (subst (SameHeld t) (sym u-is) same), x-is ∙ sym y-is)
adds_alike (r ∷ l) t u t' u' x y same k j good room (inl (unfit, (t-is, x-is))) (inl (unfit', (u-is, y-is))) =
    (subst (λ (v : Tables). SameHeld v u') (sym t-is) (subst (SameHeld t) (sym u-is) same), x-is ∙ sym y-is)
adds_alike (r ∷ l) t u t' u' x y same k j good room (inl (unfit, is)) (inr (v, (held, rest))) = absurd (unfit (fits_alike u t (back_alike t u same) r held.fits))
adds_alike (r ∷ l) t u t' u' x y same k j good room (inr (v, (held, rest))) (inl (unfit, is)) = absurd (unfit (fits_alike t u same r held.fits))
adds_alike (r ∷ l) t u t' u' x y same k j (here, there) room (inr (v, (held, rest))) (inr (w, (held', rest'))) =
    let steps : t.counts.steps ≡ v.counts.steps = sym (ap (λ (z : Tables). z.counts.steps) held.rule_held) in
    let rules : v.counts.rules ≡ t.counts.rules + 1 = ap (λ (z : Tables). z.counts.rules) held.rule_held in
    let kept = holds_kept r t v k here (omega (arith, room)) held in
    let kept' = holds_kept r u w j (subst (λ (n : ℕ). InBounds n r) (as_many t u same (λ c. c.steps)) here) (omega (arith, room, as_many t u same (λ c. c.rules))) held' in
    adds_alike l v w t' u' x y
    (subst (λ (z : Tables). SameHeld z w) (sym held.rule_held) (subst (SameHeld (with_days v.days (with_rule r t))) (sym held'.rule_held)
    (rule_alike t u same r v.days w.days k.room j.room (next_below t k.sound (omega (arith, room))) (subst Kept held.rule_held kept) (subst Kept held'.rule_held kept'))))
    kept
    kept'
    (subst (λ (n : ℕ). Each (InBounds n) l) steps there) (omega (arith, room, rules)) rest rest'

-- ---- commands

pub alike_back : (l m : Lent) → Alike l m → Alike m l
alike_back l m a = record {
  tables_alike = back_alike l.tables m.tables a.tables_alike;
  same_notes = sym a.same_notes;
  same_names = λ k h. sym (a.same_names k (omega (arith, h, ap (λ (n : Notes). n.names) a.same_notes)));
}

module _ (l m : Lent) (a : Alike l m) where
  -- With other bytes for the answers, and another record with as many names.
  pub bytes_alike : (out end : List ℕ) → Alike (with_out out l) (with_out end m)
  bytes_alike out end = record { tables_alike = a.tables_alike; same_notes = a.same_notes; same_names = a.same_names }

  noted_alike : (n : Notes → Notes) → ((x : Notes) → (n x).names ≡ x.names) → Alike (with_notes (n l.notes) l) (with_notes (n m.notes) m)
  noted_alike n many = record {
    tables_alike = a.tables_alike;
    same_notes = ap n a.same_notes;
    same_names = λ k h. a.same_names k (omega (arith, h, many l.notes));
  }

  -- With other tables that are the same below the counts.
  tables_same : (t u : Tables) (b c : ℕ) → SameHeld t u → b ≡ c → Alike (with_tables t b l) (with_tables u c m)
  tables_same t u b c same level = record {
    tables_alike = same;
    same_notes = λ i. at_level (level i) (a.same_notes i);
    same_names = a.same_names;
  }

  -- With the same name declared.
  named_alike : Fine l → Fine m → (w : List ℕ) → InForm w → l.notes.names < STEPS → Alike (with_name w l) (with_name w m)
  named_alike f g w form few = record {
    tables_alike = a.tables_alike;
    same_notes = ap one_named a.same_notes;
    same_names = λ k h. tell k h (ℕ_discrete k l.notes.names);
  }
    where
      many : l.notes.names ≡ m.notes.names
      many = ap (λ (n : Notes). n.names) a.same_notes

      few' : m.notes.names < STEPS
      few' = omega (arith, few, many)

      tell : (k : ℕ) → k < l.notes.names + 1 → Dec (k ≡ l.notes.names) → name_of (with_name w l) k ≡ name_of (with_name w m) k
      tell k h (yes is) =
          ap (name_of (with_name w l)) is ∙ name_new l.notes.names w l.names l.lens few form.short (shelved_of f)
          ∙ sym (name_new m.notes.names w m.names m.lens few' form.short (shelved_of g)) ∙ sym (ap (name_of (with_name w m)) (is ∙ many))
      tell k h (no other) =
          name_old l.notes.names w l.names l.lens few form.short (shelved_of f) k (omega arith) ∙ a.same_names k (omega arith)
          ∙ sym (name_old m.notes.names w m.names m.lens few' form.short (shelved_of g) k (omega (arith, h, many, other)))

  both_are : {x y : Lent} (l' m' : Lent) → l' ≡ x → m' ≡ y → Alike x y → Alike l' m'
  both_are {x} {y} l' m' p q h = subst (λ (z : Lent). Alike z m') (sym p) (subst (Alike x) (sym q) h)

  -- **The same command leaves the same**, and each prints from a place of its own.
  changes_alike : (r : Read Command) (l' m' : Lent) → Fine l → Fine m → NamesInForm r → First (read_needs r l) DONE → Changes r l l' → Changes r m m' → Alike l' m'
  changes_alike (Read.got Command.set_logic e) l' m' f g named met p q = both_are l' m' p q (noted_alike logic_set (λ n. refl))
  changes_alike (Read.got Command.check_sat e) l' m' f g named met p q = both_are l' m' p q (noted_alike sat_told (λ n. refl))
  changes_alike (Read.got Command.exit e) l' m' f g named met p q = both_are l' m' p q (noted_alike forgotten (λ n. refl))
  changes_alike (Read.got (Command.declare w) e) l' m' f g named met p q = both_are l' m' p q (named_alike f g w.letters (named w e refl) (declare_met w l met).1)
  changes_alike (Read.got (Command.assert t) e) l' m' f g named met (inl (some, p)) (inl (some', q)) = both_are l' m' p q (noted_alike forgotten (λ n. refl))
  changes_alike (Read.got (Command.assert t) e) l' m' f g named met (inl (some, p)) (inr (none, rest)) = absurd (some (ap (λ (n : Notes). n.broken) a.same_notes ∙ none))
  changes_alike (Read.got (Command.assert t) e) l' m' f g named met (inr (none, rest)) (inl (some, q)) = absurd (some (sym (ap (λ (n : Notes). n.broken) a.same_notes) ∙ none))
  changes_alike (Read.got (Command.assert t) e) l' m' f g named met (inr (none, (v, (x, (adds, p))))) (inr (none', (u, (y, (adds', q))))) =
      let rs = rules_of_term false t in
      let granted = assert_met t l met in
      let same = adds_alike (map (resolved (step_of l)) rs) l.tables m.tables v u x y a.tables_alike (tables_kept f) (tables_kept g) (rules_in l f rs granted.0)
      (omega (arith, granted.1 none, map_length (step_of l) rs)) adds (subst (λ (S : List ℕ → ℕ). AddsAll (map (resolved S) rs) m.tables y u) (sym (step_alike l m a)) adds') in
      both_are l' m' p q
      (tables_same v u (broken_after x v) (broken_after y u) same.0
      (ap (λ (c : Counts). cond x (c.marks + 1) 0) same.0.same_counts ∙ ap (λ (b : Bool). broken_after b u) same.1))
  changes_alike (Read.got (Command.push n) e) l' m' f g named met p q =
      both_are l' m' p q
      (tables_same (with_marks (said_by n) l.tables) (with_marks (said_by n) m.tables) l.notes.broken m.notes.broken
      (marks_alike l.tables m.tables a.tables_alike (said_by n)) (ap (λ (n : Notes). n.broken) a.same_notes))
  changes_alike (Read.got (Command.pop n) e) l' m' f g named met (t, (popped, p)) (u, (popped', q)) =
      let j = said_by n in
      let left : m.tables.counts.marks - j ≡ l.tables.counts.marks - j = ap (λ (c : Counts). c.marks - j) (sym a.tables_alike.same_counts) in
      let dropped : u ≡ with_days u.days (down_to (l.tables.counts.marks - j) m.tables) =
      popped'.dropped ∙ ap (λ (x : ℕ). with_days u.days (down_to x m.tables)) left in
      let same : SameHeld t u = subst (λ (z : Tables). SameHeld z u) (sym popped.dropped)
      (subst (SameHeld (with_days t.days (down_to (l.tables.counts.marks - j) l.tables))) (sym dropped)
      (cut_alike l.tables m.tables a.tables_alike (l.tables.counts.marks - j) t.days u.days
      (subst Kept popped.dropped (kept_of (popped_border j (tables_border f) popped)))
      (subst Kept dropped (kept_of (popped_border j (tables_border g) popped'))))) in
      both_are l' m' p q
      (tables_same t u (broken_left l.notes.broken t) (broken_left m.notes.broken u) same
      (ap (λ (c : Counts). cond (ltb (c.marks + 1) l.notes.broken) 0 l.notes.broken) same.same_counts ∙ ap (λ (n : Notes). broken_left n.broken u) a.same_notes))
  changes_alike (Read.got (Command.get_value ws) e) l' m' f g named met p q = both_are l' m' p q a
  changes_alike (Read.stop Why.other i) l' m' f g named met p q = both_are l' m' p q a
  changes_alike (Read.stop Why.wrong i) l' m' f g named met impossible other = absurd impossible
  changes_alike (Read.stop Why.size i) l' m' f g named met impossible other = absurd impossible

  pub does_alike :
      (text : List ℕ) (j k v w : ℕ) (l' m' : Lent) → Fine l → Fine m → First (text_needs text l) DONE → Does (reading text) j l v l' → Does (reading text) k m w m' → Alike l' m'
  does_alike text j k v w l' m' f g met (x, (changes, (v-is, p))) (y, (changes', (w-is, q))) =
      let mid = changes_alike (reading text) x y f g (declared_in_form text) (text_met text l met).1 changes changes' in
      both_are l' m' p q (record { tables_alike = mid.tables_alike; same_notes = mid.same_notes; same_names = mid.same_names })

  -- ---- bytes

  -- The day of a declared name.
  day_alike : Fine l → Fine m → (w : List ℕ) → Known l w → day_of (step_of l) l.tables.days w ≡ day_of (step_of m) m.tables.days w
  day_alike f g w known =
      days_alike l.tables m.tables a.tables_alike (tables_kept f) (tables_kept g) (step_of l w) (omega (arith, known, f.sound.names_in, f.sound.all_steps))
      ∙ ap (λ (S : List ℕ → ℕ). at m.tables.days (S w)) (step_alike l m a)

  -- **The same command prints the same.**
  pub printed_alike : Fine l → Fine m → (r : Read Command) → First (read_needs r l) DONE → prints r l ≡ prints r m
  printed_alike f g (Read.got Command.set_logic e) met = refl
  printed_alike f g (Read.got Command.check_sat e) met = ap (λ (n : Notes). either_answer (eqb n.broken 0) SAT UNSAT) a.same_notes
  printed_alike f g (Read.got Command.exit e) met = refl
  printed_alike f g (Read.got (Command.declare w) e) met = refl
  printed_alike f g (Read.got (Command.assert t) e) met = refl
  printed_alike f g (Read.got (Command.push n) e) met = refl
  printed_alike f g (Read.got (Command.pop n) e) met = refl
  printed_alike f g (Read.got (Command.get_value ws) e) met = shown_same _ _ (Known l) (day_alike f g) ws (value_met ws l met)
  printed_alike f g (Read.stop why i) met = refl
