-- The link between the asserted terms, level by level, and the rules held: the rules of the oldest levels are kept by exactly the days under which the terms of those
-- levels hold, below the contradictory level; and the terms up to that one hold under no days.
use Prim.Native.Nat.{ℕ, zero, suc, ◌+◌, ◌≤◌, ◌<◌}
use native.Mathlib.Omega.{arith}
use mathlib.Core.Path.{◌≡◌, refl, sym, ◌∙◌, ap, subst}
use mathlib.Core.Bool.{Bool, true, false}
use mathlib.Core.List.{List, [], ◌∷◌, map}
use mathlib.Core.Logic.Iff
use mathlib.Core.Logic.{◌⊎◌, inl, inr, ◌↔◌}
use lib.ListN.{length, drop}
use lib.Seq.{drop-nil}
use lib.IntN.{ℤ}
use Rattle.meaning.specs.Bounds.{STEPS, RULES, NAME_BYTES}
use Rattle.meaning.specs.Rules.{Keeps, Arrangement}
use Rattle.meaning.specs.Tables.{Tables, Sound, at}
use Rattle.meaning.specs.Calls.{rules_of, held_in}
use Rattle.meaning.proofs.LastDay.{largest_zeros}
use Rattle.meaning.proofs.Places.{taken_all_free}
use Rattle.names.proofs.Shelves.{name_old}
use Rattle.reading.specs.Tree.{Term, rules_of_term, Supported}
use Rattle.reading.specs.Saying.{resolved}
use Rattle.levels.specs.Levels.{held_to}
use Rattle.script_meaning.specs.Record.{Lent, Known, step_of}
use Rattle.script_meaning.specs.Effect.{AddsAll, forgotten, with_notes, with_tables, with_name, broken_after}
use Rattle.script_meaning.specs.Traces.{History, nothing_asserted, with_term, Agrees}
use Rattle.script_meaning.specs.Whole.{Fresh}
use Rattle.script_meaning.proofs.Seeking.{step_is, known_name}
use Rattle.script_meaning.proofs.Adding.{Grown, still_held}
use Rattle.script_meaning.proofs.Keeping.{Fine, shelved_of}
use Rattle.script_meaning.proofs.Adjoining.{KeptIn, Counted, assertion_kept, assertion_none}
use Rattle.script_meaning.proofs.Named.{OfTerm, OfLevels, of_with_term, of_drop, of_levels_too, agrees_too, agrees_term}

-- The days e keep the rules held of level j and those below it.
abbrev pub KeptTo : Tables → ℕ → (ℕ → ℤ) → Type 0
KeptTo t j e = Arrangement (rules_of t) (held_to j t.levels) e

-- At the newest level, and above it, these are all rules held.
pub all_levels : (t : Tables) → Sound t → (j : ℕ) → t.counts.marks ≤ j → (e : ℕ → ℤ) → KeptTo t j e ↔ KeptIn e t
all_levels t sound j newest e = ((λ kept i h. kept i (h, omega (arith, sound.levels_open i h))), (λ kept i h. kept i h.0))

-- Level j is below the contradictory level b, which is counted from 1; or there is none.
abbrev pub Clear : ℕ → ℕ → Type 0
Clear b j = (b ≡ 0 → ⊥) → j + 1 < b

-- The days of the names where e gives the days of the steps.
abbrev pub by_name : Lent → (ℕ → ℤ) → List ℕ → ℤ
by_name l e w = e (step_of l w)

-- The link. `exact`: the rules of a clear level and of those below it are kept by exactly the days under which the terms of these levels hold. `none`: the terms up
-- to the contradictory level hold under no days.
pub record InForce (l : Lent) (h : History) : Type 0 where
  pub fine : Fine l
  pub as_many : length h ≡ l.tables.counts.marks + 1
  pub declared : OfLevels (Known l) h
  pub exact :
      (k j : ℕ) → k + j ≡ l.tables.counts.marks → Clear l.notes.broken j →
      (e : ℕ → ℤ) → KeptTo l.tables j e ↔ Agrees (by_name l e) (drop k h)
  pub none : (k j : ℕ) → k + j ≡ l.tables.counts.marks → j + 1 ≡ l.notes.broken → (e : ℕ → ℤ) → Agrees (by_name l e) (drop k h) → ⊥

-- Where no level counts as contradictory, all rules held are kept by exactly the days under which all that is asserted holds.
pub all_exact : (l : Lent) (h : History) → InForce l h → l.notes.broken ≡ 0 → (e : ℕ → ℤ) → KeptIn e l.tables ↔ Agrees (by_name l e) h
all_exact l h i clean e =
    Iff.trans (Iff.symm (all_levels l.tables i.fine.sound.tables_sound l.tables.counts.marks (omega arith) e))
    (i.exact 0 l.tables.counts.marks (omega arith) (λ some. absurd (some clean)) e)

-- ---- at the start

-- What is fresh is sound.
pub fresh_fine : (l : Lent) → Fresh l → Fine l
fresh_fine l f = record {
  room = f.room;
  sound = record {
    tables_sound = record {
      counts_in = record {
        some_step = omega (arith, steps);
        steps_in = omega (arith, steps);
        rules_in = omega (arith, rules);
        marks_in = omega (arith, marks);
        watched_in = omega (arith, watched);
      };
      rules_good = λ i h. absurd (none i h);
      levels_open = λ i h. absurd (none i h);
      rules_counted = rules ∙ sym (taken_all_free RULES l.tables.levels f.all_free);
      watched_good = λ i h. absurd (omega (arith, watched));
      days_earliest = record { plan = λ i h. absurd (none i h); no_later = λ q p v h. omega (arith, f.day_0 v (omega (arith, steps))) };
      last_largest = ap (λ c. c.last) f.counts_are ∙ sym (largest_zeros l.tables.counts.steps (at l.tables.days) (λ v h. f.day_0 v (omega (arith, steps))));
    };
    all_steps = steps;
    names_in = omega (arith, names);
    names_short = λ k h. absurd (omega (arith, names));
    names_in_form = λ k h. absurd (omega (arith, names));
    names_different = λ j k h g. absurd (omega (arith, names));
    level_open = omega (arith, broken);
    no_sat = λ some. absurd (some broken);
  };
}
  where
    none : (i : ℕ) → held_in l.tables i → ⊥
    none i (below, some) = omega (arith, some, f.all_free i below)

    steps : l.tables.counts.steps ≡ STEPS
    steps = ap (λ c. c.steps) f.counts_are

    rules : l.tables.counts.rules ≡ 0
    rules = ap (λ c. c.rules) f.counts_are

    marks : l.tables.counts.marks ≡ 0
    marks = ap (λ c. c.marks) f.counts_are

    watched : l.tables.counts.watched ≡ 0
    watched = ap (λ c. c.watched) f.counts_are

    names : l.notes.names ≡ 0
    names = ap (λ n. n.names) f.notes_are

    broken : l.notes.broken ≡ 0
    broken = ap (λ n. n.broken) f.notes_are

-- At the start no rule is held and nothing is asserted.
pub fresh_in_force : (l : Lent) → Fresh l → InForce l nothing_asserted
fresh_in_force l f = record {
  fine = fresh_fine l f;
  as_many = omega (arith, marks);
  declared = (tt, tt);
  exact = exact-at;
  none = λ k j levels level e agrees. omega (arith, broken, level);
}
  where
    marks : l.tables.counts.marks ≡ 0
    marks = ap (λ c. c.marks) f.counts_are

    broken : l.notes.broken ≡ 0
    broken = ap (λ n. n.broken) f.notes_are

    exact-at :
        (k j : ℕ) → k + j ≡ l.tables.counts.marks → Clear l.notes.broken j →
        (e : ℕ → ℤ) → KeptTo l.tables j e ↔ Agrees (by_name l e) (drop k nothing_asserted)
    exact-at zero j levels clear e = ((λ kept. (tt, tt)), (λ agrees i h. absurd (omega (arith, h.0.1, f.all_free i h.0.0))))
    exact-at (suc k) j levels clear e = absurd (omega (arith, marks, levels))

-- ---- a name declared

-- The step of a declared name stays.
pub step_stays : (w v : List ℕ) (l : Lent) → Fine l → Fine (with_name w l) → length w ≤ NAME_BYTES → l.notes.names < STEPS → Known l v → step_of (with_name w l) v ≡ step_of l v
step_stays w v l f g short few known =
    let k = step_of l v in
    step_is (with_name w l).names (with_name w l).lens v (l.notes.names + 1) k g.sound.names_different
    (inl (omega (arith, known), name_old l.notes.names w l.names l.lens few short (shelved_of f) k known ∙ known_name l.names l.lens v l.notes.names known))

-- A name more changes no step that a term speaks of.
pub named_in_force : (w : List ℕ) (l : Lent) (h : History) → InForce l h → Fine (with_name w l) → length w ≤ NAME_BYTES → l.notes.names < STEPS → InForce (with_name w l) h
named_in_force w l h i g short few = record {
  fine = g;
  as_many = i.as_many;
  declared = of_levels_too (Known l) (Known (with_name w l)) (λ v known. omega (arith, stays v known, known)) h i.declared;
  exact = λ k j levels clear e. let was = i.exact k j levels clear e in
      Iff.trans was (later k e, earlier k e);
  none = λ k j levels level e agrees. i.none k j levels level e (earlier k e agrees);
}
  where
    stays : (v : List ℕ) → Known l v → step_of (with_name w l) v ≡ step_of l v
    stays v known = step_stays w v l i.fine g short few known

    later : (k : ℕ) (e : ℕ → ℤ) → Agrees (by_name l e) (drop k h) → Agrees (by_name (with_name w l) e) (drop k h)
    later k e = agrees_too (Known l) (by_name l e) (by_name (with_name w l) e) (λ v known. ap e (sym (stays v known))) (drop k h) (of_drop (Known l) k h i.declared)

    earlier : (k : ℕ) (e : ℕ → ℤ) → Agrees (by_name (with_name w l) e) (drop k h) → Agrees (by_name l e) (drop k h)
    earlier k e = agrees_too (Known l) (by_name (with_name w l) e) (by_name l e) (λ v known. ap e (stays v known)) (drop k h) (of_drop (Known l) k h i.declared)

-- ---- a term asserted

-- Older levels know nothing of it.
pub older_same : (k : ℕ) (t : Term) (h : History) → drop (suc k) (with_term t h) ≡ drop (suc k) h
older_same k t [] = drop-nil k
older_same k t (l ∷ h) = refl

-- There are as many levels as before.
one_longer : (t : Term) (h : History) (n : ℕ) → length h ≡ n + 1 → length (with_term t h) ≡ n + 1
one_longer t [] n e = absurd (omega arith)
one_longer t (l ∷ h) n e = e

-- Where rules are added, the rules of an older level, and of those below it, are the same.
module _ (t u : Tables) (grown : Grown t u) (j : ℕ) (older : j < t.counts.marks) where
  pub older_there : (r : ℕ) → held_to j t.levels r → held_to j u.levels r
  older_there r (there, low) = (still_held grown r there, omega (arith, low, grown.older_levels r there))

  pub older_here : (r : ℕ) → held_to j u.levels r → held_to j t.levels r
  older_here r (there, low) = tell (grown.new_levels r there)
    where
      tell : held_in t r ⊎ (at u.levels r ≡ t.counts.marks + 1) → held_to j t.levels r
      tell (inl was) = (was, omega (arith, low, grown.older_levels r was))
      tell (inr new) = absurd (omega (arith, low, new, older))

module _ (l : Lent) (h : History) (i : InForce l h) (t : Term) (of : OfTerm (Known l) t) where
  -- While a level counts as contradictory nothing is added, and the terms up to that level still hold under no days.
  pub broken_in_force : (l.notes.broken ≡ 0 → ⊥) → Fine (with_notes (forgotten l.notes) l) → InForce (with_notes (forgotten l.notes) l) (with_term t h)
  broken_in_force some g = record {
    fine = g;
    as_many = one_longer t h l.tables.counts.marks i.as_many;
    declared = of_with_term (Known l) t h of i.declared;
    exact = exact-at;
    none = none-at;
  }
    where
      exact-at :
          (k j : ℕ) → k + j ≡ l.tables.counts.marks → Clear l.notes.broken j →
          (e : ℕ → ℤ) → KeptTo l.tables j e ↔ Agrees (by_name l e) (drop k (with_term t h))
      exact-at zero j levels clear e = absurd (omega (arith, clear some, i.fine.sound.level_open))
      exact-at (suc k) j levels clear e = subst (λ (x : History). KeptTo l.tables j e ↔ Agrees (by_name l e) x) (sym (older_same k t h)) (i.exact (suc k) j levels clear e)

      none-at : (k j : ℕ) → k + j ≡ l.tables.counts.marks → j + 1 ≡ l.notes.broken → (e : ℕ → ℤ) → Agrees (by_name l e) (drop k (with_term t h)) → ⊥
      none-at zero j levels level e agrees = i.none zero j levels level e ((agrees_term (by_name l e) t h).0 agrees).1
      none-at (suc k) j levels level e agrees = i.none (suc k) j levels level e (subst (Agrees (by_name l e)) (older_same k t h) agrees)

  module _ (supported : Supported false t) (clean : l.notes.broken ≡ 0) (u : Tables) (grown : Grown l.tables u)
      (few : l.tables.counts.rules + length (map (resolved (step_of l)) (rules_of_term false t)) ≤ RULES) where
    counted : Counted l.tables
    counted = record { room = i.fine.room.tables_room; counted = i.fine.sound.tables_sound.rules_counted }

    -- What belongs to older levels stays.
    older-exact :
        (k j : ℕ) → suc k + j ≡ u.counts.marks → (e : ℕ → ℤ) → KeptTo u j e ↔ Agrees (by_name l e) (drop (suc k) (with_term t h))
    older-exact k j levels e =
        let was = i.exact (suc k) j (levels ∙ grown.same_open) (λ some. absurd (some clean)) e in
        let older : j < l.tables.counts.marks = omega (arith, levels, grown.same_open) in (
          (λ kept. subst (Agrees (by_name l e)) (sym (older_same k t h)) (was.0 (λ r there. subst (Keeps e) (grown.older_rules r there.0) (kept r (older_there l.tables u grown j older r there))))),
          (λ agrees r there. let before = older_here l.tables u grown j older r there in
              subst (Keeps e) (sym (grown.older_rules r before.0)) (was.1 (subst (Agrees (by_name l e)) (older_same k t h) agrees) r before)),
        )

    -- All rules of the term fit.
    fits-in-force :
        Fine (with_tables u 0 l) → AddsAll (map (resolved (step_of l)) (rules_of_term false t)) l.tables false u → InForce (with_tables u 0 l) (with_term t h)
    fits-in-force g adds = record {
      fine = g;
      as_many = one_longer t h u.counts.marks (i.as_many ∙ ap (λ (m : ℕ). m + 1) (sym grown.same_open));
      declared = of_with_term (Known l) t h of i.declared;
      exact = exact-at;
      none = λ k j levels level e agrees. absurd (omega (arith, level));
    }
      where
        exact-at : (k j : ℕ) → k + j ≡ u.counts.marks → Clear 0 j → (e : ℕ → ℤ) → KeptTo u j e ↔ Agrees (by_name l e) (drop k (with_term t h))
        exact-at zero j levels clear e =
            let law = assertion_kept e t supported (step_of l) l.tables u counted few adds in
            let all = all_levels u g.sound.tables_sound j (omega (arith, levels)) e in
            let both = agrees_term (by_name l e) t h in (
              (λ kept. let now = law.0 (all.0 kept) in both.1 (now.1, (all_exact l h i clean e).0 now.0)),
              (λ agrees. let now = both.0 agrees in all.1 (law.1 ((all_exact l h i clean e).1 now.1, now.0))),
            )
        exact-at (suc k) j levels clear e = older-exact k j levels e

    -- One does not fit.
    clash-in-force :
        Fine (with_tables u (u.counts.marks + 1) l) → AddsAll (map (resolved (step_of l)) (rules_of_term false t)) l.tables true u →
        InForce (with_tables u (u.counts.marks + 1) l) (with_term t h)
    clash-in-force g adds = record {
      fine = g;
      as_many = one_longer t h u.counts.marks (i.as_many ∙ ap (λ (m : ℕ). m + 1) (sym grown.same_open));
      declared = of_with_term (Known l) t h of i.declared;
      exact = exact-at;
      none = none-at;
    }
      where
        exact-at :
            (k j : ℕ) → k + j ≡ u.counts.marks → Clear (u.counts.marks + 1) j → (e : ℕ → ℤ) →
            KeptTo u j e ↔ Agrees (by_name l e) (drop k (with_term t h))
        exact-at zero j levels clear e = absurd (omega (arith, levels, clear (λ z. omega arith)))
        exact-at (suc k) j levels clear e = older-exact k j levels e

        none-at : (k j : ℕ) → k + j ≡ u.counts.marks → j + 1 ≡ u.counts.marks + 1 → (e : ℕ → ℤ) → Agrees (by_name l e) (drop k (with_term t h)) → ⊥
        none-at zero j levels level e agrees =
            let now = (agrees_term (by_name l e) t h).0 agrees in
            assertion_none e t supported (step_of l) l.tables u counted few adds ((all_exact l h i clean e).1 now.1) now.0
        none-at (suc k) j levels level e agrees = omega (arith, levels, level)

    -- So of every assertion whose rules are added.
    pub added_in_force :
        (clash : Bool) → Fine (with_tables u (broken_after clash u) l) → AddsAll (map (resolved (step_of l)) (rules_of_term false t)) l.tables clash u →
        InForce (with_tables u (broken_after clash u) l) (with_term t h)
    added_in_force false = fits-in-force
    added_in_force true = clash-in-force
