-- Levels put on and taken off: a `push` puts empty levels on, of which no rule is; a `pop` leaves the older levels with the rules of theirs.
use Prim.Native.Nat.{ℕ, zero, suc, ◌+◌, ◌-◌, ◌≤◌, ◌<◌}
use native.Mathlib.Omega.{arith}
use native.Mathlib.Decide.{dec_lt}
use mathlib.Core.Path.{◌≡◌, refl, sym, ◌∙◌, ap, subst}
use mathlib.Core.List.{[], ◌∷◌}
use mathlib.Core.Logic.Iff
use mathlib.Core.Logic.{◌↔◌}
use lib.ListN.{length, drop, length-drop}
use lib.Seq.{drop-nil}
use lib.IntN.{ℤ}
use borrow.Author.Tests.{lt-ltb, le-ltb}
use Rattle.meaning.specs.Rules.{Keeps}
use Rattle.meaning.specs.Tables.{Tables, Columns, rule_at, at}
use Rattle.meaning.specs.Calls.{rules_of, held_in}
use Rattle.meaning.proofs.Places.{down_to_held, down_to_levels}
use Rattle.levels.specs.Levels.{with_marks, Popped, held_to}
use Rattle.script_meaning.specs.Record.{Lent, Known}
use Rattle.script_meaning.specs.Effect.{with_tables, broken_left}
use Rattle.script_meaning.specs.Traces.{History, with_levels, Agrees}
use Rattle.script_meaning.proofs.Keeping.{Fine}
use Rattle.script_meaning.proofs.Named.{of_with_levels, of_drop, agrees_levels}
use Rattle.script_meaning.proofs.InForce.{InForce, KeptTo, all_levels, Clear, by_name}

-- ---- levels put on

-- Of the newest levels some are taken off again, or all and older ones too.
pub newest_off : (n k : ℕ) (h : History) → k ≤ n → drop k (with_levels n h) ≡ with_levels (n - k) h
newest_off n zero h below = ap (λ (m : ℕ). with_levels m h) same
  where
    same : n ≡ n - 0
    same = omega arith
newest_off zero (suc k) h below = absurd (omega arith)
newest_off (suc n) (suc k) h below = newest_off n k h (omega arith) ∙ ap (λ (m : ℕ). with_levels m h) same
  where
    same : n - k ≡ suc n - suc k
    same = omega arith

pub all_off : (n k : ℕ) (h : History) → n ≤ k → drop k (with_levels n h) ≡ drop (k - n) h
all_off zero k h above = ap (λ (m : ℕ). drop m h) same
  where
    same : k ≡ k - 0
    same = omega arith
all_off (suc n) zero h above = absurd (omega arith)
all_off (suc n) (suc k) h above = all_off n k h (omega arith) ∙ ap (λ (m : ℕ). drop m h) same
  where
    same : k - n ≡ suc k - suc n
    same = omega arith

-- How many levels there are then.
levels_longer : (n : ℕ) (h : History) → length (with_levels n h) ≡ length h + n
levels_longer zero h = omega arith
levels_longer (suc n) h = omega (arith, levels_longer n h)

module _ (n : ℕ) (l : Lent) (h : History) (i : InForce l h) where
  -- An older level has its rules and its terms; a new one has all rules, and no term of its own.
  pushed_exact :
      (k j : ℕ) → k + j ≡ l.tables.counts.marks + n → Clear l.notes.broken j →
      (e : ℕ → ℤ) → KeptTo l.tables j e ↔ Agrees (by_name l e) (drop k (with_levels n h))
  pushed_exact k j levels clear e = tell (dec_lt j l.tables.counts.marks)
    where
      tell : Dec (j < l.tables.counts.marks) → KeptTo l.tables j e ↔ Agrees (by_name l e) (drop k (with_levels n h))
      tell (yes older) =
          subst (λ (x : History). KeptTo l.tables j e ↔ Agrees (by_name l e) x) (sym (all_off n k h (omega arith))) (i.exact (k - n) j (omega arith) clear e)
      tell (no newer) =
          let newest = l.tables.counts.marks in
          let all = all_levels l.tables i.fine.sound.tables_sound in
          let was = i.exact 0 newest (omega arith) (λ some. omega (arith, clear some)) e in
          subst (λ (x : History). KeptTo l.tables j e ↔ Agrees (by_name l e) x) (sym (newest_off n k h (omega arith)))
          (Iff.trans (all j (omega arith) e) (Iff.trans (Iff.symm (all newest (omega arith) e)) (Iff.trans was (Iff.symm (agrees_levels (by_name l e) (n - k) h)))))

  pushed_none :
      (k j : ℕ) → k + j ≡ l.tables.counts.marks + n → j + 1 ≡ l.notes.broken → (e : ℕ → ℤ) → Agrees (by_name l e) (drop k (with_levels n h)) → ⊥
  pushed_none k j levels level e agrees =
      let deep = i.fine.sound.level_open in
      i.none (k - n) j (omega (arith, levels, level, deep)) level e (subst (Agrees (by_name l e)) (all_off n k h (omega (arith, levels, level, deep))) agrees)

  -- **Push** keeps the link.
  pub push_in_force : Fine (with_tables (with_marks n l.tables) l.notes.broken l) → InForce (with_tables (with_marks n l.tables) l.notes.broken l) (with_levels n h)
  push_in_force g = record {
    fine = g;
    as_many = omega (arith, levels_longer n h, i.as_many);
    declared = of_with_levels (Known l) n h i.declared;
    exact = pushed_exact;
    none = pushed_none;
  }

-- ---- levels taken off

-- What is left of tables where n marks are dropped: the rules whose level is not above the marks left, with their levels.
pub record Left (n : ℕ) (t u : Tables) : Type 0 where
  pub marks_left : u.counts.marks + n ≡ t.counts.marks
  pub same_rules : u.rules ≡ t.rules
  pub still_there : (i : ℕ) → held_to u.counts.marks t.levels i → held_in u i
  pub none_new : (i : ℕ) → held_in u i → held_to u.counts.marks t.levels i
  pub same_levels : (i : ℕ) → held_in u i → at u.levels i ≡ at t.levels i

pub left_of : (n : ℕ) (t u : Tables) → n ≤ t.counts.marks → Popped n t u → Left n t u
left_of n t u few p = subst (Left n t) (sym p.dropped) (record {
  marks_left = omega arith;
  same_rules = refl;
  still_there = λ i. (down_to_held (t.counts.marks - n) t i).1;
  none_new = λ i. (down_to_held (t.counts.marks - n) t i).0;
  same_levels = λ i there. down_to_levels (t.counts.marks - n) t i ((down_to_held (t.counts.marks - n) t i).0 there).1;
})

-- Levels taken off in two steps.
pub drop_drop : (n k : ℕ) (h : History) → drop k (drop n h) ≡ drop (n + k) h
drop_drop zero k h = ap (λ (m : ℕ). drop m h) same
  where
    same : k ≡ zero + k
    same = omega arith
drop_drop (suc n) k [] = drop-nil k ∙ sym (drop-nil (suc n + k))
drop_drop (suc n) k (l ∷ h) = drop_drop n k h ∙ ap (λ (m : ℕ). drop m (l ∷ h)) same
  where
    same : suc (n + k) ≡ suc n + k
    same = omega arith

-- A level left is clear where it was.
pub left_clear : (b : ℕ) (u : Tables) (j : ℕ) → j ≤ u.counts.marks → Clear (broken_left b u) j → Clear b j
left_clear b u j in-it clear some = tell (dec_lt (u.counts.marks + 1) b)
  where
    tell : Dec (u.counts.marks + 1 < b) → j + 1 < b
    tell (yes deeper) = omega arith
    tell (no stays) =
        let same : broken_left b u ≡ b = rw (le-ltb (u.counts.marks + 1) b (omega arith)) refl in
        omega (arith, same, clear (λ z. some (sym same ∙ z)))

-- Each level that is left has the rules that it had.
module _ (n : ℕ) (t u : Tables) (left : Left n t u) (j : ℕ) (in-it : j ≤ u.counts.marks) where
  pub left_there : (r : ℕ) → held_to j t.levels r → held_to j u.levels r
  left_there r there =
      let stays = left.still_there r (there.0, omega (arith, there.1, in-it)) in
      (stays, omega (arith, there.1, left.same_levels r stays))

  pub left_here : (r : ℕ) → held_to j u.levels r → held_to j t.levels r
  left_here r there = ((left.none_new r there.0).0, omega (arith, there.1, left.same_levels r there.0))

module _ (n : ℕ) (l : Lent) (h : History) (i : InForce l h) (few : n ≤ l.tables.counts.marks) (u : Tables) (left : Left n l.tables u) where
  -- The contradictory level is left only where it was it.
  left_level : (j : ℕ) → j + 1 ≡ broken_left l.notes.broken u → j + 1 ≡ l.notes.broken
  left_level j level = tell (dec_lt (u.counts.marks + 1) l.notes.broken)
    where
      tell : Dec (u.counts.marks + 1 < l.notes.broken) → j + 1 ≡ l.notes.broken
      tell (yes deeper) =
          let gone : broken_left l.notes.broken u ≡ 0 = rw (lt-ltb (u.counts.marks + 1) l.notes.broken deeper) refl in
          absurd (omega (arith, gone, level))
      tell (no stays) =
          let same : broken_left l.notes.broken u ≡ l.notes.broken = rw (le-ltb (u.counts.marks + 1) l.notes.broken (omega arith)) refl in
          level ∙ same

  -- So it has them, and those below it.
  rule_stays : (r : ℕ) → rules_of u r ≡ rules_of l.tables r
  rule_stays r = ap (λ (x : Columns). rule_at x r) left.same_rules

  left_kept : (j : ℕ) → j ≤ u.counts.marks → (e : ℕ → ℤ) → KeptTo l.tables j e ↔ KeptTo u j e
  left_kept j in-it e = (
    (λ kept r there. subst (Keeps e) (sym (rule_stays r)) (kept r (left_here n l.tables u left j in-it r there))),
    (λ kept r there. subst (Keeps e) (rule_stays r) (kept r (left_there n l.tables u left j in-it r there))),
  )

  left_exact :
      (k j : ℕ) → k + j ≡ u.counts.marks → Clear (broken_left l.notes.broken u) j → (e : ℕ → ℤ) → KeptTo u j e ↔ Agrees (by_name l e) (drop k (drop n h))
  left_exact k j levels clear e =
      subst (λ (x : History). KeptTo u j e ↔ Agrees (by_name l e) x) (sym (drop_drop n k h))
      (Iff.trans (Iff.symm (left_kept j (omega (arith, levels)) e)) (i.exact (n + k) j (omega (arith, levels, left.marks_left)) (left_clear l.notes.broken u j (omega arith) clear) e))

  pop_left_in_force : Fine (with_tables u (broken_left l.notes.broken u) l) → InForce (with_tables u (broken_left l.notes.broken u) l) (drop n h)
  pop_left_in_force g = record {
    fine = g;
    as_many = omega (arith, length-drop n h, i.as_many, left.marks_left);
    declared = of_drop (Known l) n h i.declared;
    exact = left_exact;
    none = λ k j levels level e agrees.
        i.none (n + k) j (omega (arith, levels, left.marks_left)) (left_level j level) e (subst (Agrees (by_name l e)) (drop_drop n k h) agrees);
  }

-- **Pop** keeps the link.
pub pop_in_force :
    (n : ℕ) (l : Lent) (h : History) → InForce l h → n ≤ l.tables.counts.marks → (u : Tables) → Popped n l.tables u →
    Fine (with_tables u (broken_left l.notes.broken u) l) → InForce (with_tables u (broken_left l.notes.broken u) l) (drop n h)
pop_in_force n l h i few u p = pop_left_in_force n l h i few u (left_of n l.tables u few p)
