-- An answer told as numbers: a promise kept with an answer is kept with its number and values, and where a call has no second value, or none, with 0 for it.
use Prim.Native.Nat.{ℕ}
use native.Mathlib.Decide.{ℕ_discrete}
use mathlib.Core.Path.{◌≡◌, refl, sym, subst, ap}
use Rattle.meaning.specs.Bounds.{DONE, CONFLICT}
use Rattle.meaning.specs.declared.Counts.{Counts}
use Rattle.meaning.specs.Promise.{Given, Meaning, Obeys, bare, gave}
use Rattle.meaning.specs.Tables.{Tables}
use Rattle.meaning.specs.Calls.{WithList, WithLists}
use Rattle.gaps.specs.Beside.{Beside, beside}

-- By the number: carried out, on conflict, or refused.
by_number : {X : Type 0} (k : ℕ) → (k ≡ DONE → X) → (k ≡ CONFLICT → X) → ((k ≡ DONE → ⊥) → (k ≡ CONFLICT → ⊥) → X) → X
by_number {X} k done conflict refused = at_done (ℕ_discrete k DONE)
  where
    at-conflict : (k ≡ DONE → ⊥) → Dec (k ≡ CONFLICT) → X
    at-conflict u (yes e) = conflict e
    at-conflict u (no v) = refused u v

    at_done : Dec (k ≡ DONE) → X
    at_done (yes e) = done e
    at_done (no u) = at-conflict u (ℕ_discrete k CONFLICT)

same_given : (g : Given) (k v w : ℕ) → k ≡ g.number → v ≡ g.one → w ≡ g.two → g ≡ gave k v w
same_given g k v w e f h i = record { number = sym e i; one = sym f i; two = sym h i }

module _ {S : Type 0} (m : Meaning S) (before : S) (g : Given) (after : S) (o : Obeys m before g after) where
  -- The number, and both values.
  pub tell : (k v w : ℕ) → k ≡ g.number → v ≡ g.one → w ≡ g.two → Obeys m before (gave k v w) after
  tell k v w e f h = subst (λ (z : Given). Obeys m before z after) (same_given g k v w e f h) o

  -- A call that has no second value gives 0 for it.
  no_second : ((a b : ℕ) (s : S) → m.done a b s → b ≡ 0) → g.two ≡ 0
  no_second none = by_number g.number (λ e. none _ _ _ (o.when_done e)) (λ e. (o.on_conflict e).1) (λ u v. ap (λ (z : Given). z.two) (o.when_refused u v).0)

  pub tell_one : ((a b : ℕ) (s : S) → m.done a b s → b ≡ 0) → (k v : ℕ) → k ≡ g.number → v ≡ g.one → Obeys m before (gave k v 0) after
  tell_one none k v e f = tell k v 0 e f (sym (no_second none))

  -- A call that has no values gives 0 for both.
  no_first : ((a b : ℕ) (s : S) → m.done a b s → (a ≡ 0) × (b ≡ 0)) → ((a : ℕ) (s : S) → m.conflict a s → ⊥) → g.one ≡ 0
  no_first none never = by_number g.number (λ e. (none _ _ _ (o.when_done e)).0) (λ e. absurd (never _ _ (o.on_conflict e).0)) (λ u v. ap (λ (z : Given). z.one) (o.when_refused u v).0)

  pub tell_none : ((a b : ℕ) (s : S) → m.done a b s → (a ≡ 0) × (b ≡ 0)) → ((a : ℕ) (s : S) → m.conflict a s → ⊥) → (k : ℕ) → k ≡ g.number → Obeys m before (bare k) after
  tell_none none never k e = tell k 0 0 e (sym (no_first none never)) (sym (no_second (λ a b s d. (none a b s d).1)))

  -- What the call leaves as it was, read off any part of what is lent.
  pub stays : {P : Type 0} (part : S → P) → ((a b : ℕ) (s : S) → m.done a b s → part s ≡ part before) → ((a : ℕ) (s : S) → m.conflict a s → part s ≡ part before) → part after ≡ part before
  stays part done conflict = by_number g.number (λ e. done _ _ _ (o.when_done e)) (λ e. conflict _ _ (o.on_conflict e).0) (λ u v. ap part (o.when_refused u v).1)

-- A call that leaves the tables as they were keeps its promise with the counts that were lent. `tables` are those among what it left, and `recounted` is all that with other counts.
module _ {S : Type 0} (tables : S → Tables) (recounted : Counts → S) where
  pub at_counts : (m : Meaning S) (before : S) (g : Given) (after : S) → Obeys m before g after → recounted (tables after).counts ≡ after
      → ((a b : ℕ) (t : S) → m.done a b t → tables t ≡ tables before) → ((a : ℕ) (t : S) → m.conflict a t → tables t ≡ tables before) → Obeys m before g (recounted (tables before).counts)
  at_counts m before g after o same done conflict =
      subst (λ (k : Counts). Obeys m before g (recounted k))
      (stays m before g after o (λ t. (tables t).counts) (λ a b t d. ap (λ (u : Tables). u.counts) (done a b t d)) (λ a t d. ap (λ (u : Tables). u.counts) (conflict a t d)))
      (subst (Obeys m before g) (sym same) o)

abbrev recount : Tables → Counts → Tables
recount t k = record { counts = k; rules = t.rules; days = t.days; levels = t.levels; watched = t.watched }

-- A call that is lent two lists, one that is lent one, and one that is lent none, each with the gap table.
pub at_counts_2 : (s : Beside WithLists) (m : Meaning (Beside WithLists)) (before : Beside WithLists) (g : Given) → Obeys m before g s
    → ((a b : ℕ) (t : Beside WithLists) → m.done a b t → t.lent.tables ≡ before.lent.tables) → ((a : ℕ) (t : Beside WithLists) → m.conflict a t → t.lent.tables ≡ before.lent.tables)
    → Obeys m before g (beside (record { tables = recount s.lent.tables before.lent.tables.counts; one = s.lent.one; two = s.lent.two }) s.gaps)
at_counts_2 s m before g o = at_counts (λ t. t.lent.tables) (λ k. beside (record { tables = recount s.lent.tables k; one = s.lent.one; two = s.lent.two }) s.gaps) m before g s o refl

pub at_counts_1 : (s : Beside WithList) (m : Meaning (Beside WithList)) (before : Beside WithList) (g : Given) → Obeys m before g s
    → ((a b : ℕ) (t : Beside WithList) → m.done a b t → t.lent.tables ≡ before.lent.tables) → ((a : ℕ) (t : Beside WithList) → m.conflict a t → t.lent.tables ≡ before.lent.tables)
    → Obeys m before g (beside (record { tables = recount s.lent.tables before.lent.tables.counts; list = s.lent.list }) s.gaps)
at_counts_1 s m before g o = at_counts (λ t. t.lent.tables) (λ k. beside (record { tables = recount s.lent.tables k; list = s.lent.list }) s.gaps) m before g s o refl

pub at_counts_0 : (s : Beside Tables) (m : Meaning (Beside Tables)) (before : Beside Tables) (g : Given) → Obeys m before g s
    → ((a b : ℕ) (t : Beside Tables) → m.done a b t → t.lent ≡ before.lent) → ((a : ℕ) (t : Beside Tables) → m.conflict a t → t.lent ≡ before.lent)
    → Obeys m before g (beside (recount s.lent before.lent.counts) s.gaps)
at_counts_0 s m before g o = at_counts (λ t. t.lent) (λ k. beside (recount s.lent k) s.gaps) m before g s o refl
