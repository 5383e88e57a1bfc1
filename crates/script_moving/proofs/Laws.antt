-- The tables after a command's rules are added, its marks set and its marks dropped: sound, and with the days of the open marks kept.
use Prim.Native.Nat.{ℕ, ◌+◌, ◌-◌, ◌≤◌, ◌<◌}
use native.Mathlib.Omega.{arith}
use mathlib.Core.Path.{◌≡◌, sym, ap, subst}
use mathlib.Core.Bool.{Bool}
use mathlib.Core.List.{List}
use mathlib.Core.Logic.{◌⊎◌, inl, inr}
use lib.ListN.{length}
use Rattle.meaning.specs.declared.Counts.{Counts}
use Rattle.meaning.specs.Bounds.{RULES}
use Rattle.meaning.specs.Rules.{InBounds}
use Rattle.meaning.specs.Tables.{Columns, Tables, rule_at, at}
use Rattle.meaning.specs.Calls.{rules_of, held_in}
use Rattle.meaning.proofs.Places.{down_to_held}
use Rattle.meaning.proofs.Sequences.{Kept}
use Rattle.lent.specs.Promises.{Border}
use Rattle.reading.specs.declared.Kind.{Kind}
use Rattle.levels.specs.Levels.{KeptDays, Popped, held_to, with_marks, more_marks}
use Rattle.levels.proofs.Laws.{kept_same, with_marks_border, popped_border}
use Rattle.script_meaning.specs.Effect.{AddsAll}
use Rattle.script_meaning.proofs.Adding.{Each, Grown, still_held, adds_kept}
use Rattle.script_meaning.proofs.Orderly.{adds_orderly}
use Rattle.asserts.specs.Rows.{rows_from, RowsFine}
use Rattle.asserts.proofs.Reach.{wider, AllWithin, added_within}
use Rattle.asserts.proofs.Rows.{rows_length, rows_each}
use Rattle.script_moving.specs.Moving.{adds, pushes, pops, Movable, Moves, OrderKept}
use Rattle.levels.specs.declared.Row.{Row}

-- What adding a command's rules leaves.
pub record Held (t u : Tables) : Type 0 where
  pub border : Border u
  pub grown : Grown t u

-- The rules of k rows were added to the tables t, over e steps.
module _
    (e : ℕ) (rows : Columns) (k : ℕ) (t u : Tables) (clash : Bool) (fine : RowsFine e rows k) (places : t.counts.rules + k ≤ RULES) (b : Border t) (w : AllWithin e t)
    (added : AddsAll (rows_from rows 0 k) t clash u) where
  before : Kept t
  before = record { sound = b.sound; room = b.room }

  few : t.counts.rules + length (rows_from rows 0 k) ≤ RULES
  few = omega (arith, places, rows_length rows 0 k)

  each : Each (InBounds t.counts.steps) (rows_from rows 0 k)
  each = rows_each t.counts.steps rows k (λ i l. wider e t.counts.steps w.steps_there (rule_at rows i) (fine i l))

  pub rows_added : Held t u
  rows_added =
      let kept = adds_kept (rows_from rows 0 k) t u clash before each few added in
      record { border = record { room = kept.0.room; sound = kept.0.sound }; grown = kept.1 }

  -- The rules are in order still where they must be.
  pub order_stays : (kept : List Row) → OrderKept t.counts.rules t.levels kept → OrderKept u.counts.rules u.levels kept
  order_stays kept ordered some = adds_orderly (rows_from rows 0 k) t u clash before each few added (ordered some)

  -- They speak of the steps that they must.
  pub rows_within : AllWithin e u
  rows_within = added_within e (rows_from rows 0 k) t u clash before (rows_each e rows k fine) few w added

-- The days that were kept of the open marks are kept still: a new rule has a level that is above theirs.
pub days_stay :
    (t u : Tables) (kept : List Row) → Grown t u → KeptDays (rules_of t) t.counts.steps t.counts.marks t.levels kept →
    KeptDays (rules_of u) u.counts.steps u.counts.marks u.levels kept
days_stay t u kept g k =
    rw (g.same_steps, g.same_open)
    (kept_same {steps = t.counts.steps} {marks-open = t.counts.marks} {kept = kept} {R = rules_of t} {R' = rules_of u} {levels = t.levels} {levels' = u.levels} to from
    (λ j i j-in h. sym (g.older_rules i (to j i j-in h).0)) k)
  where
    to : (j i : ℕ) → j < t.counts.marks → held_to j u.levels i → held_to j t.levels i
    to j i j-in (h, low) = was (g.new_levels i h)
      where
        was : held_in t i ⊎ (at u.levels i ≡ t.counts.marks + 1) → held_to j t.levels i
        was (inl older) = (older, omega (arith, low, g.older_levels i older))
        was (inr new) = absurd (omega (arith, low, new, j-in))

    from : (j i : ℕ) → j < t.counts.marks → held_to j t.levels i → held_to j u.levels i
    from j i j-in (h, low) = (still_held g i h, omega (arith, low, g.older_levels i h))

-- Where the counts are those of n more marks, the tables are those with n more marks.
pub pushed_same :
    (n : ℕ) (t : Tables) (counts : Counts) → counts ≡ more_marks n t.counts →
    record { counts = counts; rules = t.rules; days = t.days; levels = t.levels; watched = t.watched } ≡ with_marks n t
pushed_same n t counts counts_are = ap (λ (k : Counts). record { counts = k; rules = t.rules; days = t.days; levels = t.levels; watched = t.watched }) counts_are

-- The tables that were moved are sound and have room.
pub moves_border :
    (c : Kind) (broken e : ℕ) (rows : Columns) (t u : Tables) (clash : Bool) → Movable c broken e rows t.counts → Border t → AllWithin e t → Moves c broken rows t clash u → Border u
moves_border c broken e rows t u clash movable b w (v, (added, dropped)) =
    let held = rows_added e rows (adds c broken) t v clash movable.rows_fine movable.places b w added in
    popped_border (pops c) (with_marks_border (pushes c) held.border (omega (arith, held.grown.same_open, movable.marks_fit))) dropped

-- Where marks are dropped, rules are left out: the others speak of the steps that they spoke of.
popped_within : (e k : ℕ) (t u : Tables) → AllWithin e t → Popped k t u → AllWithin e u
popped_within e k t u w p =
    subst (AllWithin e) (sym p.dropped)
    (record { steps_there = w.steps_there; rules_within = λ i h. w.rules_within i ((down_to_held (t.counts.marks - k) t i).0 h).0 })

-- Where rows and rules speak of steps below e alone, so do the rules of the tables that were moved.
pub moves_within :
    (c : Kind) (broken e : ℕ) (rows : Columns) (t u : Tables) (clash : Bool) → Movable c broken e rows t.counts → Border t → AllWithin e t → Moves c broken rows t clash u → AllWithin e u
moves_within c broken e rows t u clash movable b w (v, (added, dropped)) =
    let grown = rows_within e rows (adds c broken) t v clash movable.rows_fine movable.places b w added in
    popped_within e (pops c) (with_marks (pushes c) v) u (record { steps_there = grown.steps_there; rules_within = grown.rules_within }) dropped
