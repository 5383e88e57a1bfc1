-- What a command asks of the tables, by its kind, and what is done to them.
use Rattle.std.specs.Prelude.{ℕ, ◌+◌, ◌≤◌, ◌<◌, Bool, cond, List, eqb, length}
use Rattle.meaning.specs.declared.Counts.{Counts}
use Rattle.meaning.specs.Bounds.{RULES, MARKS}
use Rattle.meaning.specs.Tables.{Tables, Columns}
use Rattle.reading.specs.declared.Kind.{Kind}
use Rattle.levels.specs.Levels.{with_marks, Popped, InOrder}
use Rattle.script_meaning.specs.Effect.{AddsAll}
use Rattle.asserts.specs.Rows.{rows_from, RowsFine}
use Rattle.levels.specs.declared.Row.{Row}

-- How many rows are added as rules: none while a level counts as contradictory.
abbrev pub adds : Kind → ℕ → ℕ
adds Kind.SetLogic broken = 0
adds (Kind.Declare a b) broken = 0
adds (Kind.Assert k) broken = cond (eqb broken 0) k 0
adds (Kind.Push k) broken = 0
adds (Kind.Pop k) broken = 0
adds Kind.CheckSat broken = 0
adds (Kind.GetValue k) broken = 0
adds Kind.Exit broken = 0

-- How many marks a command sets, and how many it drops.
abbrev pub pushes : Kind → ℕ
pushes Kind.SetLogic = 0
pushes (Kind.Declare a b) = 0
pushes (Kind.Assert k) = 0
pushes (Kind.Push k) = k
pushes (Kind.Pop k) = 0
pushes Kind.CheckSat = 0
pushes (Kind.GetValue k) = 0
pushes Kind.Exit = 0

abbrev pub pops : Kind → ℕ
pops Kind.SetLogic = 0
pops (Kind.Declare a b) = 0
pops (Kind.Assert k) = 0
pops (Kind.Push k) = 0
pops (Kind.Pop k) = k
pops Kind.CheckSat = 0
pops (Kind.GetValue k) = 0
pops Kind.Exit = 0

-- The tables can be moved as a command of this kind asks: the rules of its rows are within bounds, there are places for them and for the marks, and marks to drop.
pub record Movable (c : Kind) (broken e : ℕ) (rows : Columns) (counts : Counts) : Type 0 where
  pub rows_there : (adds c broken ≤ length rows.firsts) × ((adds c broken ≤ length rows.seconds) × (adds c broken ≤ length rows.amounts))
  pub rows_fine : RowsFine e rows (adds c broken)
  pub places : counts.rules + adds c broken ≤ RULES
  pub marks_fit : counts.marks + pushes c ≤ MARKS
  pub marks_there : pops c ≤ counts.marks

-- The rules of the command's rows are added, its marks are set, and those that it drops are dropped.
abbrev pub Moves : Kind → ℕ → Columns → Tables → Bool → Tables → Type 0
Moves c broken rows before clash after =
    (t : Tables) × (AddsAll (rows_from rows 0 (adds c broken)) before clash t × Popped (pops c) (with_marks (pushes c) t) after)

-- Where days are kept beside the tables, the m rules held stand in the order in which they were added: a pop then frees the newest places.
abbrev pub OrderKept : ℕ → List ℕ → List Row → Type 0
OrderKept m levels kept = 0 < length kept → InOrder m levels
