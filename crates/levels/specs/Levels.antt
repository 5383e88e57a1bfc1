-- Levels of a script: several marks set or dropped at once, and the days that are kept of open marks.
use Rattle.std.specs.Prelude.{ℕ, ◌+◌, ◌-◌, ◌%◌, ◌≤◌, ◌<◌, ◌≡◌, List, [], length, get_or, Some, None}
use Rattle.levels.specs.declared.Row.{Row}
use Rattle.meaning.specs.declared.Counts.{Counts}
use Rattle.meaning.specs.Rules.{Rule, Earliest, largest}
use Rattle.meaning.specs.Tables.{Columns, Tables, rule_at, at, Sound, down_to, with_days, marks_now}
use Rattle.meaning.specs.Promise.{Planned}
use Rattle.meaning.specs.Calls.{rules_of, held_in}
use Rattle.lent.specs.Lent.{held_by, AllHeld, FreeFrom}

-- The counts with n more marks open.
abbrev pub more_marks : ℕ → Counts → Counts
more_marks n c = marks_now (c.marks + n) c

-- The tables with n more marks open.
abbrev pub with_marks : ℕ → Tables → Tables
with_marks n t = record {
  counts = more_marks n t.counts;
  rules = t.rules;
  days = t.days;
  levels = t.levels;
  watched = t.watched;
}

-- n marks are dropped, and every rule added while one of them was open; the days are the earliest plan of the rules left.
pub record Popped (n : ℕ) (before after : Tables) : Type 0 where
  pub dropped : after ≡ with_days after.days (down_to (before.counts.marks - n) before)
  pub planned : Planned before.counts.steps (rules_of before) (held_in (down_to (before.counts.marks - n) before)) before.days after.days

-- Rules that were added one after the other, and none withdrawn but by dropping marks: the first m places are held and no other, and no rule has a lower level than one before it.
pub record InOrder (m : ℕ) (levels : List ℕ) : Type 0 where
  pub all_held : AllHeld m levels
  pub no_other : FreeFrom m levels
  pub never_fall : (i j : ℕ) → i ≤ j → j < m → at levels i ≤ at levels j

-- Kept days stand in so many rows, which the marks use in turn.
abbrev pub ROWS : ℕ
ROWS = 4

-- What is read where there is no row: one that keeps the days of no mark.
abbrev pub no_row : Row
no_row = record { mark = None; days = []; last = 0 }

-- The row of the mark at place k. The mark that is ROWS places later has the same row.
abbrev pub row_of : ℕ → List Row → Row
row_of k kept = get_or kept (k % ROWS) no_row

-- The row of the mark at place k names it.
abbrev pub Named : ℕ → List Row → Type 0
Named k kept = (row_of k kept).mark ≡ Some k

-- The rules held whose level is not above k: they were added before the mark at place k was set.
abbrev pub held_to : ℕ → List ℕ → ℕ → Type 0
held_to k levels i = held_by levels i × (at levels i ≤ k + 1)

-- The days in the row are the earliest plan of the rules that H holds of, and the row has the last of them.
pub record RowPlan (R : ℕ → Rule) (steps : ℕ) (H : ℕ → Type 0) (row : Row) : Type 0 where
  pub earliest : Earliest steps R H (at row.days)
  pub last_day : row.last ≡ largest steps (at row.days)

-- They are where the row of the mark at place k names it.
abbrev pub KeptFor : (R : ℕ → Rule) (steps : ℕ) (H : ℕ → Type 0) (k : ℕ) (kept : List Row) → Type 0
KeptFor R steps H k kept = Named k kept → RowPlan R steps H (row_of k kept)

-- Where the row of an open mark names it, the row has the earliest plan of the rules added before the mark was set. A row that names no open mark tells nothing.
pub record KeptDays (R : ℕ → Rule) (steps open-marks : ℕ) (levels : List ℕ) (kept : List Row) : Type 0 where
  pub kept_earliest : (k : ℕ) → k < open-marks → KeptFor R steps (held_to k levels) k kept

-- Whatever rules the tables were sound with: where the days of the marks then open were kept, those of the marks now open are kept.
abbrev pub KeepsDays : Counts → List ℕ → List Row → Counts → List Row → Type 0
KeepsDays c days kept c' kept' =
    (rules watched : Columns) (levels : List ℕ) → Sound (record { counts = c; rules = rules; days = days; levels = levels; watched = watched }) →
    KeptDays (rule_at rules) c.steps c.marks levels kept → KeptDays (rule_at rules) c.steps c'.marks levels kept'

-- The row keeps these days, and the last of them, as those of the mark at place k.
pub record Keeps (k : ℕ) (days : List ℕ) (last : ℕ) (row : Row) : Type 0 where
  pub names : row.mark ≡ Some k
  pub has_days : (v : ℕ) → v < length days → at row.days v ≡ at days v
  pub dated : row.last ≡ last
