-- The tables that the commands of a script read and write. No command reads or writes a watched rule, so its parts are promised over tables whose watched
-- rules are idle; what holds of them holds whatever is watched.
use Rattle.std.specs.Prelude.{ℕ, ◌<◌, List, replicate, ℤ, pos}
use Rattle.meaning.specs.declared.Counts.{Counts}
use Rattle.meaning.specs.Bounds.{WATCHED}
use Rattle.meaning.specs.Rules.{InBounds}
use Rattle.meaning.specs.Tables.{Columns, Tables, rule_at, ColumnsRoom}
use Rattle.lent.specs.Lent.{columns}

-- The watched rules of a script's own tables: in every place the rule 0, 0, 0, which is within bounds however many steps there are.
unfoldable pub idle : Columns
idle = columns (replicate {A = ℕ} WATCHED 0) (replicate {A = ℕ} WATCHED 0) (replicate WATCHED (pos 0))

-- The tables with other watched rules.
abbrev pub watching : Columns → Tables → Tables
watching w t = record { counts = t.counts; rules = t.rules; days = t.days; levels = t.levels; watched = w }

-- The counts, the rules, the days and the levels that are lent, as tables with idle watched rules.
abbrev pub unwatched : Counts → List ℕ → List ℕ → List ℤ → List ℕ → List ℕ → Tables
unwatched counts xs ys cs days levels = record { counts = counts; rules = columns xs ys cs; days = days; levels = levels; watched = idle }

-- The watched rules have room and are within bounds.
pub record WatchedFine (c : Counts) (w : Columns) : Type 0 where
  pub room : ColumnsRoom WATCHED w
  pub good : (i : ℕ) → i < c.watched → InBounds c.steps (rule_at w i)
