-- Sequences of calls in which script calls and the public ones, with the gap table, are mixed: each keeps its promise, and nobody touches what is lent in between. Script calls are not lent the gap table.
use Rattle.std.specs.Prelude.{ℕ, ◌≡◌, List}
use Rattle.meaning.specs.Bounds.{DONE}
use Rattle.meaning.specs.Tables.{Tables}
use Rattle.meaning.specs.Promise.{Given, Obeys}
use Rattle.meaning.specs.Runs.{Call}
use Rattle.gaps.specs.Gaps.{Gaps}
use Rattle.gaps.specs.Beside.{beside, gap_beside}
use Rattle.gaps.specs.Runs.{MadeBeside}
use Rattle.script_meaning.specs.Record.{Lent}
use Rattle.script_meaning.specs.Commands.{start_meaning, command_meaning}
use Rattle.script_meaning.specs.Mixed.{on_tables}

-- What is lent, and the gap table, come from a sequence of calls: an accepted Open or start on anything, then any calls, refused ones included.
pub data MixedBeside : Lent → Gaps → Type 0 where
  from_open : (n : ℕ) (l : Lent) (a : Gaps) (g : Given) (t : Tables) (b : Gaps) → MadeBeside (Call.opens n) l.tables a g t b → g.number ≡ DONE → MixedBeside (on_tables t l) b
  from_start : (l : Lent) (a : Gaps) (g : Given) (after : Lent) → Obeys (start_meaning l) l g after → g.number ≡ DONE → MixedBeside after a
  then_call : (l : Lent) (a : Gaps) → MixedBeside l a → (c : Call) (g : Given) (t : Tables) (b : Gaps) → MadeBeside c l.tables a g t b → MixedBeside (on_tables t l) b
  then_gap :
      (l : Lent) (a : Gaps) → MixedBeside l a → (x y : ℕ) (g : Given) (t : Tables) (b : Gaps) →
      Obeys (gap_beside x y (beside l.tables a)) (beside l.tables a) g (beside t b) → MixedBeside (on_tables t l) b
  then_start : (l : Lent) (a : Gaps) → MixedBeside l a → (g : Given) (after : Lent) → Obeys (start_meaning l) l g after → MixedBeside after a
  then_command : (l : Lent) (a : Gaps) → MixedBeside l a → (text : List ℕ) (g : Given) (after : Lent) → Obeys (command_meaning text l) l g after → MixedBeside after a
