-- Sequences of calls in which script calls and the others are mixed: each keeps its promise, and nobody touches what is lent in between.
use Rattle.std.specs.Prelude.{ℕ, ◌≡◌, List}
use Rattle.meaning.specs.Bounds.{DONE}
use Rattle.meaning.specs.Tables.{Tables}
use Rattle.meaning.specs.Promise.{Given, Obeys}
use Rattle.meaning.specs.Runs.{Call, Made}
use Rattle.script_meaning.specs.Record.{Lent}
use Rattle.script_meaning.specs.Commands.{start_meaning, command_meaning}

-- What is lent, with other tables.
abbrev pub on_tables : Tables → Lent → Lent
on_tables t l = record { tables = t; notes = l.notes; names = l.names; lens = l.lens; out = l.out }

-- Something of kind S that is lent comes from a sequence of calls: an accepted Open or start on anything, then any calls, script calls among them, refused ones included. `of` gives its
-- tables, `on` puts others there; Starts and Commands say what a start and a command may give and leave.
pub data MixedOf {S : Type 0} (of : S → Tables) (on : Tables → S → S) (Starts : S → Given → S → Type 0) (Commands : List ℕ → S → Given → S → Type 0) : S → Type 0 where
  from_open : (n : ℕ) (l : S) (g : Given) (t : Tables) → Made (Call.opens n) (of l) g t → g.number ≡ DONE → MixedOf of on Starts Commands (on t l)
  from_start : (l : S) (g : Given) (after : S) → Starts l g after → g.number ≡ DONE → MixedOf of on Starts Commands after
  then_call : (l : S) → MixedOf of on Starts Commands l → (c : Call) (g : Given) (t : Tables) → Made c (of l) g t → MixedOf of on Starts Commands (on t l)
  then_start : (l : S) → MixedOf of on Starts Commands l → (g : Given) (after : S) → Starts l g after → MixedOf of on Starts Commands after
  then_command : (l : S) → MixedOf of on Starts Commands l → (text : List ℕ) (g : Given) (after : S) → Commands text l g after → MixedOf of on Starts Commands after

-- What is lent comes from such a sequence, each script call of which keeps its promise.
abbrev pub MixedRun : Lent → Type 0
MixedRun = MixedOf (λ l. l.tables) on_tables (λ l. Obeys (start_meaning l) l) (λ text l. Obeys (command_meaning text l) l)
