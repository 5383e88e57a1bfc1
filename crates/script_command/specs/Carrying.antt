-- One command carried out on what is known to be sound, and what is kept beside the tables from command to command.
use Rattle.std.specs.Prelude.{ℕ, ◌+◌, ◌-◌, ◌≤◌, ◌<◌, ◌≡◌, false, List, ℤ, length}
use Rattle.meaning.specs.declared.Counts.{Counts}
use Rattle.meaning.specs.Bounds.{STEPS, NAME_BYTES, ASKED, DONE}
use Rattle.meaning.specs.Tables.{Columns, at}
use Rattle.meaning.specs.Promise.{First}
use Rattle.meaning.specs.Calls.{rules_of}
use Rattle.lent.specs.Lent.{held_by}
use Rattle.lent.specs.Idle.{unwatched}
use Rattle.chains.specs.Chains.{LentChains}
use Rattle.text.specs.Lexicon.{bytes}
use Rattle.span.specs.Span.{span}
use Rattle.names.specs.Names.{Indexed}
use Rattle.write.specs.Written.{over}
use Rattle.reading.specs.declared.Kind.{Kind}
use Rattle.reading.specs.Tree.{Piece, Command}
use Rattle.reading.specs.Reading.{Why, Read, reading}
use Rattle.reading.specs.Heard.{Tells}
use Rattle.levels.specs.Levels.{KeptDays}
use Rattle.script_meaning.specs.declared.Notes.{Notes}
use Rattle.script_meaning.specs.Record.{Lent, StartRoom, ScriptSound, InForm}
use Rattle.script_meaning.specs.Effect.{UNSUPPORTED, Does}
use Rattle.script_meaning.specs.Commands.{text_needs}
use Rattle.script_meaning.specs.Whole.{exits}
use Rattle.asserts.specs.Within.{Within}
use Rattle.script_moving.specs.Moving.{Movable, OrderKept}
use Rattle.script_command.specs.declared.Carried.{Carried}
use Rattle.levels.specs.declared.Row.{Row}

-- What a command reads and writes, as what is lent to a script call: no command reads or writes a watched rule, so they are idle here.
abbrev pub in_hand : Counts → List ℕ → List ℕ → List ℤ → List ℕ → List ℕ → Notes → List ℕ → List ℕ → List ℕ → Lent
in_hand counts xs ys cs days levels notes names lens out = record {
  tables = unwatched counts xs ys cs days levels;
  notes = notes;
  names = names;
  lens = lens;
  out = out;
}

-- What holds between commands: room and soundness, the chains of the rules, the days kept of the open marks, the rules in order where days are kept, the index of the names; and the
-- rules held speak of steps below e alone.
pub record Maintained (e : ℕ) (l : Lent) (heads nexts : List ℕ) (kept : List Row) (hashes name-heads name-nexts : List ℕ) : Type 0 where
  pub room : StartRoom l
  pub sound : ScriptSound l
  pub chained : LentChains l.tables.counts.steps (held_by l.tables.levels) l.tables.rules.firsts heads nexts
  pub days_kept : KeptDays (rules_of l.tables) l.tables.counts.steps l.tables.counts.marks l.tables.levels kept
  pub ordered : OrderKept l.tables.counts.rules l.tables.levels kept
  pub indexed : Indexed l.notes.names l.names l.lens hashes name-heads name-nexts
  pub within : Within e l.tables.counts l.tables.levels l.tables.rules

-- What is in a text that begins with the command of kind c: for `declare-fun` the ends of a name that is short, and there is a place for it.
abbrev pub Declarable : Kind → List ℕ → ℕ → Type 0
Declarable c s n = (a b : ℕ) → c ≡ Kind.Declare a b → (a ≤ b) × ((b - a ≤ NAME_BYTES) × ((b ≤ length s) × (n + 1 ≤ STEPS)))

-- The names asked for are few, and their steps are declared.
pub record Askable (c : Kind) (n : ℕ) (column : List ℕ) : Type 0 where
  pub few : (k : ℕ) → c ≡ Kind.GetValue k → (k ≤ ASKED) × (k ≤ length column)
  pub known : (k : ℕ) → c ≡ Kind.GetValue k → (i : ℕ) → i < k → at column i < n

-- A command of this kind can be carried out on the text s.
pub record Ready (c : Kind) (s : List ℕ) (n broken e : ℕ) (rows : Columns) (counts : Counts) : Type 0 where
  pub declarable : Declarable c s n
  pub askable : Askable c n rows.firsts
  pub movable : Movable c broken e rows counts

-- The command c of the text s was read: its kind, its rows, and for `declare-fun` its name in the text.
pub record Heeded (c : Command) (s : List ℕ) (n : ℕ) (names lens : List ℕ) (kind : Kind) (rows : Columns) : Type 0 where
  pub tells : Tells n names lens c kind DONE rows
  pub name_there : (w : Piece) → c ≡ Command.declare w → bytes s w.place (w.place + length w.letters) ≡ w.letters
  pub name_fine : (w : Piece) → c ≡ Command.declare w → InForm w.letters

-- What became of a text whose reading stopped: `unsupported` is printed from place k on, where it begins with a command whose brackets close; else SYNTAX or SIZE, and nothing is written.
pub record Unread (s : List ℕ) (k : ℕ) (counts : Counts) (notes : Notes) (out : List ℕ) (r : Carried) (out' : List ℕ) : Type 0 where
  pub first_unmet : (l : Lent) → First (text_needs s l) r.number
  pub unsupported : r.number ≡ DONE → (i : ℕ) × (reading s ≡ Read.stop Why.other i)
  pub printed : r.number ≡ DONE → (out' ≡ over out k UNSUPPORTED) × ((r.written ≡ length UNSUPPORTED) × ((r.read ≡ span s) × (r.ended ≡ false)))
  pub nothing : (r.number ≡ DONE → ⊥) → (out' ≡ out) × ((r.written ≡ 0) × (r.read ≡ 0))
  pub stays : (r.counts ≡ counts) × (r.notes ≡ notes)

-- The text s was read, judged and carried out, printing from place k on: the number is that of the first need not met; where all are met it did what it does and the bytes
-- read are those of its command, else nothing changed.
pub record Carries (s : List ℕ) (k : ℕ) (before : Lent) (r : Carried) (after : Lent) : Type 0 where
  pub first_unmet : First (text_needs s before) r.number
  pub when_done : r.number ≡ DONE → Does (reading s) k before r.written after
  pub when_refused : (r.number ≡ DONE → ⊥) → (after ≡ before) × ((r.written ≡ 0) × (r.read ≡ 0))
  pub ends : r.number ≡ DONE → r.ended ≡ exits (reading s)
  pub bytes_read : r.number ≡ DONE → r.read ≡ span s
