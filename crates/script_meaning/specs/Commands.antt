-- The two library calls of scripts, start and command: what each needs, in order, and what it gives and leaves.
use Rattle.std.specs.Prelude.{ℕ, ◌+◌, ◌≤◌, ◌<◌, ◌≡◌, true, false, List, [], ◌∷◌, ◌++◌, length}
use Rattle.meaning.specs.Bounds.{STEPS, RULES, MARKS, SHORT, DAMAGED, FULL, NOMARK, SYNTAX, MODE, SIZE}
use Rattle.meaning.specs.Tables.{Tables}
use Rattle.meaning.specs.Promise.{Meaning, Need, needs, no_conflict}
use Rattle.meaning.specs.Calls.{Opened}
use Rattle.span.specs.Span.{span}
use Rattle.reading.specs.Tree.{said_by, rules_of_term, Command}
use Rattle.reading.specs.Reading.{Why, Read, reading}
use Rattle.reading.specs.Saying.{said_needs}
use Rattle.script_meaning.specs.Record.{Lent, StartRoom, ScriptRoom, ScriptSound, Known, no_notes}
use Rattle.script_meaning.specs.Effect.{Does}

-- Where a command may stand: the logic is set, for `set-logic` not yet; `get_value` only after a `sat`; `exit` anywhere.
abbrev pub mode_needs : Command → Lent → List Need
mode_needs Command.set_logic l = needs MODE (l.notes.logic ≡ false) ∷ []
mode_needs Command.check_sat l = needs MODE (l.notes.logic ≡ true) ∷ []
mode_needs Command.exit l = []
mode_needs (Command.declare w) l = needs MODE (l.notes.logic ≡ true) ∷ []
mode_needs (Command.assert t) l = needs MODE (l.notes.logic ≡ true) ∷ []
mode_needs (Command.push n) l = needs MODE (l.notes.logic ≡ true) ∷ []
mode_needs (Command.pop n) l = needs MODE (l.notes.logic ≡ true) ∷ []
mode_needs (Command.get_value ws) l = needs MODE (l.notes.logic ≡ true) ∷ needs MODE (l.notes.sat ≡ true) ∷ []

-- The places that it takes, or the levels that it closes. A term's rules need places only while no level counts as contradictory.
abbrev pub room_needs : Command → Lent → List Need
room_needs Command.set_logic l = []
room_needs Command.check_sat l = []
room_needs Command.exit l = []
room_needs (Command.declare w) l = needs FULL (l.notes.names < STEPS) ∷ []
room_needs (Command.assert t) l = needs FULL (l.notes.broken ≡ 0 → l.tables.counts.rules + length (rules_of_term false t) ≤ RULES) ∷ []
room_needs (Command.push n) l = needs FULL (l.tables.counts.marks + said_by n ≤ MARKS) ∷ []
room_needs (Command.pop n) l = needs NOMARK (said_by n ≤ l.tables.counts.marks) ∷ []
room_needs (Command.get_value ws) l = []

-- What a command needs: MODE; then NAME and AMOUNT; then FULL, for `pop` NOMARK.
abbrev pub command_needs : Command → Lent → List Need
command_needs c l = mode_needs c l ++ (said_needs (Known l) c ++ room_needs c l)

-- What a text needs that was read as r: what its command needs; nothing where it is unsupported. A departure from the form is SYNTAX, a size fault SIZE.
abbrev pub read_needs : Read Command → Lent → List Need
read_needs (Read.got c e) l = command_needs c l
read_needs (Read.stop Why.other i) l = []
read_needs (Read.stop Why.wrong i) l = needs SYNTAX ⊥ ∷ []
read_needs (Read.stop Why.size i) l = needs SIZE ⊥ ∷ []

-- What a text needs: first that it begins with a command, whose brackets close and whose pieces are tokens.
abbrev pub text_needs : List ℕ → Lent → List Need
text_needs text l = needs SYNTAX (1 ≤ span text) ∷ read_needs (reading text) l

-- **Command**: one command is carried out, on the text from its opening bracket on. It gives the bytes read and the bytes written.
pub record Commanded (text : List ℕ) (before : Lent) (a b : ℕ) (after : Lent) : Type 0 where
  pub bytes_read : a ≡ span text
  pub done : Does (reading text) 0 before b after

abbrev pub command_meaning : List ℕ → Lent → Meaning Lent
command_meaning text before = record {
  asks = needs SHORT (ScriptRoom 0 before) ∷ needs DAMAGED (ScriptSound before) ∷ text_needs text before;
  done = Commanded text before;
  conflict = no_conflict;
}

-- **Start**: the tables are opened with STEPS steps, and the script's record is emptied.
pub record Started (before : Lent) (a b : ℕ) (after : Lent) : Type 0 where
  pub opened : Opened STEPS before.tables a b after.tables
  pub emptied : after.notes ≡ no_notes
  pub names_stay : after.names ≡ before.names
  pub lens_stay : after.lens ≡ before.lens
  pub out_stays : after.out ≡ before.out

abbrev pub start_meaning : Lent → Meaning Lent
start_meaning before = record {
  asks = needs SHORT (StartRoom before) ∷ [];
  done = Started before;
  conflict = no_conflict;
}
