-- What is asserted after a sequence of script commands, from their text alone; when it is satisfiable, in the standard's meaning of terms; and its earliest plan.
use Rattle.std.specs.Prelude.{ℕ, zero, suc, ◌≤◌, ◌≡◌, List, [], ◌∷◌, drop, ℤ, pos}
use Rattle.meaning.specs.Bounds.{DONE}
use Rattle.meaning.specs.Tables.{Tables}
use Rattle.meaning.specs.Promise.{Given, First}
use Rattle.meaning.specs.Runs.{Call, Made}
use Rattle.reading.specs.Tree.{said_by, Term, Command}
use Rattle.reading.specs.Reading.{Read, reading}
use Rattle.script_meaning.specs.Record.{Lent}
use Rattle.script_meaning.specs.Effect.{Does}
use Rattle.script_meaning.specs.Commands.{text_needs}
use Rattle.script_meaning.specs.Terms.{Holds}
use Rattle.script_meaning.specs.Whole.{Fresh}
use Rattle.script_meaning.specs.Mixed.{on_tables}

-- The asserted terms that are in force, by level, the newest level first.
abbrev pub History : Type 0
History = List (List Term)

-- At the start there is one level, and nothing is asserted.
abbrev pub nothing_asserted : History
nothing_asserted = [] ∷ []

-- One term more on the newest level.
abbrev pub with_term : Term → History → History
with_term t [] = (t ∷ []) ∷ []
with_term t (l ∷ h) = (t ∷ l) ∷ h

-- n empty levels more.
abbrev pub with_levels : ℕ → History → History
with_levels zero h = h
with_levels (suc n) h = [] ∷ with_levels n h

-- What is asserted after a text that was read as r and is carried out: the term of an assertion is asserted, whatever is asserted already; `push` puts empty levels on, `pop` takes
-- the newest levels off, and nothing else asserts or forgets anything.
abbrev pub follows : Read Command → History → History
follows (Read.got Command.set_logic e) h = h
follows (Read.got Command.check_sat e) h = h
follows (Read.got Command.exit e) h = h
follows (Read.got (Command.declare w) e) h = h
follows (Read.got (Command.assert t) e) h = with_term t h
follows (Read.got (Command.push n) e) h = with_levels (said_by n) h
follows (Read.got (Command.pop n) e) h = drop (said_by n) h
follows (Read.got (Command.get_value ws) e) h = h
follows (Read.stop w i) h = h

-- Every term of the list holds under the days d, which gives each name its day; every term of every level.
abbrev pub AllHold : (List ℕ → ℤ) → List Term → Type 0
AllHold d [] = Unit {0}
AllHold d (t ∷ l) = Holds t d × AllHold d l

abbrev pub Agrees : (List ℕ → ℤ) → History → Type 0
Agrees d [] = Unit {0}
Agrees d (l ∷ h) = AllHold d l × Agrees d h

-- Under some days all that is asserted holds.
pub record Satisfiable (h : History) : Type 0 where
  pub days : List ℕ → ℤ
  pub agrees : Agrees days h

-- The earliest plan of what is asserted: all of it holds, no day is below 0, and no name has a later day than under any other such days.
pub record Soonest (h : History) (p : List ℕ → ℕ) : Type 0 where
  pub agrees : Agrees (λ w. pos (p w)) h
  pub no_later : (q : List ℕ → ℕ) → Agrees (λ w. pos (q w)) h → (w : List ℕ) → p w ≤ q w

-- A call that changes no rule, mark or step: Watch, Trial, Consequences, Ring check and Last day, and the others where they are not carried out.
abbrev pub Quiet : Call → Given → Type 0
Quiet (Call.opens n) g = g.number ≡ DONE → ⊥
Quiet (Call.watches r) g = Unit {0}
Quiet (Call.adds r l m) g = g.number ≡ DONE → ⊥
Quiet Call.marks g = g.number ≡ DONE → ⊥
Quiet Call.goes_back g = g.number ≡ DONE → ⊥
Quiet (Call.withdraws i) g = g.number ≡ DONE → ⊥
Quiet (Call.tries r l m n o) g = Unit {0}
Quiet (Call.asks_consequences l m n o) g = Unit {0}
Quiet (Call.checks_ring r l m) g = Unit {0}
Quiet Call.asks_last_day g = Unit {0}

-- The same lent, with other bytes for the answers.
abbrev pub with_out : List ℕ → Lent → Lent
with_out out l = record { tables = l.tables; notes = l.notes; names = l.names; lens = l.lens; out = out }

-- What is lent comes from a start and then commands that were carried out, after which h is asserted. A refused command changes nothing, so it leaves no trace. In
-- between there may be quiet calls, and other bytes may be lent for the answers.
pub data Traced : Lent → History → Type 0 where
  fresh : (l : Lent) → Fresh l → Traced l nothing_asserted
  carried_out :
      (l : Lent) (h : History) → Traced l h → (text : List ℕ) (k w : ℕ) (m : Lent) → First (text_needs text l) DONE → Does (reading text) k l w m →
      Traced m (follows (reading text) h)
  quiet_call : (l : Lent) (h : History) → Traced l h → (c : Call) (g : Given) (t : Tables) → Made c l.tables g t → Quiet c g → Traced (on_tables t l) h
  other_bytes : (l : Lent) (h : History) → Traced l h → (out : List ℕ) → Traced (with_out out l) h
