-- The script's record as C lends it, whose flags are numbers, and what the script calls mean over it.
use Rattle.std.specs.Prelude.{ℕ, ◌≤◌, ◌<◌, ◌≡◌, List, ◌∷◌, ◌⊎◌, eqb, ℤ}
use Rattle.meaning.specs.declared.Counts.{Counts}
use Rattle.meaning.specs.Bounds.{STEPS, DONE, SHORT, DAMAGED}
use Rattle.meaning.specs.Tables.{Tables}
use Rattle.meaning.specs.Promise.{Meaning, needs, no_conflict}
use Rattle.lent.specs.Lent.{tables}
use Rattle.script_meaning.specs.declared.Notes.{Notes}
use Rattle.script_meaning.specs.Record.{Lent, ScriptRoom, ScriptSound}
use Rattle.script_meaning.specs.Commands.{text_needs, start_meaning, command_meaning}
use Rattle.export_record.specs.declared.Record.{Record}

-- Each flag is 0 or 1.
pub record FlagsFit (r : Record) : Type 0 where
  pub logic_fits : r.logic ≤ 1
  pub sat_fits : r.sat ≤ 1

-- What the record says: a flag is set where it is 1.
abbrev pub notes_of : Record → Notes
notes_of r = record { names = r.names; logic = eqb r.logic 1; broken = r.broken; sat = eqb r.sat 1 }

-- All that C lends to a script call.
pub record LentByC : Type 0 where
  pub tables : Tables
  pub kept : Record
  pub names : List ℕ
  pub lens : List ℕ
  pub out : List ℕ

-- The same, with what the record says in place of the record.
abbrev pub seen : LentByC → Lent
seen l = record { tables = l.tables; notes = notes_of l.kept; names = l.names; lens = l.lens; out = l.out }

-- Carried out over the record: P holds of what is seen after it, and the flags fit.
pub record Fitting (P : ℕ → ℕ → Lent → Type 0) (a b : ℕ) (after : LentByC) : Type 0 where
  pub as_meant : P a b (seen after)
  pub flags_fit : FlagsFit after.kept

-- **Start** over the record: any record will do, and it is emptied.
abbrev pub start_by_c : LentByC → Meaning LentByC
start_by_c before = record {
  asks = (start_meaning (seen before)).asks;
  done = Fitting (start_meaning (seen before)).done;
  conflict = no_conflict;
}

-- **Command** over the record: it is DAMAGED too where a flag is neither 0 nor 1.
abbrev pub command_by_c : List ℕ → LentByC → Meaning LentByC
command_by_c text before = record {
  asks = needs SHORT (ScriptRoom 0 (seen before)) ∷ needs DAMAGED (FlagsFit before.kept × ScriptSound (seen before)) ∷ text_needs text (seen before);
  done = Fitting (command_meaning text (seen before)).done;
  conflict = no_conflict;
}

-- The lists and the record that C lends.
abbrev pub lent_by_c : Counts → List ℕ → List ℕ → List ℤ → List ℕ → List ℕ → List ℕ → List ℕ → List ℤ → Record → List ℕ → List ℕ → List ℕ → LentByC
lent_by_c counts xs ys cs days levels wxs wys wcs kept names lens out =
    record { tables = tables counts xs ys cs days levels wxs wys wcs; kept = kept; names = names; lens = lens; out = out }

-- The notes that a command is handed for a record: what it says where its flags fit, else more names than there may be, which no sound record has.
abbrev pub Handed : Record → Notes → Type 0
Handed r n = (FlagsFit r × (n ≡ notes_of r)) ⊎ ((FlagsFit r → ⊥) × (STEPS < n.names))

-- The record after a call: it says the notes, its flags fitting, where the call was carried out, else it is as it was.
pub record Brought (number : ℕ) (notes : Notes) (before after : Record) : Type 0 where
  pub when_done : number ≡ DONE → FlagsFit after × (notes_of after ≡ notes)
  pub when_refused : (number ≡ DONE → ⊥) → after ≡ before
