-- The script's record, all that is lent to a script call, and when it is sound.
use Rattle.std.specs.Prelude.{ℕ, ◌+◌, ◌*◌, ◌≤◌, ◌<◌, ◌≡◌, Bool, true, false, List, length, ℤ}
use Rattle.meaning.specs.declared.Counts.{Counts}
use Rattle.meaning.specs.Bounds.{STEPS, NAME_BYTES, ROOM}
use Rattle.meaning.specs.Tables.{Tables, Room, Sound, at}
use Rattle.lent.specs.Lent.{tables}
use Rattle.text.specs.Lexicon.{SYMBOL, tok, token_at}
use Rattle.words.specs.Words.{reserved}
use Rattle.names.specs.Names.{name_at, AllDifferent}
use Rattle.reading.specs.Saying.{step_in, KnownIn}
use Rattle.script_meaning.specs.declared.Notes.{Notes}

-- The empty record.
abbrev pub no_notes : Notes
no_notes = record { names = 0; logic = false; broken = 0; sat = false }

-- All that is lent to a script call: the office tables, the record, the declared names with their lengths, and the bytes for the answer.
pub record Lent : Type 0 where
  pub tables : Tables
  pub notes : Notes
  pub names : List ℕ
  pub lens : List ℕ
  pub out : List ℕ

-- It, from its lists.
abbrev pub lent : Counts → List ℕ → List ℕ → List ℤ → List ℕ → List ℕ → List ℕ → List ℕ → List ℤ → Notes → List ℕ → List ℕ → List ℕ → Lent
lent counts xs ys cs days levels wxs wys wcs notes names lens out = record {
  tables = tables counts xs ys cs days levels wxs wys wcs;
  notes = notes;
  names = names;
  lens = lens;
  out = out;
}

-- The tables have room, those of the names too.
pub record StartRoom (l : Lent) : Type 0 where
  pub tables_room : Room l.tables
  pub names_room : NAME_BYTES * STEPS ≤ length l.names
  pub lens_room : STEPS ≤ length l.lens

-- Everything has room, the answer from place k on.
pub record ScriptRoom (k : ℕ) (l : Lent) : Type 0 where
  pub start_room : StartRoom l
  pub out_room : k + ROOM ≤ length l.out

-- A name is in form: a simple symbol of at most NAME-BYTES bytes that is no reserved word.
pub record InForm (w : List ℕ) : Type 0 where
  pub symbol : token_at w 0 ≡ tok SYMBOL 0 (length w)
  pub not_reserved : reserved w ≡ false
  pub short : length w ≤ NAME_BYTES

-- The name under number k of what is lent.
abbrev pub name_of : Lent → ℕ → List ℕ
name_of l k = name_at l.names l.lens k

-- The tables and the record are sound: sound tables of STEPS steps, at most as many names, all different and in form, a contradictory level no deeper than
-- the marks open, and with one no `sat` remembered.
pub record ScriptSound (l : Lent) : Type 0 where
  pub tables_sound : Sound l.tables
  pub all_steps : l.tables.counts.steps ≡ STEPS
  pub names_in : l.notes.names ≤ STEPS
  pub names_short : (k : ℕ) → k < l.notes.names → at l.lens k ≤ NAME_BYTES
  pub names_in_form : (k : ℕ) → k < l.notes.names → InForm (name_of l k)
  pub names_different : AllDifferent l.notes.names l.names l.lens
  pub level_open : l.notes.broken ≤ l.tables.counts.marks + 1
  pub no_sat : (l.notes.broken ≡ 0 → ⊥) → l.notes.sat ≡ false

-- The step of a name, and whether it is declared.
abbrev pub step_of : Lent → List ℕ → ℕ
step_of l = step_in l.notes.names l.names l.lens

abbrev pub Known : Lent → List ℕ → Type 0
Known l = KnownIn l.notes.names l.names l.lens
