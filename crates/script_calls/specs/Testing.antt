-- The parts of the test of a script's record.
use Rattle.std.specs.Prelude.{ℕ, ◌+◌, ◌*◌, ◌≤◌, ◌<◌, ◌≡◌, Bool, true, false, List, length}
use Rattle.meaning.specs.declared.Counts.{Counts}
use Rattle.meaning.specs.Bounds.{STEPS, NAME_BYTES, DONE, CONFLICT}
use Rattle.meaning.specs.Promise.{First}
use Rattle.chains.specs.Chains.{LentChains}
use Rattle.script_meaning.specs.Commands.{command_meaning}
use Rattle.meaning.specs.Tables.{at}
use Rattle.lent.specs.Lent.{held_by}
use Rattle.lent.specs.Decides.{Decides}
use Rattle.names.specs.Names.{name_at, AllDifferent, Indexed}
use Rattle.script_meaning.specs.declared.Notes.{Notes}
use Rattle.script_meaning.specs.Record.{Lent, InForm, ScriptRoom, ScriptSound}

-- The tables of the names have room.
pub record NamesRoom (names lens : List ℕ) : Type 0 where
  pub names_room : NAME_BYTES * STEPS ≤ length names
  pub lens_room : STEPS ≤ length lens

-- The name under number k has no more bytes than its places, and is in form.
pub record NameFine (names lens : List ℕ) (k : ℕ) : Type 0 where
  pub short : at lens k ≤ NAME_BYTES
  pub in_form : InForm (name_at names lens k)

-- The first n names are fine.
abbrev pub NamesFine : ℕ → List ℕ → List ℕ → Type 0
NamesFine n names lens = (k : ℕ) → k < n → NameFine names lens k

-- What a sound record needs of the counts and the notes alone.
pub record NotesFine (counts : Counts) (notes : Notes) : Type 0 where
  pub all_steps : counts.steps ≡ STEPS
  pub names_in : notes.names ≤ STEPS
  pub level_open : notes.broken ≤ counts.marks + 1
  pub no_sat : (notes.broken ≡ 0 → ⊥) → notes.sat ≡ false

-- All that a sound record needs beyond sound tables.
pub record RecordFine (counts : Counts) (notes : Notes) (names lens : List ℕ) : Type 0 where
  pub notes_fine : NotesFine counts notes
  pub names_fine : NamesFine notes.names names lens
  pub different : AllDifferent notes.names names lens

-- The answer r says whether the record is sound beyond the tables; where it is, the lists hold the index of its names.
pub record RecordTested (counts : Counts) (notes : Notes) (names lens : List ℕ) (r : Bool) (hashes heads nexts : List ℕ) : Type 0 where
  pub decides : Decides r (RecordFine counts notes names lens)
  pub indexed : r ≡ true → Indexed notes.names names lens hashes heads nexts

-- What the test of sound tables and a sound record leaves beside them: the chains of the rules held, and the index of the names.
pub record Stands (l : Lent) (heads nexts hashes name-heads name-nexts : List ℕ) : Type 0 where
  pub sound : ScriptSound l
  pub chained : LentChains l.tables.counts.steps (held_by l.tables.levels) l.tables.rules.firsts heads nexts
  pub indexed : Indexed l.notes.names l.names l.lens hashes name-heads name-nexts

-- The answer r says whether tables and record are sound.
pub record StandTested (l : Lent) (r : Bool) (heads nexts hashes name-heads name-nexts : List ℕ) : Type 0 where
  pub decides : Decides r (ScriptSound l)
  pub stands : r ≡ true → Stands l heads nexts hashes name-heads name-nexts

-- The number is that of the first refusal before those of the text, and DONE where there is none.
pub record Entered (l : Lent) (number : ℕ) (heads nexts hashes name-heads name-nexts : List ℕ) : Type 0 where
  pub refused : (number ≡ DONE → ⊥) → (text : List ℕ) → First (command_meaning text l).asks number
  pub never_conflict : number ≡ CONFLICT → ⊥
  pub room : number ≡ DONE → ScriptRoom 0 l
  pub stands : number ≡ DONE → Stands l heads nexts hashes name-heads name-nexts
