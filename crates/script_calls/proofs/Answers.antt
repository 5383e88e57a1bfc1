-- The parts of the test put together.
use Prim.Native.Nat.{ℕ, ◌≤◌}
use mathlib.Core.List.{List}
use Rattle.names.specs.Names.{Shelved}
use Rattle.script_calls.specs.Testing.{NamesRoom, NamesFine, RecordFine}
use Rattle.script_meaning.specs.Record.{Lent, ScriptSound}
use Rattle.meaning.specs.Tables.{Sound}
use Rattle.meaning.specs.Bounds.{STEPS}

-- Fine names stand on their shelf.
pub shelved : (n : ℕ) (names lens : List ℕ) → NamesRoom names lens → n ≤ STEPS → NamesFine n names lens → Shelved n names lens
shelved n names lens room le fine = record { names_room = room.names_room; lens_room = room.lens_room; names_in = le; short_names = λ k h. (fine k h).short }

-- Sound tables and a fine record are sound together, and the record is fine where they are.
pub script_sound : (l : Lent) → Sound l.tables → RecordFine l.tables.counts l.notes l.names l.lens → ScriptSound l
script_sound l s f = record {
  tables_sound = s;
  all_steps = f.notes_fine.all_steps;
  names_in = f.notes_fine.names_in;
  names_short = λ k h. (f.names_fine k h).short;
  names_in_form = λ k h. (f.names_fine k h).in_form;
  names_different = f.different;
  level_open = f.notes_fine.level_open;
  no_sat = f.notes_fine.no_sat;
}

pub record_fine_of : (l : Lent) → ScriptSound l → RecordFine l.tables.counts l.notes l.names l.lens
record_fine_of l h = record {
  notes_fine = record { all_steps = h.all_steps; names_in = h.names_in; level_open = h.level_open; no_sat = h.no_sat };
  names_fine = λ k i. record { short = h.names_short k i; in_form = h.names_in_form k i };
  different = h.names_different;
}
