-- Sequences of calls over what C lends, script calls among the others: each keeps its promise, and nobody touches what is lent in between.
use Rattle.meaning.specs.Tables.{Tables}
use Rattle.meaning.specs.Promise.{Obeys}
use Rattle.script_meaning.specs.Mixed.{MixedOf}
use Rattle.export_record.specs.Records.{LentByC, start_by_c, command_by_c}

-- What C lends, with other tables.
abbrev pub on_tables : Tables → LentByC → LentByC
on_tables t l = record { tables = t; kept = l.kept; names = l.names; lens = l.lens; out = l.out }

-- What C lends comes from a sequence of calls, as `MixedOf` says.
abbrev pub MixedByC : LentByC → Type 0
MixedByC = MixedOf (λ l. l.tables) on_tables (λ l. Obeys (start_by_c l) l) (λ text l. Obeys (command_by_c text l) l)
