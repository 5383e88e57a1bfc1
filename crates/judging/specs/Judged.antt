-- What judging a command came to.
use Rattle.std.specs.Prelude.{ℕ, ◌≡◌, List}
use Rattle.meaning.specs.declared.Counts.{Counts}
use Rattle.meaning.specs.Promise.{Need, First}
use Rattle.reading.specs.declared.Kind.{Kind}
use Rattle.reading.specs.Tree.{Command}
use Rattle.reading.specs.Heard.{kind_of}
use Rattle.script_meaning.specs.declared.Notes.{Notes}
use Rattle.script_meaning.specs.Record.{Lent}

-- The number is that of the first need not met of every command of this kind, for whatever is lent with these counts and this record.
abbrev pub Judges : (Command → Lent → List Need) → Kind → Counts → Notes → ℕ → Type 0
Judges needs-of kind counts notes g =
    (c : Command) (l : Lent) → kind ≡ kind_of c → l.tables.counts ≡ counts → l.notes ≡ notes → First (needs-of c l) g
