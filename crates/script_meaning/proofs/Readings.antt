-- What is known of a command that was read from a text: the name that it declares is in form.
use mathlib.Core.Path.{◌≡◌}
use mathlib.Core.List.{List}
use Prim.Native.Nat.{ℕ}
use Rattle.reading.specs.Tree.{Piece, Command}
use Rattle.reading.specs.Reading.{Read, reading}
use Rattle.reading.proofs.Begun.{declared_new}
use Rattle.script_meaning.specs.Record.{InForm}

pub declared_in_form : (s : List ℕ) (w : Piece) (e : ℕ) → reading s ≡ Read.got (Command.declare w) e → InForm w.letters
declared_in_form s w e is = let n = declared_new s w e is in record { symbol = n.symbol; not_reserved = n.not_reserved; short = n.short }
