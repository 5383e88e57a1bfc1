-- `yard::write_row` meets its contract. The loop's invariant: the cells passed are those of their slacks, and the others are as before.
use mathlib.Core.Path.{◌≡◌}
use lib.IntN.{pos}
use Rattle.meaning.specs.Tables.{at}
use Rattle.yard.specs.Cells.{limit}
use Rattle.yard.specs.Tables.{Made}
use Rattle.yard.proofs.write_row.Given as goal

abbrev pub invariant-loop-y : goal.invariant-loop-y
invariant-loop-y l = Made (pos 0) (λ k z. z ≡ limit (at l.row k) l.dx (at l.days k)) l.y l.initial.cell-items l.cell-items
