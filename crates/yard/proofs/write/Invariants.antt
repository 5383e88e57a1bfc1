-- `yard::write` meets its contract. The loop's invariant: the rows passed are those of their slacks, and the others are as before.
use mathlib.Core.Path.{◌≡◌}
use mathlib.Core.List.{[]}
use lib.ListN.{get_or}
use lib.IntN.{pos}
use Rattle.meaning.specs.Tables.{at}
use Rattle.yard.specs.Cells.{limit}
use Rattle.yard.specs.Squares.{way}
use Rattle.yard.specs.Tables.{Made}
use Rattle.yard.proofs.write.Given as goal

abbrev pub invariant-loop-x : goal.invariant-loop-x
invariant-loop-x l =
    Made [] (λ i row. Made (pos 0) (λ y z. z ≡ limit (way l.square i y) (at l.days i) (at l.days y)) l.n (get_or l.initial.cells-items i []) row) l.x l.initial.cells-items l.cells-items
