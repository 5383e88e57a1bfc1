-- `yard::make_slacks` meets its contract. The loop's invariant: the rows passed have the slacks of the least amounts, and the others are as before.
use mathlib.Core.List.{[]}
use lib.ListN.{get_or}
use Rattle.yard.specs.Tables.{Made, RowSlack}
use Rattle.yard.proofs.make_slacks.Given as goal

abbrev pub invariant-loop-x : goal.invariant-loop-x
invariant-loop-x l = Made [] (λ i row. RowSlack i l.days (get_or l.initial.square i []) row) l.x l.initial.square l.square
