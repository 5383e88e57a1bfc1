-- `yard::raise` meets its contract. The loop's invariant: the rows passed have the ways over the rule, and the others are as before.
use mathlib.Core.List.{[]}
use Rattle.yard.specs.Tables.{Made}
use Rattle.yard.proofs.Results.{RaisedRow}
use Rattle.yard.proofs.raise.Given as goal

abbrev pub invariant-loop-row : goal.invariant-loop-row
invariant-loop-row l = Made [] (RaisedRow l.n l.x l.c l.via l.initial.row-items) l.row-index l.initial.row-items l.row-items
