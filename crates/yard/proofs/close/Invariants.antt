-- `yard::close` meets its contract. The outer loop's invariant: the cells have the stages of the steps passed, and none is above NONE; the inner loop's: the
-- rows passed have the ways over the step, and the others are as they were.
use mathlib.Core.List.{[]}
use Rattle.yard.specs.Tables.{Made}
use Rattle.yard.proofs.Staging.{Staged, Stages}
use Rattle.yard.proofs.close.Given as goal

abbrev pub invariant-loop-row : goal.invariant-loop-row
invariant-loop-row l = Made [] (Staged l.k l.via l.initial.row-items) l.row-index l.initial.row-items l.row-items

abbrev pub invariant-loop-k : goal.invariant-loop-k
invariant-loop-k l = Stages l.n l.k l.initial.square l.square
