-- `yard::raise_row` meets its contract. The loop's invariant: the cells passed are the smaller of what they were and the way, and the others are as before.
use lib.ListN.{get_or}
use lib.IntN.{pos}
use Rattle.gaps.specs.Slacks.{SmallerOf}
use Rattle.yard.specs.Tables.{Made}
use Rattle.yard.proofs.raise_row.Given as goal

abbrev pub invariant-loop-j : goal.invariant-loop-j
invariant-loop-j l =
    Made (pos 0) (λ k z. SmallerOf (get_or l.initial.cell-items k (pos 0)) l.p l.c (get_or l.via k (pos 0)) z) l.j l.initial.cell-items l.cell-items
