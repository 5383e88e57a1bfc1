-- The depths passed are settled, the others as they were.
use mathlib.Core.Path.{◌≡◌}
use lib.ListN.{length}
use Rattle.shortest.proofs.Deepening.{Settling}
use Rattle.shortest.proofs.settle.Given as goal

abbrev pub invariant-loop-depth : goal.invariant-loop-depth
invariant-loop-depth l = (length l.depths ≡ length l.initial.depths) × Settling l.depth-index l.level l.initial.depths l.depths
