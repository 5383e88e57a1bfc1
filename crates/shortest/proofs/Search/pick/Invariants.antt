-- No rule below the place fits. The measure is what is left of the places.
use Prim.Native.Nat.{◌-◌, ◌≤◌}
use Rattle.meaning.specs.Bounds.{RULES}
use Rattle.shortest.proofs.Sparing.{NonePassed}
use Rattle.shortest.proofs.Search.pick.Given as goal

abbrev pub invariant-loop-firsts : goal.invariant-loop-firsts
invariant-loop-firsts l = (l.from ≤ RULES) × NonePassed l.self l.v l.bound l.layer l.from

abbrev pub decreases-loop-firsts : goal.decreases-loop-firsts
decreases-loop-firsts l = RULES - l.from
