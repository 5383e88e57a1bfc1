-- The steps passed of that level have spread. The measure is what is left of the steps.
use Prim.Native.Nat.{◌-◌, ◌≤◌}
use mathlib.Core.Path.{◌≡◌}
use lib.ListN.{length}
use Rattle.shortest.proofs.Deepening.{Widening}
use Rattle.shortest.proofs.Outward.widen.Given as goal

abbrev pub invariant-loop-v : goal.invariant-loop-v
invariant-loop-v l =
    (length l.depths ≡ l.self.steps) × (l.from ≤ l.self.steps) × Widening l.self.held l.self.lack l.level l.from l.initial.depths l.depths

abbrev pub decreases-loop-v : goal.decreases-loop-v
decreases-loop-v l = l.self.steps - l.from
