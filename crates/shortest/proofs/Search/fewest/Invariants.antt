-- There is a way of fewer rules than steps, so the measure is what is left of the steps; and what is added to g next is at most one more than g.
use Prim.Native.Nat.{◌+◌, ◌-◌, ◌≤◌, ◌<◌}
use mathlib.Core.Path.{◌≡◌}
use lib.ListN.{length}
use Rattle.shortest.proofs.Search.fewest.Given as goal

abbrev pub invariant-loop-h : goal.invariant-loop-h
invariant-loop-h l = (length l.layer ≡ l.self.steps) × (length l.room ≡ l.self.steps) × (0 < l.more) × (l.more ≤ l.g + 1) × (l.g < 131072)

abbrev pub decreases-loop-h : goal.decreases-loop-h
decreases-loop-h l = l.self.steps - l.g
