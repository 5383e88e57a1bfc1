-- `inner_add::write_days`: what is written and counted so far is a `Raised`, one step more each turn.
use Prim.Native.Nat.{◌≤◌}
use Rattle.inner_add.specs.Planning.{Raised}
use Rattle.inner_add.proofs.write_days.Given as goal

abbrev pub invariant-loop-v : goal.invariant-loop-v
invariant-loop-v l = (l.v ≤ l.n) × (l.count ≤ l.v) × Raised l.v l.days l.gains l.initial.list l.list l.count
