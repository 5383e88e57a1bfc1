-- `inner_back::ask` meets its contract. The loop's invariant: each step passed has the gain that brings its day to k.
use Prim.Native.Nat.{◌≤◌}
use mathlib.Core.Path.{◌≡◌}
use lib.ListN.{length}
use Rattle.inner_back.specs.Replan.{Reaches}
use Rattle.inner_back.proofs.ask.Given as goal

abbrev pub invariant-loop-v : goal.invariant-loop-v
invariant-loop-v l = (length l.gains ≡ length l.initial.gains) × (l.v ≤ l.n) × Reaches l.v l.k l.days l.gains
