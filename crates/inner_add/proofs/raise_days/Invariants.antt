-- `inner_add::raise_days`: what is raised and counted so far is a `Raised`, and the latest is the last of the days passed, one step more each turn.
use Prim.Native.Nat.{◌≤◌}
use mathlib.Core.Path.{◌≡◌}
use Rattle.meaning.specs.Rules.{largest}
use Rattle.meaning.specs.Tables.{at}
use Rattle.inner_add.specs.Planning.{Raised}
use Rattle.inner_add.proofs.raise_days.Given as goal

abbrev pub invariant-loop-v : goal.invariant-loop-v
invariant-loop-v l = (l.v ≤ l.n) × (l.count ≤ l.v) × Raised l.v l.initial.days l.gains l.initial.days l.days l.count × (l.latest ≡ largest l.v (at l.days))
