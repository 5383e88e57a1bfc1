-- `inner_back::bring` meets its contract. The loop's invariant: each day passed is brought, the others are as before, and the latest is the last of those
-- passed.
use Prim.Native.Nat.{◌≤◌}
use mathlib.Core.Path.{◌≡◌}
use Rattle.meaning.specs.Rules.{largest}
use Rattle.meaning.specs.Tables.{at}
use Rattle.inner_back.specs.Replan.{Brought}
use Rattle.inner_back.proofs.bring.Given as goal

abbrev pub invariant-loop-v : goal.invariant-loop-v
invariant-loop-v l = (l.v ≤ l.n) × Brought l.v l.k l.gains l.initial.days l.days × (l.latest ≡ largest l.v (at l.days))
