-- The rules to the steps passed have lowered the layer. The measure is what is left of the steps.
use Prim.Native.Nat.{◌-◌, ◌≤◌, ◌<◌}
use lib.ListN.{length}
use Rattle.meaning.specs.Tables.{at}
use Rattle.shortest.specs.Searching.{By}
use Rattle.shortest.proofs.Search.next.Given as goal

abbrev pub invariant-loop-u : goal.invariant-loop-u
invariant-loop-u l =
    (l.self.steps ≤ length l.layer) × (l.from ≤ l.self.steps) × By l.self l.limit (λ i. at l.self.held.rules.ys.now i < l.from) l.before l.layer

abbrev pub decreases-loop-u : goal.decreases-loop-u
decreases-loop-u l = l.self.steps - l.from
