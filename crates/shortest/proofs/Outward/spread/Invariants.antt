-- The rules of v from the link on have been met. The measure is the link.
use Prim.Native.Nat.{◌≤◌}
use lib.ListN.{length}
use Rattle.chains.proofs.Walk.{Link}
use Rattle.shortest.specs.Clauses.{on}
use Rattle.shortest.proofs.Deepening.{Walking}
use Rattle.shortest.proofs.Outward.spread.Given as goal

abbrev pub invariant-loop-link : goal.invariant-loop-link
invariant-loop-link l =
    (l.self.steps ≤ length l.depths) × Link (on l.self.held) l.self.held.rules.xs.now l.v l.link × Walking l.self.held l.self.lack l.level l.v l.link l.initial.depths l.depths

abbrev pub decreases-loop-link : goal.decreases-loop-link
decreases-loop-link l = l.link
