-- The rules of the chain of u from the link on have lowered the layer. The measure is the link.
use Prim.Native.Nat.{◌≤◌}
use lib.ListN.{length}
use Rattle.chains.proofs.Walk.{Link}
use Rattle.shortest.specs.Clauses.{on}
use Rattle.shortest.proofs.Following.{Walked}
use Rattle.shortest.proofs.Search.pass.Given as goal

abbrev pub invariant-loop-link : goal.invariant-loop-link
invariant-loop-link l =
    (l.self.steps ≤ length l.layer) × Link (on l.self.held) l.self.held.rules.ys.now l.u l.link × Walked l.self l.limit l.u l.link l.before l.initial.layer l.layer

abbrev pub decreases-loop-link : goal.decreases-loop-link
decreases-loop-link l = l.link
