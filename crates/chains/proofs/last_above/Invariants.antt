-- `chains::last_above` meets its contract. The loop's invariant: k is a rule of the chain above i, and the link is its next. The measure is k, which falls along the chain.
use Prim.Native.Nat.{◌<◌}
use mathlib.Core.Path.{◌≡◌}
use Rattle.meaning.specs.Tables.{at}
use Rattle.chains.specs.Chains.{linked}
use Rattle.chains.proofs.last_above.Given as goal

abbrev pub invariant-loop-link : goal.invariant-loop-link
invariant-loop-link l = linked l.nexts l.k × (at l.xs l.k ≡ at l.xs l.j) × (l.i < l.k) × (l.link ≡ at l.nexts l.k)

abbrev pub decreases-loop-link : goal.decreases-loop-link
decreases-loop-link l = l.k
