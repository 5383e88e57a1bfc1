-- `spread::ring` meets its contract. The loop's invariant: the ring is written from its end as far as place j, where the walk back has come to v.
-- The measure is the place.
use Rattle.chains.specs.Chains.{linked}
use Prim.Native.Nat.{◌≤◌}
use mathlib.Core.Path.{◌≡◌}
use lib.ListN.{length}
use Rattle.spread.proofs.Ringing.{Written}
use Rattle.spread.proofs.ring.Given as goal

abbrev pub invariant-loop-v : goal.invariant-loop-v
invariant-loop-v l = (length l.list ≡ length l.initial.list) × (l.k ≤ l.n) × Written l.n (linked l.held.nexts.now) l.m l.held.rules.xs.now l.held.rules.ys.now l.held.rules.cs.now l.held.days.now l.gains l.by l.x l.y l.initial.list l.k l.v l.j l.list

abbrev pub decreases-loop-v : goal.decreases-loop-v
decreases-loop-v l = l.j
