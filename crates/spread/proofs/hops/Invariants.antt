-- `spread::hops` meets its contract. The loop's invariant: the walk back from x has come to v in k hops. The measure is how many steps there are
-- besides those passed.
use Rattle.chains.specs.Chains.{linked}
use Prim.Native.Nat.{◌-◌}
use Rattle.spread.proofs.Ringing.{WalkedBack}
use Rattle.spread.proofs.hops.Given as goal

abbrev pub invariant-loop-v : goal.invariant-loop-v
invariant-loop-v l = WalkedBack l.n (linked l.held.nexts.now) l.m l.held.rules.xs.now l.held.rules.ys.now l.held.rules.cs.now l.held.days.now l.gains l.by l.x l.y l.v l.k

abbrev pub decreases-loop-v : goal.decreases-loop-v
decreases-loop-v l = l.n - l.k
