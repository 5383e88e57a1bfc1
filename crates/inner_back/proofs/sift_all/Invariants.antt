-- `inner_back::sift_all` meets its contract. The loop's invariant: the places passed are sifted, as `Sifting` says. The measure is the number of places that
-- are not passed.
use Prim.Native.Nat.{◌-◌}
use mathlib.Core.Path.{◌≡◌}
use lib.ListN.{length}
use Rattle.meaning.specs.Bounds.{RULES}
use Rattle.inner_back.proofs.Sifting.{Sifting}
use Rattle.inner_back.proofs.sift_all.Given as goal

abbrev pub invariant-loop-seen : goal.invariant-loop-seen
invariant-loop-seen l = Sifting l.n l.k l.i l.xs l.initial.levels l.levels l.heads l.nexts l.seen l.left × (length l.heads ≡ length l.initial.heads) × (length l.nexts ≡ length l.initial.nexts)

abbrev pub decreases-loop-seen : goal.decreases-loop-seen
decreases-loop-seen l = RULES - l.i
