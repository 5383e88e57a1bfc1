use Prim.Native.Nat.{ℕ}
use native.Mathlib.Omega.{arith}
use mathlib.Core.Path.{subst}
use Rattle.chains.specs.Links.{Falls}
use Rattle.chains.proofs.Falling.{falls_next}
use Rattle.chains.proofs.LinksIterator.next.Goals as goal

-- The rule's own link falls too.
pub invariant_of-self : goal.invariant_of-self
invariant_of-self c = let walk = c.args.self.now in
    record { falls = subst (λ (l : ℕ). Falls l walk.nexts.now l) (omega arith) (falls_next walk.nexts.now walk.link c.if-self-eq0.false walk.falls) }
