-- The test fails at the cells passed. The measure is what is left of the places.
use Rattle.std.proofs.Common.{◌≤◌, ◌-◌}
use Rattle.shortest.specs.Clauses.{Fails}
use Rattle.shortest.proofs.first_from.Given as goal

abbrev pub invariant-loop-k : goal.invariant-loop-k
invariant-loop-k g l = (l.i ≤ l.k) × (l.k ≤ l.places) × Fails (λ c passes. goal.F-post g l.test c passes) l.list l.i l.k

abbrev pub decreases-loop-k : goal.decreases-loop-k
decreases-loop-k g l = l.places - l.k

abbrev pub invariant-loop-place : goal.invariant-loop-place
invariant-loop-place g l = Fails (λ c passes. goal.F-post g l.test c passes) l.list l.i l.place
