-- Where nothing is found, the test fails at the cells passed.
use Rattle.std.proofs.Common.{◌≡◌, false}
use Rattle.shortest.specs.Clauses.{Fails}
use Rattle.shortest.proofs.fails_at_all.Given as goal

abbrev pub invariant-loop-cell : goal.invariant-loop-cell
invariant-loop-cell g l = l.found ≡ false → Fails (λ c passes. goal.F-post g l.test c passes) l.group 0 l.cell-index
