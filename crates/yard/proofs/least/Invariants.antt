-- `yard::least` meets its contract. The invariant of both loops: the square has the least amounts of the places passed, as `Passing` says; the outer one has passed whole groups. The measures are
-- the numbers of places that are not passed, of all and of the group.
use Prim.Native.Nat.{ℕ, ◌*◌, ◌-◌, ◌≤◌}
use mathlib.Core.Path.{◌≡◌}
use Rattle.meaning.specs.Bounds.{RULES}
use Rattle.meaning.specs.Tables.{rule_at}
use Rattle.lent.specs.Lent.{columns}
use Rattle.yard.proofs.Passing.{Passing}
use Rattle.yard.proofs.least.Given as goal

abbrev pub invariant-loop-k : goal.invariant-loop-k
invariant-loop-k l = (l.k ≤ l.end) × (l.end ≤ RULES) × Passing l.k (rule_at (columns l.rules.xs.now l.rules.ys.now l.rules.cs.now)) l.levels l.seen l.square

abbrev pub invariant-loop-seen : goal.invariant-loop-seen
invariant-loop-seen l = (b : ℕ) × (l.i ≡ b * 4) × Passing l.i (rule_at (columns l.rules.xs.now l.rules.ys.now l.rules.cs.now)) l.levels l.seen l.square

abbrev pub decreases-loop-seen : goal.decreases-loop-seen
decreases-loop-seen l = RULES - l.i
