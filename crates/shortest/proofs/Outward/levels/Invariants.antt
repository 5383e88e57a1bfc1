-- The depths go as far as the level.
use mathlib.Core.Path.{◌≡◌}
use lib.ListN.{length}
use Rattle.shortest.specs.Clauses.{Levelled}
use Rattle.shortest.proofs.Outward.levels.Given as goal

abbrev pub invariant-loop-level : goal.invariant-loop-level
invariant-loop-level l = (length l.depths ≡ l.self.steps) × Levelled l.self.steps l.self.held l.self.lack l.y l.level l.depths
