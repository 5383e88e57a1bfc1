-- Layer h stands where layer lo stood.
use mathlib.Core.Path.{◌≡◌}
use lib.ListN.{length}
use Rattle.shortest.specs.Searching.{IsLayer}
use Rattle.shortest.proofs.Search.raise.Given as goal

abbrev pub invariant-loop-h : goal.invariant-loop-h
invariant-loop-h l = (length l.room ≡ l.self.steps) × IsLayer l.self l.g l.h l.layer
