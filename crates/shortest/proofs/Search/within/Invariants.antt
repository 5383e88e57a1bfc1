-- Layer h stands in the list, and no way from the start has fewer rules.
use mathlib.Core.Path.{◌≡◌}
use lib.ListN.{length}
use Rattle.shortest.specs.Searching.{IsLayer}
use Rattle.shortest.proofs.Advancing.{NoneBelow}
use Rattle.shortest.proofs.Search.within.Given as goal

abbrev pub invariant-loop-h : goal.invariant-loop-h
invariant-loop-h l = (length l.room ≡ l.self.steps) × IsLayer l.self l.g l.h l.layer × NoneBelow l.self l.g l.h
