-- The rules above top are written, and the way goes on from there. The measure is where what is left ends.
use mathlib.Core.Path.{◌≡◌}
use lib.ListN.{length}
use Rattle.shortest.proofs.Tracing.{Found}
use Rattle.shortest.proofs.Search.trace.Given as goal

abbrev pub invariant-loop-top : goal.invariant-loop-top
invariant-loop-top l =
    (length l.layer ≡ l.self.steps) × (length l.room ≡ length l.initial.room) × (length l.list ≡ length l.initial.list) × Found l.self l.h l.initial.list l.top l.stand.step l.stand.bound l.list

abbrev pub decreases-loop-top : goal.decreases-loop-top
decreases-loop-top l = l.top
