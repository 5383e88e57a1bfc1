-- The measure is the span, which falls to an upper part. The loop's invariant: what is left of the span can be looked for, and once it is found so is the whole; its
-- measure is where the rest ends. `Finishing` has its laws.
use Rattle.std.proofs.Common.{◌≡◌, ◌≤◌, ◌-◌, length}
use Rattle.shortest.proofs.Finishing.{Rest}
use Rattle.shortest.proofs.Search.+descend.Given as goal

abbrev pub decreases-descend : goal.decreases-descend
decreases-descend l = l.hi - l.lo

abbrev pub invariant-loop-top : goal.invariant-loop-top
invariant-loop-top l =
    (length l.room ≡ length l.initial.room) × (length l.list ≡ length l.initial.list) × (l.top ≤ l.hi)
    × Rest l.self l.g l.lo l.cap l.layer l.hi l.fn.from.step l.fn.from.bound l.initial.list l.top l.stand.step l.stand.bound l.room l.list

abbrev pub decreases-loop-top : goal.decreases-loop-top
decreases-loop-top l = l.top
