-- The loop's invariant: `best` is one of the steps passed, `top` is its gain, and none of them has a larger one.
use Rattle.std.proofs.Common.{◌+◌, ◌≡◌}
use Rattle.meaning.specs.Tables.{at}
use Rattle.waiting.specs.Places.{LargestOf}
use Rattle.waiting.proofs.largest.Given as goal

abbrev pub invariant-loop-step : goal.invariant-loop-step
invariant-loop-step l = LargestOf (at l.gains) (at l.steps) (l.step-index + 1) l.best × (l.top ≡ at l.gains l.best)
