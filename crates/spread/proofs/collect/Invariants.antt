-- The loop's invariant: of the steps passed, those with a gain are collected.
use Rattle.meaning.specs.Tables.{at}
use Rattle.waiting.specs.Waiting.{Led}
use Rattle.spread.specs.Clauses.{Collected}
use Rattle.spread.proofs.collect.Given as goal

abbrev pub invariant-loop-v : goal.invariant-loop-v
invariant-loop-v g l = Collected l.v (at l.gains) (at l.by) (at l.waiting.list) l.waiting.count × Led l.gains l.waiting
