-- `yard::slack_row` meets its contract. The loop's invariant: the cells passed are the slacks of the least amounts, where that of the step itself is 0 days.
use Rattle.meaning.specs.Tables.{at}
use Rattle.yard.specs.Tables.{Made, SlackOf}
use Rattle.yard.proofs.slack_row.Given as goal

abbrev pub invariant-loop-y : goal.invariant-loop-y
invariant-loop-y l = Made 0 (λ k z. SlackOf (at l.initial.row k) l.dx (at l.days k) z) l.y l.initial.row l.row
