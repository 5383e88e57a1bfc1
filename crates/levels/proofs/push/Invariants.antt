-- `levels::push` meets its contract. The loop's invariant: the days of the marks passed are kept.
use Rattle.levels.proofs.Pushing.{KeptFrom}
use Rattle.levels.proofs.push.Given as goal

abbrev pub invariant-loop-k : goal.invariant-loop-k
invariant-loop-k l = KeptFrom l.counts.steps l.counts.last l.counts.marks l.k l.days l.initial.kept l.kept
