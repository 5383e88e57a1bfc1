-- The loop's invariant: the rules of x from the link on have been relaxed.
use Rattle.std.proofs.Common.{◌≡◌}
use Rattle.chains.specs.Chains.{number, linked}
use Rattle.chains.proofs.Walk.{Link}
use Rattle.waiting.specs.Waiting.{Led}
use Rattle.spread.proofs.Walking.{Walked}
use Rattle.spread.proofs.relax_all.Given as goal

abbrev pub invariant-loop-i : goal.invariant-loop-i
invariant-loop-i g l = (goal.iterator-loop-i g).can_next l.i-iterator × (goal.iterator-loop-i g).is_finite l.i-iterator
    × (l.i-iterator.nexts.now ≡ l.held.nexts.now) × Link (linked l.held.nexts.now) l.held.rules.xs.now l.x l.i-iterator.link
    × Walked l.n (linked l.held.nexts.now) number l.held.rules.xs.now l.held.rules.ys.now l.held.rules.cs.now l.held.days.now l.x l.i-iterator.link l.reach l.initial.gains l.initial.by l.initial.waiting.list l.initial.waiting.count
    l.gains l.by l.waiting.list l.waiting.count × Led l.gains l.waiting
