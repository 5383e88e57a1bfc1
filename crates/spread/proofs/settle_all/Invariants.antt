-- The loop's invariant: a turn can be made, and the state is one between two turns. The measure is how many steps are without gain or wait,
-- which each turn brings down.
use Rattle.std.proofs.Common.{ℕ, ◌+◌, ◌≤◌, ◌≡◌}
use Rattle.chains.specs.Chains.{linked}
use Rattle.meaning.specs.Tables.{at}
use Rattle.waiting.specs.Waiting.{Led}
use Rattle.spread.specs.Ground.{rules}
use Rattle.spread.specs.State.{without_gain, Ready, BetweenTurns}
use Rattle.spread.proofs.settle_all.Given as goal

abbrev pub invariant-loop-gains : goal.invariant-loop-gains
invariant-loop-gains g l = Ready l.n (at l.gains) (at l.waiting.list) l.waiting.count × Led l.gains l.waiting × ((v : ℕ) → l.n ≤ v → at l.gains v ≡ at l.initial.gains v)
    × ((low : ℕ → ℕ) →
    BetweenTurns l.n (rules l.held.rules.xs.now l.held.rules.ys.now l.held.rules.cs.now) (linked l.held.nexts.now) (at l.held.days.now) low (at l.initial.gains) (at l.initial.by) (at l.initial.waiting.list) l.initial.waiting.count →
    BetweenTurns l.n (rules l.held.rules.xs.now l.held.rules.ys.now l.held.rules.cs.now) (linked l.held.nexts.now) (at l.held.days.now) low (at l.gains) (at l.by) (at l.waiting.list) l.waiting.count)

abbrev pub decreases-loop-gains : goal.decreases-loop-gains
decreases-loop-gains g l = without_gain l.n (at l.gains) + l.waiting.count
