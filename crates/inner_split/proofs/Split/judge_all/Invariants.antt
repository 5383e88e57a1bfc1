-- Verdicts have been passed on every watched rule of the steps passed.
use Prim.Native.Nat.{◌≤◌}
use lib.ListN.{length}
use Rattle.chains.specs.Chains.{linked}
use Rattle.inner_split.specs.Clauses.{InAll, InNone}
use Rattle.inner_split.proofs.Judging.{DecidedBelow}
use Rattle.inner_split.proofs.Split.judge_all.Given as goal

abbrev pub invariant-loop-a : goal.invariant-loop-a
invariant-loop-a l =
    let s = l.self in
    (s.steps ≤ length l.gains) × (s.steps ≤ length l.by) × (s.count ≤ length l.always) × (s.count ≤ length l.never)
    × DecidedBelow (InAll (linked s.held.nexts.now) s.held.rules.xs.now s.held.rules.ys.now s.held.rules.cs.now s.watched.xs.now s.watched.ys.now s.watched.cs.now) s.count s.watched.xs.now l.a l.always
    × DecidedBelow (InNone (linked s.held.nexts.now) s.held.rules.xs.now s.held.rules.ys.now s.held.rules.cs.now s.watched.xs.now s.watched.ys.now s.watched.cs.now) s.count s.watched.ys.now l.a l.never
