-- `inner_back::cut` meets its contract. The loop's invariant: every place from number i on has a level above k. The measure is i.
use Prim.Native.Nat.{ℕ, ◌+◌, ◌≤◌, ◌<◌}
use Rattle.meaning.specs.Tables.{at}
use Rattle.inner_back.proofs.cut.Given as goal

abbrev pub invariant-loop-i : goal.invariant-loop-i
invariant-loop-i l = (l.i ≤ l.m) × ((j : ℕ) → l.i ≤ j → j < l.m → l.k + 1 < at l.levels j)

abbrev pub decreases-loop-i : goal.decreases-loop-i
decreases-loop-i l = l.i
