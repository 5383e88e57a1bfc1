-- `inner_back::drop_rules` meets its contract. The loop's invariant: the chains are those of the first i rules. The measure is the number of rules that are
-- still to be taken off.
use Prim.Native.Nat.{◌-◌, ◌≤◌}
use mathlib.Core.Path.{◌≡◌}
use lib.ListN.{length}
use Rattle.lent.specs.Lent.{first}
use Rattle.chains.specs.Chains.{LentChains}
use Rattle.inner_back.proofs.drop_rules.Given as goal

abbrev pub invariant-loop-i : goal.invariant-loop-i
invariant-loop-i l = (l.k ≤ l.i) × (l.i ≤ l.m) × LentChains l.n (first l.i) l.xs l.heads l.nexts × (length l.heads ≡ length l.initial.heads) × (length l.nexts ≡ length l.initial.nexts)

abbrev pub decreases-loop-i : goal.decreases-loop-i
decreases-loop-i l = l.i - l.k
