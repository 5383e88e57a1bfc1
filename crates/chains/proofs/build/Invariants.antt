-- `chains::build` meets its contract. The loop's invariant: the chains are those of the rules passed.
use Prim.Native.Nat.{◌≤◌}
use mathlib.Core.Path.{◌≡◌}
use lib.ListN.{length}
use Rattle.chains.specs.Chains.{Chained}
use Rattle.chains.proofs.build.Given as goal

abbrev pub invariant-loop-k : goal.invariant-loop-k
invariant-loop-k l = (length l.heads ≡ length l.initial.heads) × (length l.nexts ≡ length l.initial.nexts) × (l.k ≤ l.m) × Chained l.n l.k l.xs l.heads l.nexts
