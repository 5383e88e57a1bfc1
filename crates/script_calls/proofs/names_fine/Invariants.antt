-- `script_calls::names_fine` meets its contract. The loop's invariant: every name passed is fine.
use Prim.Native.Nat.{◌≤◌}
use Rattle.script_calls.specs.Testing.{NamesFine}
use Rattle.script_calls.proofs.names_fine.Given as goal

abbrev pub invariant-loop-k : goal.invariant-loop-k
invariant-loop-k l = (l.k ≤ l.n) × NamesFine l.k l.names l.lens
