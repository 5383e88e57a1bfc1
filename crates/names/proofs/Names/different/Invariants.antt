-- `names::Names::different` meets its contract. The loop's invariant: the names passed are all different.
use Prim.Native.Nat.{◌≤◌}
use Rattle.names.specs.Names.{AllDifferent}
use Rattle.names.proofs.Names.different.Given as goal

abbrev pub invariant-loop-k : goal.invariant-loop-k
invariant-loop-k l = (l.k ≤ l.self.count) × AllDifferent l.k l.self.letters.now l.self.lens.now
