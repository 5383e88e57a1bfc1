-- `values::put_values` meets its contract: each turn writes one more of the names in the column, and `Going` says what is left.
use Rattle.values.proofs.Going.{Going}
use Rattle.values.proofs.put_values.Given as goal

abbrev pub invariant-loop-i : goal.invariant-loop-i
invariant-loop-i l = Going l.names l.lens l.days l.column l.k l.initial.out l.initial.e l.out l.e l.i
