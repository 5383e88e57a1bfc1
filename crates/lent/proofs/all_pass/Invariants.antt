-- `lent::all_pass` meets its contract. The loop's invariant: the answer is that for the cells passed.
use Rattle.lent.specs.Passing.{EachTested}
use Rattle.lent.proofs.all_pass.Given as goal

abbrev pub invariant-loop-cell : goal.invariant-loop-cell
invariant-loop-cell g l = EachTested (goal.F-post g l.test) l.cells l.cell-index l.all
