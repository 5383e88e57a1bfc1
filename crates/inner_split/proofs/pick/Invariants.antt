-- The numbers passed whose verdict is yes are listed.
use Rattle.inner_split.specs.Verdicts.{Picked}
use Rattle.inner_split.proofs.pick.Given as goal

abbrev pub invariant-loop-j : goal.invariant-loop-j
invariant-loop-j l = Picked l.j l.verdicts l.initial.list l.list l.k
