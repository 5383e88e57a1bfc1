-- `script_telling::print` meets its contract: in each arm the command is known, at which `printed` computes, and where it is empty nothing is written.
use mathlib.Core.Path.{sym}
use Rattle.write.proofs.Laws.{over_none}
use Rattle.script_telling.proofs.print.Goals as goal

pub put_values-requires-clause-by_index : goal.put_values-requires-clause-by_index
put_values-requires-clause-by_index c = c.requires.by_index_2 _ c.in-GetValue.is

pub returns-in-SetLogic-clause-out_after : goal.returns-in-SetLogic-clause-out_after
returns-in-SetLogic-clause-out_after c = rw c.in-SetLogic.is (sym (over_none _ _))

pub returns-in-Declare-clause-out_after : goal.returns-in-Declare-clause-out_after
returns-in-Declare-clause-out_after c = rw c.in-Declare.is (sym (over_none _ _))

pub returns-in-Assert-clause-out_after : goal.returns-in-Assert-clause-out_after
returns-in-Assert-clause-out_after c = rw c.in-Assert.is (sym (over_none _ _))

pub returns-in-Push-clause-out_after : goal.returns-in-Push-clause-out_after
returns-in-Push-clause-out_after c = rw c.in-Push.is (sym (over_none _ _))

pub returns-in-Pop-clause-out_after : goal.returns-in-Pop-clause-out_after
returns-in-Pop-clause-out_after c = rw c.in-Pop.is (sym (over_none _ _))

pub returns-in-Exit-clause-out_after : goal.returns-in-Exit-clause-out_after
returns-in-Exit-clause-out_after c = rw c.in-Exit.is (sym (over_none _ _))
