-- `program::dates_main` meets its contract: the status is that of what became of the script.
use mathlib.Core.Path.{refl, sym, subst}
use mathlib.Core.Logic.{inl}
use Rattle.program.specs.Handing.{Runs}
use Rattle.program.proofs.dates_main.Goals as goal

pub returns-then-text-lt-READ : goal.returns-then-text-lt-READ
returns-then-text-lt-READ c = inl refl

pub returns : goal.returns
returns c = subst (Runs c.read_and_answer.new.text) (sym c.status_of.ensures) c.read_and_answer.ensures
