-- `text::ends_line` meets its contract: it is the test of the definition, case by case.
use borrow.Author.Tests.{eq-eqb, ne_eqb}
use Rattle.text.proofs.ends_line.Goals as goal

pub returns-then-b-eq10 : goal.returns-then-b-eq10
returns-then-b-eq10 c = simp (eq-eqb _ _ c.if-b-eq10.true)

pub returns-else-b-eq10 : goal.returns-else-b-eq10
returns-else-b-eq10 c = simp (ne_eqb _ _ c.if-b-eq10.false)
