-- `program::read_and_answer` meets its contract: where the text was read, it is answered as it stands in the bytes lent.
use mathlib.Core.Logic.{inl, inr}
use Rattle.program.proofs.Handing.{fails}
use Rattle.program.proofs.read_and_answer.Goals as goal

pub returns-in_err-n : goal.returns-in_err-n
returns-in_err-n c = inl (fails c.from_residual.result c.from_residual.ensures.0)

pub returns : goal.returns
returns c = inr (c.in_ok-n.n, (c.in_ok-n.ensures.ok.1, c.answer_text.ensures))
