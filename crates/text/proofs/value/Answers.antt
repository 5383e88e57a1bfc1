use mathlib.Core.Path.{sym, ◌∙◌}
use native.Mathlib.Omega.{arith}
use Rattle.text.proofs.Numbers.{number_more, number_end}
use Rattle.text.proofs.value.Goals as goal

pub overflow_add-n : goal.overflow_add-n
overflow_add-n c = omega (arith, c.digit_of.ensures)

pub loop-b-preserved : goal.loop-b-preserved
loop-b-preserved c = (
  omega (arith, c.min-n.ensures),
  number_more c.args.digits.now c.loop-b.b-index c.loop-b.n _ _ c.loop-b-test.true c.digit_of.ensures c.min-n.ensures ∙ c.loop-b.invariant.1,
)

pub returns : goal.returns
returns c = sym (number_end c.args.digits.now c.loop-b.b-index c.loop-b.n c.loop-b.invariant.0 c.loop-b-test.false) ∙ c.loop-b.invariant.1
