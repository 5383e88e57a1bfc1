-- `inner_split::carried` meets its contract: a day is below 2 ^ 32 and the gain is bounded, so that their sum fits.
use native.Mathlib.Omega.{arith}
use Rattle.inner_split.proofs.carried.Goals as goal

pub overflow_add-result : goal.overflow_add-result
overflow_add-result c = omega (arith, c.day_at.ensures, c.type_inv.days c.args.v, c.requires.bounded)

pub returns : goal.returns
returns c = record { is = omega (arith, c.day_at.ensures); narrow = omega (arith, c.day_at.ensures, c.type_inv.days c.args.v, c.requires.bounded) }
