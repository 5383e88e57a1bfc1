-- `script_run::settle` meets its contract: by its test; a number of 32 bits has at most 10 digits.
use native.Mathlib.Omega.{arith}
use mathlib.Core.Path.{refl}
use Rattle.write.proofs.Decimal.{decimal_ten}
use Rattle.script_run.proofs.Room.{error_short}
use Rattle.script_run.proofs.settle.Goals as goal

pub put_error-requires : goal.put_error-requires
put_error-requires c = omega (arith, c.requires.to_in_bounds, decimal_ten c.args.number (omega (arith, c.ranges.number)))

pub returns-then-number-gt0 : goal.returns-then-number-gt0
returns-then-number-gt0 c = record { refused = λ z. c.put_error.ensures; done = λ z. absurd (omega (arith, z, c.if-number-gt0.true)); short = omega (arith, c.put_error.ensures.1, error_short c.args.number (omega (arith, c.ranges.number))) }

pub returns : goal.returns
returns c = record { refused = λ z. absurd (z (omega (arith, c.if-number-gt0.false))); done = λ z. (refl, refl); short = omega (arith, c.requires.written_bound) }
