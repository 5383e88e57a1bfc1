-- `script_run::goes_on` meets its contract: by its two tests.
use native.Mathlib.Omega.{arith}
use mathlib.Core.Path.{sym}
use mathlib.Core.Bool.{true≢false}
use borrow.Author.Tests.{not-true, not-false}
use Rattle.script_run.proofs.goes_on.Goals as goal

pub returns-then-number-gt0 : goal.returns-then-number-gt0
returns-then-number-gt0 c = record { on = λ z. absurd (true≢false (sym z)); stopped = λ z done. absurd (omega (arith, done, c.if-number-gt0.true)) }

pub returns : goal.returns
returns c = record { on = λ z. (omega (arith, c.if-number-gt0.false), not-true _ z); stopped = λ z done. not-false _ z }
