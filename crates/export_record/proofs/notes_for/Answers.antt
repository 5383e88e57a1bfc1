-- `export_record::notes_for`: a flag above 1 gives what no sound record has; else both flags fit.
use mathlib.Core.Logic.{inl, inr}
use mathlib.Core.Path.{refl}
use native.Mathlib.Omega.{arith}
use Rattle.export_record.proofs.notes_for.Goals as goal

pub returns-then-kept-gt1 : goal.returns-then-kept-gt1
returns-then-kept-gt1 c = inr (λ f. omega (arith, f.logic_fits, c.if-kept-gt1.true), omega arith)

pub returns-then-kept-gt1-2 : goal.returns-then-kept-gt1-2
returns-then-kept-gt1-2 c = inr (λ f. omega (arith, f.sat_fits, c.if-kept-gt1-2.true), omega arith)

pub returns : goal.returns
returns c = inl (record { logic_fits = omega (arith, c.if-kept-gt1.false); sat_fits = omega (arith, c.if-kept-gt1-2.false) }, refl)
