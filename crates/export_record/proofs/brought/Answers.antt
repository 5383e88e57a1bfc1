-- `export_record::brought`: the record of the notes where the number is 0, else the record as it was.
use mathlib.Core.Path.{refl}
use native.Mathlib.Omega.{arith}
use Rattle.export_record.proofs.Keeping.{told_fits, told_says}
use Rattle.export_record.proofs.brought.Goals as goal

pub returns-then-number-gt0 : goal.returns-then-number-gt0
returns-then-number-gt0 c = record { when_done = λ e. absurd (omega (arith, c.if-number-gt0.true, e)); when_refused = λ u. refl }

pub returns : goal.returns
returns c = record {
  when_done = λ e. (told_fits c.args.notes _ _ c.bit.ensures c.bit-2.ensures, told_says c.args.notes _ _ c.bit.ensures c.bit-2.ensures);
  when_refused = λ u. absurd (u (omega (arith, c.if-number-gt0.false)));
}
