-- `export_record::start`: the promise of `script_calls::start` over the notes, taken to the record.
use mathlib.Core.Path.{refl}
use Rattle.export_record.proofs.Keeping.{start_kept}
use Rattle.export_record.proofs.start.Goals as goal

pub returns : goal.returns
returns c = λ out. start_kept _ _ _ _ _ _ _ _ _ _ _ _ _ _ refl c.brought-after.ensures (rw (← c.number-number.ensures) at (c.start-started.ensures out))
