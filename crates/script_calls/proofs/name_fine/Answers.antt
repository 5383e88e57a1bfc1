-- `script_calls::name_fine` meets its contract: the length is tested, then the name's bytes, as a part of the table.
use native.Mathlib.Omega.{arith}
use mathlib.Core.Path.{refl}
use Rattle.lent.specs.Decides.{decides_no, decides_same}
use Rattle.names.proofs.Hashing.{name_bytes}
use Rattle.script_calls.proofs.name_fine.Goals as goal

pub overflow_cast-len : goal.overflow_cast-len
overflow_cast-len c = omega (arith, c.type_inv.lens c.args.k)

pub returns-then-len-gt-NAME_BYTES : goal.returns-then-len-gt-NAME_BYTES
returns-then-len-gt-NAME_BYTES c = decides_no refl (λ h. omega (arith, h.short, c.if-len-gt-NAME_BYTES.true))

pub returns : goal.returns
returns c = decides_same (λ f. record { short = omega (arith, c.if-len-gt-NAME_BYTES.false); in_form = f }) (λ h. h.in_form)
    (rw (name_bytes c.args.names.now c.args.lens.now c.args.k) at c.in_form.ensures)
