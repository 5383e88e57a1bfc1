-- `text::class_of` meets its contract: the table says the class of each byte.
use native.Mathlib.Omega.{arith}
use Rattle.text.proofs.Reading.{class_is}
use Rattle.text.proofs.class_of.Goals as goal

pub returns : goal.returns
returns c = rw c.requires (class_is c.args.b (omega arith))
