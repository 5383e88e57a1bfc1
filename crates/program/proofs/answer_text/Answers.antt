-- `program::answer_text` meets its contract: by the length of the text.
use native.Mathlib.Omega.{arith}
use Rattle.program.proofs.answer_text.Goals as goal

pub returns-then-s-le-TEXT : goal.returns-then-s-le-TEXT
returns-then-s-le-TEXT c = record { too_long = λ long other. absurd (omega (arith, long, c.if-s-le-TEXT.true)); played = λ short. c.play_any.ensures }

pub refuse-requires : goal.refuse-requires
refuse-requires c = omega (arith, c.if-s-le-TEXT.false)

pub returns : goal.returns
returns c = c.refuse.ensures
