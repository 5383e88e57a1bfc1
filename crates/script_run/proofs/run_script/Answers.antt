-- `script_run::run_script` meets its contract: by its two tests.
use native.Mathlib.Omega.{arith}
use mathlib.Core.Path.{refl}
use Rattle.write.proofs.Decimal.{decimal_ten}
use Rattle.script_run.proofs.run_script.Goals as goal

pub returns-then-s-le-TEXT : goal.returns-then-s-le-TEXT
returns-then-s-le-TEXT c = let if1 = c.if-s-le-TEXT in
    record { too_long = λ h. absurd (omega (arith, h, if1.true)); too_long_short = λ h. absurd (omega (arith, h, if1.true)); played = λ h. c.play_fresh.ensures }

pub returns-then-out-lt-ROOM : goal.returns-then-out-lt-ROOM
returns-then-out-lt-ROOM c = record { too_long = λ h r. absurd (omega (arith, r, c.if-out-lt-ROOM.true)); too_long_short = λ h r. (refl, (refl, refl)); played = λ h. absurd (omega (arith, h, c.if-s-le-TEXT.false)) }

pub put_error-past-requires : goal.put_error-past-requires
put_error-past-requires c = omega (arith, c.if-out-lt-ROOM.false, decimal_ten 11 (omega arith))

pub returns : goal.returns
returns c = let if1 = c.if-s-le-TEXT in
    record { too_long = λ h r. (refl, (omega (arith, c.put_error-past.ensures.1), c.put_error-past.ensures.0)); too_long_short = λ h r. absurd (omega (arith, r, c.if-out-lt-ROOM.false)); played = λ h. absurd (omega (arith, h, if1.false)) }
