-- `program::refuse` meets its contract: what a refusal prints is at most ROOM bytes; it is taken whole, or the status is FAILED.
use Prim.Native.Nat.{ℕ}
use native.Mathlib.Omega.{arith}
use mathlib.Core.Path.{refl, sym}
use lib.Seq.{length-take-le}
use lib.ListN.{length-replicate}
use Rattle.meaning.specs.Bounds.{SIZE}
use Rattle.script_run.proofs.Room.{error_short}
use Rattle.program.proofs.Handing.{fails}
use Rattle.program.proofs.refuse.Goals as goal

pub slice_bounds-out-end : goal.slice_bounds-out-end
slice_bounds-out-end c = omega (arith, (c.run_script-ran.ensures.too_long c.requires (omega (arith, length-replicate {A = ℕ} 16384 0))).1.0, error_short SIZE (omega arith))

pub slice_bounds-put-end : goal.slice_bounds-put-end
slice_bounds-put-end c =
    let ran = c.run_script-ran in
    sym (length-take-le ran.result.written ran.new.out (omega (arith, (ran.ensures.too_long c.requires (omega (arith, length-replicate {A = ℕ} 16384 0))).1.0, error_short SIZE (omega arith))))

pub returns-in_err-put : goal.returns-in_err-put
returns-in_err-put c = record { too_long = λ long other. absurd (other (fails c.from_residual.result c.from_residual.ensures.0)); played = λ short. absurd (omega (arith, short, c.requires)) }

pub returns : goal.returns
returns c = record { too_long = λ long other. refl; played = λ short. absurd (omega (arith, short, c.requires)) }
