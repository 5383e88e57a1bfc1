-- An i32 amount as the machine widens it.
use native.Mathlib.Omega.{arith}
use lib.IntN.{ℤ}
use mir.Syntax.{w32, w64}
use mir.Val.{SFits, of_z, to_z}
use mir.ValLaws.{to_z-of_z}

-- An i32 is an i64.
pub wide : (c : ℤ) → SFits w32 c → SFits w64 (to_z w32 (of_z w32 c))
wide c f = rw (to_z-of_z w32 c f) (record { sfits = omega (arith, f.sfits) })
