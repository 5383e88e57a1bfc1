-- What a refusal prints is at most ROOM bytes.
use Prim.Native.Nat.{ℕ, ◌+◌, ◌≤◌, ◌<◌}
use native.Mathlib.Omega.{arith}
use mathlib.Core.Path.{◌≡◌}
use mathlib.Core.List.{[], ◌∷◌, ◌++◌}
use lib.ListN.{length, length-append}
use Rattle.meaning.specs.Bounds.{ROOM}
use Rattle.script_meaning.specs.Whole.{error_line}
use Rattle.write.specs.Written.{decimal}
use Rattle.write.proofs.Decimal.{decimal_ten}

pub error_short : (g : ℕ) → g < 4294967296 → length (error_line g) ≤ ROOM
error_short g h =
    let parts : length (decimal g ++ (34 ∷ 41 ∷ 10 ∷ [])) ≡ length (decimal g) + 3 = length-append (decimal g) (34 ∷ 41 ∷ 10 ∷ []) in
    let whole : length (error_line g) ≡ 8 + length (decimal g ++ (34 ∷ 41 ∷ 10 ∷ [])) =
    length-append (40 ∷ 101 ∷ 114 ∷ 114 ∷ 111 ∷ 114 ∷ 32 ∷ 34 ∷ []) (decimal g ++ (34 ∷ 41 ∷ 10 ∷ [])) in
    omega (arith, whole, parts, decimal_ten g (omega (arith, h)))
