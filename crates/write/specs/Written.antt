-- Bytes written over a list, and the decimal digits of a number.
use Rattle.std.specs.Prelude.{ℕ, zero, suc, ◌+◌, ◌/◌, ◌%◌, cond, List, [], ◌∷◌, ◌++◌, ltb, set}

-- The list with the bytes w written over it from place i on.
unfoldable pub over : List ℕ → ℕ → List ℕ → List ℕ
over l i [] = l
over l i (b ∷ w) = over (set l i b) (i + 1) w

-- The decimal digits of n, as bytes, without leading zeros. The fuel is more than there are digits.
unfoldable pub digits : (fuel : ℕ) → ℕ → List ℕ
digits zero n = []
digits (suc f) n = (cond (ltb n 10) [] (digits f (n / 10))) ++ ((48 + n % 10) ∷ [])

abbrev pub decimal : ℕ → List ℕ
decimal n = digits (suc n) n
