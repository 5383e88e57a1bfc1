-- The decimal digits of a number: one below 10 is one digit, any other has those of its tenth and one more; how many there are at most; and how they are written.
use Prim.Native.Nat.{ℕ, zero, suc, ◌+◌, ◌^◌, ◌/◌, ◌%◌, ◌≤◌, ◌<◌}
use native.Mathlib.Omega.{arith}
use native.Mathlib.Nat.{mod-eq_of_lt, div-lt_iff_lt-mul}
use native.Mathlib.Decide.{dec_lt}
use mathlib.Core.Path.{◌≡◌, sym, ap, ◌∙◌}
use mathlib.Core.List.{List, [], ◌∷◌, ◌++◌}
use lib.ListN.{length, set, length-append}
use borrow.Author.Tests.{lt-ltb, le-ltb}
use Rattle.write.specs.Written.{over, digits, decimal}
use Rattle.write.proofs.Laws.{over_one, over_append}

-- With more fuel than the number there are the same digits.
pub digits_enough : (f g n : ℕ) → n < f → n < g → digits f n ≡ digits g n
unfolding digits
digits_enough zero g n h l = absurd (omega arith)
digits_enough (suc f) zero n h l = absurd (omega arith)
digits_enough (suc f) (suc g) n h l =
    elim (dec_lt n 10) [
      | yes small ↦ rw (lt-ltb n 10 small)
      | no large ↦ rw (le-ltb n 10 (omega arith), digits_enough f g (n / 10) (omega arith) (omega arith))
    ]

pub decimal_one : (n : ℕ) → n < 10 → decimal n ≡ (48 + n) ∷ []
unfolding digits
decimal_one n h = rw (lt-ltb n 10 h, mod-eq_of_lt h)

pub decimal_more : (n : ℕ) → 10 ≤ n → decimal n ≡ decimal (n / 10) ++ ((48 + n % 10) ∷ [])
unfolding digits
decimal_more n h = rw (le-ltb n 10 h, digits_enough n (suc (n / 10)) (n / 10) (omega arith) (omega arith))

pub length_one : (n : ℕ) → n < 10 → length (decimal n) ≡ 1
length_one n h = rw (decimal_one n h)

pub length_more : (n : ℕ) → 10 ≤ n → length (decimal n) ≡ length (decimal (n / 10)) + 1
length_more n h = ap length (decimal_more n h) ∙ length-append (decimal (n / 10)) ((48 + n % 10) ∷ [])

-- A number below 10 to the power d + 1 has at most d + 1 digits.
pub decimal_short : (d n : ℕ) → n < 10 ^ suc d → length (decimal n) ≤ suc d
decimal_short zero n h = omega (arith, length_one n h)
decimal_short (suc d) n h =
    elim (dec_lt n 10) [
      | yes small ↦ omega (arith, length_one n small)
      | no large ↦ omega (arith, length_more n (omega arith), decimal_short d (n / 10) ((div-lt_iff_lt-mul (omega arith)).1 (omega arith)))
    ]

-- Below 10 to the power 10 there are at most 10 digits.
pub decimal_ten : (n : ℕ) → n < 10000000000 → length (decimal n) ≤ 10
decimal_ten n h = decimal_short 9 n h

-- Written over a list: a number below 10 is one store, and any other is its tenth and one store past it.
pub over_digit : (l : List ℕ) (i n : ℕ) → n < 10 → set l i (48 + n) ≡ over l i (decimal n)
over_digit l i n h = rw (decimal_one n h) (sym (over_one l i (48 + n)))

pub over_digits :
    (l : List ℕ) (i n : ℕ) → 10 ≤ n → set (over l i (decimal (n / 10))) (i + length (decimal (n / 10))) (48 + n % 10) ≡ over l i (decimal n)
over_digits l i n h =
    sym (over_one (over l i (decimal (n / 10))) (i + length (decimal (n / 10))) (48 + n % 10))
    ∙ over_append l i (decimal (n / 10)) ((48 + n % 10) ∷ [])
    ∙ ap (over l i) (sym (decimal_more n h))
