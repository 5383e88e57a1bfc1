-- The flags of steps, which are kept in the bits of a number.
use Prim.Native.Nat.{ℕ, ◌*◌, ◌^◌, ◌/◌, ◌%◌, max}
use native.Mathlib.Omega.{arith}
use native.Mathlib.Decide.{ℕ_discrete}
use native.Mathlib.Nat.{zero-mul, zero-div, div-add-mod'}
use mathlib.Core.Path.{◌≡◌, sym, ◌∙◌, ap}
use lib.Pow.{shl-shr}
use lib.Bits.{bit_and, bit_or, and_zero_r, or_zero_r}
use Rattle.std.specs.Int.{bit_at}
use Rattle.std.proofs.lemmas.Nat.Bits.{and_pow, bit_at_or, bit_at-pow_same, bit_at-pow_other}
use Rattle.ringcheck.specs.Closing.{WINDOW, In, FlagIn}

-- Steps of one window at one place are one step.
same_place : (w a b : ℕ) → In w a → In w b → a % WINDOW ≡ b % WINDOW → a ≡ b
same_place w a b in_a in_b place = omega (arith, in_a, in_b, place, div-add-mod' a WINDOW, div-add-mod' b WINDOW)

module _ {w a f : ℕ} (flag : FlagIn w a f) (met : ℕ) where
  -- Where step a, if it lies in the window, was not met, its flag has nothing in common with those met,
  pub unmet→ : (In w a → bit_at met (a % WINDOW) ≡ 0) → bit_and met f ≡ 0
  unmet→ unmet = by-window (ℕ_discrete (a / WINDOW) w)
    where
      by-window : Dec (In w a) → bit_and met f ≡ 0
      by-window (yes h) = ap (bit_and met) (flag.inside h) ∙ and_pow met (a % WINDOW) ∙ ap (λ n. n * 2 ^ (a % WINDOW)) (unmet h) ∙ zero-mul (2 ^ (a % WINDOW))
      by-window (no h) = ap (bit_and met) (flag.outside h) ∙ and_zero_r met

  -- and where it has nothing in common, the step was not met.
  pub →unmet : bit_and met f ≡ 0 → In w a → bit_at met (a % WINDOW) ≡ 0
  →unmet apart h = sym (shl-shr (bit_at met (a % WINDOW)) (a % WINDOW)) ∙ ap (λ n. n / 2 ^ (a % WINDOW)) none ∙ zero-div (2 ^ (a % WINDOW))
    where
      none : bit_at met (a % WINDOW) * 2 ^ (a % WINDOW) ≡ 0
      none = sym (and_pow met (a % WINDOW)) ∙ ap (bit_and met) (sym (flag.inside h)) ∙ apart

  -- With its flag the step is met,
  pub is_met : In w a → bit_at (bit_or met f) (a % WINDOW) ≡ 0 → ⊥
  is_met h unmet = omega (arith, sym unmet ∙ ap (λ n. bit_at (bit_or met n) (a % WINDOW)) (flag.inside h) ∙ bit_at_or met (2 ^ (a % WINDOW)) (a % WINDOW), bit_at-pow_same (a % WINDOW))

  -- and every other step of the window is met where it was.
  pub others_kept : (b : ℕ) → In w b → (a ≡ b → ⊥) → bit_at (bit_or met f) (b % WINDOW) ≡ bit_at met (b % WINDOW)
  others_kept b in_b apart = by-window (ℕ_discrete (a / WINDOW) w)
    where
      by-window : Dec (In w a) → bit_at (bit_or met f) (b % WINDOW) ≡ bit_at met (b % WINDOW)
      by-window (yes h) =
          ap (λ n. bit_at (bit_or met n) (b % WINDOW)) (flag.inside h)
          ∙ bit_at_or met (2 ^ (a % WINDOW)) (b % WINDOW)
          ∙ ap (max (bit_at met (b % WINDOW))) (bit_at-pow_other (a % WINDOW) (b % WINDOW) (λ place. apart (same_place w a b h in_b (sym place))))
          ∙ omega arith
      by-window (no h) = ap (λ n. bit_at n (b % WINDOW)) (ap (bit_or met) (flag.outside h) ∙ or_zero_r met)
