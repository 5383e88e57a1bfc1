-- The program ends with one of the three statuses.
use Prim.Native.Nat.{ℕ, zero, suc, ◌≤◌}
use native.Mathlib.Omega.{arith}
use native.Mathlib.Decide.{ℕ_discrete, dec_le}
use mathlib.Core.Path.{◌≡◌}
use mathlib.Core.List.{List}
use mathlib.Core.Logic.{inl, inr}
use lib.ListN.{length, take}
use Rattle.meaning.specs.Bounds.{TEXT}
use Rattle.script_meaning.specs.Record.{Lent}
use Rattle.program.specs.Handing.{FAILED, status, Handed, Answered, Runs}

status_low : (g : ℕ) → status g ≤ FAILED
status_low zero = omega arith
status_low (suc g) = omega arith

handed_low : (s : List ℕ) (i : ℕ) (l : Lent) (r : ℕ) (b : List ℕ) → Handed s i l r b → r ≤ FAILED
handed_low s i l r b (Handed.all _ _ g j w l' part) = status_low g
handed_low s i l r b (Handed.more _ _ h j w l' _ b₁ part on) = handed_low s j l' r b₁ on
handed_low s i l r b (Handed.cut _ _ h j w l' k paused part less) = omega arith

answered_low : (s : List ℕ) (r : ℕ) → Answered s r → r ≤ FAILED
answered_low s r a = by_size (dec_le (length s) TEXT) (ℕ_discrete r FAILED)
  where
    by_size : Dec (length s ≤ TEXT) → Dec (r ≡ FAILED) → r ≤ FAILED
    by_size (yes fits) failed = handed_low s 0 _ r _ (a.played fits).1.handed
    by_size (no long) (yes failed) = omega (arith, failed)
    by_size (no long) (no other) = omega (arith, a.too_long (omega arith) other)

pub runs_low : (t : List ℕ) (r : ℕ) → Runs t r → r ≤ FAILED
runs_low t r (inl failed) = omega (arith, failed)
runs_low t r (inr (n, (within, answered))) = answered_low (take n t) r answered
