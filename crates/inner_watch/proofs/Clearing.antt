-- A list whose first places were filled with 0.
use Prim.Native.Nat.{ℕ, ◌≤◌}
use mathlib.Core.Path.{◌≡◌}
use mathlib.Core.List.{List, ◌++◌}
use lib.ListN.{length, take, drop, replicate}
use native.Mathlib.Omega.{arith}
use Rattle.std.proofs.lemmas.Grind.{common_steps}
use Rattle.inner_watch.specs.Cleared.{Freed}

pub freed_filled : (n : ℕ) (levels zeros : List ℕ) → n ≤ length levels → zeros ≡ replicate (length (take n levels)) 0 → Freed n levels (zeros ++ drop n levels)
freed_filled n levels zeros room filled = record {
  all_free = λ i h. grind (arith, common_steps);
  past_levels = record { same_length = grind (arith, common_steps); kept = λ i h. grind (arith, common_steps) };
}
