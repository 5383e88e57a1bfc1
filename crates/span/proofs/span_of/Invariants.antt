-- `span::span_of` meets its contract. The loop's invariant: what is the span of what is left is the span of the text; at most as many brackets are open as bytes were passed.
-- The measure is what is left of the text.
use mathlib.Core.Path.{◌≡◌}
use Prim.Native.Nat.{ℕ, ◌-◌, ◌≤◌}
use lib.ListN.{length}
use Rattle.span.specs.Span.{span}
use Rattle.span.proofs.Steps.{IsSpan}
use Rattle.span.proofs.span_of.Given as goal

abbrev pub invariant-loop-i : goal.invariant-loop-i
invariant-loop-i l = (l.d ≤ l.i) × (l.i ≤ length l.s) × ((r : ℕ) → IsSpan l.s l.d l.i r → r ≡ span l.s)

abbrev pub decreases-loop-i : goal.decreases-loop-i
decreases-loop-i l = length l.s - l.i
