-- Words written one after the other: each is written where the one before it ended, so together they are one word.
use Prim.Native.Nat.{ℕ, ◌+◌}
use native.Mathlib.Omega.{arith}
use mathlib.Core.Path.{◌≡◌, ap, sym, ◌∙◌}
use mathlib.Core.List.{List, ◌++◌}
use lib.ListN.{length, length-append}
use Rattle.write.specs.Written.{over}
use Rattle.write.proofs.Laws.{over_append}

-- The word w was written over l from place i on; the list is now m, and the place past the word is e.
abbrev pub Wrote : List ℕ → ℕ → List ℕ → List ℕ → ℕ → Type 0
Wrote l i w m e = (m ≡ over l i w) × (e ≡ i + length w)

-- Two words are one.
pub wrote_both : {m o : List ℕ} {e f : ℕ} (l : List ℕ) (i : ℕ) (a b : List ℕ) → Wrote l i a m e → Wrote m e b o f → Wrote l i (a ++ b) o f
wrote_both {m} {o} {e} {f} l i a b one two = (
  two.0 ∙ ap (λ (k : List ℕ). over k e b) one.0 ∙ ap (λ (k : ℕ). over (over l i a) k b) one.1 ∙ over_append l i a b,
  omega (arith, one.1, two.1, length-append a b),
)

-- Of two words to be written the first is written; the other is left.
pub wrote_rest : {m o : List ℕ} {e f : ℕ} (l : List ℕ) (i : ℕ) (a b : List ℕ) → Wrote l i (a ++ b) o f → Wrote l i a m e → Wrote m e b o f
wrote_rest {m} {o} {e} {f} l i a b whole one = (
  whole.0 ∙ sym (ap (λ (k : List ℕ). over k e b) one.0 ∙ ap (λ (k : ℕ). over (over l i a) k b) one.1 ∙ over_append l i a b),
  omega (arith, one.1, whole.1, length-append a b),
)
