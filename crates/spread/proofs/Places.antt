-- One place of a function changed.
use Prim.Native.Nat.{ℕ}
use mathlib.Core.Path.{refl}
use borrow.Author.Tests.{eq-eqb, ne_eqb}
use Rattle.waiting.specs.Places.{Put}
use Rattle.spread.specs.Relax.{instead}

-- The number v is put at place i.
pub put_instead : (i v : ℕ) (f : ℕ → ℕ) → Put i v f (instead i v f)
unfolding instead
put_instead i v f = record { there = rw (eq-eqb i i refl); others = λ j other. rw (ne_eqb j i other) }
