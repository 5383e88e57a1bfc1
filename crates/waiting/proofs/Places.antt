-- One place changed by a store into a list.
use Prim.Native.Nat.{ℕ, ◌<◌}
use mathlib.Core.Path.{◌≡◌, ◌∙◌, ap}
use mathlib.Core.List.{List}
use lib.ListN.{length, set}
use lib.Seq.{get_or-set_same, get_or-set_other}
use Rattle.meaning.specs.Tables.{at}
use Rattle.waiting.specs.Places.{Put}

-- A store at place i puts the number there.
pub put_set : (l : List ℕ) (i v : ℕ) → i < length l → Put i v (at l) (at (set l i v))
put_set l i v inside = record { there = get_or-set_same l i v 0 inside; others = λ j other. get_or-set_other l i j v 0 other }

-- What stands at a place that is i.
pub put_here : (i v : ℕ) (f f' : ℕ → ℕ) → Put i v f f' → (j : ℕ) → j ≡ i → f' j ≡ v
put_here i v f f' put j e = ap f' e ∙ put.there
