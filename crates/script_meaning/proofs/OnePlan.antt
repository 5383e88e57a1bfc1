-- What is asserted fixes its earliest plan. (What is asserted after a text is a function of it, `follows`.)
use Prim.Native.Nat.{ℕ}
use native.Mathlib.Nat.{le_antisymm}
use mathlib.Core.Path.{◌≡◌}
use mathlib.Core.List.{List}
use Rattle.script_meaning.specs.Traces.{History, Soonest}

-- **One plan**: two earliest plans of what is asserted give every name the same day.
pub soonest_same : (h : History) (p q : List ℕ → ℕ) → Soonest h p → Soonest h q → (w : List ℕ) → p w ≡ q w
soonest_same h p q a b w = le_antisymm (a.no_later q b.agrees w) (b.no_later p a.agrees w)
