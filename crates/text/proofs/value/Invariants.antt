-- `text::value` meets its contract. The loop's invariant: the number read so far, with the digits that follow, is the whole number, both cut at the cap.
use mathlib.Core.Path.{◌≡◌}
use Prim.Native.Nat.{◌≤◌}
use lib.ListN.{drop}
use Rattle.text.specs.Lexicon.{cut, number}
use Rattle.text.proofs.value.Given as goal

abbrev pub invariant-loop-b : goal.invariant-loop-b
invariant-loop-b l = (l.n ≤ 10000000) × (cut (number l.n (drop l.b-index l.digits)) ≡ cut (number 0 l.digits))
