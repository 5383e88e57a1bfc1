-- `sound::places_in` meets its contract. The loop's invariant is `Passed`: the rules of the places passed are good and on their chains. The measure is what is left of the places. Behind
-- the last rule every place is free, and off.
use Prim.Native.Nat.{◌≤◌, ◌-◌}
use mathlib.Core.Path.{◌≡◌}
use lib.ListN.{length}
use Rattle.meaning.specs.Bounds.{RULES}
use Rattle.lent.specs.Lent.{tables_of}
use Rattle.sound.proofs.Settling.{Passed}
use Rattle.sound.proofs.places_in.Given as goal

abbrev pub invariant-loop-seen : goal.invariant-loop-seen
invariant-loop-seen l = (length l.heads ≡ length l.initial.heads) × (length l.nexts ≡ length l.initial.nexts) × (l.i ≤ RULES) × (l.seen ≤ l.m) × Passed (tables_of l.counts l.tables) l.i l.seen l.heads l.nexts

abbrev pub decreases-loop-seen : goal.decreases-loop-seen
decreases-loop-seen l = RULES - l.i
