-- `chains::turn` meets its contract. The loop's invariant: the rules of the places passed are on their chains.
use Prim.Native.Nat.{◌≤◌}
use mathlib.Core.Path.{◌≡◌}
use lib.ListN.{length}
use Rattle.meaning.specs.Bounds.{RULES}
use Rattle.chains.proofs.Turning.{Turned}
use Rattle.chains.proofs.turn.Given as goal

abbrev pub invariant-loop-k : goal.invariant-loop-k
invariant-loop-k l = (length l.heads ≡ length l.initial.heads) × (length l.nexts ≡ length l.initial.nexts) × (l.k ≤ RULES) × Turned l.n l.k l.ys l.initial.nexts l.heads l.nexts
