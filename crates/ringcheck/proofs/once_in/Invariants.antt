-- `ringcheck::once_in` meets its contract. The loop's invariant: the numbers left have a first step, and no step of the two windows is a first step twice exactly
-- when what is left of the first steps is fresh in both.
use Prim.Native.Nat.{◌<◌}
use mathlib.Core.Logic.{◌↔◌}
use lib.ListN.{length, drop}
use Rattle.meaning.specs.Rules.{All}
use Rattle.ringcheck.specs.Closing.{OnceIn, first_steps}
use Rattle.ringcheck.proofs.Reading.{Left}
use Rattle.ringcheck.proofs.once_in.Given as goal

abbrev pub invariant-loop-number : goal.invariant-loop-number
invariant-loop-number l = All (λ i. i < length l.xs) (drop l.number-index l.list)
    × (OnceIn l.window (first_steps l.xs l.x l.list) ↔ Left l.xs l.list l.window l.met l.beyond l.number-index)
