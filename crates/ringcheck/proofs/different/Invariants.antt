-- `ringcheck::different` meets its contract. The loop's invariant: no step of a window before the pair is a first step twice.
use Prim.Native.Nat.{◌*◌}
use Rattle.ringcheck.specs.Closing.{Once, first_steps}
use Rattle.ringcheck.proofs.Windows.{Before}
use Rattle.ringcheck.proofs.different.Given as goal

abbrev pub invariant-loop-pair : goal.invariant-loop-pair
invariant-loop-pair l = Once (Before (2 * l.pair)) (first_steps l.xs l.x l.list)
