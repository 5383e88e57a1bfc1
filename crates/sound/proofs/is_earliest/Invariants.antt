-- `sound::is_earliest` meets its contract. The loop's invariant is `Grounding`: the first `done` steps of the work-list have been followed. The measure is what is left of the steps, of which at most n are entered.
use Prim.Native.Nat.{◌-◌}
use Rattle.sound.proofs.Grounding.{Grounding}
use Rattle.sound.proofs.is_earliest.Given as goal

abbrev pub invariant-loop-done : goal.invariant-loop-done
invariant-loop-done l = Grounding l.n l.held l.done l.queue

abbrev pub decreases-loop-done : goal.decreases-loop-done
decreases-loop-done l = l.n - l.done
