-- `sound::Queue::seed` meets its contract. The loop's invariant: of the steps passed, those of day 0 are entered.
use Rattle.sound.specs.Ground.{Seeded}
use Rattle.sound.proofs.Queue.seed.Given as goal

abbrev pub invariant-loop-v : goal.invariant-loop-v
invariant-loop-v l = Seeded l.n l.days l.v l.self
