-- `sound::Queue::follow` meets its contract. The loop's invariant is `Walking`: every rule of a above the link has been followed. The measure is the link, which falls from rule to rule.
use Rattle.sound.proofs.Grounding.{Walking}
use Rattle.sound.proofs.Queue.follow.Given as goal

abbrev pub invariant-loop-link : goal.invariant-loop-link
invariant-loop-link l = Walking l.n l.held l.a l.initial.self.places l.self l.link

abbrev pub decreases-loop-link : goal.decreases-loop-link
decreases-loop-link l = l.link
