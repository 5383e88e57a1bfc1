-- `names::Names::follow` meets its contract. The loop's invariant: the link leads to a name with the hash sought, and no name passed is the one sought. The measure is
-- the link.
use Prim.Native.Nat.{◌≤◌}
use Rattle.names.specs.Names.{LinkOf}
use Rattle.names.proofs.Links.{Passed}
use Rattle.names.proofs.Names.follow.Given as goal

abbrev pub invariant-loop-l : goal.invariant-loop-l
invariant-loop-l l = (l.l ≤ l.link) × LinkOf l.self.count l.self.letters.now l.self.lens.now l.word l.l × Passed l.self.letters.now l.self.lens.now l.word l.link l.l

abbrev pub decreases-loop-l : goal.decreases-loop-l
decreases-loop-l l = l.l
