-- The proof of the cycle of calls {number}. The measure is the number, which falls to its tenth.
use Rattle.write.proofs.+number.Given as goal

abbrev pub decreases-number : goal.decreases-number
decreases-number l = l.n
