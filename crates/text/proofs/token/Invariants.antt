-- `text::token` meets its contract. The loop's invariant: the token found from the place on is the one asked for. The class of the byte there is white space, begins a comment, or
-- picks the token. The measure is what is left of the text.
use mathlib.Core.Path.{◌≡◌}
use Prim.Native.Nat.{◌-◌}
use lib.ListN.{length}
use Rattle.text.specs.Lexicon.{start}
use Rattle.text.proofs.token.Given as goal

abbrev pub invariant-loop-i : goal.invariant-loop-i
invariant-loop-i l = start l.s l.i ≡ start l.s l.at

abbrev pub decreases-loop-i : goal.decreases-loop-i
decreases-loop-i l = length l.s - l.i
