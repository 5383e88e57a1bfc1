use Prim.Native.Nat.{ℕ, ◌+◌, ◌<◌}
use mathlib.Core.Path.{◌≡◌}
use mathlib.Core.Bool.{Bool, true, false}
use mathlib.Core.Logic.{◌⊎◌, inl, inr}
use mathlib.Core.List.{List}
use lib.ListN.{length, set}
use Rattle.inner_split.specs.Verdicts.{verdict, Picked}
use Rattle.inner_split.proofs.Picking.{picked_take, picked_leave}
use native.Mathlib.Omega.{arith}
use Rattle.inner_split.proofs.pick.Goals as goal
use Rattle.inner_split.proofs.pick.Goals.{else-says_yes, then-says_yes}

-- One number more: it is listed where its verdict is yes.
one_more :
    (verdicts : List Bool) (before after after' : List ℕ) (k k' j : ℕ) → Picked j verdicts before after k → k < length after →
    ((verdict verdicts j ≡ true) × (after' ≡ set after k j) × (k' ≡ k + 1)) ⊎ ((verdict verdicts j ≡ false) × (after' ≡ after) × (k' ≡ k)) →
    Picked (j + 1) verdicts before after' k'
one_more verdicts before after after' k k' j picked place (inl (says-yes, list_is, k-is)) =
    rw (list_is, k-is) (picked_take verdicts before after k j picked says-yes place)
one_more verdicts before after after' k k' j picked place (inr (says-no, list_is, k-is)) =
    rw (list_is, k-is) (picked_leave verdicts before after k j picked says-no)

pub loop-j-preserved : goal.loop-j-preserved
loop-j-preserved c = let loop = c.loop-j in
    one_more c.args.verdicts.now c.args.list.now loop.list c.if-says_yes.list loop.k c.if-says_yes.k loop.j loop.invariant
    (omega (arith, c.loop-j-test.true, loop.invariant.at_most, loop.invariant.filled.past.same_length, c.requires.room))
    (elim c.if-says_yes.branch [ then-says_yes w ↦ inl (w.if-says_yes.true, w.list-is, w.k-is) | else-says_yes w ↦ inr (w.if-says_yes.false, w.list-is, w.k-is) ])
