use mathlib.Core.Path.{◌∙◌, subst}
use lib.ListN.{get_or}
use lib.IntN.{ℤ, pos}
use mir.Syntax.{w64}
use mir.Val.{to_z, of_z}
use mir.ValLaws.{to_z-of_z}
use Rattle.std.proofs.lemmas.List.{get_or-take}
use Rattle.gaps.specs.Slacks.{SmallerOf}
use Rattle.yard.proofs.Making.{made_more, made_front}
use native.Mathlib.Omega.{arith}
use Rattle.yard.proofs.raise_row.Goals as goal

pub loop-j-preserved : goal.loop-j-preserved
loop-j-preserved c = let loop = c.loop-j in
    let read = to_z-of_z w64 (get_or loop.cell-items loop.j (pos 0)) (record { sfits = c.smaller-arg-1.given }) ∙ loop.invariant.rest loop.j (omega arith) in
    let step =
    rw (read, to_z-of_z w64 (get_or c.args.via.now loop.j (pos 0)) (record { sfits = c.smaller-arg-in-loop-j-1.given })) at c.smaller.ensures in
    made_more loop.invariant c.loop-j-test.true _ (rw (to_z-of_z w64 c.smaller.result (record { sfits = c.smaller.type_inv })) step)

pub returns : goal.returns
returns c = let args = c.args in
    let fits = c.ranges in
    rw (to_z-of_z w64 args.p fits.p, to_z-of_z w64 args.c fits.c) at
    (made_front (omega (arith, c.told-row, c.requires.n_bound)) c.loop-j-test.false
    (λ i h a. subst (λ (z : ℤ). SmallerOf z (to_z w64 (of_z w64 args.p)) (to_z w64 (of_z w64 args.c)) (get_or args.via.now i (pos 0)) a) (get_or-take args.n args.row.now i (pos 0) h))
    c.loop-j.invariant)
