use mathlib.Core.Path.{◌∙◌}
use lib.ListN.{take}
use mir.Syntax.{w32, w64}
use mir.ValLaws.{to_z-of_z}
use Rattle.yard.proofs.Making.{made_more}
use Rattle.yard.proofs.Results.{raised_row, raised_all}
use native.Mathlib.Omega.{arith}
use Rattle.yard.proofs.raise.Goals as goal

pub loop-row-preserved : goal.loop-row-preserved
loop-row-preserved c = let loop = c.loop-row in
    made_more loop.invariant c.loop-row-test.true _
    (raised_row _ _ loop.row-index _ _ (take c.args.n c.args.gaps.now) (loop.invariant.rest loop.row-index (omega arith))
    (to_z-of_z w64 _ (record { sfits = c.raise_row-arg-1.given })) (to_z-of_z w64 c.from.result (record { sfits = c.from.type_inv }) ∙ c.from.ensures) c.raise_row.ensures)

pub returns : goal.returns
returns c = raised_all c.if-n-gt-YARD_STEPS.false c.told-gaps c.loop-row-test.false (to_z-of_z w32 c.args.c c.ranges.c) c.loop-row.invariant
