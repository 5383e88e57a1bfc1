use Prim.Native.Nat.{◌<◌}
use mathlib.Core.Path.{refl}
use lib.ListN.{length}
use Rattle.lent.specs.Decides.{decides_no}
use Rattle.ringcheck.proofs.Reading.{all_left, at_first, sought_unmet, sought_unmet_next, one_further}
use Rattle.ringcheck.proofs.once_in.Goals as goal

pub loop-number-init : goal.loop-number-init
loop-number-init c = (c.requires.1, at_first _ _ _ _ c.flag_in-met.ensures c.flag_in-beyond.ensures)

pub returns-then-met-flag-ne0 : goal.returns-then-met-flag-ne0
returns-then-met-flag-ne0 c =
    decides_no refl (λ once. c.if-met-flag-ne0.true (sought_unmet c.args.list.now c.loop-number.number-index c.loop-number.invariant.1 c.loop-number-test.true c.number_at-step.ensures c.flag_in-flag.ensures c.flag_in-other.ensures once))

pub returns-then-beyond-other-ne0 : goal.returns-then-beyond-other-ne0
returns-then-beyond-other-ne0 c =
    decides_no refl (λ once. c.if-beyond-other-ne0.true (sought_unmet_next c.args.list.now c.loop-number.number-index c.loop-number.invariant.1 c.loop-number-test.true c.number_at-step.ensures c.flag_in-flag.ensures c.flag_in-other.ensures once))

pub loop-number-preserved : goal.loop-number-preserved
loop-number-preserved c = let here = c.loop-number-test.true in
    let loop = c.loop-number in
    let args = c.args in (
      (all_left (λ i. i < length args.xs.now) args.list.now loop.number-index here loop.invariant.0).1,
      one_further args.list.now loop.number-index loop.invariant.1 here c.number_at-step.ensures c.flag_in-flag.ensures c.flag_in-other.ensures c.if-met-flag-ne0.false c.if-beyond-other-ne0.false,
    )
