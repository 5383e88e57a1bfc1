use Prim.Native.Nat.{◌+◌, ◌*◌}
use mathlib.Core.Path.{◌≡◌, refl, subst}
use native.Mathlib.Omega.{arith}
use Rattle.lent.specs.Decides.{decides_yes, decides_no}
use Rattle.ringcheck.specs.Closing.{In, Once, first_steps}
use Rattle.ringcheck.proofs.Windows.{Before, none_before, all_before, windows_joined, different→once, once→different}
use Rattle.ringcheck.proofs.different.Goals as goal

pub loop-pair-init : goal.loop-pair-init
loop-pair-init c = none_before (first_steps c.args.xs.now c.args.x c.args.list.now)

pub returns-then-not-once_in : goal.returns-then-not-once_in
returns-then-not-once_in c = let steps = first_steps c.args.xs.now c.args.x c.args.list.now in
    let window = 2 * c.loop-pair.pair in
    decides_no refl (λ different. c.once_in.ensures.not_so c.if-not-once_in.true (record { here = different→once (In window) steps different; next = different→once (In (window + 1)) steps different }))

pub loop-pair-preserved : goal.loop-pair-preserved
loop-pair-preserved c = let steps = first_steps c.args.xs.now c.args.x c.args.list.now in
    let window = 2 * c.loop-pair.pair in
    let further : window + 2 ≡ 2 * (c.loop-pair.pair + 1) = omega arith in
    subst (λ w. Once (Before w) steps) further (windows_joined window steps c.loop-pair.invariant (c.once_in.ensures.so c.if-not-once_in.false))

pub returns : goal.returns
returns c = let steps = first_steps c.args.xs.now c.args.x c.args.list.now in
    let window = 2 * c.loop-pair.pair in
    decides_yes refl (once→different (Before window) steps (all_before c.args.n window (omega (arith, c.loop-pair-test.false, c.div_ceil-pair-end.ensures)) steps c.requires.steps_in) c.loop-pair.invariant)
