use Prim.Native.Nat.{◌+◌, ◌<◌}
use mathlib.Core.Path.{◌≡◌, refl, ◌∙◌}
use lib.ListN.{length}
use Rattle.meaning.specs.Bounds.{RULES}
use Rattle.meaning.specs.Tables.{at}
use Rattle.chains.specs.Chains.{OFF}
use Rattle.chains.proofs.Turning.{Turned, turned_past, turned_more, turned_all}
use native.Mathlib.Omega.{arith}
use Rattle.chains.proofs.turn.Goals as goal
use Rattle.chains.proofs.turn.Goals.{else-nexts-k-lt-OFF, then-nexts-k-lt-OFF}

pub loop-k-preserved : goal.loop-k-preserved
loop-k-preserved c =
    let step_in : at c.loop-k.nexts c.loop-k.k < OFF → at c.args.ys.now c.loop-k.k < c.args.n = λ on. c.requires.steps_in c.loop-k.k (c.loop-k.invariant.3.only c.loop-k.k (c.loop-k-test.true, on)) in
    let turned : let args = c.args in
    (length c.if-nexts-k-lt-OFF.heads ≡ length c.loop-k.heads) × (length c.if-nexts-k-lt-OFF.nexts ≡ length c.loop-k.nexts) ×
    Turned args.n (c.loop-k.k + 1) args.ys.now args.nexts.now c.if-nexts-k-lt-OFF.heads c.if-nexts-k-lt-OFF.nexts = let args = c.args in
    let l = c.loop-k in
    elim c.if-nexts-k-lt-OFF.branch [
      | then-nexts-k-lt-OFF w ↦ rw (w.heads-is, w.nexts-is) (
        w.push.auto.heads,
        w.push.auto.nexts,
        turned_more args.n l.k args.ys.now args.nexts.now l.heads l.nexts l.invariant.3 (c.loop-k-test.true, omega (arith, w.if-nexts-k-lt-OFF.true)) (step_in (omega (arith, w.if-nexts-k-lt-OFF.true))) _ _ w.push.ensures,
      )
      | else-nexts-k-lt-OFF w ↦ rw (w.heads-is, w.nexts-is) (
        refl,
        refl,
        turned_past args.n l.k args.ys.now args.nexts.now l.heads l.nexts l.invariant.3 (λ on. omega (arith, on.1, w.if-nexts-k-lt-OFF.false)),
      )
    ] in
    let looped = c.loop-k-test in
    let inv = c.loop-k.invariant in
    let turn = turned in
    (turn.0 ∙ inv.0, turn.1 ∙ inv.1, omega (arith, looped.true), turn.2)

pub returns : goal.returns
returns c = let args = c.args in
    let all : c.loop-k.k ≡ RULES = omega (arith, c.loop-k.invariant.2, c.loop-k-test.false) in
    turned_all args.n args.ys.now args.nexts.now c.loop-k.heads c.loop-k.nexts (rw all at c.loop-k.invariant.3)
