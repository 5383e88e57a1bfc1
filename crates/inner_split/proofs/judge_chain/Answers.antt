use Prim.Native.Nat.{◌-◌}
use Rattle.chains.proofs.Laws.{next_in}
use Rattle.inner_split.proofs.Judging.{along_head, along_next, along_end}
use native.Mathlib.Omega.{arith}
use Rattle.inner_split.proofs.judge_chain.Goals as goal

pub loop-link-init : goal.loop-link-init
loop-link-init g c = let a = c.args in
    along_head (λ j passes. goal.F-post g a.test j passes) a.n a.w a.steps.now a.chains.heads.now a.chains.nexts.now c.requires.chains_by.chained a.a a.verdicts.now _ c.number_at-link.ensures c.requires.a_lt_n

pub test-requires : goal.test-requires
test-requires g c = c.requires.callable (c.loop-link.link - 1) (c.loop-link.invariant.linked.held (c.loop-link.link - 1) (omega (arith, c.loop-link-test.true)))

pub bounds-verdicts-j : goal.bounds-verdicts-j
bounds-verdicts-j g c =
    omega (arith, c.loop-link.invariant.long, c.loop-link.invariant.linked.held (c.loop-link.link - 1) (omega (arith, c.loop-link-test.true)), c.requires.w_in_bounds)

pub number_at-link-requires-in-loop-link : goal.number_at-link-requires-in-loop-link
number_at-link-requires-in-loop-link g c =
    omega (arith, c.loop-link.invariant.linked.held (c.loop-link.link - 1) (omega (arith, c.loop-link-test.true)), c.requires.chains_by.nexts_room)

pub loop-link-smaller : goal.loop-link-smaller
loop-link-smaller g c = let a = c.args in
    let loop = c.loop-link in
    omega (
      arith,
      c.loop-link-test.true,
      c.number_at-link-in-loop-link.ensures,
      next_in a.n a.w a.steps.now a.chains.heads.now a.chains.nexts.now c.requires.chains_by.chained (loop.link - 1) (loop.invariant.linked.held (loop.link - 1) (omega (arith, c.loop-link-test.true))),
    )

pub loop-link-preserved : goal.loop-link-preserved
loop-link-preserved g c = let a = c.args in
    let loop = c.loop-link in
    along_next (λ j passes. goal.F-post g a.test j passes) a.n a.w a.steps.now a.chains.heads.now a.chains.nexts.now c.requires.chains_by.chained a.a a.verdicts.now loop.link _ c.test.result loop.verdicts
    c.loop-link-test.true c.number_at-link-in-loop-link.ensures c.requires.w_in_bounds (λ own. c.test.ensures) loop.invariant

pub returns : goal.returns
returns g c = let a = c.args in
    along_end (λ j passes. goal.F-post g a.test j passes) a.w a.steps.now a.a _ a.verdicts.now c.loop-link.verdicts (omega (arith, c.loop-link-test.false)) c.loop-link.invariant
