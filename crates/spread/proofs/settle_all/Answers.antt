-- `spread::settle_all` meets its contract: where no more turn is made, none waits, or the goal is a step with a gain.
use Rattle.std.proofs.Common.{arith}
use Rattle.chains.specs.Chains.{number, linked}
use Rattle.spread.proofs.Ends.{stopped}
use Rattle.spread.proofs.settle_all.Goals as goal

pub returns-else-not-reached : goal.returns-else-not-reached
returns-else-not-reached g c = λ low b.
    let a = c.args in
    let l = c.loop-gains in
    let met = c.reached.ensures.so c.if-not-reached.false in
    stopped a.n (linked a.held.nexts.now) number a.held.rules.xs.now a.held.rules.ys.now a.held.rules.cs.now a.held.days.now a.held.heads.now a.held.nexts.now a.goal low a.gains.now l.gains l.by l.waiting.list
    l.waiting.count c.requires.ground (l.invariant.3 low b) (λ short. absurd (omega (arith, met.1, short met.0))) l.invariant.2

pub returns-after-loop-gains : goal.returns-after-loop-gains
returns-after-loop-gains g c = λ low b.
    let a = c.args in
    let l = c.loop-gains in
    stopped a.n (linked a.held.nexts.now) number a.held.rules.xs.now a.held.rules.ys.now a.held.rules.cs.now a.held.days.now a.held.heads.now a.held.nexts.now a.goal low a.gains.now l.gains l.by l.waiting.list
    l.waiting.count c.requires.ground (l.invariant.3 low b) (λ short. c.is_empty.ensures.0 c.loop-gains-test.false) l.invariant.2
