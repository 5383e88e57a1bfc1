use Rattle.std.proofs.Common.{◌≡◌, ◌-◌, suc, arith}
use Rattle.meaning.specs.Tables.{at}
use Rattle.chains.specs.Chains.{number}
use Rattle.chains.proofs.Walk.{link_head, link_next}
use Rattle.shortest.specs.Clauses.{on}
use Rattle.shortest.proofs.Deepening.{walking_none, walking_more, walking_end}
use Rattle.shortest.proofs.Outward.spread.Goals as goal

pub loop-link-init : goal.loop-link-init
loop-link-init c = let a = c.args in
    let o = a.self in (
      c.requires.room,
      rw c.number_at-link.ensures (link_head o.steps (on o.held) number o.held.rules.xs.now o.held.heads.now o.held.nexts.now o.leading.chained a.v c.requires.v_lt_steps),
      rw c.number_at-link.ensures (walking_none o.steps o.held o.lack a.level c.requires.level_bound o.leading a.v c.requires.v_lt_steps a.depths.now),
    )

pub enter-requires-clause-held : goal.enter-requires-clause-held
enter-requires-clause-held c = c.loop-link.invariant.1.held (c.loop-link.link - 1) (omega (arith, c.loop-link-test.true))

pub loop-link-preserved : goal.loop-link-preserved
loop-link-preserved c = let a = c.args in
    let o = a.self in
    let loop = c.loop-link in
    let i = loop.link - 1 in
    let counted : loop.link ≡ suc i = omega (arith, c.loop-link-test.true) in
    let held : on o.held i = loop.invariant.1.held i counted in
    let own : at o.held.rules.xs.now i ≡ a.v = loop.invariant.1.own i counted in (
      omega (arith, c.enter.auto.depths, loop.invariant.0),
      rw c.number_at-link-in-loop-link.ensures (link_next o.steps (on o.held) number o.held.rules.xs.now o.held.heads.now o.held.nexts.now o.leading.chained a.v i held own),
      rw c.number_at-link-in-loop-link.ensures
          (walking_more o.steps o.held o.lack a.level c.requires.level_bound o.leading a.v i a.depths.now loop.depths c.enter.new.depths held own c.enter.ensures (rw counted at loop.invariant.2)),
    )

pub returns : goal.returns
returns c = let a = c.args in
    let o = a.self in
    let done : c.loop-link.link ≡ 0 = omega (arith, c.loop-link-test.false) in
    walking_end o.steps o.held o.lack a.level c.requires.level_bound o.leading a.v a.depths.now c.loop-link.depths (rw done at c.loop-link.invariant.2)
