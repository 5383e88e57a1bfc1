use Rattle.std.proofs.Common.{◌≡◌, ◌-◌, suc, arith}
use Rattle.meaning.specs.Tables.{at}
use Rattle.chains.specs.Chains.{number}
use Rattle.chains.proofs.Walk.{link_head, link_next}
use Rattle.shortest.specs.Clauses.{on}
use Rattle.shortest.proofs.Following.{walked_none, walked_more}
use Rattle.shortest.proofs.Search.pass.Goals as goal

pub loop-link-init : goal.loop-link-init
loop-link-init c = let a = c.args in
    let s = a.self in (
      c.requires.room,
      rw c.number_at-link.ensures (link_head s.steps (on s.held) number s.held.rules.ys.now s.held.heads.now s.held.nexts.now s.chained.chained a.u c.requires.u_lt_steps),
      rw c.number_at-link.ensures (walked_none s a.limit a.u a.before.now a.layer.now c.requires.u_lt_steps),
    )

pub lower-requires-clause-held : goal.lower-requires-clause-held
lower-requires-clause-held c = c.loop-link.invariant.1.held (c.loop-link.link - 1) (omega (arith, c.loop-link-test.true))

pub loop-link-preserved : goal.loop-link-preserved
loop-link-preserved c = let a = c.args in
    let s = a.self in
    let loop = c.loop-link in
    let i = loop.link - 1 in
    let counted : loop.link ≡ suc i = omega (arith, c.loop-link-test.true) in
    let held : on s.held i = loop.invariant.1.held i counted in
    let own : at s.held.rules.ys.now i ≡ a.u = loop.invariant.1.own i counted in (
      omega (arith, c.lower.auto.layer, loop.invariant.0),
      rw c.number_at-link-in-loop-link.ensures (link_next s.steps (on s.held) number s.held.rules.ys.now s.held.heads.now s.held.nexts.now s.chained.chained a.u i held own),
      rw c.number_at-link-in-loop-link.ensures
          (walked_more s a.limit a.u a.before.now a.layer.now i loop.layer c.lower.new.layer held own loop.invariant.0 c.lower.ensures (rw counted at loop.invariant.2)),
    )
