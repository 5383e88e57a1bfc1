-- `spread::relax_all` meets its contract: each rule of the chain is relaxed in its turn.
use Rattle.std.proofs.Common.{ℕ, List, ◌≡◌, ◌∙◌, ap, arith, rules}
use Rattle.meaning.specs.Tables.{at}
use Rattle.chains.specs.Chains.{number, linked}
use Rattle.chains.proofs.Walk.{link_next}
use Rattle.chains.proofs.Falling.{head_falls}
use Rattle.spread.specs.Clauses.{StepsRoom}
use Rattle.spread.proofs.Walking.{relaxable, walked_more, walked_all}
use Rattle.spread.proofs.relax_all.Goals as goal

pub new-i-items-requires : goal.new-i-items-requires
new-i-items-requires g c = let a = c.args in
    let ground = c.requires.ground in
    rw c.number_at.ensures (head_falls a.n (linked a.held.nexts.now) a.held.rules.xs.now a.held.heads.now a.held.nexts.now ground.chained ground.next_place a.x c.requires.x_lt_n)

pub relax-requires : goal.relax-requires
relax-requires g c = let a = c.args in
    let l = c.loop-i in
    let inv = l.invariant in
    let room : StepsRoom a.n g.row.N l.gains l.by = record {
      steps_in = c.requires.underway.steps_room.steps_in;
      gains_room = omega (arith, c.requires.underway.steps_room.gains_room, l.auto.gains);
      by_room = omega (arith, c.requires.underway.steps_room.by_room, l.auto.by);
    } in (
      search rules,
      (
        relaxable a.n (linked a.held.nexts.now) number a.held.rules.xs.now a.held.rules.ys.now a.held.rules.cs.now a.held.days.now a.held.heads.now a.held.nexts.now l.gains l.by l.waiting.list l.waiting.count c.in-Some.i g.row.N
            c.requires.ground (inv.3.held c.in-Some.i c.in-Some.ensures.steps.1.0) room inv.4.ready,
        (room.steps_in, (c.requires.underway.groups_room, inv.5)),
      ),
    )

pub loop-i-preserved : goal.loop-i-preserved
loop-i-preserved g c = let l = c.loop-i in
    let a = c.args in
    let inv = l.invariant in
    let ground = c.requires.ground in
    let i = c.in-Some.i in
    let steps = c.in-Some.ensures.steps in
    let held : linked a.held.nexts.now i = inv.3.held i steps.1.0 in
    let own : at a.held.rules.xs.now i ≡ a.x = inv.3.own i steps.1.0 in
    let next : c.next.new.self.link ≡ at a.held.nexts.now i = steps.1.1 ∙ ap (λ (nexts : List ℕ). at nexts i) inv.2 in (
      tt,
      tt,
      rw steps.0 inv.2,
      rw next (link_next a.n (linked a.held.nexts.now) number a.held.rules.xs.now a.held.heads.now a.held.nexts.now ground.chained a.x i held own),
      rw next
          (walked_more a.n (linked a.held.nexts.now) number a.held.rules.xs.now a.held.rules.ys.now a.held.rules.cs.now a.held.days.now a.held.heads.now a.held.nexts.now ground i held _
          a.gains.now a.by.now a.waiting.now.list a.waiting.now.count l.gains l.by l.waiting.list l.waiting.count _ _ _ _ a.x own c.relax.ensures.relaxed
          (rw steps.1.0 at inv.4)),
      c.relax.ensures.led_2,
    )

pub returns-clause-relaxed_all : goal.returns-clause-relaxed_all
returns-clause-relaxed_all g c = let a = c.args in
    let l = c.loop-i in
    walked_all a.n (linked a.held.nexts.now) number a.held.rules.xs.now a.held.rules.ys.now a.held.rules.cs.now a.held.days.now a.x _ a.gains.now a.by.now a.waiting.now.list a.waiting.now.count
    l.gains l.by l.waiting.list l.waiting.count (rw c.in-None.ensures.steps.1.0 at l.invariant.4)
