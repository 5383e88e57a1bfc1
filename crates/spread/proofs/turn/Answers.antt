-- `spread::turn` meets its contract: a step of largest gain leaves the list, and its rules are relaxed, which together is a turn.
use Rattle.std.proofs.Common.{sym, arith, rules}
use Rattle.chains.specs.Chains.{number, linked}
use Rattle.meaning.specs.Tables.{at}
use Rattle.spread.proofs.Turning.{ready_without, turned}
use Rattle.spread.proofs.turn.Goals as goal

pub relax_all-requires : goal.relax_all-requires
relax_all-requires g c = let w = c.args.waiting.now in
    let pre = c.requires.underway in
    let taken = c.take-x.ensures in
    let ready = ready_without c.args.n (at c.args.gains.now) (at w.list) (at c.take-x.new.self.list) w.count taken.place taken.largest.place_in taken.out pre.ready in (
      search rules,
      (
        c.requires.ground,
        (
          record { steps_room = pre.steps_room; groups_room = pre.groups_room; ready = rw taken.one_fewer ready; led = taken.led },
          omega (arith, taken.there, pre.ready.listed_in taken.place taken.largest.place_in),
        ),
      ),
    )

pub returns-clause-turned : goal.returns-clause-turned
returns-clause-turned g c = let a = c.args in
    let w = a.waiting.now in
    let taken = c.take-x.ensures in
    turned a.n (linked a.held.nexts.now) number a.held.rules.xs.now a.held.rules.ys.now a.held.rules.cs.now a.held.days.now a.held.heads.now a.held.nexts.now a.gains.now a.by.now w.list
    c.take-x.new.self.list w.count taken.place _ _ _ _ c.requires.ground
    (c.requires.underway.ready.listed_in taken.place taken.largest.place_in) taken.largest taken.out
    (rw (taken.one_fewer, sym taken.there) at c.relax_all.ensures.relaxed_all)
