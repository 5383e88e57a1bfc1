-- `asserts::add_one`: whether the rule fits says whether it is held or the tables are as before, and a rule that is held is put on its chain.
use mir.Syntax.{w32}
use mir.ValLaws.{to_z-of_z}
use Rattle.asserts.proofs.Answering.{number_in, ready, new_amendable, one_held, one_clash}
use native.Mathlib.Omega.{arith}
use Rattle.asserts.proofs.add_one.Goals as goal

pub place_for-m-requires : goal.place_for-m-requires
place_for-m-requires c = record {
  in_bounds = c.requires.border.room.levels_room;
  rules_bound = omega (arith, c.requires.rules_bound);
  rules_value = c.requires.border.sound.rules_counted;
  all_held = c.requires.all_held;
}

pub fit-requires : goal.fit-requires
fit-requires c = let args = c.args in
    rw (to_z-of_z w32 args.c c.ranges.c)
    (ready args.counts args.e args.xs.now args.ys.now args.cs.now args.days.now args.levels.now
    args.heads.now args.nexts.now args.x args.y args.c args.packed (c.requires.border, (c.requires.lent_chains, (c.requires.in_bounds, (c.requires.rules_bound, (c.requires.within, c.requires.all_held))))) c.place_for-m.result c.place_for-m.ensures)

pub bounds-levels-m : goal.bounds-levels-m
bounds-levels-m c = let place-for = c.place_for-m in
    let args = c.args in
    omega (
      arith,
      c.requires.border.room.levels_room,
      number_in args.counts args.e args.xs.now args.ys.now args.cs.now args.days.now args.levels.now
          args.heads.now args.nexts.now args.x args.y args.c args.packed (c.requires.border, (c.requires.lent_chains, (c.requires.in_bounds, (c.requires.rules_bound, (c.requires.within, c.requires.all_held))))) place-for.result place-for.ensures,
    )

pub insert-requires : goal.insert-requires
insert-requires c = let place-for = c.place_for-m in
    let args = c.args in
    let t = rw (to_z-of_z w32 args.c c.ranges.c) at c.in_ok-risen.ensures in
    let put = new_amendable args.counts args.e args.xs.now args.ys.now args.cs.now args.days.now args.levels.now args.heads.now args.nexts.now
    args.x args.y args.c args.packed (c.requires.border, (c.requires.lent_chains, (c.requires.in_bounds, (c.requires.rules_bound, (c.requires.within, c.requires.all_held))))) place-for.result place-for.ensures c.in_ok-risen.risen.moved c.in_ok-risen.risen.last _ _ _ _ t in
    record { amendable = put.0; fact = put.1 }

pub one_more-requires : goal.one_more-requires
one_more-requires c = c.requires.rules_bound

pub returns : goal.returns
returns c = let insert = c.insert in
    let place-for = c.place_for-m in
    let one_more = c.one_more in
    let args = c.args in
    let t = rw (to_z-of_z w32 args.c c.ranges.c) at c.in_ok-risen.ensures in
    let held = one_held args.counts args.e args.xs.now args.ys.now args.cs.now args.days.now args.levels.now args.heads.now args.nexts.now
    args.x args.y args.c args.packed (c.requires.border, (c.requires.lent_chains, (c.requires.in_bounds, (c.requires.rules_bound, (c.requires.within, c.requires.all_held))))) place-for.result place-for.ensures c.in_ok-risen.risen.moved c.in_ok-risen.risen.last _ _ _ _ t
    one_more.result one_more.ensures _ _ insert.auto.heads insert.auto.nexts insert.ensures in
    record { adds_one = held.0; lent_chains_2 = held.1.0; all_held_2 = held.1.1 }

pub returns-in_err-risen : goal.returns-in_err-risen
returns-in_err-risen c = let place-for = c.place_for-m in
    let args = c.args in
    let t = rw (to_z-of_z w32 args.c c.ranges.c) at c.in_err-risen.ensures in
    let held = one_clash args.counts args.e args.xs.now args.ys.now args.cs.now args.days.now args.levels.now args.heads.now args.nexts.now
    args.x args.y args.c args.packed (c.requires.border, (c.requires.lent_chains, (c.requires.in_bounds, (c.requires.rules_bound, (c.requires.within, c.requires.all_held))))) place-for.result place-for.ensures _ _ _ _ t in
    rw c.from_residual.ensures (record { adds_one = (held.0, held.1); lent_chains_2 = held.2.0; all_held_2 = held.2.1 })
