-- `levels::free` meets its contract: of rules in order those above k are the newest, and dropping them leaves what freeing all above k does; other rules are freed as Back does.
use Rattle.inner_back.proofs.Newest.{few, droppable, newest_freed}
use Rattle.levels.proofs.Ordering.{in_order_low}
use native.Mathlib.Omega.{arith}
use Rattle.levels.proofs.free.Goals as goal

pub cut-left-requires : goal.cut-left-requires
cut-left-requires c = record {
  m_in_bounds = omega (arith, few c.requires.freeable, c.requires.freeable.levels_room);
  k_bound = c.requires.freeable.marks_in;
}

pub drop_newest-requires : goal.drop_newest-requires
drop_newest-requires c = let order = c.requires.in_order c.if-in_order.true in
    let drop = droppable c.requires.freeable order.all_held order.no_other c.requires.lent_chains in record {
      c_le_m = c.cut-left.ensures.within;
      lent_chains = drop.0;
      by_index = drop.1.0;
      m_in_bounds = drop.1.1.0;
      m_in_bounds_2 = drop.1.1.1;
    }

pub returns-then-in_order : goal.returns-then-in_order
returns-then-in_order c = let order = c.requires.in_order c.if-in_order.true in
    let freed = newest_freed (few c.requires.freeable) order.all_held order.no_other c.cut-left.ensures (in_order_low order c.cut-left.ensures) c.drop_newest.ensures.freed_from c.drop_newest.ensures.lent_chains_2 in record {
      levels_after = freed.0;
      value = freed.1.0;
      lent_chains_2 = freed.1.1;
    }
