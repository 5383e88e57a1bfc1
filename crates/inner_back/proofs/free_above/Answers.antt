-- `inner_back::free_above` meets its contract: where the first places are held, and those above k are the newest, dropping these leaves what freeing all above k does; else the places are sifted.
use Rattle.inner_back.proofs.Newest.{few, none_behind, droppable, newest_freed}
use native.Mathlib.Omega.{arith}
use Rattle.inner_back.proofs.free_above.Goals as goal

pub all_held-requires : goal.all_held-requires
all_held-requires c = omega (arith, few c.requires.freeable, c.requires.freeable.levels_room)

pub cut-left-requires : goal.cut-left-requires
cut-left-requires c = record {
  m_in_bounds = omega (arith, few c.requires.freeable, c.requires.freeable.levels_room);
  k_bound = c.requires.freeable.marks_in;
}

pub none_above-requires : goal.none_above-requires
none_above-requires c = record {
  m_in_bounds = omega (arith, c.cut-left.ensures.within, few c.requires.freeable, c.requires.freeable.levels_room);
  k_bound = c.requires.freeable.marks_in;
}

pub drop_newest-requires : goal.drop_newest-requires
drop_newest-requires c = let all_held = c.all_held in
    let held = all_held.ensures.so c.if-all_held.true in
    let drop = droppable c.requires.freeable held (none_behind c.requires.freeable held) c.requires.lent_chains in record {
      c_le_m = c.cut-left.ensures.within;
      lent_chains = drop.0;
      by_index = drop.1.0;
      m_in_bounds = drop.1.1.0;
      m_in_bounds_2 = drop.1.1.1;
    }

pub returns-then-none_above : goal.returns-then-none_above
returns-then-none_above c = let none_above = c.none_above in
    let all_held = c.all_held in
    let freeable = c.requires.freeable in
    let held = all_held.ensures.so c.if-all_held.true in
    let freed = newest_freed (few freeable) held (none_behind freeable held) c.cut-left.ensures (none_above.ensures.so c.if-none_above.true) c.drop_newest.ensures.freed_from c.drop_newest.ensures.lent_chains_2 in record {
      levels_after = freed.0;
      value = freed.1.0;
      lent_chains_2 = freed.1.1;
    }
