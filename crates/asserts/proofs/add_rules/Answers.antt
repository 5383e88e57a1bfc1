use mir.Syntax.{w32}
use mir.ValLaws.{to_z-of_z}
use lib.ListN.{get_or}
use lib.IntN.{pos}
use Rattle.asserts.proofs.Going.{left_start, left_none, next_good, next_place, left_clash, left_held}
use native.Mathlib.Omega.{arith}
use Rattle.asserts.proofs.add_rules.Goals as goal

pub loop-i-init : goal.loop-i-init
loop-i-init c = (left_start _ _ _ _ c.requires.border c.requires.within c.requires.k_bound, (c.requires.lent_chains, c.requires.all_held))

pub add_one-added-requires : goal.add_one-added-requires
add_one-added-requires c = let loop = c.loop-i in record {
  border = loop.invariant.0.border;
  lent_chains = loop.invariant.1.0;
  in_bounds = rw (to_z-of_z w32 (get_or c.args.row_cs.now loop.i (pos 0)) (record { sfits = c.add_one-arg-in-loop-i-7-1.given })) (next_good _ _ _ _ _ _ loop.invariant.0 c.requires.rows_fine c.loop-i-test.true);
  rules_bound = next_place _ _ _ _ _ _ loop.invariant.0 c.requires.rows_fine c.loop-i-test.true;
  within = loop.invariant.0.within;
  all_held = loop.invariant.1.1;
}

pub returns-in-None : goal.returns-in-None
returns-in-None c = let loop = c.loop-i in
    let one = rw (to_z-of_z w32 (get_or c.args.row_cs.now loop.i (pos 0)) (record { sfits = c.add_one-arg-in-loop-i-7-1.given })) at c.in-None.ensures.adds_one in record {
      adds_all = left_clash _ _ _ _ _ _ loop.invariant.0 c.requires.rows_fine c.loop-i-test.true _ one.0 one.1;
      lent_chains_2 = c.in-None.ensures.lent_chains_2;
    }

pub loop-i-preserved : goal.loop-i-preserved
loop-i-preserved c = let loop = c.loop-i in
    let one = rw (to_z-of_z w32 (get_or c.args.row_cs.now loop.i (pos 0)) (record { sfits = c.add_one-arg-in-loop-i-7-1.given })) at c.in-Some.ensures.adds_one in
    (left_held _ _ _ _ _ _ loop.invariant.0 c.requires.rows_fine c.loop-i-test.true _ one, (c.in-Some.ensures.lent_chains_2, c.in-Some.ensures.all_held_2))

pub returns : goal.returns
returns c = record {
  adds_all = left_none _ _ _ _ _ _ c.loop-i.invariant.0 (λ (more : _). omega (arith, more, c.loop-i-test.false));
  lent_chains_2 = c.loop-i.invariant.1.0;
}
