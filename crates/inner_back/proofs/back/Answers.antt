-- `inner_back::back` meets its contract: the places above the marks left are freed, and the rest is planned, as the promise says.
use Prim.Native.Nat.{◌-◌}
use mathlib.Core.Path.{refl, sym}
use borrow.Author.Tests.{ltb-false}
use Rattle.meaning.specs.Bounds.{RULES}
use Rattle.meaning.proofs.Needs.{obeys_done}
use Rattle.meaning.proofs.Places.{taken_at_most}
use Rattle.inner_back.proofs.Dropping.{plannable_left, earliest_left, planned_left}
use native.Mathlib.Omega.{arith}
use Rattle.inner_back.proofs.back.Goals as goal

pub replan-last-requires-clause-plannable : goal.replan-last-requires-clause-plannable
replan-last-requires-clause-plannable c = plannable_left c.requires.border _ c.free_above-left.ensures.levels_after c.free_above-left.ensures.lent_chains_2

pub replan-last-requires-clause-earliest : goal.replan-last-requires-clause-earliest
replan-last-requires-clause-earliest c all = let free = c.free_above-left in
    earliest_left c.requires.border _ free.ensures.levels_after free.ensures.lent_chains_2 (omega (arith, ltb-false free.result c.args.counts.rules all, free.ensures.value))

pub overflow_cast-result : goal.overflow_cast-result
overflow_cast-result c = omega (arith, c.free_above-left.ensures.value, taken_at_most RULES c.free_above-left.new.levels)

pub returns : goal.returns
returns c = let free = c.free_above-left in
    rw (free.ensures.value, free.ensures.levels_after)
    (obeys_done _ _ 0 0 _ (c.requires.border.room, (c.requires.border.sound, (omega (arith, c.if-counts-eq0.false), tt)))
    (record {
      no_values = (refl, refl);
      dropped = rw (sym c.replan-last.ensures.value) refl;
      planned = planned_left c.requires.border (c.args.counts.marks - 1) free.ensures.levels_after free.ensures.lent_chains_2 c.replan-last.ensures.planned;
    }))
