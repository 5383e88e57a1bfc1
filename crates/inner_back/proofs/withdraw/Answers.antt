-- `inner_back::withdraw` meets its contract: the rule is taken off its chain and its place freed, and the rest is planned, as the promise says.
use mathlib.Core.Path.{refl, sym}
use borrow.Author.Tests.{ltb-false}
use Rattle.lent.specs.Lent.{held_by}
use Rattle.meaning.proofs.Needs.{obeys_done}
use Rattle.meaning.proofs.Places.{held_counted}
use Rattle.inner_back.proofs.Dropping.{earliest_without, planned_without}
use native.Mathlib.Omega.{arith}
use Rattle.inner_back.proofs.withdraw.Goals as goal

pub replan-latest-requires-clause-earliest : goal.replan-latest-requires-clause-earliest
replan-latest-requires-clause-earliest c tight =
    let there : held_by c.args.levels.now c.args.number = (omega (arith, c.if-i-ge-RULES.false), omega (arith, c.if-levels-i-eq0.false)) in
    earliest_without c.requires.border there c.requires.lent_chains c.remove.ensures c.slack-spare.result c.slack-spare.ensures (ltb-false c.slack-spare.result 1 tight)

pub overflow_sub-result : goal.overflow_sub-result
overflow_sub-result c =
    let there : held_by c.args.levels.now c.args.number = (omega (arith, c.if-i-ge-RULES.false), omega (arith, c.if-levels-i-eq0.false)) in
    omega (arith, held_counted _ _ c.requires.border.sound there)

pub returns : goal.returns
returns c =
    let there : held_by c.args.levels.now c.args.number = (omega (arith, c.if-i-ge-RULES.false), omega (arith, c.if-levels-i-eq0.false)) in
    obeys_done _ _ 0 0 _ (c.requires.border.room, (c.requires.border.sound, (there, tt)))
    (record {
      no_values = (refl, refl);
      gone = rw (sym c.replan-latest.ensures.value) refl;
      planned = planned_without c.requires.border there c.requires.lent_chains c.remove.ensures c.replan-latest.ensures.planned;
    })
