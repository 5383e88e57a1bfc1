-- `spread::collect` meets its contract: a step with a gain waits from its turn on, and no other does.
use Rattle.std.proofs.Common.{inl, inr, arith, rules}
use Rattle.meaning.specs.Tables.{at}
use Rattle.spread.proofs.Collecting.{collected_none, collected_one}
use Rattle.spread.proofs.collect.Goals as goal
use Rattle.spread.proofs.collect.Goals.{then-gains-v-gt0, else-gains-v-gt0}

pub loop-v-init : goal.loop-v-init
loop-v-init g c = (
  rw c.new-waiting.ensures (collected_none (at c.args.gains.now) (at c.args.by.now) (at c.new-waiting.result.list)),
  search rules,
)

pub loop-v-preserved : goal.loop-v-preserved
loop-v-preserved g c = let l = c.loop-v in (
  collected_one c.args.gains.now l.by c.if-gains-v-gt0.by l.waiting c.if-gains-v-gt0.waiting l.v (omega (arith, c.requires.steps_room.by_room, l.auto.by)) l.invariant.0
      (elim c.if-gains-v-gt0.branch [ then-gains-v-gt0 w ↦ inl (omega (arith, w.if-gains-v-gt0.true), w.by-is, rw w.waiting-is w.enter.ensures) | else-gains-v-gt0 w ↦ inr (omega (arith, w.if-gains-v-gt0.false), w.by-is, w.waiting-is) ]),
  elim c.if-gains-v-gt0.branch [ then-gains-v-gt0 w ↦ rw w.waiting-is w.enter.ensures.led | else-gains-v-gt0 w ↦ rw w.waiting-is l.invariant.1 ],
)
