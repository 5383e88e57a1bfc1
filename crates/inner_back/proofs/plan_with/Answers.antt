-- `inner_back::plan_with` meets its contract: what each call needs, and the return, are laws of `Replanning`.
use Rattle.inner_back.proofs.Replanning.{bringable, planned}
use native.Mathlib.Omega.{arith}
use Rattle.meaning.specs.Tables.{at}
use Rattle.meaning.proofs.LastDay.{largest_over}
use Rattle.inner_back.proofs.plan_with.Goals as goal

pub ask-requires : goal.ask-requires
ask-requires c = record {
  days_room = c.requires.plannable.days_room;
  gains_room = c.requires.plan_room.gains_room;
  not_after = λ v v-in. omega (arith, largest_over c.args.n (at c.args.days.now) v v-in, c.requires.last_value.0);
}

pub bring-requires : goal.bring-requires
bring-requires c = bringable c.requires.plannable c.ask.ensures c.spread.ensures c.requires.last_value.1
    (omega (arith, c.spread.auto.gains, c.ask.auto.gains, c.requires.plan_room.gains_room))

pub returns : goal.returns
returns c = record {
  planned = planned c.requires.plannable c.ask.ensures c.spread.ensures c.bring.ensures.brought;
  value = c.bring.ensures.value;
}
