-- `yard::remake` meets its contract: the slacks are those of sound tables, and what is written from them is right.
use Rattle.lent.specs.Idle.{unwatched}
use Rattle.yard.proofs.Results.{slackable, remade}
use Rattle.yard.proofs.remake.Goals as goal

pub slacks-square-requires : goal.slacks-square-requires
slacks-square-requires c = let a = c.args in
    slackable a.counts a.rules.xs.now a.rules.ys.now a.rules.cs.now a.days.now a.levels.now c.requires c.if-n-le-YARD_STEPS.true

pub returns-then-n-le-YARD_STEPS : goal.returns-then-n-le-YARD_STEPS
returns-then-n-le-YARD_STEPS c = let a = c.args in
    remade (unwatched a.counts a.rules.xs.now a.rules.ys.now a.rules.cs.now a.days.now a.levels.now) c.requires.sound c.slacks-square.result c.close.new.square c.if-n-le-YARD_STEPS.true
    c.slacks-square.ensures c.close.ensures c.write.ensures
