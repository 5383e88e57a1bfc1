-- No step has a gain once they are cleared, and a spread with no goal tells.
use Rattle.chains.specs.Chains.{linked}
use Rattle.inner_split.proofs.Telling.{spread_tells}
use Rattle.inner_split.proofs.Split.gains_from.Goals as goal

pub returns : goal.returns
returns c = let s = c.args.self in
    spread_tells s.steps (linked s.held.nexts.now) s.held.rules.xs.now s.held.rules.ys.now s.held.rules.cs.now s.held.days.now c.args.a _ c.spread_one.new.gains c.spread_one.new.by s.near s.ground.plan c.spread_one.ensures
