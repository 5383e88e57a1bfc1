-- `yard::is_right` meets its contract: the gap table is right exactly where one that was made afresh in its place is the same.
use Rattle.lent.specs.Idle.{unwatched}
use Rattle.yard.proofs.Results.{compared}
use Rattle.yard.proofs.is_right.Goals as goal

pub returns : goal.returns
returns c = let a = c.args in
    compared (unwatched a.counts a.rules.xs.now a.rules.ys.now a.rules.cs.now a.days.now a.levels.now) a.gaps.now c.remake.ensures c.eq.result c.eq.ensures
