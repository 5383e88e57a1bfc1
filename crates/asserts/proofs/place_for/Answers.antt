-- `asserts::place_for`: where the rules held are the first ones, the lowest free place is the one behind them; else it is sought.
use Rattle.lent.proofs.Cells.{lowest_behind}
use Rattle.asserts.proofs.place_for.Goals as goal

pub returns-then-packed : goal.returns-then-packed
returns-then-packed c = lowest_behind _ _ c.requires.rules_bound c.requires.rules_value (c.requires.all_held c.if-packed.true)
