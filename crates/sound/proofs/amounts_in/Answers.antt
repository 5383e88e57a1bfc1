-- `sound::amounts_in` meets its contract: the test of a cell tells whether its amount is within its bound.
use Rattle.std.proofs.Common.{get_or, pos}
use Rattle.meaning.specs.Rules.{InAmount}
use Rattle.lent.proofs.Cells.{front_decides}
use Rattle.sound.proofs.amounts_in.Goals as goal

pub returns : goal.returns
returns c = front_decides (λ i. InAmount (get_or c.args.list.now i (pos 0))) c.args.list.now (pos 0) c.args.m c.requires (λ i v below said. said) c.all_pass.ensures
