-- `sound::steps_in` meets its contract: the test of a cell tells whether its number is below n.
use Rattle.std.proofs.Common.{◌<◌, rules}
use Rattle.meaning.specs.Tables.{at}
use Rattle.lent.proofs.Cells.{front_decides}
use Rattle.sound.proofs.steps_in.Goals as goal

pub returns : goal.returns
returns c = front_decides (λ i. at c.args.list.now i < c.args.n) c.args.list.now 0 c.args.m c.requires
    (λ i v below said. record { so = λ e. search rules; not_so = λ e h. search rules }) c.all_pass.ensures
