-- `lent::all_held` meets its contract: a cell is not 0 exactly where its place is held.
use Rattle.std.proofs.Common.{◌<◌, rules}
use Rattle.meaning.specs.Tables.{at}
use Rattle.lent.proofs.Cells.{front_decides}
use Rattle.lent.proofs.all_held.Goals as goal

pub returns : goal.returns
returns c = front_decides (λ i. 0 < at c.args.levels.now i) c.args.levels.now 0 c.args.m c.requires
    (λ i v below said. record { so = λ e. search rules; not_so = λ e h. search rules }) c.all_pass.ensures
