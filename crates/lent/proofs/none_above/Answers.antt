-- `lent::none_above` meets its contract: a level is not above k exactly where its cell is at most k + 1.
use Rattle.std.proofs.Common.{◌≤◌, ◌+◌, rules}
use Rattle.meaning.specs.Tables.{at}
use Rattle.lent.proofs.Cells.{front_decides}
use Rattle.lent.proofs.none_above.Goals as goal

pub returns : goal.returns
returns c = front_decides (λ i. at c.args.levels.now i ≤ c.args.k + 1) c.args.levels.now 0 c.args.m c.requires.m_in_bounds
    (λ i v below said. record { so = λ e. search rules; not_so = λ e h. search rules }) c.all_pass.ensures
