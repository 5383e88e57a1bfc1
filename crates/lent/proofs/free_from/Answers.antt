-- `lent::free_from` meets its contract: a cell is 0 exactly where its place is free.
use Rattle.std.proofs.Common.{◌≡◌, rules, arith}
use Rattle.meaning.specs.Bounds.{RULES}
use Rattle.meaning.specs.Tables.{at}
use Rattle.lent.specs.Decides.{decides_same}
use Rattle.lent.proofs.Cells.{part_decides}
use Rattle.lent.proofs.free_from.Goals as goal

pub returns : goal.returns
returns c = let levels = c.args.levels.now in
    let past = c.min-past.result in
    decides_same (λ all i from below. all i (omega (arith, c.min-past.ensures, from)) below) (λ all i from below. all i (omega (arith, c.min-past.ensures, from, below)) below)
    (part_decides (λ i. at levels i ≡ 0) levels 0 past RULES (omega (arith, c.min-past.ensures)) c.requires
    (λ i v from below said. record { so = λ e. search rules; not_so = λ e h. search rules }) c.all_pass.ensures)
