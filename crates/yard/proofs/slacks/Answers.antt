-- `yard::slacks` meets its contract: the least amounts, and then their slacks.
use Rattle.yard.proofs.Lifting.{square_kept, slacked_single}
use Rattle.yard.proofs.slacks.Goals as goal

pub make_slacks-requires : goal.make_slacks-requires
make_slacks-requires c = record {
  in_bounds = c.requires.days_room;
  by_index = square_kept c.least-square.result c.requires c.least-square.ensures;
}

pub returns : goal.returns
returns c = slacked_single c.least-square.result c.requires c.least-square.ensures c.make_slacks.new.square c.make_slacks.ensures
