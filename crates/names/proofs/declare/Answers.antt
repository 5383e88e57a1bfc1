-- `names::declare` meets its contract: `declared` at the cells written.
use mathlib.Core.Path.{refl}
use lib.ListN.{length}
use Rattle.names.proofs.Shelves.{declared}
use Rattle.names.proofs.declare.Goals as goal

pub returns : goal.returns
returns c = let args = c.args in
    let name = args.word.now in
    declared args.n name args.letters.now args.lens.now c.requires.n_bound c.requires.short c.requires.shelved
    args.hashes.now args.heads.now args.nexts.now c.push.new.heads c.push.new.nexts c.hash_of.result c.hash_of.ensures.0 c.hash_of.ensures.1 c.requires.index_room
    c.word.new.out (length name) c.word.ensures.0 refl c.push.ensures
