use native.Mathlib.Omega.{arith}
use Rattle.names.proofs.Indexing.{buildable}
use Rattle.names.proofs.index.Goals as goal

pub build-requires : goal.build-requires
build-requires c = let args = c.args in
    buildable args.n args.letters.now args.lens.now c.loop-k.hashes args.heads.now args.nexts.now c.requires.shelved.names_in
    (record {
      hashes_room = omega (arith, c.loop-k.invariant.0, c.requires.index_room.hashes_room);
      heads_room = c.requires.index_room.heads_room;
      nexts_room = c.requires.index_room.nexts_room;
    })
    (λ j h. c.loop-k.invariant.2 j (omega (arith, c.loop-k-test.false)))
