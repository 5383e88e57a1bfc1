use Rattle.std.proofs.Common.{ℕ, drop, ◌∙◌, arith, length-append, length-drop, length-take}
use Rattle.shortest.proofs.Tracing.{part_descendable, found_more}
use Rattle.shortest.proofs.Search.trace.Goals as goal

pub descend-stand-requires : goal.descend-stand-requires
descend-stand-requires c = let a = c.args in
    let loop = c.loop-top in
    part_descendable a.self a.h a.list.now loop.list loop.top loop.stand.step loop.stand.bound loop.invariant.3 c.loop-top-test.true c.upper_part.result c.upper_part.ensures
    c.share-part.result c.raise.new.layer _ c.share-part.ensures c.raise.ensures (omega (arith, length-append c.raise.new.room (drop a.self.steps loop.room), length-drop a.self.steps loop.room, length-take {A = ℕ}, c.raise.auto.room, loop.invariant.1, c.requires.layers_room)) (omega (arith, loop.invariant.2, c.requires.list_room))

pub loop-top-preserved : goal.loop-top-preserved
loop-top-preserved c = let a = c.args in
    let loop = c.loop-top in
    let stand = c.descend-stand in (
      omega (arith, c.raise.ensures.long),
      omega (arith, stand.auto.room, length-append c.raise.new.room (drop a.self.steps loop.room), length-drop a.self.steps loop.room, length-take {A = ℕ}, c.raise.auto.room, loop.invariant.1, c.requires.layers_room),
      stand.auto.list ∙ loop.invariant.2,
      found_more a.self a.h a.list.now loop.list loop.top loop.stand.step loop.stand.bound loop.invariant.3 c.loop-top-test.true c.upper_part.result c.upper_part.ensures
          stand.new.list stand.result.step stand.result.bound stand.ensures,
    )
