-- The answers of `shortest::Search::descend`, which calls itself. `Finishing` has its laws.
use Rattle.std.proofs.Common.{ℕ, ◌≡◌, ◌-◌, ◌++◌, ◌∙◌, length, drop, ap, arith, length-append, length-drop, length-take}
use Rattle.shortest.proofs.Finishing.{one_pickable, one_descended, Parted, parted, rest_room, upper_descendable, rest_lower}
use Rattle.shortest.proofs.Sparing.{spare_is}
use Rattle.shortest.proofs.Search.+descend.Goals as goal

pub descend-stand-requires : goal.descend-stand-requires
descend-stand-requires t c = let a = c.args in
    let s = a.self in
    let loop = c.loop-top in
    let here = loop.invariant.3.rest in
    let parts : Parted s a.g a.lo a.cap a.layer.now loop.top loop.stand.step loop.stand.bound loop.room loop.list here c.upper_part.result c.share-part.result =
    parted s a.g a.lo a.cap a.layer.now loop.top loop.stand.step loop.stand.bound loop.room loop.list here (λ one. omega (arith, one, c.loop-top-test.true)) c.upper_part.result c.share-part.result c.upper_part.ensures c.share-part.ensures in (
      omega (arith, parts.some_upper, parts.some_lower, loop.invariant.2),
      upper_descendable s a.g a.lo a.cap a.layer.now loop.top loop.stand.step loop.stand.bound loop.room loop.list here c.upper_part.result c.share-part.result parts c.raise.new.layer
          (c.raise.new.room ++ drop s.steps c.split_at_mut-upper.result.1.now) c.raise.ensures
          (omega (
            arith,
            length-append c.raise.new.room (drop s.steps c.split_at_mut-upper.result.1.now),
            length-drop s.steps c.split_at_mut-upper.result.1.now,
            length-take {A = ℕ},
            c.raise.auto.room,
            c.split_at_mut-upper.ensures.back_len,
            rest_room s a.g a.lo a.cap a.layer.now loop.top loop.stand.step loop.stand.bound loop.room loop.list here c.upper_part.result c.share-part.result parts c.split_at_mut-upper.result.1.now c.split_at_mut-upper.ensures.back_len,
          )),
    )

pub loop-top-preserved : goal.loop-top-preserved
loop-top-preserved t c = let a = c.args in
    let s = a.self in
    let loop = c.loop-top in
    let here = loop.invariant.3.rest in
    let parts : Parted s a.g a.lo a.cap a.layer.now loop.top loop.stand.step loop.stand.bound loop.room loop.list here c.upper_part.result c.share-part.result =
    parted s a.g a.lo a.cap a.layer.now loop.top loop.stand.step loop.stand.bound loop.room loop.list here (λ one. omega (arith, one, c.loop-top-test.true)) c.upper_part.result c.share-part.result c.upper_part.ensures c.share-part.ensures in
    let stand = c.descend-stand in
    let long : length (c.raise.new.layer ++ stand.new.room) ≡ length loop.room =
    omega (
      arith,
      length-append c.raise.new.layer stand.new.room,
      length-append c.raise.new.room (drop s.steps c.split_at_mut-upper.result.1.now),
      length-drop s.steps c.split_at_mut-upper.result.1.now,
      length-take {A = ℕ},
      c.raise.auto.layer,
      c.raise.auto.room,
      c.copy_from_slice.ensures.len,
      stand.auto.room,
      c.split_at_mut-upper.ensures.front_len,
      c.split_at_mut-upper.ensures.back_len,
      rest_room s a.g a.lo a.cap a.layer.now loop.top loop.stand.step loop.stand.bound loop.room loop.list here c.upper_part.result c.share-part.result parts c.split_at_mut-upper.result.1.now c.split_at_mut-upper.ensures.back_len,
    ) in (
      long ∙ loop.invariant.0,
      stand.auto.list ∙ loop.invariant.1,
      omega (arith, loop.invariant.2),
      rest_lower s a.g a.lo a.cap a.layer.now loop.top loop.stand.step loop.stand.bound loop.room loop.list here c.upper_part.result c.share-part.result parts
          (c.raise.new.layer ++ stand.new.room) stand.new.list stand.result.step stand.result.bound long stand.auto.list stand.ensures
          a.hi a.from.step a.from.bound a.list.now loop.invariant.3,
    )

pub pick-i-requires : goal.pick-i-requires
pick-i-requires t c = let a = c.args in
    let loop = c.loop-top in
    let here = loop.invariant.3.rest in
    one_pickable a.self a.g a.lo a.cap a.layer.now loop.top loop.stand.step loop.stand.bound loop.room loop.list here (omega (arith, c.loop-top-test.false, here.some))

pub returns : goal.returns
returns t c = let a = c.args in
    let s = a.self in
    let loop = c.loop-top in
    let here = loop.invariant.3.rest in
    loop.invariant.3.whole _ _ _
    (one_descended s a.g a.lo a.cap a.layer.now loop.top loop.stand.step loop.stand.bound loop.room loop.list here (omega (arith, c.loop-top-test.false, here.some)) c.pick-i.result c.number_at.result
    (loop.stand.bound - c.slack.result) c.pick-i.ensures c.number_at.ensures (ap (λ (w : ℕ). loop.stand.bound - w) (spare_is s.held c.pick-i.result c.slack.result c.slack.ensures)))
