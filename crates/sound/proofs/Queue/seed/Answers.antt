use Prim.Native.Nat.{◌<◌}
use native.Mathlib.Omega.{arith}
use lib.ListN.{take}
use mathlib.Core.Path.{◌≡◌, ◌∙◌, sym}
use Rattle.std.proofs.lemmas.List.{length-take-le, get_or-take}
use Rattle.meaning.specs.Tables.{at}
use Rattle.sound.proofs.Entering.{enterable, entering, seeded_past, seeded_more}
use Rattle.sound.proofs.Queue.seed.Goals as goal
use Rattle.sound.proofs.Queue.seed.Goals.{else-day-eq0, then-day-eq0}

pub enter-requires : goal.enter-requires
enter-requires c = enterable c.args.n c.loop-v.v c.loop-v.self (omega (arith, c.loop-v-test.true, length-take-le c.args.n c.args.days.now c.requires.n_in_bounds)) c.requires.n_bound c.loop-v.invariant.worklist

pub loop-v-preserved : goal.loop-v-preserved
loop-v-preserved c = let args = c.args in
    let q = c.loop-v.self in
    let v = c.loop-v.v in
    let below : v < args.n = omega (arith, c.loop-v-test.true, length-take-le args.n args.days.now c.requires.n_in_bounds) in
    let day_is : at args.days.now v ≡ at (take args.n args.days.now) v = sym (get_or-take args.n args.days.now v 0 below) in
    elim c.if-day-eq0.branch [
      | then-day-eq0 w ↦ rw w.self-is
          (seeded_more args.n args.days.now v q w.enter.new.self below (day_is ∙ w.if-day-eq0.true)
          (entering args.n v q below c.requires.n_bound c.loop-v.invariant.worklist w.enter.new.self w.enter.ensures) c.loop-v.invariant)
      | else-day-eq0 w ↦ rw w.self-is (seeded_past args.n args.days.now v q (λ zero. w.if-day-eq0.false (sym day_is ∙ zero)) c.loop-v.invariant)
    ]
