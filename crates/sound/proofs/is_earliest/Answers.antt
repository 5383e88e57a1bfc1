use native.Mathlib.Omega.{arith}
use Prim.Native.Nat.{ℕ}
use mathlib.Core.Path.{refl, ◌≡◌}
use lib.ListN.{length-replicate}
use Rattle.meaning.specs.Bounds.{STEPS}
use Rattle.sound.proofs.Entering.{few, empty}
use Rattle.sound.proofs.Grounding.{grounding_start, grounding_on, count_decides}
use Rattle.sound.proofs.is_earliest.Goals as goal

pub seed-requires-clause-worklist : goal.seed-requires-clause-worklist
seed-requires-clause-worklist c = empty c.args.n _ refl refl (length-replicate {A = ℕ} STEPS 0) c.requires.steps_few

pub loop-done-init : goal.loop-done-init
loop-done-init c = grounding_start c.args.n c.args.held c.seed.new.self c.seed.ensures

pub number_at-a-requires : goal.number_at-a-requires
number_at-a-requires c = omega (arith, few c.args.n c.loop-done.queue c.loop-done.invariant.underway.worklist, c.requires.steps_few, c.loop-done-test.true)

pub overflow_add-done : goal.overflow_add-done
overflow_add-done c = omega (arith, few c.args.n c.loop-done.queue c.loop-done.invariant.underway.worklist, c.requires.steps_few, c.loop-done-test.true)

pub loop-done-smaller : goal.loop-done-smaller
loop-done-smaller c = omega (arith, few c.args.n c.loop-done.queue c.loop-done.invariant.underway.worklist, c.loop-done-test.true)

pub loop-done-preserved : goal.loop-done-preserved
loop-done-preserved c = let q = c.loop-done.queue in
    let followed = c.follow in
    grounding_on c.args.n c.args.held c.requires c.loop-done.done q followed.new.self c.loop-done-test.true followed.ensures.underway followed.ensures.grown
    (rw c.number_at-a.ensures at (followed.ensures.when_kept c.if-not-follow.false)) c.loop-done.invariant

pub returns : goal.returns
returns c = let q = c.loop-done.queue in
    let inv = c.loop-done.invariant in
    let all : c.loop-done.done ≡ q.entered = omega (arith, inv.done_in, c.loop-done-test.false) in
    count_decides c.args.n c.args.held c.requires q inv.underway inv.every_day_0
    (λ v h in-it. inv.done_followed v h in-it (omega (arith, inv.underway.worklist.place_in v h)))
