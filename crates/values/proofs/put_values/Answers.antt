use Prim.Native.Nat.{ℕ, ◌<◌}
use mathlib.Core.Path.{refl, sym, subst}
use mathlib.Core.List.{List}
use lib.Dec.{ltb}
use Rattle.values.specs.Pair.{gap}
use Rattle.values.proofs.Wrote.{Wrote}
use Rattle.values.proofs.Going.{going_last, room_pair, going_on}
use native.Mathlib.Omega.{arith}
use Rattle.values.proofs.put_values.Goals as goal

pub put_pair-e-requires : goal.put_pair-e-requires
put_pair-e-requires c =
    let declared : c.number_at-step.result < c.args.n = subst (λ (j : ℕ). j < c.args.n) (sym c.number_at-step.ensures) (c.requires.by_index c.loop-i.i c.loop-i-test.true) in
    let gap-written : Wrote c.loop-i.out c.loop-i.e (gap (ltb 0 c.loop-i.i)) c.word-e-in-loop-i.new.out c.word-e-in-loop-i.result =
    subst (λ (w : List ℕ). Wrote c.loop-i.out c.loop-i.e w c.word-e-in-loop-i.new.out c.word-e-in-loop-i.result) c.gap_before.ensures c.word-e-in-loop-i.ensures in
    room_pair c.loop-i.invariant c.loop-i-test.true c.requires.shelved c.number_at-step.ensures declared refl (c.type_inv.days c.number_at-step.result).fits gap-written c.word-e-in-loop-i.auto.out

pub loop-i-preserved : goal.loop-i-preserved
loop-i-preserved c =
    let declared : c.number_at-step.result < c.args.n = subst (λ (j : ℕ). j < c.args.n) (sym c.number_at-step.ensures) (c.requires.by_index c.loop-i.i c.loop-i-test.true) in
    let gap-written : Wrote c.loop-i.out c.loop-i.e (gap (ltb 0 c.loop-i.i)) c.word-e-in-loop-i.new.out c.word-e-in-loop-i.result =
    subst (λ (w : List ℕ). Wrote c.loop-i.out c.loop-i.e w c.word-e-in-loop-i.new.out c.word-e-in-loop-i.result) c.gap_before.ensures c.word-e-in-loop-i.ensures in
    going_on c.loop-i.invariant c.loop-i-test.true c.requires.shelved c.number_at-step.ensures declared refl (c.type_inv.days c.number_at-step.result).fits gap-written c.word-e-in-loop-i.auto.out
    c.put_pair-e.new.out c.put_pair-e.result c.put_pair-e.ensures c.put_pair-e.auto.out

pub returns-clause-out_after : goal.returns-clause-out_after
returns-clause-out_after c =
    (going_last c.loop-i.invariant c.args.out.now c.args.to c.word.new.out c.word.result (λ h. omega (arith, h, c.loop-i-test.false)) c.word-e.ensures c.word.ensures).0
