use native.Mathlib.Omega.{arith}
use mathlib.Core.Path.{◌≡◌, refl, sym, ◌∙◌}
use Prim.Native.Nat.{◌<◌}
use lib.ListN.{length, take}
use lib.Seq.{length-take-le}
use borrow.Author.Tests.{not-true, not-false}
use Rattle.program.proofs.Handing.{cut_of, last_of, more_of, told}
use Rattle.program.proofs.answer.Goals as goal

pub loop-stopped-init : goal.loop-stopped-init
loop-stopped-init c = ((refl, (refl, (refl, (refl, (refl, (refl, (refl, (refl, (refl, (refl, (refl, (refl, (refl, (refl, (refl, (refl, refl)))))))))))))))), (c.requires.maintained, λ r e. e))

pub advance-part-requires : goal.advance-part-requires
advance-part-requires c = let loop = c.loop-stopped in record {
  tab_value = c.requires.tab_value;
  in_bounds = omega (arith, c.requires.in_bounds, loop.invariant.0.0);
  row_xs_in_bounds = omega (arith, c.requires.row_xs_in_bounds, loop.invariant.0.0, loop.invariant.0.1.0);
  row_xs_in_bounds_2 = omega (arith, c.requires.row_xs_in_bounds_2, loop.invariant.0.0, loop.invariant.0.1.1.0);
  maintained = loop.invariant.1.0;
}

pub slice_bounds-put-end : goal.slice_bounds-put-end
slice_bounds-put-end c = let advance = c.advance-part in
    omega (arith, advance.ensures.advances.written_in, advance.auto.out)

pub slice_bounds-put-end-in-loop-stopped : goal.slice_bounds-put-end-in-loop-stopped
slice_bounds-put-end-in-loop-stopped c = let advance = c.advance-part in
    sym (length-take-le advance.result.written advance.new.out (omega (arith, advance.ensures.advances.written_in, advance.auto.out)))

pub returns-in-Err : goal.returns-in-Err
returns-in-Err c = let advance = c.advance-part in
    let loop = c.loop-stopped in
    let fewer : c.in-Err.stopped.at < length (take advance.result.written advance.new.out) = c.in-Err.ensures.err in
    let part : length (take advance.result.written advance.new.out) ≡ advance.result.written =
    length-take-le advance.result.written advance.new.out (omega (arith, advance.ensures.advances.written_in, advance.auto.out)) in
    loop.invariant.1.1 _ (cut_of advance.ensures.advances c.in-Err.stopped.at (omega (arith, fewer, part)))

pub returns-then-not-part : goal.returns-then-not-part
returns-then-not-part c = let advance = c.advance-part in
    let loop = c.loop-stopped in
    told (loop.invariant.1.1 _ (last_of advance.ensures.advances (not-true _ c.if-not-part.true))) c.ending_of.ensures

pub loop-stopped-smaller : goal.loop-stopped-smaller
loop-stopped-smaller c = let advance = c.advance-part in
    let loop = c.loop-stopped in
    omega (arith, advance.ensures.advances.onward (not-false _ c.if-not-part.false) (omega (arith, c.requires.in_bounds_2, loop.invariant.0.1.1.1.1.1.1.1.1.1.1.1.1.1.1.1.1)))

pub loop-stopped-preserved : goal.loop-stopped-preserved
loop-stopped-preserved c = let advance = c.advance-part in
    let loop = c.loop-stopped in
    ((advance.auto.row_xs ∙ loop.invariant.0.0, (advance.auto.row_ys ∙ loop.invariant.0.1.0, (advance.auto.row_cs ∙ loop.invariant.0.1.1.0, (advance.auto.xs ∙ loop.invariant.0.1.1.1.0, (advance.auto.ys ∙ loop.invariant.0.1.1.1.1.0, (advance.auto.cs ∙ loop.invariant.0.1.1.1.1.1.0, (advance.auto.days ∙ loop.invariant.0.1.1.1.1.1.1.0, (advance.auto.levels ∙ loop.invariant.0.1.1.1.1.1.1.1.0, (advance.auto.heads ∙ loop.invariant.0.1.1.1.1.1.1.1.1.0, (advance.auto.nexts ∙ loop.invariant.0.1.1.1.1.1.1.1.1.1.0, (advance.auto.kept ∙ loop.invariant.0.1.1.1.1.1.1.1.1.1.1.0, (advance.auto.names ∙ loop.invariant.0.1.1.1.1.1.1.1.1.1.1.1.0, (advance.auto.lens ∙ loop.invariant.0.1.1.1.1.1.1.1.1.1.1.1.1.0, (advance.auto.hashes ∙ loop.invariant.0.1.1.1.1.1.1.1.1.1.1.1.1.1.0, (advance.auto.name_heads ∙ loop.invariant.0.1.1.1.1.1.1.1.1.1.1.1.1.1.1.0, (advance.auto.name_nexts ∙ loop.invariant.0.1.1.1.1.1.1.1.1.1.1.1.1.1.1.1.0, advance.auto.out ∙ loop.invariant.0.1.1.1.1.1.1.1.1.1.1.1.1.1.1.1.1)))))))))))))))), (advance.ensures.maintained_2, λ r e. loop.invariant.1.1 r (more_of advance.ensures.advances (not-false _ c.if-not-part.false) r e)))
