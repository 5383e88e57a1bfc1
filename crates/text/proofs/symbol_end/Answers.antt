use lib.ListN.{get_or}
use native.Mathlib.Omega.{arith}
use mathlib.Core.Path.{sym, ◌∙◌}
use Prim.Native.Nat.{◌<◌}
use Rattle.text.proofs.Reading.{Unmarked, below_marks, of_letter, symbol_stays}
use Rattle.text.proofs.Classes.{class_small}
use Rattle.text.proofs.Runs.{piece_end, piece_stop, piece_on, piece_more}
use Rattle.text.proofs.symbol_end.Goals as goal
use Rattle.text.proofs.symbol_end.Goals.{else-k-le-COLON, then-k-le-COLON+else-k-le-QUOTE+else-k-eq-FOREIGN+else-k-gt-POINT}

pub returns-then-k-le-QUOTE : goal.returns-then-k-le-QUOTE
returns-then-k-le-QUOTE c =
    let end = piece_stop c.args.s.now c.loop-i.i 10 c.loop-i-test.true (omega arith) in
    (sym c.loop-i.invariant.0 ∙ end.0, omega (arith, c.loop-i.invariant.1, end.1))

pub loop-i-preserved : goal.loop-i-preserved
loop-i-preserved c =
    let loop = c.loop-i in
    let s = c.args.s.now in
    let k = c.class_of-k.result in
    let is = c.class_of-k.ensures in
    let inside = c.loop-i-test.true in
    let small : k < 16 = omega (arith, is, class_small (get_or s loop.i 0)) in
    let goes_on : Unmarked 5 k = elim c.if-k-le-COLON.branch [ then-k-le-COLON+else-k-le-QUOTE+else-k-eq-FOREIGN+else-k-gt-POINT w ↦ below_marks 5 k (omega arith) (omega arith) | else-k-le-COLON w ↦ of_letter 5 k (omega arith) w.if-k-le-COLON.false ] in (
      piece_more s loop.i 10 k 10 _ inside is (omega (arith, goes_on.0)) (sym (symbol_stays k small goes_on)) loop.invariant.0,
      omega (arith, loop.invariant.1, (piece_on s loop.i 10 inside (omega (arith, is, goes_on.0))).1),
    )

pub returns : goal.returns
returns c =
    let end = piece_end c.args.s.now c.loop-i.i 10 c.loop-i-test.false in
    (sym c.loop-i.invariant.0 ∙ end.0, omega (arith, c.loop-i.invariant.1, end.1, c.requires.from_in_bounds))
