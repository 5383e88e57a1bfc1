use mathlib.Core.Path.{◌≡◌, refl, sym, ◌∙◌}
use Prim.Native.Nat.{◌+◌, ◌<◌}
use lib.ListN.{drop, get_or}
use native.Mathlib.Omega.{arith}
use Rattle.text.specs.Lexicon.{whole, extent}
use Rattle.text.proofs.Reading.{Unmarked, below_marks, of_letter, symbol_begins}
use Rattle.text.proofs.Classes.{class_small, white_of}
use Rattle.text.proofs.Runs.{white_on, piece_on, piece_more, piece_is}
use Rattle.text.proofs.Standing.{chosen_piece, found}
use Rattle.text.proofs.symbol.Goals as goal
use Rattle.text.proofs.symbol.Goals.{then-k-eq-POINT-via-else-k-eq-POINT+then-k-gt-COLON, then-k-eq-POINT-via-then-k-eq-POINT}

pub loop-f-preserved : goal.loop-f-preserved
loop-f-preserved c =
    let b = get_or c.args.s.now c.loop-f.f 0 in
    omega (arith, c.loop-f.invariant, white_on c.args.s.now c.loop-f.f c.loop-f-test.true (white_of b (sym c.class_of-k.ensures ∙ c.if-k-eq-WHITE.true)))

pub returns-in-Some : goal.returns-in-Some
returns-in-Some c =
    let s = c.args.s.now in
    let f = c.loop-f.f in
    let k = c.class_of-k.result in
    let is = c.class_of-k.ensures in
    let inside = c.loop-f-test.true in
    let end = c.in-Some.ensures in
    let begins : Unmarked 8 k = elim c.then-k-eq-POINT.branch [ then-k-eq-POINT-via-then-k-eq-POINT w ↦ below_marks 8 k (omega arith) (omega arith) | then-k-eq-POINT-via-else-k-eq-POINT+then-k-gt-COLON w ↦ of_letter 8 k (omega arith) (omega arith) ] in
    let small : k < 16 = omega (arith, is, class_small (get_or s f 0)) in
    let symbolic : whole 0 (drop f s) ≡ 10 = sym (piece_more s f 0 k 10 _ inside is (omega (arith, begins.0)) (sym (symbol_begins k small begins)) refl) ∙ end.0 in
    let ends : c.in-Some.to ≡ f + extent (drop f s) = omega (arith, end.1, (piece_on s f 0 inside (omega (arith, is, begins.0))).1) in
    piece_is s f 10 symbolic ends
    ∙ sym (chosen_piece s f k (λ e. omega (arith, e, begins.0)) (λ e. omega (arith, e, begins.0)) (λ e. omega (arith, e, begins.0)))
    ∙ found s f c.args.at c.loop-f.invariant k inside is (λ e. omega (arith, e, begins.0)) (λ e. omega (arith, e, begins.0))
