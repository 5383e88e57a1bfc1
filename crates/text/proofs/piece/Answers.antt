use mathlib.Core.Path.{◌≡◌, refl, subst}
use Prim.Native.Nat.{ℕ}
use lib.ListN.{get_or, length}
use Rattle.text.specs.Lexicon.{piece_at}
use Rattle.text.specs.Numbered.{numbered}
use Rattle.text.proofs.Classes.{class_small}
use Rattle.text.proofs.Runs.{piece_end, piece_stop, piece_on, piece_more, piece_made}
use native.Mathlib.Omega.{arith}
use Rattle.text.proofs.piece.Goals as goal

pub grow-p-requires : goal.grow-p-requires
grow-p-requires c = record {
  tab_value = c.requires.tab_value;
  p_bound = omega arith;
  k_bound = omega (arith, c.requires.first_value, class_small (get_or c.args.s.now c.args.f 0));
}

pub loop-i-init : goal.loop-i-init
loop-i-init c = let s = c.args.s.now in
    let f = c.args.f in
    let starts = c.requires.f_in_bounds in
    let is = c.requires.first_value in
    let goes_on = c.requires.lt_first in
    (c.grow-p.ensures.1, piece_more s f 0 c.args.first c.grow-p.result _ starts is goes_on c.grow-p.ensures.0 refl, omega (arith, (piece_on s f 0 starts (omega (arith, is, goes_on))).1))

pub class_of-k-requires : goal.class_of-k-requires
class_of-k-requires c = c.requires.tab_value

pub grow-p-requires-in-loop-i : goal.grow-p-requires-in-loop-i
grow-p-requires-in-loop-i c = record {
  tab_value = c.requires.tab_value;
  p_bound = c.loop-i.invariant.0;
  k_bound = omega (arith, c.class_of-k.ensures, class_small (get_or c.args.s.now c.loop-i.i 0));
}

pub loop-i-preserved : goal.loop-i-preserved
loop-i-preserved c = let s = c.args.s.now in
    let i = c.loop-i.i in
    let p = c.loop-i.p in
    let inside = c.loop-i-test.true in (
      c.grow-p-in-loop-i.ensures.1,
      piece_more s i p c.class_of-k.result c.grow-p-in-loop-i.result _ inside c.class_of-k.ensures c.if-k-le-QUOTE.false c.grow-p-in-loop-i.ensures.0 c.loop-i.invariant.1,
      omega (arith, c.loop-i.invariant.2, (piece_on s i p inside (omega (arith, c.class_of-k.ensures, c.if-k-le-QUOTE.false))).1),
    )

pub kind_of-requires : goal.kind_of-requires
kind_of-requires c = record {
  tab_value = c.requires.tab_value;
  p_bound = c.loop-i.invariant.0;
}

pub returns-then-k-le-QUOTE : goal.returns-then-k-le-QUOTE
returns-then-k-le-QUOTE c =
    piece_made c.args.s.now c.loop-i.i c.loop-i.p c.args.f _ c.kind_of.ensures c.loop-i.invariant.1 c.loop-i.invariant.2
    (piece_stop c.args.s.now c.loop-i.i c.loop-i.p c.loop-i-test.true (omega arith))

pub returns : goal.returns
returns c =
    let s = c.args.s.now in
    let at_end : c.loop-i.i ≡ length s = omega arith in
    subst (λ (e : ℕ). numbered (record { kind = c.kind_of-2.result; from = c.args.f; to = e }) ≡ piece_at s c.args.f) at_end
    (piece_made s c.loop-i.i c.loop-i.p c.args.f _ c.kind_of-2.ensures c.loop-i.invariant.1 c.loop-i.invariant.2 (piece_end s c.loop-i.i c.loop-i.p c.loop-i-test.false))
