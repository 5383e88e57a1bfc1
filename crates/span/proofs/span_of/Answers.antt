use mathlib.Core.Path.{◌≡◌, sym, ap}
use mathlib.Core.Logic.{◌⊎◌, inl, inr}
use Prim.Native.Nat.{◌≤◌}
use native.Mathlib.Omega.{arith}
use Rattle.text.specs.declared.Kind.{Kind}
use Rattle.text.specs.declared.Kind.TheVariants.{Numeral, Symbol, Other}
use Rattle.text.specs.Numbered.{code_of, numbered}
use Rattle.text.proofs.Tokens.{Placed, token_placed}
use Rattle.span.proofs.Steps.{IsSpan, span_ends, span_bad, span_closed, span_deeper, span_higher, span_other, span_end}
use Rattle.span.proofs.span_of.Goals as goal

-- A numeral, a symbol or another token.
between : (k : Kind) → (k ≡ Numeral) ⊎ (k ≡ Symbol) ⊎ (k ≡ Other) → (3 ≤ code_of k) × (code_of k ≤ 5)
between k (inl e) = (omega (arith, ap code_of e), omega (arith, ap code_of e))
between k (inr (inl e)) = (omega (arith, ap code_of e), omega (arith, ap code_of e))
between k (inr (inr e)) = (omega (arith, ap code_of e), omega (arith, ap code_of e))

pub returns-in-End : goal.returns-in-End
returns-in-End c =
    let t = numbered c.token-t.result in
    let ends : IsSpan c.args.s.now c.loop-i.d c.loop-i.i 0 = elim c.in-End.is [
      | inl e ↦ span_ends c.args.s.now c.loop-i.d c.loop-i.i t c.token-t.ensures (ap code_of e)
      | inr e ↦ span_bad c.args.s.now c.loop-i.d c.loop-i.i t c.token-t.ensures (ap code_of e)
    ] in
    sym (c.loop-i.invariant.2 0 ends)

pub loop-i-preserved-in-Open : goal.loop-i-preserved-in-Open
loop-i-preserved-in-Open c =
    let t = numbered c.token-t.result in
    let p : Placed c.args.s.now c.loop-i.i t = token_placed c.args.s.now c.loop-i.i t c.token-t.ensures in
    let opens : t.kind ≡ 1 = ap code_of c.in-Open.is in (
      omega (arith, c.loop-i.invariant.0, p.some (λ e. omega (arith, e, opens))),
      p.within c.loop-i.invariant.1,
      λ r w. c.loop-i.invariant.2 r (span_deeper c.args.s.now c.loop-i.d c.loop-i.i t c.token-t.ensures r c.loop-i.invariant.1 opens w),
    )

pub returns-in-Close : goal.returns-in-Close
returns-in-Close c =
    let t = numbered c.token-t.result in
    let closed : t.kind ≡ 2 = ap code_of c.in-Close.is in (
      c.loop-i.invariant.2 t.to (span_closed c.args.s.now c.loop-i.d c.loop-i.i t c.token-t.ensures c.loop-i.invariant.1 closed (omega (arith, c.if-d-le1.true))),
      omega (arith, (token_placed c.args.s.now c.loop-i.i t c.token-t.ensures).some (λ e. omega (arith, e, closed))),
    )

pub loop-i-smaller-in-Close-2 : goal.loop-i-smaller-in-Close-2
loop-i-smaller-in-Close-2 c =
    let t = numbered c.token-t.result in
    let closed : t.kind ≡ 2 = ap code_of c.in-Close-2.is in
    omega (arith, c.loop-i-test.true, (token_placed c.args.s.now c.loop-i.i t c.token-t.ensures).some (λ e. omega (arith, e, closed)))

pub loop-i-preserved-in-Close-2 : goal.loop-i-preserved-in-Close-2
loop-i-preserved-in-Close-2 c =
    let t = numbered c.token-t.result in
    let p : Placed c.args.s.now c.loop-i.i t = token_placed c.args.s.now c.loop-i.i t c.token-t.ensures in
    let closed : t.kind ≡ 2 = ap code_of c.in-Close-2.is in (
      omega (arith, c.loop-i.invariant.0, p.some (λ e. omega (arith, e, closed))),
      p.within c.loop-i.invariant.1,
      λ r w. c.loop-i.invariant.2 r (span_higher c.args.s.now c.loop-i.d c.loop-i.i t c.token-t.ensures r c.loop-i.invariant.1 closed (omega (arith, c.if-d-le1.false)) w),
    )

pub loop-i-smaller : goal.loop-i-smaller
loop-i-smaller c =
    let t = numbered c.token-t.result in
    omega (arith, c.loop-i-test.true, (token_placed c.args.s.now c.loop-i.i t c.token-t.ensures).some (λ e. omega (arith, e, between c.token-t.result.kind c.in-Numeral.is)))

pub loop-i-preserved : goal.loop-i-preserved
loop-i-preserved c =
    let t = numbered c.token-t.result in
    let p : Placed c.args.s.now c.loop-i.i t = token_placed c.args.s.now c.loop-i.i t c.token-t.ensures in
    let kind = between c.token-t.result.kind c.in-Numeral.is in (
      omega (arith, c.loop-i.invariant.0, p.some (λ e. omega (arith, e, kind))),
      p.within c.loop-i.invariant.1,
      λ r w. c.loop-i.invariant.2 r
          (span_other c.args.s.now c.loop-i.d c.loop-i.i t c.token-t.ensures r c.loop-i.invariant.1 (λ e. omega (arith, e, kind)) (λ e. omega (arith, e, kind)) (λ e. omega (arith, e, kind)) (λ e. omega (arith, e, kind)) w),
    )

pub returns : goal.returns
returns c = sym (c.loop-i.invariant.2 0 (span_end c.args.s.now c.loop-i.d c.loop-i.i c.loop-i-test.false))
