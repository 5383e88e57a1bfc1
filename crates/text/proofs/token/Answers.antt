use mathlib.Core.Path.{◌≡◌, sym, ◌∙◌, ap}
use Prim.Native.Nat.{ℕ, ◌+◌, ◌<◌}
use lib.ListN.{get_or}
use borrow.Author.Tests.{eqb-true}
use Rattle.text.specs.Lexicon.{tok, token_at}
use Rattle.text.specs.Numbered.{code_of}
use Rattle.text.specs.declared.Kind.{Kind}
use Rattle.text.proofs.Classes.{white_of, semicolon_of}
use Rattle.text.proofs.Runs.{white_on}
use Rattle.text.proofs.Standing.{chosen, chosen_piece, found, found_end}
use native.Mathlib.Omega.{arith}
use Rattle.text.proofs.token.Goals as goal
use Rattle.text.proofs.token.Goals.{in-1, in-2, in-4}

pub loop-i-preserved-in-0 : goal.loop-i-preserved-in-0
loop-i-preserved-in-0 c = let s = c.args.s.now in
    let i = c.loop-i.i in
    omega (arith, c.loop-i.invariant, white_on s i c.loop-i-test.true (white_of (get_or s i 0) (sym c.class_of-k.ensures ∙ c.in-0.is)))

pub comment_end-i-requires-clause-at_value : goal.comment_end-i-requires-clause-at_value
comment_end-i-requires-clause-at_value c =
    let b = get_or c.args.s.now c.loop-i.i 0 in
    eqb-true b 59 (semicolon_of b (sym c.class_of-k.ensures ∙ c.in-3.is))

pub returns-in_default : goal.returns-in_default
returns-in_default c =
    let s = c.args.s.now in
    let i = c.loop-i.i in
    let k = c.class_of-k.result in
    let large : 4 < k = omega arith in
    c.piece.ensures ∙ sym (chosen_piece s i k (λ e. omega (arith, e, large)) (λ e. omega (arith, e, large)) (λ e. omega (arith, e, large)))
    ∙ found s i c.args.at c.loop-i.invariant k c.loop-i-test.true c.class_of-k.ensures (λ e. omega (arith, e, large)) (λ e. omega (arith, e, large))

pub returns-in-loop-i : goal.returns-in-loop-i
returns-in-loop-i c =
    let s = c.args.s.now in
    let i = c.loop-i.i in
    let told : (k : ℕ) → c.class_of-k.result ≡ k → (k ≡ 0 → ⊥) → (k ≡ 3 → ⊥) → chosen s i k ≡ token_at s c.args.at = λ k e.
    found s i c.args.at c.loop-i.invariant k c.loop-i-test.true (sym e ∙ c.class_of-k.ensures) in
    elim c.match-k.branch [
      | in-1 w ↦ ap (λ (k : Kind). tok (code_of k) i (i + 1)) w.kind-is ∙ told 1 w.in-1.is (λ e. omega (arith, e)) (λ e. omega (arith, e))
      | in-2 w ↦ ap (λ (k : Kind). tok (code_of k) i (i + 1)) w.kind-is ∙ told 2 w.in-2.is (λ e. omega (arith, e)) (λ e. omega (arith, e))
      | in-4 w ↦ ap (λ (k : Kind). tok (code_of k) i (i + 1)) w.kind-is ∙ told 4 w.in-4.is (λ e. omega (arith, e)) (λ e. omega (arith, e))
    ]

pub returns : goal.returns
returns c = found_end c.args.s.now c.loop-i.i c.args.at c.loop-i.invariant c.loop-i-test.false
