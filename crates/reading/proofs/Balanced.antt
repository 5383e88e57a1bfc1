-- The span of a text that was read is what was read: every token that was read is one of a command, and every bracket in it is closed in it, so that a span passes it and
-- ends at the bracket that closes the first one.
use mathlib.Core.Path.{◌≡◌, refl, sym, subst}
use mathlib.Core.Bool.{Bool, true, false}
use mathlib.Core.List.{List}
use Prim.Native.Nat.{ℕ, zero, suc, ◌+◌, ◌-◌, ◌<◌, ◌≤◌}
use native.Mathlib.Omega.{arith}
use lib.Dec.{eqb}
use lib.ListN.{length}
use borrow.Author.Tests.{eqb-true}
use Rattle.text.specs.Lexicon.{OPEN, CLOSE, token_at}
use Rattle.text.proofs.Tokens.{token_placed}
use Rattle.span.specs.Span.{span}
use Rattle.span.proofs.Laws.{span_opens}
use Rattle.span.proofs.Steps.{IsSpan, span_closed, span_deeper, span_higher, span_other, span_begun}
use Rattle.reading.specs.Tree.{Command}
use Rattle.reading.specs.Reading.{Read, past, bracketed}
use Rattle.reading.proofs.Every.{given}
use Rattle.reading.proofs.Walking.{Walk, both_true, reading_walks}

module _ (s : List ℕ) where
  -- The span is r where d brackets stay open at place j: with none it ends there.
  abbrev Ending : ℕ → ℕ → ℕ → Type 0
  Ending zero j r = r ≡ j
  Ending (suc d) j r = IsSpan s (suc d) j r

  -- A span that goes on from place j goes on from place i, with as many brackets open; or with one more open at i, which is closed before j.
  abbrev Passes : Bool → ℕ → ℕ → Type 0
  Passes true i j = (d r : ℕ) → Ending d j r → IsSpan s (suc d) i r
  Passes false i j = (d r : ℕ) → IsSpan s (suc d) j r → IsSpan s (suc d) i r

  -- A token stands inside the text.
  inside_text : (i k : ℕ) → 0 < k → (token_at s i).kind ≡ k → i ≤ length s
  inside_text i k h e =
      let p = (token_placed s i (token_at s i) refl).some (λ z. omega (arith, e, z)) in
      omega (arith, p.1, p.2)

  plain : (i k : ℕ) → (token_at s i).kind ≡ k → 2 < k → k < 6 → Passes false i (past s i)
  plain i k e low high d r p =
      span_other s (suc d) i (token_at s i) refl r (inside_text i k (omega arith) e) (λ z. omega (arith, e, z)) (λ z. omega (arith, e, z)) (λ z. omega (arith, e, z)) (λ z. omega (arith, e, z)) p

  closing : (i : ℕ) → (token_at s i).kind ≡ CLOSE → Passes true i (past s i)
  closing i e zero r p = subst (IsSpan s 1 i) (sym p) (span_closed s 1 i (token_at s i) refl (inside_text i CLOSE (omega arith) e) e (omega arith))
  closing i e (suc d) r p =
      span_higher s (suc (suc d)) i (token_at s i) refl r (inside_text i CLOSE (omega arith) e) e (omega arith)
      (subst (λ (n : ℕ). IsSpan s n (past s i) r) same p)
    where
      same : suc d ≡ suc (suc d) - 1
      same = omega arith

  deeper : (d i r : ℕ) → (token_at s i).kind ≡ OPEN → IsSpan s (suc d) (past s i) r → IsSpan s d i r
  deeper d i r e p =
      span_deeper s d i (token_at s i) refl r (inside_text i OPEN (omega arith) e) e
      (subst (λ (n : ℕ). IsSpan s n (past s i) r) same p)
    where
      same : suc d ≡ d + 1
      same = omega arith

  joined : (c : Bool) (i j k : ℕ) → Passes false i j → Passes c j k → Passes c i k
  joined true i j k p q = λ d r h. p d r (q d r h)
  joined false i j k p q = λ d r h. p d r (q d r h)

  balanced : Walk s Passes
  balanced = record {
    plain = plain;
    closing = closing;
    opening = λ i j e p d r h. deeper (suc d) i r e (p (suc d) r h);
    joined = joined;
  }

  -- A command that was read from the text's start on.
  pub read_spans : (c : Command) (e : ℕ) → bracketed s ≡ Read.got c e → (token_at s 0).from ≡ 0 → span s ≡ e
  read_spans c e h z =
      let p = given (λ x j. ((token_at s 0).kind ≡ OPEN) × Passes true (past s 0) j) (bracketed s) c e h (reading_walks s Passes balanced) in
      sym (span_begun s (token_at s 0) refl p.0 z e (deeper 0 0 e p.0 (p.1 0 e refl)))

  -- A text with a span is one command's, and that is what was read.
  pub read_spans_some : (c : Command) (e : ℕ) → bracketed s ≡ Read.got c e → 1 ≤ span s → span s ≡ e
  read_spans_some c e h some =
      let o = both_true (eqb (token_at s 0).kind OPEN) (eqb (token_at s 0).from 0) (span_opens s some) in
      read_spans c e h (eqb-true (token_at s 0).from 0 o.1)
