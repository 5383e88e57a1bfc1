-- One token more of a command: by the kind of the token that was read, what is left of the span is 0, ends at the token, or goes on past it.
use mathlib.Core.Path.{◌≡◌, refl}
use mathlib.Core.List.{List}
use Prim.Native.Nat.{ℕ, zero, suc, ◌+◌, ◌-◌, ◌<◌, ◌≤◌}
use native.Mathlib.Omega.{arith}
use native.Mathlib.Decide.{ℕ_discrete}
use lib.ListN.{length}
use borrow.Author.Tests.{eq-eqb, ne_eqb, le-leb, lt-leb}
use Rattle.text.specs.Lexicon.{Tok, token_at}
use Rattle.text.proofs.Tokens.{token_placed}
use Rattle.span.specs.Span.{span, span_from}

-- The span of what begins at place i with d brackets open, for every large enough fuel.
abbrev pub IsSpan : List ℕ → ℕ → ℕ → ℕ → Type 0
IsSpan s d i r = (f : ℕ) → length s < f + i → r ≡ span_from f s d i

module _ (s : List ℕ) (d i : ℕ) (t : Tok) (e : t ≡ token_at s i) where
  -- No token is left, or what stands there is none.
  pub span_ends : t.kind ≡ 0 → IsSpan s d i 0
  unfolding span_from
  span_ends k zero h = refl
  span_ends k (suc f) h = rw (← e) simp (eq-eqb t.kind 0 k)

  pub span_bad : t.kind ≡ 6 → IsSpan s d i 0
  unfolding span_from
  span_bad k zero h = refl
  span_bad k (suc f) h = rw (← e) simp (ne_eqb t.kind 0 (λ z. omega arith), eq-eqb t.kind 6 k)

  -- The bracket that closes the first one.
  pub span_closed : i ≤ length s → t.kind ≡ 2 → d ≤ 1 → IsSpan s d i t.to
  unfolding span_from
  span_closed l k c zero h = absurd (omega arith)
  span_closed l k c (suc f) h =
      rw (← e) simp (ne_eqb t.kind 0 (λ z. omega arith), ne_eqb t.kind 6 (λ z. omega arith), ne_eqb t.kind 1 (λ z. omega arith), eq-eqb t.kind 2 k, le-leb d 1 c)

  -- A bracket more, a bracket less, another token.
  pub span_deeper : (r : ℕ) → i ≤ length s → t.kind ≡ 1 → IsSpan s (d + 1) t.to r → IsSpan s d i r
  unfolding span_from
  span_deeper r l k p zero h = absurd (omega arith)
  span_deeper r l k p (suc f) h =
      rw (← e) simp (ne_eqb t.kind 0 (λ z. omega arith), ne_eqb t.kind 6 (λ z. omega arith), eq-eqb t.kind 1 k)
      (p f (omega (arith, ((token_placed s i t e).some (λ z. omega arith)).2)))

  pub span_higher : (r : ℕ) → i ≤ length s → t.kind ≡ 2 → 1 < d → IsSpan s (d - 1) t.to r → IsSpan s d i r
  unfolding span_from
  span_higher r l k c p zero h = absurd (omega arith)
  span_higher r l k c p (suc f) h =
      rw (← e) simp (ne_eqb t.kind 0 (λ z. omega arith), ne_eqb t.kind 6 (λ z. omega arith), ne_eqb t.kind 1 (λ z. omega arith), eq-eqb t.kind 2 k, lt-leb d 1 c)
      (p f (omega (arith, ((token_placed s i t e).some (λ z. omega arith)).2)))

  pub span_other : (r : ℕ) → i ≤ length s → (t.kind ≡ 0 → ⊥) → (t.kind ≡ 6 → ⊥) → (t.kind ≡ 1 → ⊥) → (t.kind ≡ 2 → ⊥) → IsSpan s d t.to r → IsSpan s d i r
  unfolding span_from
  span_other r l n0 n6 n1 n2 p zero h = absurd (omega arith)
  span_other r l n0 n6 n1 n2 p (suc f) h =
      rw (← e) simp (ne_eqb t.kind 0 n0, ne_eqb t.kind 6 n6, ne_eqb t.kind 1 n1, ne_eqb t.kind 2 n2)
      (p f (omega (arith, ((token_placed s i t e).some n0).2)))

-- At the end of the text no token is left.
pub span_end : (s : List ℕ) (d i : ℕ) → length s ≤ i → IsSpan s d i 0
span_end s d i h = by_kind (token_at s i) refl (ℕ_discrete (token_at s i).kind 0)
  where
    by_kind : (t : Tok) → t ≡ token_at s i → Dec (t.kind ≡ 0) → IsSpan s d i 0
    by_kind t e (yes k) = span_ends s d i t e k
    by_kind t e (no n) = absurd (omega (arith, ((token_placed s i t e).some n).1, ((token_placed s i t e).some n).2))

-- Where the text begins with an opening bracket its span is that of the whole text.
pub span_begun : (s : List ℕ) (t : Tok) → t ≡ token_at s 0 → t.kind ≡ 1 → t.from ≡ 0 → (r : ℕ) → IsSpan s 0 0 r → r ≡ span s
span_begun s t e k z r p = rw (← e) simp (eq-eqb t.kind 1 k, eq-eqb t.from 0 z) (p (suc (length s)) (omega arith))
