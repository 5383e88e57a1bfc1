-- What a span says of its text: it ends within it, since every token does; and where it is more than 0 the text begins with an opening bracket. These are the laws
-- for callers of `span_of`.
use mathlib.Core.Path.{◌≡◌, refl}
use mathlib.Core.Bool.{Bool, true, false, cond}
use mathlib.Core.List.{List}
use Prim.Native.Nat.{ℕ, zero, suc, ◌+◌, ◌-◌, ◌≤◌}
use native.Mathlib.Omega.{arith}
use lib.Dec.{eqb, leb}
use lib.ListN.{length}
use Rattle.text.specs.Lexicon.{OPEN, CLOSE, BAD, END, either, token_at}
use Rattle.text.proofs.Tokens.{token_placed}
use Rattle.span.specs.Span.{span, span_from, begins_open}

either_within : (b : Bool) {x y n : ℕ} → x ≤ n → y ≤ n → cond b x y ≤ n
either_within true h k = h
either_within false h k = k

from_within : (f : ℕ) (s : List ℕ) (d i : ℕ) → i ≤ length s → span_from f s d i ≤ length s
unfolding span_from
from_within zero s d i h = omega arith
from_within (suc f) s d i h =
    let t = token_at s i in
    let to : t.to ≤ length s = (token_placed s i t refl).within h in
    either_within (either (eqb t.kind END) (eqb t.kind BAD)) (omega arith)
    (either_within (eqb t.kind OPEN) (from_within f s (d + 1) t.to to)
    (either_within (eqb t.kind CLOSE) (either_within (leb d 1) to (from_within f s (d - 1) t.to to)) (from_within f s d t.to to)))

pub span_within : (s : List ℕ) → span s ≤ length s
span_within s = either_within (begins_open s) (from_within (suc (length s)) s 0 0 (omega arith)) (omega arith)

pub span_opens : (s : List ℕ) → 1 ≤ span s → begins_open s ≡ true
span_opens s = by-begin (begins_open s)
  where
    by-begin : (b : Bool) → 1 ≤ cond b (span_from (suc (length s)) s 0 0) 0 → b ≡ true
    by-begin true h = refl
    by-begin false h = absurd (omega arith)
