-- A comment runs up to its first line end: what is skipped in it, and behind it.
use mathlib.Core.Path.{◌≡◌, refl, sym, ◌∙◌, ap, subst}
use mathlib.Core.Bool.{Bool, true, false, cond}
use mathlib.Core.List.{List, [], ◌∷◌}
use Prim.Native.Nat.{ℕ, suc, ◌+◌, ◌-◌, ◌<◌, ◌≤◌}
use native.Mathlib.Omega.{arith}
use native.Mathlib.Decide.{dec_lt}
use lib.Dec.{ltb}
use lib.ListN.{length, drop, get_or, take, length-drop}
use lib.Seq.{take_all}
use borrow.Author.Tests.{lt-ltb, le-ltb}
use Rattle.std.specs.Prelude.{not}
use Rattle.std.specs.List.{position_or_len}
use Rattle.std.specs.Option.{unwrap_or}
use Rattle.std.proofs.Common.{Some, None}
use Rattle.std.proofs.lemmas.List.{drop-drop}
use Rattle.std.proofs.lemmas.List.Sums.{prefix_len-le-length}
use Rattle.text.specs.Lexicon.{line_end, skipped, start}
use Rattle.text.proofs.Runs.{drop_more, comment_start, comment_on, comment_stop}

abbrev run : List ℕ → ℕ
run l = position_or_len line_end l

-- The first place, or the length where there is none.
or_length : (p n : ℕ) → p ≤ n → unwrap_or (cond (ltb p n) (Some p) None) n ≡ p
or_length p n h = by_size (dec_lt p n)
  where
    by_size : Dec (p < n) → unwrap_or (cond (ltb p n) (Some p) None) n ≡ p
    by_size (yes less) = rw (lt-ltb p n less) refl
    by_size (no d) = rw (le-ltb p n (omega arith)) (omega arith)

pub run_found : (l : List ℕ) → unwrap_or (cond (ltb (run l) (length l)) (Some (run l)) None) (length l) ≡ run l
run_found l = or_length (run l) (length l) (prefix_len-le-length (λ b. not (line_end b)) l)

skipped_over : (l : List ℕ) → skipped true l ≡ run l + skipped false (drop (run l) l)
unfolding skipped
skipped_over [] = refl
skipped_over (b ∷ l) = by_end (line_end b) refl (skipped_over l)
  where
    by_end : (t : Bool) → line_end b ≡ t → skipped true l ≡ run l + skipped false (drop (run l) l) → skipped true (b ∷ l) ≡ run (b ∷ l) + skipped false (drop (run (b ∷ l)) (b ∷ l))
    by_end true e rest =
        let here : run (b ∷ l) ≡ 0 = ap (λ (t : Bool). cond (not t) (1 + run l) 0) e in
        subst (λ (n : ℕ). skipped true (b ∷ l) ≡ n + skipped false (drop n (b ∷ l))) (sym here) (omega (arith, comment_stop (b ∷ l) 0 (omega arith) e))
    by_end false e rest =
        let more : run (b ∷ l) ≡ suc (run l) = ap (λ (t : Bool). cond (not t) (1 + run l) 0) e ∙ omega arith in
        subst (λ (n : ℕ). skipped true (b ∷ l) ≡ n + skipped false (drop n (b ∷ l))) (sym more) (omega (arith, comment_on (b ∷ l) 0 (omega arith) e, rest))

-- The bytes from a place to the end of the text.
from_place : (s : List ℕ) (at : ℕ) → take (length s - at) (drop at s) ≡ drop at s
from_place s at = take_all (length s - at) (drop at s) (omega (arith, length-drop at s))

-- A comment's bytes are within the text, and the token behind it is found from their end on, which is past the first of them.
pub comment_passed :
    (s : List ℕ) (at n : ℕ) → at < length s → get_or s at 0 ≡ 59 → n ≡ run (take (length s - at) (drop at s)) →
    (at + n ≤ length s) × (at < at + n) × (start s (at + n) ≡ start s at)
comment_passed s at n h e is =
    let whole : n ≡ run (drop at s) = is ∙ ap run (from_place s at) in
    let first : run (drop at s) ≡ 1 + run (drop (at + 1) s) = ap run (drop_more s at h) ∙ ap (λ (b : ℕ). run (b ∷ drop (at + 1) s)) e in
    let within : run (drop at s) ≤ length (drop at s) = prefix_len-le-length (λ b. not (line_end b)) (drop at s) in
    let behind : skipped false (drop (run (drop at s)) (drop at s)) ≡ skipped false (drop (at + n) s) =
    ap (skipped false) (drop-drop (run (drop at s)) at s ∙ ap (λ (k : ℕ). drop (at + k) s) (sym whole)) in
    (omega (arith, whole, within, length-drop at s), omega (arith, whole, first), omega (arith, whole, skipped_over (drop at s), behind, comment_start s at h e))
