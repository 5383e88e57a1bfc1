-- The text from a place on: its first byte and the rest; and what white space, comments and pieces are there, a byte at a time.
use mathlib.Core.Path.{◌≡◌, refl, sym, ◌∙◌, ap}
use mathlib.Core.Bool.{Bool, true, false, cond}
use mathlib.Core.List.{List, ◌∷◌}
use Prim.Native.Nat.{ℕ, ◌+◌, ◌<◌, ◌≤◌}
use native.Mathlib.Omega.{arith}
use native.Mathlib.Numerals.{add-one}
use lib.Dec.{eqb}
use lib.ListN.{length, drop, get_or, drop_of_length-le}
use lib.Seq.{drop-cons}
use borrow.Author.Tests.{le-leb, lt-leb}
use Rattle.text.specs.Lexicon.{white, line_end, class, grown, kind, skipped, extent, whole, tok, piece_at}

pub drop_more : (s : List ℕ) (i : ℕ) → i < length s → drop i s ≡ get_or s i 0 ∷ drop (i + 1) s
drop_more s i h = rw (add-one, drop-cons s i 0)

-- What a byte is to white space and comments.
abbrev pub passed : Bool → ℕ → ℕ
passed inside b = cond inside (cond (line_end b) 1 2) (cond (white b) 1 (cond (eqb b 59) 2 0))

-- The same by the tests alone; f is what is skipped behind the byte.
abbrev step : Bool → Bool → Bool → Bool → ℕ
step inside e w c = cond inside (cond e 1 2) (cond w 1 (cond c 2 0))

stop : (inside e w c : Bool) (f : Bool → ℕ) → step inside e w c ≡ 0 → cond inside (1 + f (cond e false true)) (cond w (1 + f false) (cond c (1 + f true) 0)) ≡ 0
stop true true w c f h = absurd (omega arith)
stop true false w c f h = absurd (omega arith)
stop false e true c f h = absurd (omega arith)
stop false e false true f h = absurd (omega arith)
stop false e false false f h = refl

-- A byte that is past white space and comments is neither white space nor a semicolon.
pub past : (inside e w c : Bool) → step inside e w c ≡ 0 → (w ≡ false) × (c ≡ false)
past true true w c h = absurd (omega arith)
past true false w c h = absurd (omega arith)
past false e true c h = absurd (omega arith)
past false e false true h = absurd (omega arith)
past false e false false h = (refl, refl)

on : (inside e w c : Bool) (f : Bool → ℕ) → (step inside e w c ≡ 0 → ⊥) → cond inside (1 + f (cond e false true)) (cond w (1 + f false) (cond c (1 + f true) 0)) ≡ 1 + f (eqb (step inside e w c) 2)
on true true w c f h = refl
on true false w c f h = refl
on false e true c f h = refl
on false e false true f h = refl
on false e false false f h = absurd (h refl)

pub skipped_stop : (inside : Bool) (b : ℕ) (l : List ℕ) → passed inside b ≡ 0 → skipped inside (b ∷ l) ≡ 0
unfolding skipped
skipped_stop inside b l e = stop inside (line_end b) (white b) (eqb b 59) (λ (t : Bool). skipped t l) e

pub skipped_on : (inside : Bool) (b : ℕ) (l : List ℕ) → (passed inside b ≡ 0 → ⊥) → skipped inside (b ∷ l) ≡ 1 + skipped (eqb (passed inside b) 2) l
unfolding skipped
skipped_on inside b l d = on inside (line_end b) (white b) (eqb b 59) (λ (t : Bool). skipped t l) d

module _ (s : List ℕ) (i : ℕ) (inside : Bool) where
  pub skip_end : length s ≤ i → skipped inside (drop i s) ≡ 0
  unfolding skipped
  skip_end h = rw (drop_of_length-le s h)

  pub skip_stop : i < length s → passed inside (get_or s i 0) ≡ 0 → skipped inside (drop i s) ≡ 0
  skip_stop h e = ap (skipped inside) (drop_more s i h) ∙ skipped_stop inside (get_or s i 0) (drop (i + 1) s) e

  pub skip_on : i < length s → (passed inside (get_or s i 0) ≡ 0 → ⊥) → skipped inside (drop i s) ≡ 1 + skipped (eqb (passed inside (get_or s i 0)) 2) (drop (i + 1) s)
  skip_on h d = ap (skipped inside) (drop_more s i h) ∙ skipped_on inside (get_or s i 0) (drop (i + 1) s) d

-- A line end is white space.
ends_white : (t e r w : Bool) → cond e true r ≡ true → cond t true (cond e true (cond r true w)) ≡ true
ends_white true e r w h = refl
ends_white false true r w h = refl
ends_white false false r w h = ap (λ (z : Bool). cond z true w) h

module _ (s : List ℕ) (i : ℕ) (h : i < length s) where
  -- One byte more of white space or of a comment.
  skip_by : (inside : Bool) (m : ℕ) → passed inside (get_or s i 0) ≡ 1 + m → skipped inside (drop i s) ≡ 1 + skipped (eqb (1 + m) 2) (drop (i + 1) s)
  skip_by inside m e = skip_on s i inside h (λ z. omega (arith, e, z)) ∙ ap (λ (n : ℕ). 1 + skipped (eqb n 2) (drop (i + 1) s)) e

  pub white_on : white (get_or s i 0) ≡ true → skipped false (drop i s) ≡ 1 + skipped false (drop (i + 1) s)
  white_on e = skip_by false 0 (ap (λ (t : Bool). cond t 1 (cond (eqb (get_or s i 0) 59) 2 0)) e)

  pub comment_on : line_end (get_or s i 0) ≡ false → skipped true (drop i s) ≡ 1 + skipped true (drop (i + 1) s)
  comment_on e = skip_by true 1 (ap (λ (t : Bool). cond t 1 2) e)

  -- What is skipped is the same inside the comment and outside it, where a comment ends and where one begins.
  pub comment_stop : line_end (get_or s i 0) ≡ true → skipped true (drop i s) ≡ skipped false (drop i s)
  comment_stop e =
      skip_by true 0 (ap (λ (t : Bool). cond t 1 2) e)
      ∙ sym (white_on (ends_white (eqb (get_or s i 0) 9) (eqb (get_or s i 0) 10) (eqb (get_or s i 0) 13) (eqb (get_or s i 0) 32) e))

  pub comment_start : get_or s i 0 ≡ 59 → skipped true (drop i s) ≡ skipped false (drop i s)
  comment_start e = skip_by true 1 (ap (passed true) e) ∙ sym (skip_by false 1 (ap (passed false) e))

pub whole_stop : (p b : ℕ) (l : List ℕ) → class b ≤ 4 → whole p (b ∷ l) ≡ p
unfolding whole
whole_stop p b l h = ap (λ (t : Bool). cond t p (whole (grown p (class b)) l)) (le-leb (class b) 4 h)

pub whole_on : (p b : ℕ) (l : List ℕ) → 4 < class b → whole p (b ∷ l) ≡ whole (grown p (class b)) l
unfolding whole
whole_on p b l h = ap (λ (t : Bool). cond t p (whole (grown p (class b)) l)) (lt-leb (class b) 4 h)

pub extent_stop : (b : ℕ) (l : List ℕ) → class b ≤ 4 → extent (b ∷ l) ≡ 0
unfolding extent
extent_stop b l h = ap (λ (t : Bool). cond t 0 (1 + extent l)) (le-leb (class b) 4 h)

pub extent_on : (b : ℕ) (l : List ℕ) → 4 < class b → extent (b ∷ l) ≡ 1 + extent l
unfolding extent
extent_on b l h = ap (λ (t : Bool). cond t 0 (1 + extent l)) (lt-leb (class b) 4 h)

module _ (s : List ℕ) (i p : ℕ) where
  pub piece_end : length s ≤ i → (whole p (drop i s) ≡ p) × (extent (drop i s) ≡ 0)
  unfolding whole extent
  piece_end h = (rw (drop_of_length-le s h), rw (drop_of_length-le s h))

  pub piece_stop : i < length s → class (get_or s i 0) ≤ 4 → (whole p (drop i s) ≡ p) × (extent (drop i s) ≡ 0)
  piece_stop h k = (
    ap (whole p) (drop_more s i h) ∙ whole_stop p (get_or s i 0) (drop (i + 1) s) k,
    ap extent (drop_more s i h) ∙ extent_stop (get_or s i 0) (drop (i + 1) s) k,
  )

  pub piece_on : i < length s → 4 < class (get_or s i 0) → (whole p (drop i s) ≡ whole (grown p (class (get_or s i 0))) (drop (i + 1) s)) × (extent (drop i s) ≡ 1 + extent (drop (i + 1) s))
  piece_on h k = (
    ap (whole p) (drop_more s i h) ∙ whole_on p (get_or s i 0) (drop (i + 1) s) k,
    ap extent (drop_more s i h) ∙ extent_on (get_or s i 0) (drop (i + 1) s) k,
  )

  -- One byte more of a piece: k is its class and q what the piece now is.
  pub piece_more : (k q w : ℕ) → i < length s → k ≡ class (get_or s i 0) → 4 < k → q ≡ grown p k → whole p (drop i s) ≡ w → whole q (drop (i + 1) s) ≡ w
  piece_more k q w h e g r v =
      ap (λ (n : ℕ). whole n (drop (i + 1) s)) (r ∙ ap (grown p) e) ∙ sym (piece_on h (rw e at g)).0 ∙ v

  -- The piece that stands at f and ends at i, where it is p.
  pub piece_made : (f k : ℕ) → k ≡ kind p → whole p (drop i s) ≡ whole 0 (drop f s) → i + extent (drop i s) ≡ f + extent (drop f s) → (whole p (drop i s) ≡ p) × (extent (drop i s) ≡ 0) → tok k f i ≡ piece_at s f
  piece_made f k e w x end =
      ap (λ (n : ℕ). tok k f n) (place end.1) ∙ ap (λ (n : ℕ). tok n f (f + extent (drop f s))) (e ∙ ap kind (sym end.0 ∙ w))
    where
      place : extent (drop i s) ≡ 0 → i ≡ f + extent (drop f s)
      place z = omega arith

-- The piece that stands at f is p, and ends at place e.
pub piece_is : (s : List ℕ) (f p : ℕ) {e : ℕ} → whole 0 (drop f s) ≡ p → e ≡ f + extent (drop f s) → tok (kind p) f e ≡ piece_at s f
piece_is s f p w x = ap (λ (n : ℕ). tok (kind p) f n) x ∙ ap (λ (n : ℕ). tok (kind n) f (f + extent (drop f s))) (sym w)
