-- The bytes of a symbol, as a text of their own, are that one symbol: a piece depends on its own bytes alone.
use mathlib.Core.Path.{◌≡◌, refl, sym, ap, ◌∙◌}
use mathlib.Core.Bool.{Bool, true, false, cond}
use mathlib.Core.List.{List, [], ◌∷◌}
use Prim.Native.Nat.{ℕ, zero, suc, ◌+◌, ◌-◌, ◌≤◌, ◌<◌}
use native.Mathlib.Omega.{arith}
use native.Mathlib.Decide.{dec_le}
use lib.Dec.{eqb}
use lib.ListN.{take, drop}
use Rattle.text.specs.Lexicon.{Tok}
use Rattle.text.specs.Lexicon.{SYMBOL, OPENS, CLOSES, QUOTE, class, grown, skipped, extent, whole, kind, tok, piece_at, token_of, token_at, start, bytes}
use Rattle.text.proofs.Classes.{not_white, not_semicolon}
use Rattle.text.proofs.Runs.{skipped_stop, whole_stop, whole_on, extent_stop, extent_on}
use Rattle.text.proofs.Standing.{standing, chosen_piece}

-- A piece, where the text is cut behind it or later.
extent_cut : (l : List ℕ) (m : ℕ) → extent l ≤ m → extent (take m l) ≡ extent l
unfolding extent
extent_cut [] zero h = refl
extent_cut [] (suc m) h = refl
extent_cut (b ∷ l) m h = by-class m h (extent_cut l) (dec_le (class b) 4)
  where
    by-class : (m : ℕ) → extent (b ∷ l) ≤ m → ((n : ℕ) → extent l ≤ n → extent (take n l) ≡ extent l) → Dec (class b ≤ 4) → extent (take m (b ∷ l)) ≡ extent (b ∷ l)
    by-class zero h rest (yes k) = sym (extent_stop b l k)
    by-class (suc n) h rest (yes k) = extent_stop b (take n l) k ∙ sym (extent_stop b l k)
    by-class zero h rest (no d) = absurd (omega (arith, h, extent_on b l (omega arith)))
    by-class (suc n) h rest (no d) =
        let k : 4 < class b = omega arith in
        extent_on b (take n l) k ∙ ap (λ (q : ℕ). 1 + q) (rest n (omega (arith, h, extent_on b l k))) ∙ sym (extent_on b l k)

whole_cut : (p : ℕ) (l : List ℕ) (m : ℕ) → extent l ≤ m → whole p (take m l) ≡ whole p l
unfolding whole extent
whole_cut p [] zero h = refl
whole_cut p [] (suc m) h = refl
whole_cut p (b ∷ l) m h = by-class m h (whole_cut (grown p (class b)) l) (dec_le (class b) 4)
  where
    by-class : (m : ℕ) → extent (b ∷ l) ≤ m → ((n : ℕ) → extent l ≤ n → whole (grown p (class b)) (take n l) ≡ whole (grown p (class b)) l) → Dec (class b ≤ 4) → whole p (take m (b ∷ l)) ≡ whole p (b ∷ l)
    by-class zero h rest (yes k) = sym (whole_stop p b l k)
    by-class (suc n) h rest (yes k) = whole_stop p b (take n l) k ∙ sym (whole_stop p b l k)
    by-class zero h rest (no d) = absurd (omega (arith, h, extent_on b l (omega arith)))
    by-class (suc n) h rest (no d) =
        let k : 4 < class b = omega arith in
        whole_on p b (take n l) k ∙ rest n (omega (arith, h, extent_on b l k)) ∙ sym (whole_on p b l k)

-- The bytes of the piece that a text begins with.
abbrev own_piece : List ℕ → List ℕ
own_piece l = take (extent l) l

own_on : (b : ℕ) (l : List ℕ) → 4 < class b → own_piece (b ∷ l) ≡ b ∷ own_piece l
own_on b l h = ap (λ (n : ℕ). take n (b ∷ l)) (extent_on b l h ∙ more)
  where
    more : 1 + extent l ≡ suc (extent l)
    more = omega arith

-- A token that is a symbol is a piece.
by_cond : (b : Bool) (x y z : Tok) → (x.kind ≡ SYMBOL → ⊥) → (y.kind ≡ SYMBOL → y ≡ z) → (cond b x y).kind ≡ SYMBOL → cond b x y ≡ z
by_cond true x y z n p e = absurd (n e)
by_cond false x y z n p e = p e

symbol_piece : (s : List ℕ) (f : ℕ) (l : List ℕ) → (token_of s f l).kind ≡ SYMBOL → token_of s f l ≡ piece_at s f
symbol_piece s f [] e = absurd (omega arith)
symbol_piece s f (b ∷ l) e =
    by_cond (eqb (class b) OPENS) _ _ (piece_at s f) (λ z. omega arith)
    (by_cond (eqb (class b) CLOSES) _ _ (piece_at s f) (λ z. omega arith)
    (by_cond (eqb (class b) QUOTE) _ _ (piece_at s f) (λ z. omega arith) (λ z. refl)))
    e

-- A text that begins with a byte of a piece begins with that piece: nothing is skipped.
none_skipped : (b : ℕ) (l : List ℕ) → 4 < class b → skipped false (b ∷ l) ≡ 0
none_skipped b l h =
    skipped_stop false b l
    (rw (not_white b (λ z. omega arith), not_semicolon b (λ z. omega arith)))

piece_first : (b : ℕ) (l : List ℕ) → 4 < class b → token_at (b ∷ l) 0 ≡ tok (kind (whole 0 (b ∷ l))) 0 (extent (b ∷ l))
piece_first b l h =
    ap (standing (b ∷ l)) place
    ∙ chosen_piece (b ∷ l) 0 (class b) (λ z. omega arith) (λ z. omega arith) (λ z. omega arith)
    ∙ ap (λ (n : ℕ). tok (kind (whole 0 (b ∷ l))) 0 n) far
  where
    place : 0 + skipped false (b ∷ l) ≡ 0
    place = omega (arith, none_skipped b l h)

    far : 0 + extent (b ∷ l) ≡ extent (b ∷ l)
    far = omega arith

-- The piece that a text begins with is one token as a text of its own.
piece_alone : (l : List ℕ) → 0 < extent l → token_at (own_piece l) 0 ≡ tok (kind (whole 0 l)) 0 (extent l)
unfolding extent
piece_alone [] h = absurd (omega arith)
piece_alone (b ∷ l) h = by-class (dec_le (class b) 4)
  where
    by-class : Dec (class b ≤ 4) → token_at (own_piece (b ∷ l)) 0 ≡ tok (kind (whole 0 (b ∷ l))) 0 (extent (b ∷ l))
    by-class (yes k) = absurd (omega (arith, h, extent_stop b l k))
    by-class (no d) =
        let k : 4 < class b = omega arith in
        let w = own_piece (b ∷ l) in
        ap (λ (v : List ℕ). token_at v 0) (own_on b l k)
        ∙ piece_first b (own_piece l) k
        ∙ ap (λ (v : List ℕ). tok (kind (whole 0 v)) 0 (extent v)) (sym (own_on b l k))
        ∙ ap (λ (q : ℕ). tok (kind q) 0 (extent w)) (whole_cut 0 (b ∷ l) (extent (b ∷ l)) (omega arith))
        ∙ ap (tok (kind (whole 0 (b ∷ l))) 0) (extent_cut (b ∷ l) (extent (b ∷ l)) (omega arith))

-- The bytes of a symbol, as a text of their own, are one symbol.
pub symbol_alone : (s : List ℕ) (i a b : ℕ) → a ≡ (token_at s i).from → b ≡ (token_at s i).to → (token_at s i).kind ≡ SYMBOL → a < b → token_at (bytes s a b) 0 ≡ tok SYMBOL 0 (b - a)
symbol_alone s i a b begins ends symbol some =
    let f = start s i in
    let l = drop f s in
    let is = symbol_piece s f l symbol in
    let from_is : a ≡ f = begins ∙ ap (λ (t : Tok). t.from) is in
    let long : b - a ≡ extent l = length-is f (extent l) from_is (ends ∙ ap (λ (t : Tok). t.to) is) in
    let kind_is : kind (whole 0 l) ≡ SYMBOL = sym (ap (λ (t : Tok). t.kind) is) ∙ symbol in
    let cut : bytes s a b ≡ own_piece l = ap (λ (n : ℕ). take n (drop a s)) long ∙ ap (λ (n : ℕ). take (extent l) (drop n s)) from_is in
    ap (λ (v : List ℕ). token_at v 0) cut
    ∙ piece_alone l (omega (arith, long, some))
    ∙ ap (λ (k : ℕ). tok k 0 (extent l)) kind_is
    ∙ ap (tok SYMBOL 0) (sym long)
  where
    length-is : (f n : ℕ) → a ≡ f → b ≡ f + n → b - a ≡ n
    length-is f n p q = omega arith
