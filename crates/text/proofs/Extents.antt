-- How far white space, comments and pieces run, and what stands behind white space and comments: by induction on the text.
use mathlib.Core.Path.{◌≡◌, sym, ◌∙◌, ap, subst}
use mathlib.Core.Bool.{Bool}
use mathlib.Core.List.{List, [], ◌∷◌}
use Prim.Native.Nat.{ℕ, suc, ◌+◌, ◌<◌, ◌≤◌}
use native.Mathlib.Omega.{arith}
use native.Mathlib.Decide.{ℕ_discrete, dec_le}
use lib.Dec.{T, eqb}
use lib.ListN.{length, get_or}
use Rattle.text.specs.Lexicon.{white, line_end, class, grown, skipped, extent, whole}
use Rattle.text.proofs.Reading.{grown_small}
use Rattle.text.proofs.Classes.{class_small, white_of, semicolon_of}
use Rattle.text.proofs.Runs.{passed, past, skipped_stop, skipped_on, whole_stop, whole_on, extent_stop, extent_on}

pub skipped_within : (inside : Bool) (l : List ℕ) → skipped inside l ≤ length l
unfolding skipped
skipped_within inside [] = omega arith
skipped_within inside (b ∷ l) = by_step (λ (t : Bool). skipped_within t l) (ℕ_discrete (passed inside b) 0)
  where
    by_step : ((t : Bool) → skipped t l ≤ length l) → Dec (passed inside b ≡ 0) → skipped inside (b ∷ l) ≤ suc (length l)
    by_step rest (yes e) = omega (arith, skipped_stop inside b l e)
    by_step rest (no d) = omega (arith, skipped_on inside b l d, rest (eqb (passed inside b) 2))

-- The byte begins a token: it is neither white space nor the semicolon.
abbrev pub Fresh : ℕ → Type 0
Fresh b = (class b ≡ 0 → ⊥) × (class b ≡ 3 → ⊥)

getD_behind : (b n : ℕ) (l : List ℕ) → get_or (b ∷ l) (1 + n) 0 ≡ get_or l n 0
getD_behind b n l = ap (λ (m : ℕ). get_or (b ∷ l) m 0) more
  where
    more : 1 + n ≡ suc n
    more = omega arith

pub skipped_fresh : (inside : Bool) (l : List ℕ) → skipped inside l < length l → Fresh (get_or l (skipped inside l) 0)
skipped_fresh inside [] h = absurd (omega arith)
skipped_fresh inside (b ∷ l) h = by_step (λ (t : Bool). skipped_fresh t l) (ℕ_discrete (passed inside b) 0)
  where
    by_step : ((t : Bool) → skipped t l < length l → Fresh (get_or l (skipped t l) 0)) → Dec (passed inside b ≡ 0) → Fresh (get_or (b ∷ l) (skipped inside (b ∷ l)) 0)
    by_step rest (yes e) =
        let tests = past inside (line_end b) (white b) (eqb b 59) e in
        let new : Fresh b = (λ z. subst T (sym (white_of b z) ∙ tests.0) tt, λ z. subst T (sym (semicolon_of b z) ∙ tests.1) tt) in
        subst (λ (n : ℕ). Fresh (get_or (b ∷ l) n 0)) (sym (skipped_stop inside b l e)) new
    by_step rest (no d) =
        let n = skipped (eqb (passed inside b) 2) l in
        subst (λ (m : ℕ). Fresh (get_or (b ∷ l) m 0)) (sym (skipped_on inside b l d))
        (subst Fresh (sym (getD_behind b n l)) (rest (eqb (passed inside b) 2) (omega (arith, skipped_on inside b l d))))

pub extent_within : (l : List ℕ) → extent l ≤ length l
unfolding extent
extent_within [] = omega arith
extent_within (b ∷ l) = by-class (extent_within l) (dec_le (class b) 4)
  where
    by-class : extent l ≤ length l → Dec (class b ≤ 4) → extent (b ∷ l) ≤ suc (length l)
    by-class rest (yes k) = omega (arith, extent_stop b l k)
    by-class rest (no d) = omega (arith, extent_on b l (omega arith))

pub whole_small : (p : ℕ) (l : List ℕ) → p < 16 → whole p l < 16
unfolding whole
whole_small p [] h = h
whole_small p (b ∷ l) h = by-class (whole_small (grown p (class b)) l (grown_small p (class b) h (class_small b))) (dec_le (class b) 4)
  where
    by-class : whole (grown p (class b)) l < 16 → Dec (class b ≤ 4) → whole p (b ∷ l) < 16
    by-class rest (yes k) = omega (arith, whole_stop p b l k)
    by-class rest (no d) = omega (arith, whole_on p b l (omega arith))
