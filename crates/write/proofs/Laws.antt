-- Bytes written over a list: its length stays, the bytes stand where they were written, and every other place is as it was.
use Prim.Native.Nat.{ℕ, zero, suc, ◌+◌, ◌-◌, ◌≤◌, ◌<◌, min}
use native.Mathlib.Omega.{arith}
use native.Mathlib.Numerals.{add-one}
use mathlib.Core.Path.{◌≡◌, refl, sym, ap, ◌∙◌}
use mathlib.Core.List.{List, [], ◌∷◌, ◌++◌, append_assoc}
use lib.ListN.{length, get_or, set, take, drop, length-set, length-take, length-drop, take-append-drop}
use lib.Seq.{get_or-set_same, get_or-set_other, get_or-take, get_or-drop, length-take-le, ext_get_or}
use Rattle.std.proofs.Math.Seq.{take-suc-set}
use Rattle.std.proofs.lemmas.List.{drop-set-lt}
use Rattle.write.specs.Written.{over}

pub length_over : (l : List ℕ) (i : ℕ) (w : List ℕ) → length (over l i w) ≡ length l
unfolding over
length_over l i [] = refl
length_over l i (b ∷ w) = length_over (set l i b) (i + 1) w ∙ length-set l i b

-- Written one after the other, two words are written as one.
pub over_append : (l : List ℕ) (i : ℕ) (a b : List ℕ) → over (over l i a) (i + length a) b ≡ over l i (a ++ b)
unfolding over
over_append l i [] b = ap (λ (k : ℕ). over l k b) (omega arith)
over_append l i (x ∷ a) b =
    let same : i + suc (length a) ≡ i + 1 + length a = omega arith in
    ap (λ (k : ℕ). over (over (set l i x) (i + 1) a) k b) same ∙ over_append (set l i x) (i + 1) a b

-- A word of one byte is one store.
pub over_one : (l : List ℕ) (i b : ℕ) → over l i (b ∷ []) ≡ set l i b
unfolding over
over_one l i b = refl

pub over_none : (l : List ℕ) (i : ℕ) → over l i [] ≡ l
unfolding over
over_none l i = refl

-- Places before the word, past it and in it.
pub getD_over_before : (l : List ℕ) (i : ℕ) (w : List ℕ) (k : ℕ) → k < i → get_or (over l i w) k 0 ≡ get_or l k 0
unfolding over
getD_over_before l i [] k h = refl
getD_over_before l i (b ∷ w) k h = getD_over_before (set l i b) (i + 1) w k (omega arith) ∙ get_or-set_other l i k b 0 (λ e. absurd (omega arith))

pub getD_over_in : (l : List ℕ) (i : ℕ) (w : List ℕ) (k : ℕ) → k < length w → i + length w ≤ length l → get_or (over l i w) (i + k) 0 ≡ get_or w k 0
unfolding over
getD_over_in l i [] k h room = absurd (omega arith)
getD_over_in l i (b ∷ w) zero h room =
    ap (λ (j : ℕ). get_or (over (set l i b) (i + 1) w) j 0) (omega arith) ∙ getD_over_before (set l i b) (i + 1) w i (omega arith) ∙ get_or-set_same l i b 0 (omega arith)
getD_over_in l i (b ∷ w) (suc k) h room =
    let same : i + suc k ≡ i + 1 + k = omega arith in
    ap (λ (j : ℕ). get_or (over (set l i b) (i + 1) w) j 0) same ∙ getD_over_in (set l i b) (i + 1) w k (omega arith) (omega (arith, length-set l i b))

-- Two lists of the same length that agree from place a on, at n places, have the same part there.
pub same_part : (l r : List ℕ) (a n : ℕ) → length l ≡ length r → ((k : ℕ) → k < n → get_or l (a + k) 0 ≡ get_or r (a + k) 0) → take n (drop a l) ≡ take n (drop a r)
same_part l r a n same agree = ext_get_or 0 (take n (drop a l)) (take n (drop a r)) lengths each
  where
    lengths : length (take n (drop a l)) ≡ length (take n (drop a r))
    lengths = simp (length-take, length-drop) (ap (λ (j : ℕ). min n (j - a)) same)

    each : (k : ℕ) → k < length (take n (drop a l)) → get_or (take n (drop a l)) k 0 ≡ get_or (take n (drop a r)) k 0
    each k h =
        let below : k < n = omega (arith, length-take n (drop a l)) in
        get_or-take n (drop a l) k 0 below ∙ get_or-drop a l k 0 ∙ agree k below ∙ sym (get_or-drop a r k 0) ∙ sym (get_or-take n (drop a r) k 0 below)

-- The word is the part that it was written over.
pub part_written : (l : List ℕ) (i : ℕ) (w : List ℕ) → i + length w ≤ length l → take (length w) (drop i (over l i w)) ≡ w
part_written l i w room = ext_get_or 0 (take (length w) (drop i (over l i w))) w long each
  where
    long : length (take (length w) (drop i (over l i w))) ≡ length w
    long = length-take-le (length w) (drop i (over l i w)) (omega (arith, length-drop i (over l i w), length_over l i w))

    each : (k : ℕ) → k < length (take (length w) (drop i (over l i w))) → get_or (take (length w) (drop i (over l i w))) k 0 ≡ get_or w k 0
    each k h =
        let below : k < length w = omega (arith, long) in
        get_or-take (length w) (drop i (over l i w)) k 0 below ∙ get_or-drop i (over l i w) k 0 ∙ getD_over_in l i w k below room

-- A part that ends before the word is as it was.
pub part_before : (l : List ℕ) (i : ℕ) (w : List ℕ) (a n : ℕ) → a + n ≤ i → take n (drop a (over l i w)) ≡ take n (drop a l)
part_before l i w a n h = same_part (over l i w) l a n (length_over l i w) (λ k below. getD_over_before l i w (a + k) (omega arith))

-- Written at once, over the part that has its length, a word is as written byte after byte.
pub over_at_once : (l : List ℕ) (i : ℕ) (w : List ℕ) → i + length w ≤ length l → take i l ++ (w ++ drop (i + length w) l) ≡ over l i w
unfolding over
over_at_once l i [] room = ap (λ (k : ℕ). take i l ++ drop k l) (omega arith) ∙ take-append-drop i l
over_at_once l i (b ∷ w) room =
    let same : i + suc (length w) ≡ i + 1 + length w = omega arith in
    let room' : i + 1 + length w ≤ length (set l i b) = omega (arith, length-set l i b) in
    let front : take (i + 1) (set l i b) ≡ take i l ++ (b ∷ []) = ap (λ (k : ℕ). take k (set l i b)) (add-one i) ∙ take-suc-set l i b (omega arith) in
    let back : drop (i + suc (length w)) l ≡ drop (i + 1 + length w) (set l i b) = ap (λ (k : ℕ). drop k l) same ∙ sym (drop-set-lt (i + 1 + length w) l i b (omega arith)) in
    ap (λ (r : List ℕ). take i l ++ (b ∷ (w ++ r))) back
    ∙ sym (append_assoc (take i l) (b ∷ []) (w ++ drop (i + 1 + length w) (set l i b)))
    ∙ ap (λ (f : List ℕ). f ++ (w ++ drop (i + 1 + length w) (set l i b))) (sym front)
    ∙ over_at_once (set l i b) (i + 1) w room'
