-- The cells of a column: whether all are as asked; of the levels how many are held.
use Prim.Native.Nat.{ℕ, zero, suc, ◌+◌, ◌≤◌, ◌<◌}
use native.Mathlib.Omega.{arith}
use native.Mathlib.Decide.{ℕ_discrete, dec_lt}
use native.Mathlib.Numerals.{add-one}
use mathlib.Core.Path.{◌≡◌, refl, sym, ◌∙◌, ap, subst}
use mathlib.Core.Bool.{Bool, true, false}
use mathlib.Core.List.{List}
use mathlib.Core.Logic.{◌⊎◌, inl, inr}
use Rattle.meaning.specs.Bounds.{RULES}
use Rattle.meaning.specs.Tables.{at, taken, lowest_free}
use Rattle.meaning.specs.Rules.{largest}
use Rattle.meaning.proofs.Places.{taken_free, taken_held, free_or_held, taken_all_held, lowest_only, lowest_free_there, lowest_below_held, lowest_at_most}
use Rattle.lent.specs.Decides.{Decides, decides_same}
use Rattle.lent.specs.Passing.{EachTested}
use Rattle.lent.specs.Lent.{first, held_by, AllHeld, FreeFrom}
use Rattle.std.proofs.Math.Nat.{sub-zero}
use Rattle.std.proofs.lemmas.Bool.{ne_eqb, lt-ltb}
use Rattle.std.specs.List.{fold, position, position_or_len}
use Rattle.std.proofs.lemmas.List.Sums.{fold_more, position_or_len_is}
use Rattle.std.proofs.Common.{max, Some, None, unwrap_or, cond, eqb, ltb, length, take, drop, get_or, ◌-◌}
use Rattle.std.proofs.lemmas.List.{get_or-take, get_or-drop, length-take-le, length-drop}

-- ---- an answer over all cells

-- A test of every cell tells whether P holds of every place, where what it says of a cell tells whether P holds of that place.
module _ {T : Type 0} {says : T → Bool → Type 0} {r : Bool} (P : ℕ → Type 0) where
  -- A test of the cells from place a up to place b.
  pub part_decides :
      (cells : List T) (d : T) (a b : ℕ) → a ≤ b → b ≤ length cells → ((i : ℕ) (v : Bool) → a ≤ i → i < b → says (get_or cells i d) v → Decides v (P i)) →
      EachTested says (take (b - a) (drop a cells)) (length (take (b - a) (drop a cells))) r → Decides r ((i : ℕ) → a ≤ i → i < b → P i)
  part_decides cells d a b order room here t = record {
    so = λ e i from below. (here i true from below (said i from below true (t.each e (i - a) d (omega (arith, long, from, below))))).so refl;
    not_so = λ e all. let (k, below, denied) = t.one e in
        let in_part : a + k < b = omega (arith, long, below) in
        let at_place = read k (omega (arith, long, below)) in
        (here (a + k) false (omega arith) in_part (subst (λ x. says x false) at_place (denied d))).not_so refl (all (a + k) (omega arith) in_part);
  }
    where
      long : length (take (b - a) (drop a cells)) ≡ b - a
      long = length-take-le (b - a) (drop a cells) (omega (arith, length-drop a cells, room))

      read : (k : ℕ) → k < b - a → get_or (take (b - a) (drop a cells)) k d ≡ get_or cells (a + k) d
      read k below = get_or-take (b - a) (drop a cells) k d below ∙ get_or-drop a cells k d

      said : (i : ℕ) → a ≤ i → i < b → (v : Bool) → says (get_or (take (b - a) (drop a cells)) (i - a) d) v → says (get_or cells i d) v
      said i from below v = subst (λ x. says x v) (read (i - a) (omega (arith, from, below)) ∙ ap (λ k. get_or cells k d) (omega (arith, from)))

  -- A test of the first m cells.
  pub front_decides :
      (cells : List T) (d : T) (m : ℕ) → m ≤ length cells → ((i : ℕ) (v : Bool) → i < m → says (get_or cells i d) v → Decides v (P i)) →
      EachTested says (take m cells) (length (take m cells)) r → Decides r ((i : ℕ) → i < m → P i)
  front_decides cells d m room here t =
      decides_same (λ all i below. all i (omega arith) below) (λ all i from below. all i below)
      (part_decides cells d 0 m (omega arith) room (λ i v from below. here i v below)
      (subst (λ k. EachTested says (take k cells) (length (take k cells)) r) (sym (sub-zero m)) t))

-- ---- the largest cell

-- The larger of each cell and of those before it is at last the largest of all.
pub largest_fold : (n : ℕ) (days : List ℕ) → n ≤ length days → fold (λ l day. max l day) 0 (take n days) ≡ largest n (at days)
unfolding largest
largest_fold zero days room = refl
largest_fold (suc n) days room =
    subst (λ k. fold (λ l day. max l day) 0 (take k days) ≡ max (fold (λ l day. max l day) 0 (take n days)) (at days n)) (add-one n) (fold_more (λ l day. max l day) 0 days n 0 room)
    ∙ ap (λ l. max l (at days n)) (largest_fold n days (omega arith))

-- ---- how many are held

-- Of more places no fewer are held.
pub taken_no_fewer : (k n : ℕ) (l : List ℕ) → k ≤ n → taken k l ≤ taken n l
taken_no_fewer k zero l h = subst (λ (j : ℕ). taken j l ≤ taken 0 l) (sym (none k h)) (omega arith)
  where
    none : (j : ℕ) → j ≤ 0 → j ≡ 0
    none j g = omega arith
taken_no_fewer k (suc n) l h = tell (ℕ_discrete k (suc n)) (free_or_held l n) (λ lower. taken_no_fewer k n l lower)
  where
    tell : Dec (k ≡ suc n) → (at l n ≡ 0) ⊎ (0 < at l n) → (k ≤ n → taken k l ≤ taken n l) → taken k l ≤ taken (suc n) l
    tell (yes e) d before = subst (λ (j : ℕ). taken k l ≤ taken j l) e (omega arith)
    tell (no d) (inl free) before = omega (arith, before (omega arith), subst (λ (j : ℕ). taken j l ≡ taken n l) (add-one n) (taken_free n l free))
    tell (no d) (inr some) before = omega (arith, before (omega arith), subst (λ (j : ℕ). taken j l ≡ taken n l + 1) (add-one n) (taken_held n l some))

-- With every place from n on free, all that are held are among the first n.
pub taken_rest_free : (n k : ℕ) (l : List ℕ) → n ≤ k → ((i : ℕ) → n ≤ i → i < k → at l i ≡ 0) → taken k l ≡ taken n l
taken_rest_free n zero l h free = ap (λ (j : ℕ). taken j l) (none n h)
  where
    none : (j : ℕ) → j ≤ 0 → 0 ≡ j
    none j g = omega arith
taken_rest_free n (suc k) l h free = tell (ℕ_discrete n (suc k)) (λ lower. taken_rest_free n k l lower (λ i g below. free i g (omega arith)))
  where
    tell : Dec (n ≡ suc k) → (n ≤ k → taken k l ≡ taken n l) → taken (suc k) l ≡ taken n l
    tell (yes e) before = ap (λ (j : ℕ). taken j l) (sym e)
    tell (no d) before = omega (arith, before (omega arith), subst (λ (j : ℕ). taken j l ≡ taken k l) (add-one k) (taken_free k l (free k (omega arith) (omega arith))))

-- With a place from n on held, more are held than among the first n.
pub taken_past : (n k i : ℕ) (l : List ℕ) → n ≤ i → i < k → 0 < at l i → taken n l < taken k l
taken_past n k i l h below some = omega (arith, taken_no_fewer n i l h, taken_held i l some, taken_no_fewer (i + 1) k l (omega arith))

-- ---- the first places

-- Where the places from m on are free, what is held is among the first m.
pub only_first : (m : ℕ) (levels : List ℕ) → FreeFrom m levels → (j : ℕ) → held_by levels j → first m j
only_first m levels free j h = by_place (dec_lt j m)
  where
    by_place : Dec (j < m) → first m j
    by_place (yes l) = l
    by_place (no past) = absurd (omega (arith, h.1, free j (omega (arith, past)) h.0))

-- ---- the lowest free place

-- Where the first m are held, and no others, it is the one behind them.
pub lowest_behind : (m : ℕ) (l : List ℕ) → m ≤ RULES → m ≡ taken RULES l → AllHeld m l → m ≡ lowest_free RULES l
lowest_behind m l within counted held = sym (lowest_only RULES m l within held (tell (ℕ_discrete m RULES) (free_or_held l m)))
  where
    tell : Dec (m ≡ RULES) → (at l m ≡ 0) ⊎ (0 < at l m) → (m ≡ RULES) ⊎ (at l m ≡ 0)
    tell (yes e) d = inl e
    tell (no d) (inl free) = inr free
    tell (no d) (inr some) = absurd (omega (arith, counted, taken_all_held m l held, taken_past m RULES m l (omega arith) (omega arith) some))

-- A search of the places for a cell that is 0, which gives RULES where there is none, finds it.
pub lowest_sought : (l : List ℕ) → RULES ≤ length l → unwrap_or (position (λ x. eqb x 0) (take RULES l)) RULES ≡ lowest_free RULES l
lowest_sought l room = rw (is, length-take-le RULES l room) (by_place (dec_lt (lowest_free RULES l) RULES))
  where
    held : (k : ℕ) → k < lowest_free RULES l → eqb (get_or (take RULES l) k 0) 0 ≡ false
    held k below = rw (get_or-take RULES l k 0 (omega (arith, below, lowest_at_most RULES l))) (ne_eqb (at l k) 0 (λ e. omega (arith, e, lowest_below_held RULES l k below)))

    is : position_or_len (λ x. eqb x 0) (take RULES l) ≡ lowest_free RULES l
    is = position_or_len_is (λ x. eqb x 0) (take RULES l) (lowest_free RULES l) 0 (omega (arith, length-take-le RULES l room, lowest_at_most RULES l)) held
        (λ there. let below : lowest_free RULES l < RULES = omega (arith, there, length-take-le RULES l room) in
        rw (get_or-take RULES l (lowest_free RULES l) 0 below, lowest_free_there RULES l below) refl)

    by_place : Dec (lowest_free RULES l < RULES) → unwrap_or (cond (ltb (lowest_free RULES l) RULES) (Some (lowest_free RULES l)) None) RULES ≡ lowest_free RULES l
    by_place (yes below) = rw (lt-ltb (lowest_free RULES l) RULES below) refl
    by_place (no past) = grind (arith, past, lowest_at_most RULES l)
