-- How many places are held, of two lists of levels and of fewer places.
use Prim.Native.Nat.{ℕ, zero, suc, ◌+◌, ◌≤◌, ◌<◌}
use native.Mathlib.Omega.{arith}
use native.Mathlib.Decide.{ℕ_discrete}
use native.Mathlib.Numerals.{add-one}
use mathlib.Core.Path.{◌≡◌, sym, ◌∙◌, ap, subst}
use mathlib.Core.List.{List}
use mathlib.Core.Logic.{◌⊎◌, inl, inr}
use Rattle.meaning.specs.Tables.{at, taken, freed_above}
use Rattle.meaning.proofs.Places.{taken_free, taken_held, taken_of_none, free_or_held, freed_leaves}

-- One place more: free, or held.
abbrev One : ℕ → List ℕ → Type 0
One n l = ((at l n ≡ 0) × (taken (suc n) l ≡ taken n l)) ⊎ ((0 < at l n) × (taken (suc n) l ≡ taken n l + 1))

one : (n : ℕ) (l : List ℕ) → One n l
one n l = tell (free_or_held l n)
  where
    tell : (at l n ≡ 0) ⊎ (0 < at l n) → One n l
    tell (inl e) = inl (e, subst (λ (k : ℕ). taken k l ≡ taken n l) (add-one n) (taken_free n l e))
    tell (inr h) = inr (h, subst (λ (k : ℕ). taken k l ≡ taken n l + 1) (add-one n) (taken_held n l h))

-- Of fewer places no more are held.
pub taken_lower : (n k : ℕ) (l : List ℕ) → k ≤ n → taken k l ≤ taken n l
taken_lower zero k l fewer = omega (arith, ap (λ (j : ℕ). taken j l) (none_below fewer))
  where
    none_below : k ≤ 0 → k ≡ 0
    none_below h = omega arith
taken_lower (suc n) k l fewer = tell (ℕ_discrete k (suc n)) (one n l) (λ lower. taken_lower n k l lower)
  where
    tell : Dec (k ≡ suc n) → One n l → (k ≤ n → taken k l ≤ taken n l) → taken k l ≤ taken (suc n) l
    tell (yes e) o before = omega (arith, ap (λ (j : ℕ). taken j l) e)
    tell (no d) (inl (e, is)) before = omega (arith, is, before (omega arith))
    tell (no d) (inr (h, is)) before = omega (arith, is, before (omega arith))

-- Where the first k places have as many held as the first n, the others are free.
pub taken_rest : (n k : ℕ) (l : List ℕ) → taken n l ≤ taken k l → (i : ℕ) → k ≤ i → i < n → at l i ≡ 0
taken_rest zero k l all i from below = absurd (omega arith)
taken_rest (suc n) k l all i from below = tell (ℕ_discrete i n) (one n l) (λ less. taken_rest n k l less i from)
  where
    tell : Dec (i ≡ n) → One n l → (taken n l ≤ taken k l → i < n → at l i ≡ 0) → at l i ≡ 0
    tell (yes e) (inl (f, is)) before = ap (at l) e ∙ f
    tell (no d) (inl (f, is)) before = before (omega (arith, is, all)) (omega arith)
    tell d (inr (h, is)) before = absurd (omega (arith, is, all, taken_lower n k l (omega arith)))

-- Where every place held in b is held in a, b has no more; and where b has as many, every place held in a is held in b.
pub taken_fewer : (n : ℕ) (a b : List ℕ) → ((i : ℕ) → i < n → 0 < at b i → 0 < at a i) → taken n b ≤ taken n a
taken_fewer zero a b both = omega (arith, taken_of_none a, taken_of_none b)
taken_fewer (suc n) a b both = tell (one n a) (one n b) (taken_fewer n a b (λ i h. both i (omega arith)))
  where
    tell : One n a → One n b → taken n b ≤ taken n a → taken (suc n) b ≤ taken (suc n) a
    tell (inl (e, is)) (inl (f, is_b)) before = omega (arith, is, is_b, before)
    tell (inl (e, is)) (inr (h, is_b)) before = absurd (omega (arith, e, both n (omega arith) h))
    tell (inr (h, is)) (inl (f, is_b)) before = omega (arith, is, is_b, before)
    tell (inr (h, is)) (inr (g, is_b)) before = omega (arith, is, is_b, before)

pub taken_all :
    (n : ℕ) (a b : List ℕ) → ((i : ℕ) → i < n → 0 < at b i → 0 < at a i) → taken n a ≤ taken n b → (i : ℕ) → i < n → 0 < at a i → 0 < at b i
taken_all zero a b both as_many i below some = absurd (omega arith)
taken_all (suc n) a b both as_many i below some =
    tell (ℕ_discrete i n) (one n a) (one n b) (taken_fewer n a b (λ j h. both j (omega arith)))
    (λ more lower. taken_all n a b (λ j h. both j (omega arith)) more i lower some)
  where
    tell : Dec (i ≡ n) → One n a → One n b → taken n b ≤ taken n a → (taken n a ≤ taken n b → i < n → 0 < at b i) → 0 < at b i
    tell (yes e) (inl (f, is)) o fewer before = absurd (omega (arith, f, some, ap (at a) e))
    tell (yes e) (inr (h, is)) (inl (f, is_b)) fewer before = absurd (omega (arith, is, is_b, fewer, as_many))
    tell (yes e) (inr (h, is)) (inr (g, is_b)) fewer before = subst (λ (j : ℕ). 0 < at b j) (sym e) g
    tell (no d) (inl (f, is)) (inl (g, is_b)) fewer before = before (omega (arith, is, is_b, as_many)) (omega arith)
    tell (no d) (inl (f, is)) (inr (g, is_b)) fewer before = absurd (omega (arith, f, both n (omega arith) g))
    tell (no d) (inr (h, is)) (inl (g, is_b)) fewer before = absurd (omega (arith, is, is_b, fewer, as_many))
    tell (no d) (inr (h, is)) (inr (g, is_b)) fewer before = before (omega (arith, is, is_b, as_many)) (omega arith)

-- Where the places from k on are free, nothing is freed there.
pub freed_rest : (n k c : ℕ) (l : List ℕ) → k ≤ n → ((i : ℕ) → k ≤ i → i < n → at l i ≡ 0) → freed_above n c l ≡ freed_above k c l
freed_rest zero k c l fewer free = ap (λ (j : ℕ). freed_above j c l) (omega arith)
freed_rest (suc n) k c l fewer free = tell (ℕ_discrete k (suc n)) (λ lower. freed_rest n k c l lower (λ i from below. free i from (omega arith)))
  where
    tell : Dec (k ≡ suc n) → (k ≤ n → freed_above n c l ≡ freed_above k c l) → freed_above (suc n) c l ≡ freed_above k c l
    tell (yes e) before = ap (λ (j : ℕ). freed_above j c l) (sym e)
    tell (no d) before =
        subst (λ (j : ℕ). freed_above j c l ≡ freed_above n c l) (add-one n) (freed_leaves n c l (omega (arith, free n (omega arith) (omega arith))))
        ∙ before (omega arith)
