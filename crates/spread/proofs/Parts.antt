-- A part of a list, read place by place.
use Prim.Native.Nat.{ℕ, zero, suc, ◌-◌, ◌≤◌}
use native.Mathlib.Omega.{arith}
use mathlib.Core.Path.{◌≡◌, refl, sym, ◌∙◌, ap, ap₂}
use mathlib.Core.List.{List, [], ◌∷◌}
use lib.ListN.{length, take}
use Rattle.meaning.specs.Tables.{at}
use Rattle.waiting.specs.Places.{Put}

-- The c places from place j on.
abbrev pub part : (ℕ → ℕ) → ℕ → ℕ → List ℕ
part f j zero = []
part f j (suc c) = f j ∷ part f (suc j) c

-- The same places have the same part.
pub part_same : (f g : ℕ → ℕ) (j c : ℕ) → ((i : ℕ) → j ≤ i → f i ≡ g i) → part f j c ≡ part g j c
part_same f g j zero same = refl
part_same f g j (suc c) same = ap₂ ◌∷◌ (same j (omega arith)) (part_same f g (suc j) c (λ i above. same i (omega arith)))

-- Places one further on.
part_shift : (f g : ℕ → ℕ) (j c : ℕ) → ((i : ℕ) → f (suc i) ≡ g i) → part f (suc j) c ≡ part g j c
part_shift f g j zero same = refl
part_shift f g j (suc c) same = ap₂ ◌∷◌ (same j) (part_shift f g (suc j) c same)

-- The first k places of a list that has them.
pub take_part : (l : List ℕ) (k : ℕ) → k ≤ length l → take k l ≡ part (at l) 0 k
take_part l zero within = refl
take_part [] (suc k) within = absurd (omega arith)
take_part (a ∷ l) (suc k) within =
    ap (◌∷◌ a) (take_part l k (omega arith) ∙ sym (part_shift (at (a ∷ l)) (at l) 0 k (λ i. refl)))

-- One place in front is written.
pub part_front :
    (f f' : ℕ → ℕ) (j k i : ℕ) → 1 ≤ j → j ≤ k → Put (j - 1) i f f' → part f' (j - 1) (k - (j - 1)) ≡ i ∷ part f j (k - j)
part_front f f' j k i some within put =
    let after : suc (j - 1) ≡ j = omega arith in
    let longer : k - (j - 1) ≡ suc (k - j) = omega arith in
    ap (part f' (j - 1)) longer
    ∙ ap₂ ◌∷◌ put.there (ap (λ (a : ℕ). part f' a (k - j)) after ∙ part_same f' f j (k - j) (λ a above. put.others a (λ e. omega arith)))
