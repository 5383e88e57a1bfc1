-- What can be told, and looking through the numbers below n, from the last down: one that has what is sought, whether all have it, and the largest value.
use Prim.Native.Nat.{ℕ, zero, suc, ◌<◌}
use native.Mathlib.Omega.{arith}
use native.Mathlib.Decide.{ℕ_discrete}
use mathlib.Core.Path.{◌≡◌, subst}
use mathlib.Core.Logic.{◌⊎◌, inl, inr, ⊎_elim}

-- Both can be told where each can.
pub both? : {A B : Type 0} → Dec A → Dec B → Dec (A × B)
both? (yes a) (yes b) = yes (a, b)
both? (yes a) (no not-b) = no (λ h. not-b h.1)
both? (no not_a) b = no (λ h. not_a h.0)

-- Whether one of them holds can be told where each can.
pub either? : {A B : Type 0} → Dec A → Dec B → Dec (A ⊎ B)
either? (yes a) b = yes (inl a)
either? (no not_a) (yes b) = yes (inr b)
either? (no not_a) (no not-b) = no (⊎_elim not_a not-b)

-- That it does not hold can be told where it can.
pub not? : {A : Type 0} → Dec A → Dec (A → ⊥)
not? (yes a) = no (λ not_a. not_a a)
not? (no not_a) = yes not_a

-- That one leads to the other can be told where each can.
pub leads? : {A B : Type 0} → Dec A → Dec B → Dec (A → B)
leads? a (yes b) = yes (λ h. b)
leads? (yes a) (no not-b) = no (λ h. not-b (h a))
leads? (no not_a) (no not-b) = yes (λ a. absurd (not_a a))

-- What can be told can be told in other words.
pub in_words? : {A B : Type 0} → (A → B) → (B → A) → Dec A → Dec B
in_words? to from (yes a) = yes (to a)
in_words? to from (no not_a) = no (λ b. not_a (from b))

-- Whether some number below n has what can be told of each number.
pub some_below? : (P : ℕ → Type 0) → ((v : ℕ) → Dec (P v)) → (n : ℕ) → Dec ((v : ℕ) × (v < n) × P v)
some_below? P tell zero = no (λ found. absurd (omega (arith, found.1)))
some_below? P tell (suc n) = here (tell n) (some_below? P tell n)
  where
    here : Dec (P n) → Dec ((v : ℕ) × (v < n) × P v) → Dec ((v : ℕ) × (v < suc n) × P v)
    here (yes h) lower = yes (n, omega arith, h)
    here (no not-here) (yes (v, below, h)) = yes (v, omega arith, h)
    here (no not-here) (no none) = no (λ found. other found (ℕ_discrete found.0 n))
      where
        other : (found : (v : ℕ) × (v < suc n) × P v) → Dec (found.0 ≡ n) → ⊥
        other found (yes e) = not-here (subst P e found.2)
        other found (no e) = none (found.0, omega (arith, found.1), found.2)

-- Whether every number below n has what can be told of each number.
pub all_below? : (P : ℕ → Type 0) → ((v : ℕ) → Dec (P v)) → (n : ℕ) → Dec ((v : ℕ) → v < n → P v)
all_below? P tell n = found (some_below? (λ v. P v → ⊥) (λ v. not? (tell v)) n)
  where
    found : Dec ((v : ℕ) × (v < n) × (P v → ⊥)) → Dec ((v : ℕ) → v < n → P v)
    found (yes (v, below, not_so)) = no (λ all. not_so (all v below))
    found (no none) = yes (λ v below. so v below (tell v))
      where
        so : (v : ℕ) → v < n → Dec (P v) → P v
        so v below (yes h) = h
        so v below (no not_so) = absurd (none (v, below, not_so))
