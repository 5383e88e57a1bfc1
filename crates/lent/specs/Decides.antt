-- An answer by yes or no, and exactly what it tells.
use Rattle.std.specs.Prelude.{◌≡◌, refl, Bool, true, false, ◌⊎◌}
use Rattle.std.proofs.Common.{sym, ◌∙◌, true≢false, inl, inr}
use Rattle.std.proofs.lemmas.Bool.{false≢true}

-- b decides X: where b is true X holds, and where b is false it does not.
pub record Decides (b : Bool) (X : Type 0) : Type 0 where
  pub so : b ≡ true → X
  pub not_so : b ≡ false → X → ⊥

-- The answer yes, of what holds.
pub decides_yes : {b : Bool} {X : Type 0} → b ≡ true → X → Decides b X
decides_yes is x = record { so = λ e. x; not_so = λ e h. true≢false (sym is ∙ e) }

-- The answer no, of what does not hold.
pub decides_no : {b : Bool} {X : Type 0} → b ≡ false → (X → ⊥) → Decides b X
decides_no is no-x = record { so = λ e. absurd (false≢true (sym is ∙ e)); not_so = λ e. no-x }

-- Each answer is yes or no.
pub yes_or_no : (b : Bool) → (b ≡ true) ⊎ (b ≡ false)
yes_or_no true = inl refl
yes_or_no false = inr refl

-- What is decided can be told.
pub told : {b : Bool} {X : Type 0} → Decides b X → Dec X
told {b} {X} d = tell (yes_or_no b)
  where
    tell : (b ≡ true) ⊎ (b ≡ false) → Dec X
    tell (inl e) = yes (d.so e)
    tell (inr e) = no (d.not_so e)

-- Equivalence: what decides X decides each Y that holds exactly when X does.
pub decides_same : {b : Bool} {X Y : Type 0} → (X → Y) → (Y → X) → Decides b X → Decides b Y
decides_same to from d = record { so = λ e. to (d.so e); not_so = λ e y. d.not_so e (from y) }

-- Conjunction, read from left to right: where a is true b is the answer, and where a is false so is the answer.
pub decides_both : {a r : Bool} {X Y Z : Type 0} → (Z → X) → (Z → Y) → (X → Y → Z) → Decides a X → (a ≡ true → Decides r Y) → (a ≡ false → r ≡ false) → Decides r Z
decides_both {a} {r} {X} {Y} {Z} left right both x y false-too = by_left (yes_or_no a)
  where
    by_left : (a ≡ true) ⊎ (a ≡ false) → Decides r Z
    by_left (inl e) = record { so = λ f. both (x.so e) ((y e).so f); not_so = λ f z. (y e).not_so f (right z) }
    by_left (inr e) = decides_no (false-too e) (λ z. x.not_so e (left z))
