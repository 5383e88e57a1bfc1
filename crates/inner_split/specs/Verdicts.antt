-- Verdicts on the watched rules, one for each.
use Rattle.std.specs.Prelude.{ℕ, ◌≤◌, ◌<◌, ◌≡◌, Bool, true, false, List, slice_index_or}
use Rattle.meaning.specs.Tables.{at}
use Rattle.meaning.specs.Promise.{Filled, Exactly}
use Rattle.lent.specs.Decides.{Decides}

-- The verdict on the rule under j.
abbrev pub verdict : List Bool → ℕ → Bool
verdict verdicts j = slice_index_or verdicts j false

-- The verdicts decide P of every number below w.
abbrev pub Decided : (ℕ → Type 0) → ℕ → List Bool → Type 0
Decided P w verdicts = (j : ℕ) → j < w → Decides (verdict verdicts j) (P j)

-- Of every number below w whose step is a the verdict is one that P allows; every other verdict is as before.
pub record Judged (P : ℕ → Bool → Type 0) (w : ℕ) (steps : List ℕ) (a : ℕ) (before after : List Bool) : Type 0 where
  pub decided : (j : ℕ) → j < w → at steps j ≡ a → P j (verdict after j)
  pub others : (j : ℕ) → (at steps j ≡ a → ⊥) → verdict after j ≡ verdict before j

-- The first k places of the list hold exactly the numbers below w whose verdict is yes; the places past k keep what they had.
pub record Picked (w : ℕ) (verdicts : List Bool) (before after : List ℕ) (k : ℕ) : Type 0 where
  pub at_most : k ≤ w
  pub filled : Filled k (Exactly (λ j. verdict verdicts j ≡ true) w) before after
