-- The rest of a ring, walked from the step reached: what its next number and all its numbers must have, and what must be in reach for it to be walked.
-- Then the first steps of a ring, among which no step may stand twice: they are looked at in windows.
use Rattle.std.specs.Prelude.{ℕ, ◌+◌, ◌^◌, ◌/◌, ◌%◌, ◌≤◌, ◌<◌, ◌≡◌, List, [], ◌∷◌, map, length, ℤ}
use Rattle.meaning.specs.Bounds.{STEPS}
use Rattle.meaning.specs.Rules.{Rule, InSteps, Leads, All, total}
use Rattle.meaning.specs.Tables.{rule_at, at}
use Rattle.meaning.specs.Reckoning.{up, dn}
use Rattle.lent.specs.Lent.{columns, Placed}

-- The list closes a ring at step x: it goes on over held rules from the step reached to x, and its amounts, with those so far, which add up to
-- sum - low, add up below 0.
pub record Closes (R : ℕ → Rule) (H : ℕ → Type 0) (x reached sum low : ℕ) (l : List ℕ) : Type 0 where
  pub rest_held : All H l
  pub leads : Leads R l reached x
  pub negative : sum + up (total R l) < low + dn (total R l)

-- Number i goes on from the step reached: it is held, and the step is its rule's first step.
pub record GoesOn (first : ℕ → ℕ) (H : ℕ → Type 0) (reached i : ℕ) : Type 0 where
  pub is_held : H i
  pub first_is : first i ≡ reached

-- The numbers of the list can be walked over the rules held, whose numbers H holds of, with one rule's amount more in the sum: the sums
-- stay far below what a u64 holds.
pub record Walkable (H : ℕ → Type 0) (xs ys : List ℕ) (cs : List ℤ) (sum : ℕ) (list : List ℕ) : Type 0 where
  pub placed : (i : ℕ) → H i → Placed xs ys cs i
  pub one_amount : sum < 4294967296
  pub short : length list ≤ STEPS

-- A window has so many steps.
abbrev pub WINDOW : ℕ
WINDOW = 64

-- Step a lies in window w.
abbrev pub In : ℕ → ℕ → Type 0
In w a = a / WINDOW ≡ w

-- No step that P holds of stands in the list twice.
abbrev pub Once : (ℕ → Type 0) → List ℕ → Type 0
Once P [] = Unit {0}
Once P (a ∷ l) = All (λ b. P b → a ≡ b → ⊥) l × Once P l

-- No step of window w or of the next stands in the list twice.
pub record OnceIn (w : ℕ) (l : List ℕ) : Type 0 where
  pub here : Once (In w) l
  pub next : Once (In (w + 1)) l

-- f is the flag of step a in window w: one bit, at the step's place there; 0 where the step lies in another window.
pub record FlagIn (w a f : ℕ) : Type 0 where
  pub inside : In w a → f ≡ 2 ^ (a % WINDOW)
  pub outside : (In w a → ⊥) → f ≡ 0

-- The first steps of a ring whose first rule starts from step x: x, and those in the column xs of the numbers of the list, which are the ring's others.
abbrev pub first_steps : List ℕ → ℕ → List ℕ → List ℕ
first_steps xs x list = x ∷ map (at xs) list

-- The first steps of a ring can be read, and are below n.
pub record Readable (n : ℕ) (xs : List ℕ) (x : ℕ) (list : List ℕ) : Type 0 where
  pub few : n ≤ STEPS
  pub placed : All (λ i. i < length xs) list
  pub steps_in : All (λ a. a < n) (first_steps xs x list)

-- A list can be checked for a ring of the rule r and of the rules held, over n steps: their steps are below n.
pub record Checkable (n : ℕ) (H : ℕ → Type 0) (xs ys : List ℕ) (cs : List ℤ) (r : Rule) : Type 0 where
  pub steps_in : n ≤ STEPS
  pub placed : (i : ℕ) → H i → Placed xs ys cs i
  pub rules_in : (i : ℕ) → H i → InSteps n (rule_at (columns xs ys cs) i)
  pub rule_in : InSteps n r
