-- Places of a list, and groups of GROUP places with a leader for each.
use Rattle.std.specs.Prelude.{ℕ, ◌*◌, ◌/◌, ◌≤◌, ◌<◌, ◌≡◌, ◌⊎◌, List, length, set}
use Rattle.meaning.specs.Tables.{at}

-- A group has so many places.
abbrev pub GROUP : ℕ
GROUP = 16

-- The number v stands at place i now, and at every other place what stood there before.
pub record Put (i v : ℕ) (before after : ℕ → ℕ) : Type 0 where
  pub there : after i ≡ v
  pub others : (j : ℕ) → (j ≡ i → ⊥) → after j ≡ before j

-- The first k places of the list have steps below n.
abbrev pub Below : ℕ → List ℕ → ℕ → Type 0
Below n list k = (j : ℕ) → j < k → at list j < n

-- The place of each of these steps is known.
abbrev pub Placed : List ℕ → List ℕ → ℕ → Type 0
Placed list places k = (j : ℕ) → j < k → at places (at list j) ≡ j

-- Each group that has one of the first k places has a leader, which is a step that stands in it.
abbrev pub HasLeaders : List ℕ → List ℕ → List ℕ → ℕ → Type 0
HasLeaders list places leaders k =
    (b : ℕ) → GROUP * b < k →
    (at places (at leaders b) < k) × (at places (at leaders b) / GROUP ≡ b) × (at list (at places (at leaders b)) ≡ at leaders b)

-- Place r is among the first k places of the list, and none of them has a step with a larger gain.
pub record LargestAt (g list : ℕ → ℕ) (k r : ℕ) : Type 0 where
  pub place_in : r < k
  pub largest : (j : ℕ) → j < k → g (list j) ≤ g (list r)

-- Step x is among the first k of the list, and none of them has a larger gain.
pub record LargestOf (g list : ℕ → ℕ) (k x : ℕ) : Type 0 where
  pub place : ℕ
  pub place_in : place < k
  pub there : list place ≡ x
  pub largest : (j : ℕ) → j < k → g (list j) ≤ g x

-- Step y has a gain to be read, and so has the leader of group b.
pub record Leadable (gains leaders : List ℕ) (y b : ℕ) : Type 0 where
  pub step_in : y < length gains
  pub step_fits : y < 65536
  pub group_in : b < length leaders
  pub leader_in : at leaders b < length gains

-- Step y leads group b now where its gain is larger than the leader's; else nothing changed.
abbrev pub Promoted : (ℕ → ℕ) → ℕ → ℕ → List ℕ → List ℕ → Type 0
Promoted g y b leaders leaders' =
    ((g (at leaders b) < g y) × (leaders' ≡ set leaders b y)) ⊎ ((g y ≤ g (at leaders b)) × (leaders' ≡ leaders))

-- The steps have gains to be read, and each group of their places has its leader's place. The group's number is small.
pub record Regroupable (gains steps leaders : List ℕ) (b : ℕ) : Type 0 where
  pub group_fits : b < 65536
  pub leaders_room : length steps ≤ GROUP * length leaders
  pub gains_room : Below (length gains) steps (length steps)

-- Step l stands in group b, among the first k places of the list.
pub record InGroup (list : ℕ → ℕ) (k b l : ℕ) : Type 0 where
  pub place : ℕ
  pub place_in : place < k
  pub in_group : place / GROUP ≡ b
  pub there : list place ≡ l

-- Group b has a leader now, of largest gain in it, where it has a place below k; every other leader is as before.
pub record Regrouped (g list : ℕ → ℕ) (k b : ℕ) (leaders leaders' : ℕ → ℕ) : Type 0 where
  pub others : (i : ℕ) → (i ≡ b → ⊥) → leaders' i ≡ leaders i
  pub leader : GROUP * b < k → InGroup list k b (leaders' b)
  pub most : (j : ℕ) → j < k → j / GROUP ≡ b → g (list j) ≤ g (leaders' b)
