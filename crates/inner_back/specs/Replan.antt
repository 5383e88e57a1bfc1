-- What planning afresh from days that keep the rules needs and promises.
use Rattle.std.specs.Prelude.{ℕ, ◌+◌, ◌-◌, ◌^◌, ◌≤◌, ◌<◌, ◌≡◌, List, length, ℤ}
use Rattle.meaning.specs.Bounds.{STEPS, RULES}
use Rattle.meaning.specs.Rules.{InBounds, Plan}
use Rattle.meaning.specs.Tables.{at}
use Rattle.meaning.specs.Promise.{Past}
use Rattle.lent.specs.Lent.{Placed}
use Rattle.spread.specs.Ground.{rules}

-- n steps are within bounds and have their days; each rule held, whose number H holds of, has its place and is within bounds; and the days keep every rule.
pub record Plannable (n : ℕ) (H : ℕ → Type 0) (xs ys : List ℕ) (cs : List ℤ) (days : List ℕ) : Type 0 where
  pub steps_in : n ≤ STEPS
  pub number_in : (i : ℕ) → H i → i < RULES
  pub placed : (i : ℕ) → H i → Placed xs ys cs i
  pub days_room : n ≤ length days
  pub in_bounds : (i : ℕ) → H i → InBounds n (rules xs ys cs i)
  pub plan : Plan (rules xs ys cs) H (at days)

-- The gains and the rules they come by have a place for each of n steps.
pub record PlanRoom (n : ℕ) (gains by : List ℕ) : Type 0 where
  pub gains_room : n ≤ length gains
  pub by_room : n ≤ length by

-- None of the first n days is after k, and each step has a place for its gain.
pub record Reachable (n k : ℕ) (days gains : List ℕ) : Type 0 where
  pub days_room : n ≤ length days
  pub gains_room : n ≤ length gains
  pub not_after : (v : ℕ) → v < n → at days v ≤ k

-- With its gain each of the first n days is k.
abbrev pub Reaches : ℕ → ℕ → List ℕ → List ℕ → Type 0
Reaches n k days gains = (v : ℕ) → v < n → at days v + at gains v ≡ k

-- With its gain each of the first n days is not before k and is past it by what fits a u32; so does k.
pub record Bringable (n k : ℕ) (gains days : List ℕ) : Type 0 where
  pub gains_room : n ≤ length gains
  pub days_room : n ≤ length days
  pub narrow : k < 2 ^ 32
  pub not_before : (v : ℕ) → v < n → k ≤ at days v + at gains v
  pub fits : (v : ℕ) → v < n → at days v + at gains v < k + 2 ^ 32

-- Each of the first n days was brought up by its gain and back by k; the places past n keep what they had.
pub record Brought (n k : ℕ) (gains before after : List ℕ) : Type 0 where
  pub moved : (v : ℕ) → v < n → at after v ≡ at before v + at gains v - k
  pub past : Past n before after
