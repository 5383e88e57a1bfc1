-- The ring of a refused rule: the walk back from its first step to its second, by the rules that each step came by.
use Rattle.std.specs.Prelude.{ℕ, zero, suc, ◌+◌, ◌-◌, ◌≤◌, ◌<◌, ◌≡◌, List, length, ℤ}
use Rattle.meaning.specs.Bounds.{RULES}
use Rattle.meaning.specs.Rules.{Rule, InSteps, Plan, Refutes}
use Rattle.meaning.specs.Tables.{at}
use Rattle.meaning.specs.Promise.{Filled}
use Rattle.meaning.specs.Reckoning.{up, dn}
use Rattle.spread.specs.Ground.{rules}
use Rattle.spread.specs.Trace.{Traced}
use Rattle.spread.specs.Clauses.{alone}

-- The rule with first step x, second step y and amount c.
abbrev pub rule : ℕ → ℕ → ℤ → Rule
rule x y c = record { first = x; second = y; amount = c }

-- The gain that y has was asked for at y alone and can be traced from there, and it has reached x. The days and the rules held, whose numbers H holds
-- of, have their places, and the number k is free.
pub record Reached (n : ℕ) (H : ℕ → Type 0) (k : ℕ) (xs ys : List ℕ) (cs : List ℤ) (days gains by : List ℕ) (x y : ℕ) : Type 0 where
  pub first_in : x < n
  pub second_in : y < n
  pub number_in : (i : ℕ) → H i → i < RULES
  pub first_place : (i : ℕ) → H i → i < length xs
  pub free : H k → ⊥
  pub free_in : k ≤ RULES
  pub by_room : n ≤ length by
  pub in_steps : (i : ℕ) → H i → InSteps n (rules xs ys cs i)
  pub plan : Plan (rules xs ys cs) H (at days)
  pub traced : Traced n (rules xs ys cs) H (at days) (λ v. at days v + alone y (at gains y) v) (at gains) (at by)
  pub reached : 0 < at gains x

-- The gain at y is what the days lack for the rule x, y, c.
abbrev pub Lacks : List ℕ → List ℕ → ℕ → ℕ → ℤ → Type 0
Lacks days gains x y c = at days x + dn c ≡ at days y + at gains y + up c

-- The walk back from v meets y first after so many hops.
abbrev pub Arrives : List ℕ → List ℕ → ℕ → ℕ → ℕ → Type 0
Arrives xs by y zero v = v ≡ y
Arrives xs by y (suc hops) v = (v ≡ y → ⊥) × Arrives xs by y hops (at xs (at by v - 1))

-- The walk back from x to y has k hops, fewer than there are steps.
pub record Hops (n : ℕ) (xs by : List ℕ) (x y k : ℕ) : Type 0 where
  pub few : k < n
  pub arrives : Arrives xs by y k x

-- The first k places of the list now hold the ring that refutes the rule x, y, c, under the number m, beside the rules that H holds of.
abbrev pub RingIn : (ℕ → Type 0) → ℕ → List ℕ → List ℕ → List ℤ → ℕ → ℕ → ℤ → ℕ → List ℕ → List ℕ → Type 0
RingIn H m xs ys cs x y c k before after = Filled k (Refutes (rules xs ys cs) H m (rule x y c)) before after
