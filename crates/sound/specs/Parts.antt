-- The parts of the test: room, bounds of rules, levels, days, and the whole.
use Rattle.std.specs.Prelude.{ℕ, ◌+◌, ◌≤◌, ◌<◌, ◌≡◌, Bool, true, List, length, get_or, set, ℤ, pos}
use Rattle.meaning.specs.Bounds.{STEPS, RULES}
use Rattle.meaning.specs.Rules.{InAmount, InBounds, Earliest, largest}
use Rattle.meaning.specs.Tables.{Tables, rule_at, at, held, taken, Room, Sound}
use Rattle.lent.specs.Decides.{Decides}
use Rattle.lent.specs.Lent.{columns, held_by}
use Rattle.meaning.specs.declared.Counts.{Counts}
use Rattle.chains.specs.declared.Held.{Held}
use Rattle.sound.specs.Ground.{rule_of, on}
use Rattle.chains.specs.Chains.{OFF, LentChains, Pushed}
use Rattle.sound.specs.declared.Place.{Place}
use Rattle.sound.specs.declared.Place.TheVariants.{Free, Fine, Bad}

-- Every number of the list below place m is below n.
abbrev pub AllBelow : ℕ → ℕ → List ℕ → Type 0
AllBelow n m list = (i : ℕ) → i < m → at list i < n

-- Every amount of the list below place m is within its bound.
abbrev pub AmountsIn : ℕ → List ℤ → Type 0
AmountsIn m list = (i : ℕ) → i < m → InAmount (get_or list i (pos 0))

-- Every rule of the columns below number m is within bounds, over n steps.
abbrev pub AllIn : ℕ → ℕ → List ℕ → List ℕ → List ℤ → Type 0
AllIn n m xs ys cs = (i : ℕ) → i < m → InBounds n (rule_at (columns xs ys cs) i)

-- The days are the earliest plan of the rules on chains, over the steps counted, and the last day is the last of them.
pub record DaysIn (counts : Counts) (g : Held) : Type 0 where
  pub earliest : Earliest counts.steps (rule_of g) (on g) (at g.days.now)
  pub last_largest : counts.last ≡ largest counts.steps (at g.days.now)

-- The rule in place i is within bounds, and its level is one of those that are open.
pub record Good (t : Tables) (i : ℕ) : Type 0 where
  pub in_bounds : InBounds t.counts.steps (rule_at t.rules i)
  pub level_open : at t.levels i ≤ t.counts.marks + 1

-- Place i is free, and said to be on no chain.
pub record FreeThere (t : Tables) (i : ℕ) (heads nexts heads' nexts' : List ℕ) : Type 0 where
  pub free : at t.levels i ≡ 0
  pub heads_are : heads' ≡ heads
  pub nexts_are : nexts' ≡ set nexts i OFF

-- The rule held in place i is good, and was put on its chain.
pub record GoodThere (t : Tables) (i : ℕ) (heads nexts heads' nexts' : List ℕ) : Type 0 where
  pub held : 0 < at t.levels i
  pub good : Good t i
  pub pushed : Pushed i t.rules.firsts heads nexts heads' nexts'

-- The rule held in place i is not good.
pub record BadThere (t : Tables) (i : ℕ) : Type 0 where
  pub held : 0 < at t.levels i
  pub bad : Good t i → ⊥

-- What looking at place i says of it and leaves.
abbrev pub Settled : Tables → ℕ → List ℕ → List ℕ → Place → List ℕ → List ℕ → Type 0
Settled t i heads nexts Free heads' nexts' = FreeThere t i heads nexts heads' nexts'
Settled t i heads nexts Fine heads' nexts' = GoodThere t i heads nexts heads' nexts'
Settled t i heads nexts Bad heads' nexts' = BadThere t i

-- Every rule held is within bounds and of a level that is open, and as many are held as counted.
pub record HeldIn (t : Tables) : Type 0 where
  pub rules_good : (i : ℕ) → held t i → InBounds t.counts.steps (rule_at t.rules i)
  pub levels_open : (i : ℕ) → held t i → at t.levels i ≤ t.counts.marks + 1
  pub rules_counted : t.counts.rules ≡ taken RULES t.levels

-- The answer r says whether it is so; where it is yes, heads and nexts hold the chains of the rules held, and these alone.
pub record RulesTested (t : Tables) (r : Bool) (heads nexts : List ℕ) : Type 0 where
  pub decides : Decides r (HeldIn t)
  pub chained : r ≡ true → LentChains t.counts.steps (held_by t.levels) t.rules.firsts heads nexts

-- What the test of the tables needs: room in them, and in the lists for the chains.
pub record Testable (t : Tables) (heads nexts : List ℕ) : Type 0 where
  pub room : Room t
  pub heads_room : STEPS ≤ length heads
  pub nexts_room : RULES ≤ length nexts

-- The answer r says whether the tables are sound; where it is yes, heads and nexts hold the chains of the rules held.
pub record Tested (t : Tables) (r : Bool) (heads nexts : List ℕ) : Type 0 where
  pub decides : Decides r (Sound t)
  pub chained : r ≡ true → LentChains t.counts.steps (held_by t.levels) t.rules.firsts heads nexts
