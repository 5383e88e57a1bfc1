-- Chains: the rules of each first step, newest first. A link is a rule number plus 1, and 0 ends the chain: `heads` has the link to a
-- step's newest rule, and `nexts` the link to the next older rule with the same first step.
use Rattle.std.specs.Prelude.{ℕ, zero, suc, ◌+◌, ◌≤◌, ◌<◌, ◌≡◌, List, length, set}
use Rattle.meaning.specs.Bounds.{RULES}
use Rattle.meaning.specs.Tables.{at}
use Rattle.lent.specs.Lent.{first}

-- How far up a link reaches: above the rank of the rule that it leads to, and above none at the chain's end.
abbrev pub top : (ℕ → ℕ) → ℕ → ℕ
top rank zero = 0
top rank (suc k) = suc (rank k)

-- The chains over n steps of the rules whose numbers H holds of, where xs has their first steps and a newer rule has a higher rank: each link leads
-- to a rule of its own step, and no rule of that step ranks above a head or between two neighbouring links.
pub record ChainsOf (n : ℕ) (H : ℕ → Type 0) (rank : ℕ → ℕ) (xs heads nexts : List ℕ) : Type 0 where
  pub ranks_differ : (j k : ℕ) → H j → H k → rank j ≡ rank k → j ≡ k
  pub head_held : (a k : ℕ) → a < n → at heads a ≡ suc k → H k
  pub head_own : (a k : ℕ) → a < n → at heads a ≡ suc k → at xs k ≡ a
  pub head_newest : (a k : ℕ) → a < n → H k → at xs k ≡ a → rank k < top rank (at heads a)
  pub next_held : (k j : ℕ) → H k → at nexts k ≡ suc j → H j
  pub next_own : (k j : ℕ) → H k → at nexts k ≡ suc j → at xs j ≡ at xs k
  pub next_older : (k : ℕ) → H k → top rank (at nexts k) ≤ rank k
  pub next_newest : (k j : ℕ) → H k → H j → rank j < rank k → at xs j ≡ at xs k → rank j < top rank (at nexts k)

-- Where numbers are given in order of adding, a rule's number is its rank.
abbrev pub number : ℕ → ℕ
number i = i

-- The chains of the first m rules.
abbrev pub Chained : ℕ → ℕ → List ℕ → List ℕ → List ℕ → Type 0
Chained n m = ChainsOf n (first m) number

-- In nexts the place of a rule that is on no chain has this, which is no link.
abbrev pub OFF : ℕ
OFF = 65535

-- The rules on the chains: each has in nexts a link, or the 0 that ends its chain.
abbrev pub linked : List ℕ → ℕ → Type 0
linked nexts i = (i < RULES) × (at nexts i < OFF)

-- The numbers held, but for k.
abbrev pub minus : (ℕ → Type 0) → ℕ → ℕ → Type 0
minus H k i = H i × (i ≡ k → ⊥)

-- The chains of the rules whose numbers H holds of, over n steps, with a place for every rule; these and no others are on them.
pub record LentChains (n : ℕ) (H : ℕ → Type 0) (xs heads nexts : List ℕ) : Type 0 where
  pub chained : ChainsOf n (linked nexts) number xs heads nexts
  pub on : (i : ℕ) → H i → linked nexts i
  pub only : (i : ℕ) → linked nexts i → H i
  pub heads_room : n ≤ length heads
  pub nexts_room : RULES ≤ length nexts

-- Rule m can be put on its chain, or taken off it: it has a place in each list, its first step has a head, and its link fits a u16.
pub record Linkable (m : ℕ) (xs heads nexts : List ℕ) : Type 0 where
  pub first_place : m < length xs
  pub next_place : m < length nexts
  pub head_place : at xs m < length heads
  pub link_fits : m < 65535

-- Every step below n has an empty chain.
abbrev pub Empty : ℕ → List ℕ → Type 0
Empty n heads = (a : ℕ) → a < n → at heads a ≡ 0

-- Rule m was put on its chain, in front: two cells changed. Chains of older rules are now chains of these and of m (`chains_more`).
pub record Pushed (m : ℕ) (xs heads nexts heads' nexts' : List ℕ) : Type 0 where
  pub head_place : at xs m < length heads
  pub next_place : m < length nexts
  pub heads_are : heads' ≡ set heads (at xs m) (m + 1)
  pub nexts_are : nexts' ≡ set nexts m (at heads (at xs m))

-- The rule in front, m, was taken off its chain: two cells changed. Chains of m and of older rules are now chains of the older rules (`chains_less`).
pub record Dropped (m : ℕ) (xs heads nexts heads' nexts' : List ℕ) : Type 0 where
  pub head_place : at xs m < length heads
  pub next_place : m < length nexts
  pub heads_are : heads' ≡ set heads (at xs m) (at nexts m)
  pub nexts_are : nexts' ≡ set nexts m OFF

-- From number m on no rule is on a chain now; the places before m are as they were.
pub record OffFrom (m : ℕ) (nexts nexts' : List ℕ) : Type 0 where
  pub before : (k : ℕ) → k < m → at nexts' k ≡ at nexts k
  pub off : (k : ℕ) → m ≤ k → k < length nexts → at nexts' k ≡ OFF

-- The first m rules can be put on chains over n steps.
pub record Buildable (n m : ℕ) (xs heads nexts : List ℕ) : Type 0 where
  pub heads_room : n ≤ length heads
  pub firsts_room : m ≤ length xs
  pub nexts_room : m ≤ length nexts
  pub links_fit : m ≤ 65535
  pub firsts_in : (k : ℕ) → k < m → at xs k < n

-- The chains, where rule m can be put on its chain or taken off it: it has its places, and its first step is below n.
pub record Amendable (n m : ℕ) (xs heads nexts : List ℕ) : Type 0 where
  pub chained : ChainsOf n (linked nexts) number xs heads nexts
  pub heads_room : n ≤ length heads
  pub nexts_room : RULES ≤ length nexts
  pub number_in : m < RULES
  pub first_place : m < length xs
  pub first_in : at xs m < n

-- Each link of nexts leads to a rule of the same step on a chain, and to an older one; each rule on a chain has its place there.
pub record Descends (xs nexts : List ℕ) : Type 0 where
  pub next_held : (k j : ℕ) → linked nexts k → at nexts k ≡ suc j → linked nexts j
  pub next_own : (k j : ℕ) → linked nexts k → at nexts k ≡ suc j → at xs j ≡ at xs k
  pub next_down : (k : ℕ) → linked nexts k → at nexts k ≤ k
  pub next_place : (k : ℕ) → linked nexts k → k < length nexts

-- Of the rules of a's chain r is the last above number i.
pub record LastAbove (xs nexts : List ℕ) (a i r : ℕ) : Type 0 where
  pub on_chain : linked nexts r
  pub own : at xs r ≡ a
  pub above : i < r
  pub last : at nexts r ≤ i + 1

-- The rules on the chains are those that G holds of.
pub record ChainsNow (n : ℕ) (G : ℕ → Type 0) (xs heads nexts : List ℕ) : Type 0 where
  pub chained : ChainsOf n (linked nexts) number xs heads nexts
  pub on : (i : ℕ) → G i → linked nexts i
  pub only : (i : ℕ) → linked nexts i → G i

-- The rules on the chains can be put on chains over n steps by their steps in ys.
pub record Turnable (n : ℕ) (ys heads nexts : List ℕ) : Type 0 where
  pub heads_room : n ≤ length heads
  pub nexts_room : RULES ≤ length nexts
  pub steps_room : RULES ≤ length ys
  pub steps_in : (i : ℕ) → linked nexts i → at ys i < n
