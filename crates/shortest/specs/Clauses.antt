-- What the functions of the search promise, but for the methods of a search, whose promises stand in `Searching`.
use Rattle.std.specs.Prelude.{ℕ, zero, suc, ◌+◌, ◌*◌, ◌^◌, ◌-◌, ◌≤◌, ◌<◌, ◌≡◌, Bool, true, false, List, ◌⊎◌, length, slice_get, Some, ℤ}
use Rattle.meaning.specs.Bounds.{STEPS, RULES}
use Rattle.meaning.specs.Rules.{Rule, rule, InSteps, Plan, Refutes, Reason}
use Rattle.meaning.specs.Tables.{rule_at, at}
use Rattle.meaning.specs.Promise.{Filled}
use Rattle.meaning.specs.Reckoning.{dn}
use Rattle.lent.specs.Lent.{columns, Placed}
use Rattle.chains.specs.Chains.{ChainsOf, number, linked}
use Rattle.chains.specs.declared.Held.{Held}
use Rattle.shortest.specs.Walks.{spare, Least, Open, part}
use Rattle.shortest.specs.Layers.{Deep}

-- So many layers are kept at once.
abbrev pub LAYERS : ℕ
LAYERS = 5

-- Within the upper part of a span the cap is this share of what it is for the whole.
abbrev pub SHARE : ℕ
SHARE = 6

-- So many rules the upper part of a span has at most where so many layers more may be kept: none where none may.
abbrev pub cap_of : ℕ → ℕ
cap_of zero = 0
cap_of (suc more) = SHARE ^ more

-- The rules by number, of the columns that are lent, and what each has to spare.
abbrev pub rules : List ℕ → List ℕ → List ℤ → ℕ → Rule
rules xs ys cs = rule_at (columns xs ys cs)

abbrev pub spares : List ℕ → List ℕ → List ℤ → List ℕ → ℕ → ℕ
spares xs ys cs days = spare (rules xs ys cs) (at days)

-- n steps are within bounds and have their days, the rules held, whose numbers H holds of, have their places, each rule's steps are below n, and the days
-- keep every rule.
pub record Kept (n : ℕ) (H : ℕ → Type 0) (xs ys : List ℕ) (cs : List ℤ) (days : List ℕ) : Type 0 where
  pub steps_in : n ≤ STEPS
  pub number_in : (i : ℕ) → H i → i < RULES
  pub placed : (i : ℕ) → H i → Placed xs ys cs i
  pub days_room : n ≤ length days
  pub in_steps : (i : ℕ) → H i → InSteps n (rules xs ys cs i)
  pub plan : Plan (rules xs ys cs) H (at days)

-- Of rules on chains: the rules by number, which of them are held, and what each has to spare.
abbrev pub rules_of : Held → ℕ → Rule
rules_of held = rules held.rules.xs.now held.rules.ys.now held.rules.cs.now

abbrev pub on : Held → ℕ → Type 0
on held = linked held.nexts.now

abbrev pub spares_of : Held → ℕ → ℕ
spares_of held = spares held.rules.xs.now held.rules.ys.now held.rules.cs.now held.days.now

abbrev pub KeptOn : ℕ → Held → Type 0
KeptOn n held = Kept n (on held) held.rules.xs.now held.rules.ys.now held.rules.cs.now held.days.now

-- The rules on chains are kept, and the chains are those by their first steps.
pub record Leading (n : ℕ) (held : Held) : Type 0 where
  pub kept : KeptOn n held
  pub heads_room : n ≤ length held.heads.now
  pub nexts_room : RULES ≤ length held.nexts.now
  pub chained : ChainsOf n (on held) number held.rules.xs.now held.heads.now held.nexts.now

-- The rules on chains are kept, the chains are those by their second steps, and the steps have depths.
pub record Chained (n : ℕ) (held : Held) (depths : List ℕ) (t : ℕ) : Type 0 where
  pub kept : KeptOn n held
  pub heads_room : n ≤ length held.heads.now
  pub firsts_room : RULES ≤ length held.rules.xs.now
  pub nexts_room : RULES ≤ length held.nexts.now
  pub chained : ChainsOf n (on held) number held.rules.ys.now held.heads.now held.nexts.now
  pub depths_room : n ≤ length depths
  pub deep : Deep (rules_of held) (on held) (spares_of held) t (at depths)

-- Both steps are below n, and the depths begin at the first of them.
pub record Ends (n : ℕ) (depths : List ℕ) (start goal : ℕ) : Type 0 where
  pub start_in : start < n
  pub goal_in : goal < n
  pub begins : at depths start ≡ 0

-- So many cells are looked at together.
abbrev pub GROUP : ℕ
GROUP = 16

-- A test, of which P says what it tells of each cell, fails at all cells from place i to below r.
abbrev pub Fails : {A : Type 0} → (A → Bool → Type 0) → List A → ℕ → ℕ → Type 0
Fails {A} P list i r = (k : ℕ) → i ≤ k → k < r → (c : A) → slice_get list k ≡ Some c → P c false

-- From place i on it passes at place r first.
pub record PassesFirst {A : Type 0} (P : A → Bool → Type 0) (list : List A) (i r : ℕ) : Type 0 where
  pub onward : i ≤ r
  pub within : r < length list
  pub passes : (c : A) → slice_get list r ≡ Some c → P c true
  pub fails : Fails P list i r

-- Outside the places from a to below b nothing changed.
abbrev pub Between : ℕ → ℕ → List ℕ → List ℕ → Type 0
Between a b before after = (j : ℕ) → (j < a) ⊎ (b ≤ j) → at after j ≡ at before j

-- r rules are some of the span, no more than half of it, rounded up, and no more than the cap.
pub record UpperPart (span cap r : ℕ) : Type 0 where
  pub some : 0 < r
  pub half : 2 * r ≤ span + 1
  pub capped : r ≤ cap

-- r is the share of the cap, rounded down.
pub record Share (cap r : ℕ) : Type 0 where
  pub no_more : SHARE * r ≤ cap
  pub enough : cap < SHARE * r + SHARE

-- Whatever numbers follow in the list: those that are least from v', of lo rules below the bound', are with what is written before them least from v, of hi
-- rules below the bound; and there are such.
pub record Joins (R : ℕ → Rule) (H : ℕ → Type 0) (w : ℕ → ℕ) (x lo hi v bound place : ℕ) (list : ℕ → ℕ) (v' bound' : ℕ) : Type 0 where
  pub way : Open R H w x v' lo bound'
  pub least :
      (g : ℕ → ℕ) → ((j : ℕ) → place ≤ j → j < place + (hi - lo) → g j ≡ list j) → Least R H w x v' lo bound' (part g (place + (hi - lo)) lo) →
      Least R H w x v hi bound (part g place hi)

-- It was written; the rest of the list is as before.
pub record Traced (R : ℕ → Rule) (H : ℕ → Type 0) (w : ℕ → ℕ) (t h x y : ℕ) (list list' : List ℕ) : Type 0 where
  pub least : Least R H w x y h t (part (at list') 1 h)
  pub others : Between 1 (h + 1) list list'

-- There is a way of h rules from y to x that stays below t, and none of fewer rules.
pub record Fewest (R : ℕ → Rule) (H : ℕ → Type 0) (w : ℕ → ℕ) (t x y h : ℕ) : Type 0 where
  pub way : Open R H w x y h t
  pub fewest : (k : ℕ) → Open R H w x y k t → h ≤ k

-- The depth of a step that no rule has led to yet.
abbrev pub FAR : ℕ
FAR = 65535

-- Depths are as before, or the next after the level where there was none.
abbrev pub Risen : ℕ → List ℕ → List ℕ → Type 0
Risen level before after = (v : ℕ) → (at after v ≡ at before v) ⊎ ((FAR ≤ at before v) × (at after v ≡ level + 1))

-- The second step of the rule under i has a depth, where the rule has less than t to spare.
pub record Entered (held : Held) (t level i : ℕ) (before after : List ℕ) : Type 0 where
  pub risen : Risen level before after
  pub has : spares_of held i < t → at after (at held.rules.ys.now i) < FAR

-- Every step has a depth to which a rule with less than t to spare leads from step v.
pub record Spread (held : Held) (t level v : ℕ) (before after : List ℕ) : Type 0 where
  pub risen : Risen level before after
  pub all : (i : ℕ) → on held i → at held.rules.xs.now i ≡ v → spares_of held i < t → at after (at held.rules.ys.now i) < FAR

-- Every step has one to which such a rule leads from a step that has the level for its depth.
pub record Widened (held : Held) (t level : ℕ) (before after : List ℕ) : Type 0 where
  pub risen : Risen level before after
  pub all : (i : ℕ) → on held i → at before (at held.rules.xs.now i) ≡ level → spares_of held i < t → at after (at held.rules.ys.now i) < FAR

-- The depths that there are go as far as the level, and from a step above it rules with less than t to spare lead no deeper than one below.
pub record Levelled (n : ℕ) (held : Held) (t y level : ℕ) (depths : List ℕ) : Type 0 where
  pub begins : at depths y ≡ 0
  pub bounded : (v : ℕ) → v < n → at depths v < FAR → at depths v ≤ level
  pub above : (i : ℕ) → on held i → spares_of held i < t → at depths (at held.rules.xs.now i) < level → at depths (at held.rules.ys.now i) ≤ at depths (at held.rules.xs.now i) + 1

-- Depths as far as the level are as before, and all deeper ones one more than the level.
abbrev pub Settled : ℕ → ℕ → List ℕ → List ℕ → Type 0
Settled n level before after = (v : ℕ) → v < n → ((at before v ≤ level) × (at after v ≡ at before v)) ⊎ ((level < at before v) × (at after v ≡ level + 1))

-- The steps have depths from y on.
pub record Deepened (held : Held) (t y : ℕ) (depths : List ℕ) : Type 0 where
  pub begins : at depths y ≡ 0
  pub deep : Deep (rules_of held) (on held) (spares_of held) t (at depths)

-- The rule x, y, c, under the free number k, is refuted by some list, every rule has its place in the columns and in the lists to work in, and each of n steps has one
-- in the list. H says which rules are held.
pub record Refuted (n : ℕ) (H : ℕ → Type 0) (k : ℕ) (xs ys : List ℕ) (cs : List ℤ) (days heads nexts : List ℕ) (x y : ℕ) (c : ℤ) (list : List ℕ) : Type 0 where
  pub kept : Kept n H xs ys cs days
  pub heads_room : n ≤ length heads
  pub nexts_room : RULES ≤ length nexts
  pub firsts_room : RULES ≤ length xs
  pub seconds_room : RULES ≤ length ys
  pub first_in : x < n
  pub second_in : y < n
  pub free : H k → ⊥
  pub free_in : k ≤ RULES
  pub small : at days x + dn c < 4294967296
  pub list_room : n ≤ length list
  pub refuted : (l : List ℕ) × Refutes (rules xs ys cs) H k (rule x y c) l

-- The first r places of the list now hold the reason why the rule x, y, c is refused.
abbrev pub ReasonIn : (ℕ → Type 0) → ℕ → List ℕ → List ℕ → List ℤ → ℕ → ℕ → ℤ → ℕ → List ℕ → List ℕ → Type 0
ReasonIn H k xs ys cs x y c r before after = Filled r (Reason (rules xs ys cs) H k (rule x y c)) before after
