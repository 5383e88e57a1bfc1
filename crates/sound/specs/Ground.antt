-- Grounding: which steps are known to be grounded, as a work-list. `places` has for each step its place in the list plus 1, and 0 for a step
-- that is not entered; `work` has the steps entered, in the order in which they came; `entered` is how many they are.
use Rattle.std.specs.Prelude.{ℕ, suc, ◌+◌, ◌≤◌, ◌<◌, ◌≡◌, Bool, true, false, List, ltb, length, set}
use Rattle.meaning.specs.Bounds.{STEPS}
use Rattle.meaning.specs.Rules.{Rule, InSteps, Plan, Tight, Grounded}
use Rattle.meaning.specs.Tables.{rule_at, at}
use Rattle.meaning.specs.Reckoning.{count}
use Rattle.lent.specs.Lent.{columns_of, KeptAt, Placed}
use Rattle.chains.specs.declared.Held.{Held}
use Rattle.chains.specs.Chains.{ChainsOf, linked, number}
use Rattle.sound.specs.declared.Queue.{Queue}

-- Whether step v is entered.
abbrev pub entered : List ℕ → ℕ → Bool
entered places v = ltb 0 (at places v)

-- The work-list holds the steps entered, each once, all below n; both lists have room for every step.
pub record Worklist (n : ℕ) (q : Queue) : Type 0 where
  pub places_room : length q.places ≡ STEPS
  pub work_room : length q.work ≡ STEPS
  pub place_in : (v : ℕ) → v < n → at q.places v ≤ q.entered
  pub own_place : (v j : ℕ) → v < n → at q.places v ≡ suc j → at q.work j ≡ v
  pub step_in : (j : ℕ) → j < q.entered → at q.work j < n
  pub step_placed : (j : ℕ) → j < q.entered → at q.places (at q.work j) ≡ suc j
  pub counted : q.entered ≡ count (entered q.places) n

-- Step v can be entered as the next: it has a place, and where it is not entered the list has room.
pub record Enterable (v : ℕ) (q : Queue) : Type 0 where
  pub step_place : v < STEPS
  pub room : at q.places v ≡ 0 → q.entered < STEPS

-- Step v was entered, and entering it left all as it was.
pub record Stays (v : ℕ) (q q' : Queue) : Type 0 where
  pub was_entered : 1 ≤ at q.places v
  pub same : q' ≡ q

-- Step v was not entered, and entering it put it at the end of the list.
pub record Comes (v : ℕ) (q q' : Queue) : Type 0 where
  pub was_out : at q.places v ≡ 0
  pub at_end : q' ≡ record { places = set q.places v (q.entered + 1); work = set q.work q.entered v; entered = q.entered + 1 }

-- Every step that was entered has kept its place.
abbrev pub Grown : ℕ → List ℕ → List ℕ → Type 0
Grown n places places' = (v : ℕ) → v < n → 1 ≤ at places v → at places' v ≡ at places v

-- The steps entered have day 0, and every step of day 0 below v is entered.
pub record Seeded (n : ℕ) (days : List ℕ) (v : ℕ) (q : Queue) : Type 0 where
  pub worklist : Worklist n q
  pub only_day_0 : (u : ℕ) → u < n → 1 ≤ at q.places u → at days u ≡ 0
  pub every_day_0 : (u : ℕ) → u < v → at days u ≡ 0 → 1 ≤ at q.places u

-- The rule under a number, of those on chains.
abbrev pub rule_of : Held → ℕ → Rule
rule_of g = rule_at (columns_of g.rules)

-- The numbers of the rules on chains.
abbrev pub on : Held → ℕ → Type 0
on g = linked g.nexts.now

-- What the grounding reads: the rules held, over steps that have days, and their chains.
pub record Groundable (n : ℕ) (g : Held) : Type 0 where
  pub steps_few : n ≤ STEPS
  pub placed : (i : ℕ) → on g i → Placed g.rules.xs.now g.rules.ys.now g.rules.cs.now i
  pub next_place : (i : ℕ) → on g i → i < length g.nexts.now
  pub days_room : n ≤ length g.days.now
  pub heads_room : n ≤ length g.heads.now
  pub rules_in : (i : ℕ) → on g i → InSteps n (rule_of g i)
  pub chained : ChainsOf n (on g) number g.rules.xs.now g.heads.now g.nexts.now

-- The steps entered are grounded.
pub record Underway (n : ℕ) (g : Held) (q : Queue) : Type 0 where
  pub worklist : Worklist n q
  pub grounded : (v : ℕ) → v < n → 1 ≤ at q.places v → Grounded (rule_of g) (on g) (at g.days.now) v

-- The days keep rule i, and where it is tight its second step is entered.
pub record Followed (g : Held) (places : List ℕ) (i : ℕ) : Type 0 where
  pub kept : KeptAt g.rules.xs.now g.rules.ys.now g.rules.cs.now g.days.now i
  pub entered_if_tight : Tight (at g.days.now) (rule_of g i) → 1 ≤ at places (at g.rules.ys.now i)

-- Every held rule with first step a has been followed.
abbrev pub StepFollowed : Held → List ℕ → ℕ → Type 0
StepFollowed g places a = (i : ℕ) → on g i → at g.rules.xs.now i ≡ a → Followed g places i

-- What following the rules of a leaves: steps entered stay so, and all are grounded; the answer yes says that every rule of a was followed, and
-- the answer no that the days break one of them.
pub record AfterStep (n : ℕ) (g : Held) (a : ℕ) (q : Queue) (kept : Bool) (q' : Queue) : Type 0 where
  pub underway : Underway n g q'
  pub grown : Grown n q.places q'.places
  pub when_kept : kept ≡ true → StepFollowed g q'.places a
  pub when_broken : kept ≡ false → Plan (rule_of g) (on g) (at g.days.now) → ⊥
