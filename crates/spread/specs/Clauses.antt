-- What each function of a spread promises.
use Rattle.std.specs.Prelude.{ℕ, ◌+◌, ◌*◌, ◌^◌, ◌≤◌, ◌<◌, ◌≡◌, List, length, ℤ}
use Rattle.meaning.specs.Bounds.{STEPS}
use Rattle.meaning.specs.Rules.{Plan}
use Rattle.meaning.specs.Tables.{at}
use Rattle.spread.specs.Least.{ForcedFrom}
use Rattle.spread.specs.Trace.{Traced}
use Rattle.spread.specs.State.{without_gain, Listed, StandsIn, Ready, None, Every, Spreading, BetweenTurns}
use Rattle.waiting.specs.declared.Waiting.{Waiting}
use Rattle.waiting.specs.Places.{GROUP, Put}
use Rattle.waiting.specs.Waiting.{Led}
use Rattle.spread.specs.Relax.{instead}
use Rattle.spread.specs.Ground.{rules}

-- Of n steps each can wait where there is room for `most`, and has a place for its gain and for the rule that it comes by.
pub record StepsRoom (n most : ℕ) (gains by : List ℕ) : Type 0 where
  pub steps_in : n ≤ most
  pub gains_room : n ≤ length gains
  pub by_room : n ≤ length by

-- Steps that wait can be kept, at most `most` of them in so many groups.
pub record GroupsRoom (most groups : ℕ) : Type 0 where
  pub few : most ≤ STEPS
  pub leaders_room : (most ≤ GROUP * groups) × (groups ≤ most)

-- A turn can be made: each step has its places, there is room for its group, the gains are small enough, and all that wait are led.
pub record Underway {N G : ℕ} (n : ℕ) (gains by : List ℕ) (w : Waiting N G) : Type 0 where
  pub steps_room : StepsRoom n N gains by
  pub groups_room : GroupsRoom N G
  pub ready : Ready n (at gains) (at w.list) w.count
  pub led : Led gains w

-- The first k places of the list hold each step below n with a gain, once, and no rule is named for any of them.
pub record Collected (n : ℕ) (g by list : ℕ → ℕ) (k : ℕ) : Type 0 where
  pub listed : Listed n g list k
  pub all_listed : (v : ℕ) → v < n → 0 < g v → StandsIn list k v
  pub counted : without_gain n g + k ≤ n
  pub not_raised : (v : ℕ) → v < n → 0 < g v → by v ≡ 0

-- All rules of step x were relaxed: a turn can still be made, no gain from place n on changed, and what the turns keep is kept, with all
-- rules of x seen to where x was the step settled last.
pub record RelaxedAll
    (n : ℕ) (H : ℕ → Type 0) (xs ys : List ℕ) (cs : List ℤ) (days : List ℕ) (x : ℕ) (gains by list : List ℕ) (k : ℕ) (gains' by' list' : List ℕ) (k' : ℕ) : Type 0 where
  pub ready : Ready n (at gains') (at list') k'
  pub no_more : without_gain n (at gains') + k' ≤ without_gain n (at gains) + k
  pub past : (v : ℕ) → n ≤ v → at gains' v ≡ at gains v
  pub keeps :
      (low rank : ℕ → ℕ) (turns : ℕ) → rank x < turns →
      Spreading n (rules xs ys cs) H (at days) low turns x None rank (at gains) (at by) (at list) k →
      Spreading n (rules xs ys cs) H (at days) low turns x Every rank (at gains') (at by') (at list') k'

-- A turn was made: one step more is settled, with all its rules relaxed.
pub record Turned
    (n : ℕ) (H : ℕ → Type 0) (xs ys : List ℕ) (cs : List ℤ) (days gains by list : List ℕ) (k : ℕ) (gains' by' list' : List ℕ) (k' : ℕ) : Type 0 where
  pub ready : Ready n (at gains') (at list') k'
  pub fewer : without_gain n (at gains') + k' < without_gain n (at gains) + k
  pub past : (v : ℕ) → n ≤ v → at gains' v ≡ at gains v
  pub keeps :
      (low : ℕ → ℕ) → BetweenTurns n (rules xs ys cs) H (at days) low (at gains) (at by) (at list) k →
      BetweenTurns n (rules xs ys cs) H (at days) low (at gains') (at by') (at list') k'

-- Each of n steps has a place for its gain and for the rule it comes by, and the gains are small enough to be added to days and amounts.
pub record Askable (n : ℕ) (gains by : List ℕ) : Type 0 where
  pub gains_room : n ≤ length gains
  pub by_room : n ≤ length by
  pub small : (v : ℕ) → v < n → at gains v < 2 ^ 62

-- The gain is asked for at step y alone.
abbrev pub alone : ℕ → ℕ → ℕ → ℕ
alone y gain = instead y gain (λ v. 0)

-- Step y is below n and the gain is one; no step below n has a gain yet, and each has its places.
pub record AskableAlone (n y gain : ℕ) (gains by : List ℕ) : Type 0 where
  pub step_in : y < n
  pub some : 0 < gain
  pub small : gain < 2 ^ 62
  pub none_yet : (v : ℕ) → v < n → at gains v ≡ 0
  pub gains_room : n ≤ length gains
  pub by_room : n ≤ length by

-- Step y alone has a gain now and stands in the list.
pub record Begun (n y gain : ℕ) (gains gains' by' list' : List ℕ) (k : ℕ) : Type 0 where
  pub asked : Put y gain (at gains) (at gains')
  pub collected : Collected n (at gains') (at by') (at list') k

-- Gains were spread, as far as the goal, from the days low: the days with their gains are those that low forces; they are a plan unless the goal
-- is a step that has a gain; and each gain can be traced. From place n on the gains are as before.
pub record Spread (n : ℕ) (H : ℕ → Type 0) (xs ys : List ℕ) (cs : List ℤ) (days : List ℕ) (goal : ℕ) (low : ℕ → ℕ) (before gains by : List ℕ) : Type 0 where
  pub forced : ForcedFrom n (rules xs ys cs) H low (λ v. at days v + at gains v)
  pub plan : (goal < n → at gains goal ≡ 0) → Plan (rules xs ys cs) H (λ v. at days v + at gains v)
  pub traced : Traced n (rules xs ys cs) H (at days) low (at gains) (at by)
  pub past : (v : ℕ) → n ≤ v → at gains v ≡ at before v

-- All turns were made that there are, as far as the goal: from the state between two turns the gains were spread.
abbrev pub SettledAll : ℕ → (ℕ → Type 0) → List ℕ → List ℕ → List ℤ → List ℕ → ℕ → List ℕ → List ℕ → List ℕ → ℕ → List ℕ → List ℕ → Type 0
SettledAll n H xs ys cs days goal gains by list k gains' by' =
    (low : ℕ → ℕ) → BetweenTurns n (rules xs ys cs) H (at days) low (at gains) (at by) (at list) k →
    Spread n H xs ys cs days goal low gains gains' by'
