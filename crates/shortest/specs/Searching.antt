-- What the methods of a search promise. A layer is a list with one cell for each step.
use Rattle.std.specs.Prelude.{ℕ, ◌+◌, ◌*◌, ◌-◌, ◌≤◌, ◌<◌, ◌≡◌, List, ◌⊎◌, length, set}
use Rattle.meaning.specs.Tables.{at}
use Rattle.shortest.specs.declared.Search.{Search}
use Rattle.shortest.specs.Walks.{Open}
use Rattle.shortest.specs.Layers.{Layer, Follows, Next, Fitting, Lowest}
use Rattle.shortest.specs.Clauses.{rules_of, on, spares_of, cap_of, Between, Joins, Traced, Fewest}

-- The cell has the sum where it had more, and the depth is not past the limit; else nothing changed.
abbrev pub Lowered : ℕ → ℕ → ℕ → ℕ → List ℕ → List ℕ → Type 0
Lowered depth limit place sum before after =
    ((limit < depth) × (after ≡ before)) ⊎ (((sum < at before place) × (after ≡ set before place sum)) ⊎ ((at before place ≤ sum) × (after ≡ before)))

module _ (s : Search) where
  -- A way of h rules from step v to the goal stays below the bound.
  abbrev pub Way : ℕ → ℕ → ℕ → Type 0
  Way v h bound = Open (rules_of s.held) (on s.held) (spares_of s.held) s.goal v h bound

  -- The list is layer h, for ways of at most g rules in all.
  pub record IsLayer (g h : ℕ) (layer : List ℕ) : Type 0 where
    pub long : length layer ≡ s.steps
    pub is : Layer s.steps (rules_of s.held) (on s.held) (spares_of s.held) (at s.depths.now) g s.goal s.lack h (at layer)

  -- The cell of the first step of rule i has what the rule has to spare and the rest, where it had more and the step lies no deeper than the limit.
  abbrev pub LoweredBy : ℕ → ℕ → ℕ → List ℕ → List ℕ → Type 0
  LoweredBy limit i rest =
      Lowered (at s.depths.now (at s.held.rules.xs.now i)) limit (at s.held.rules.xs.now i) (spares_of s.held i + rest)

  -- The layer follows f by the rules that P holds of, as far as the limit of depth.
  abbrev pub By : ℕ → (ℕ → Type 0) → List ℕ → List ℕ → Type 0
  By limit P f layer =
      Follows (λ i. P i × (at s.depths.now (at s.held.rules.xs.now i) ≤ limit)) s.steps (rules_of s.held) (on s.held) (spares_of s.held) s.lack (at f) (at layer)

  -- The rules that lead to step u lower the layer too, by what f has for u, where those lowered it that lead to lower steps.
  abbrev pub Passed : ℕ → ℕ → List ℕ → List ℕ → List ℕ → Type 0
  Passed limit u f before after = By limit (λ i. at s.held.rules.ys.now i < u) f before → By limit (λ i. at s.held.rules.ys.now i < u + 1) f after

  -- The layer follows f, as far as the limit of depth.
  abbrev pub FollowedBy : ℕ → List ℕ → List ℕ → Type 0
  FollowedBy limit f layer = Next s.steps (rules_of s.held) (on s.held) (spares_of s.held) (at s.depths.now) limit s.lack (at f) (at layer)

  -- The rule under i leads from step v and stays, with what the layer has for its second step, below the bound.
  abbrev pub Fits : ℕ → ℕ → List ℕ → ℕ → Type 0
  Fits v bound layer = Fitting (rules_of s.held) (on s.held) (spares_of s.held) (at layer) v bound

  -- A rule is to be picked for step v: some rule fits, by the layer.
  pub record Pickable (v bound : ℕ) (layer : List ℕ) : Type 0 where
    pub room : s.steps ≤ length layer
    pub some : (i : ℕ) × Fits v bound layer i

  -- Of those that fit, the rule has the lowest number.
  abbrev pub Picked : ℕ → ℕ → List ℕ → ℕ → Type 0
  Picked v bound layer = Lowest (rules_of s.held) (on s.held) (spares_of s.held) (at layer) v bound

  -- The way from v, of rules lo to hi, can be looked for: the list is layer lo, v lies no deeper than leaves hi rules of g, a way of hi rules from v stays below the
  -- bound, more than one rule has a cap, and there is room for as many layers as the cap allows, and one.
  pub record Descendable (g lo hi v bound cap : ℕ) (layer room list : List ℕ) : Type 0 where
    pub some : lo < hi
    pub step_in : v < s.steps
    pub bound_in : bound ≤ s.lack
    pub list_room : g - lo < length list
    pub depth : ℕ
    pub cap_is : cap ≡ cap_of depth
    pub some_cap : (hi ≡ lo + 1 → ⊥) → 0 < cap
    pub layers_room : (depth + 1) * s.steps ≤ length room
    pub from_layer : IsLayer g lo layer
    pub near : at s.depths.now v + hi ≤ g
    pub way : Way v hi bound

  -- The numbers of the rules hi to lo of the way from v were written, that of rule hi behind as many as there are rules above it and the would-be number, and the
  -- way goes on from v'; the rest of the list is as before.
  pub record Descended (g lo hi v bound : ℕ) (before after : List ℕ) (v' bound' : ℕ) : Type 0 where
    pub step_in : v' < s.steps
    pub bound_in : bound' ≤ bound
    pub near : at s.depths.now v' + lo ≤ g
    pub joins : Joins (rules_of s.held) (on s.held) (spares_of s.held) s.goal lo hi v bound (1 + (g - hi)) (at after) v' bound'
    pub others : Between (1 + (g - hi)) (1 + (g - lo)) before after

  -- The least way of h rules was written from place 1 on; the rest of the list is as before.
  abbrev pub Written : ℕ → List ℕ → List ℕ → Type 0
  Written h = Traced (rules_of s.held) (on s.held) (spares_of s.held) s.lack h s.goal s.start

  -- The shortest way has h rules.
  abbrev pub Shortest : ℕ → Type 0
  Shortest h = Fewest (rules_of s.held) (on s.held) (spares_of s.held) s.lack s.goal s.start h

  -- No way of at most g rules stays below what the days lack.
  abbrev pub NoneWithin : ℕ → Type 0
  NoneWithin g = (k : ℕ) → Way s.start k s.lack → g < k

  -- The shortest has h rules, which are at most g.
  pub record FewestWithin (g h : ℕ) : Type 0 where
    pub within : h ≤ g
    pub fewest : Shortest h
