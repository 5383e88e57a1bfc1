-- Layers that are made one after the other, and how many rules the shortest way has.
use Prim.Native.Nat.{ℕ, suc, ◌+◌, ◌-◌, ◌≤◌, ◌<◌}
use native.Mathlib.Omega.{arith}
use native.Mathlib.Decide.{ℕ_discrete}
use mathlib.Core.Path.{◌≡◌, subst}
use mathlib.Core.List.{List}
use lib.ListN.{length}
use Rattle.meaning.specs.Tables.{at}
use Rattle.shortest.specs.declared.Search.{Search}
use Rattle.shortest.specs.Layers.{Layer}
use Rattle.shortest.specs.Clauses.{rules_of, on, spares_of}
use Rattle.shortest.specs.Searching.{IsLayer, FollowedBy, Way, FewestWithin}
use Rattle.shortest.proofs.Layers.{way_wider, layer_next}

module _ (s : Search) (g : ℕ) where
  -- What follows layer h is layer h + 1.
  pub layer_after : (h : ℕ) (layer after : List ℕ) → length after ≡ s.steps → IsLayer s g h layer → FollowedBy s (g - (h + 1)) layer after → IsLayer s g (h + 1) after
  layer_after h layer after long here follows = record {
    long = long;
    is = subst (λ (k : ℕ). Layer s.steps (rules_of s.held) (on s.held) (spares_of s.held) (at s.depths.now) g s.goal s.lack k (at after)) (omega arith)
        (layer_next (rules_of s.held) (on s.held) (spares_of s.held) s.goal s.steps s.lack s.chained.kept.in_steps (at s.depths.now) g s.chained.deep h (g - (h + 1)) (at layer) (at after)
        (omega arith) here.is follows);
  }

  -- No way has fewer than h rules.
  abbrev pub NoneBelow : ℕ → Type 0
  NoneBelow h = (k : ℕ) → Way s s.start k s.lack → h ≤ k

  -- Where layer h has the lack for the start, a way has more rules.
  pub none_here : (h : ℕ) (layer : List ℕ) → h ≤ g → s.lack ≤ at layer s.start → IsLayer s g h layer → NoneBelow h → NoneBelow (h + 1)
  none_here h layer within past here none k way = further (ℕ_discrete k h)
    where
      further : Dec (k ≡ h) → h + 1 ≤ k
      further (no other) = omega (arith, other, none k way)
      further (yes e) =
          let (l, of-h) = subst (λ (j : ℕ). Way s s.start j s.lack) e way in
          absurd (omega (arith, here.is.least s.start s.ends.start_in (omega (arith, s.ends.begins, within)) l of-h, of-h.below, past))

  -- Where it has less, the shortest has h rules.
  pub fewest_here : (h : ℕ) (layer : List ℕ) → h ≤ g → at layer s.start < s.lack → IsLayer s g h layer → NoneBelow h → FewestWithin s g h
  fewest_here h layer within below here none = record {
    within = within;
    fewest = record {
      way = let (l, way) = here.is.reached s.start s.ends.start_in below in
          (l, way_wider (rules_of s.held) (on s.held) (spares_of s.held) s.goal s.start h (suc (at layer s.start)) s.lack l (omega (arith, below)) way);
      fewest = none;
    };
  }
