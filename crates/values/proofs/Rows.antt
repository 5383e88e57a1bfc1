-- The pairs of a column of steps are what get-value prints of the names, since the name under the step of a known name is that name.
use Prim.Native.Nat.{ℕ, ◌+◌, ◌-◌, ◌<◌}
use native.Mathlib.Omega.{arith}
use native.Mathlib.Decide.{ℕ_discrete}
use mathlib.Core.Path.{◌≡◌, refl, ap, ap₂, subst, ◌∙◌}
use mathlib.Core.List.{List, [], ◌∷◌, ◌++◌}
use lib.ListN.{length}
use Rattle.meaning.specs.Bounds.{DONE}
use Rattle.meaning.specs.Tables.{at}
use Rattle.meaning.specs.Promise.{First}
use Rattle.names.specs.Names.{name_at}
use Rattle.reading.specs.Tree.{Piece}
use Rattle.reading.specs.Saying.{step_in, KnownIn, name_needs}
use Rattle.reading.specs.Heard.{Listed}
use Rattle.script_meaning.specs.Effect.{pair, shown_pairs, day_of, values}
use Rattle.script_meaning.proofs.Needed.{EachName, names_met}
use Rattle.script_meaning.proofs.Seeking.{known_name}
use Rattle.values.specs.Pair.{pair_at, pairs_from, row_values}

module _ (n : ℕ) (names lens days column : List ℕ) where
  abbrev S : List ℕ → ℕ
  S = step_in n names lens

  abbrev K : List ℕ → Type 0
  K = KnownIn n names lens

  -- A known name and its day.
  shown_pair : (i : ℕ) (w : Piece) → at column i ≡ S w.letters → K w.letters → pair_at names lens days column i ≡ pair w.letters (day_of S days w.letters)
  shown_pair i w is known =
      ap (λ (j : ℕ). pair (name_at names lens j) (at days j)) is
      ∙ ap (λ (v : List ℕ). pair v (at days (S w.letters))) (known_name names lens w.letters n known)

  shown_more : (i : ℕ) (ws : List Piece) → Listed S column i ws → EachName K ws → pairs_from names lens days column i (length ws) ≡ shown_pairs (day_of S days) ws
  unfolding pairs_from
  shown_more i [] listed each = refl
  shown_more i (w ∷ ws) listed each =
      ap₂ (λ (a b : List ℕ). 32 ∷ (a ++ b)) (shown_pair i w listed.0 each.0) (shown_more (i + 1) ws listed.1 each.1)

  shown_each : (ws : List Piece) → Listed S column 0 ws → EachName K ws → row_values names lens days column (length ws) ≡ values S days ws
  shown_each [] listed each = refl
  shown_each (w ∷ ws) listed each = ap₂ (λ (a b : List ℕ). 40 ∷ (a ++ b)) (shown_pair 0 w listed.0 each.0) (shown_more 1 ws listed.1 each.1)

  -- The steps of known names are those of declared ones.
  each_declared : (k : ℕ) (ws : List Piece) → Listed S column k ws → EachName K ws → (i : ℕ) → i < length ws → at column (k + i) < n
  each_declared k [] listed each i h = absurd (omega (arith, h))
  each_declared k (w ∷ ws) listed each i h = here (ℕ_discrete i 0) (each_declared (k + 1) ws listed.1 each.1 (i - 1))
    where
      here : Dec (i ≡ 0) → (i - 1 < length ws → at column (k + 1 + (i - 1)) < n) → at column (k + i) < n
      here (yes first) later =
          let is : k ≡ k + i = omega (arith, first) in
          subst (λ (j : ℕ). at column j < n) is (omega (arith, listed.0, each.0))
      here (no other) later =
          let is : k + 1 + (i - 1) ≡ k + i = omega (arith, other) in
          subst (λ (j : ℕ). at column j < n) is (later (omega (arith, h, other)))

  module _ (ws : List Piece) (listed : Listed S column 0 ws) (met : First (name_needs K ws) DONE) where
    pub shown_row : row_values names lens days column (length ws) ≡ values S days ws
    shown_row = shown_each ws listed (names_met K ws met)

    pub steps_declared : (i : ℕ) → i < length ws → at column i < n
    steps_declared i h =
        let is : 0 + i ≡ i = omega arith in
        subst (λ (j : ℕ). at column j < n) is (each_declared 0 ws listed (names_met K ws met) i h)
