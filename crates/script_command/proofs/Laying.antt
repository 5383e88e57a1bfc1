-- Rows that the rules of a term stand in: their rules are these, and each is within bounds where the needs of the term are met.
use Prim.Native.Nat.{ℕ, ◌+◌, ◌-◌, ◌≤◌, ◌<◌}
use native.Mathlib.Omega.{arith}
use native.Mathlib.Decide.{ℕ_discrete}
use mathlib.Core.Path.{◌≡◌, refl, sym, ap₂, subst}
use mathlib.Core.List.{List, [], ◌∷◌, map}
use lib.ListN.{length}
use Rattle.meaning.specs.Rules.{Rule, InBounds}
use Rattle.meaning.specs.Tables.{Columns, rule_at}
use Rattle.reading.specs.Tree.{Named}
use Rattle.reading.specs.Saying.{step_in, KnownIn, resolved}
use Rattle.reading.specs.Heard.{Laid}
use Rattle.script_meaning.proofs.Needed.{RuleMet, EachRule}
use Rattle.asserts.specs.Rows.{rows_from, RowsFine}

-- The rules of the rows are those that were laid into them.
pub rows_laid : (rows : Columns) (k : ℕ) (rs : List Rule) → Laid rows k rs → rows_from rows k (length rs) ≡ rs
unfolding rows_from
rows_laid rows k [] laid = refl
rows_laid rows k (r ∷ rs) laid = ap₂ ◌∷◌ laid.0 (rows_laid rows (k + 1) rs laid.1)

module _ (e n : ℕ) (names lens : List ℕ) (few : n ≤ e) (rows : Columns) where
  rule_fine : (r : Named) → RuleMet (KnownIn n names lens) r → InBounds e (resolved (step_in n names lens) r)
  rule_fine r met = record {
    steps_in = record { first_in = omega (arith, met.first_known, few); second_in = omega (arith, met.second_known, few) };
    amount_in = met.amount_in;
  }

  each_fine :
      (k : ℕ) (rs : List Named) → Laid rows k (map (resolved (step_in n names lens)) rs) → EachRule (KnownIn n names lens) rs → (i : ℕ) → i < length rs →
      InBounds e (rule_at rows (k + i))
  each_fine k [] laid each i h = absurd (omega (arith, h))
  each_fine k (r ∷ rs) laid each i h = here (ℕ_discrete i 0) (each_fine (k + 1) rs laid.1 each.1 (i - 1))
    where
      here : Dec (i ≡ 0) → (i - 1 < length rs → InBounds e (rule_at rows (k + 1 + (i - 1)))) → InBounds e (rule_at rows (k + i))
      here (yes first) later =
          let is : k ≡ k + i = omega (arith, first) in
          subst (λ (j : ℕ). InBounds e (rule_at rows j)) is (subst (InBounds e) (sym laid.0) (rule_fine r each.0))
      here (no other) later =
          let is : k + 1 + (i - 1) ≡ k + i = omega (arith, other) in
          subst (λ (j : ℕ). InBounds e (rule_at rows j)) is (later (omega (arith, h, other)))

  -- The rules of rows in which a term's are laid are within bounds.
  pub laid_fine : (rs : List Named) → Laid rows 0 (map (resolved (step_in n names lens)) rs) → EachRule (KnownIn n names lens) rs → RowsFine e rows (length rs)
  laid_fine rs laid each i h =
      let is : 0 + i ≡ i = omega arith in
      subst (λ (j : ℕ). InBounds e (rule_at rows j)) is (each_fine 0 rs laid each i h)
