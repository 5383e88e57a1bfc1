-- Going through rows of rules: what adding the rows from place i on comes to, from the tables now, adding all of them comes to, from the tables at start.
use Prim.Native.Nat.{ℕ, suc, ◌+◌, ◌-◌, ◌≤◌, ◌<◌}
use native.Mathlib.Omega.{arith}
use mathlib.Core.Path.{◌≡◌, refl, sym, ap, ◌∙◌, subst}
use mathlib.Core.Bool.{Bool, true, false}
use mathlib.Core.List.{List, [], ◌∷◌}
use mathlib.Core.Logic.{inl, inr}
use Rattle.meaning.specs.Bounds.{RULES}
use Rattle.meaning.specs.Rules.{Rule, InBounds, Fits}
use Rattle.meaning.specs.Tables.{Columns, Tables, rule_at}
use Rattle.meaning.specs.Calls.{rules_of, held_in}
use Rattle.meaning.proofs.Sequences.{Kept}
use Rattle.lent.specs.Promises.{Border}
use Rattle.script_meaning.specs.Effect.{HeldNow, AddsAll}
use Rattle.script_meaning.proofs.Adding.{holds_kept}
use Rattle.asserts.specs.Rows.{rows_from, RowsFine}
use Rattle.asserts.proofs.Reach.{wider, AllWithin, held_within}

-- The rules of no row; those of a row and of the rows after it.
pub rows_none : (rows : Columns) (k : ℕ) → rows_from rows k 0 ≡ []
unfolding rows_from
rows_none rows k = refl

pub rows_next : (rows : Columns) (k n : ℕ) → rows_from rows k (suc n) ≡ rule_at rows k ∷ rows_from rows (k + 1) n
unfolding rows_from
rows_next rows k n = refl

-- Of the first k rows those from row i on are left to add to the tables t, where they and the rules held speak of steps below e alone; what that comes to, adding all of
-- them to the tables at start comes to.
pub record Left (e : ℕ) (rows : Columns) (k : ℕ) (start : Tables) (i : ℕ) (t : Tables) : Type 0 where
  pub border : Border t
  pub within : AllWithin e t
  pub passed : i ≤ k
  pub places : t.counts.rules + (k - i) ≤ RULES
  pub goes_on : (clash : Bool) (u : Tables) → AddsAll (rows_from rows i (k - i)) t clash u → AddsAll (rows_from rows 0 k) start clash u

module _ (e : ℕ) (rows : Columns) (k : ℕ) (start : Tables) where
  pub left_start : Border start → AllWithin e start → start.counts.rules + k ≤ RULES → Left e rows k start 0 start
  left_start border within places = record {
    border = border;
    within = within;
    passed = omega arith;
    places = omega (arith, places);
    goes_on = λ clash u h. subst (λ (n : ℕ). AddsAll (rows_from rows 0 n) start clash u) (omega arith) h;
  }

  module _ (i : ℕ) (t : Tables) (left : Left e rows k start i t) where
    -- With no row left, all are added.
    pub left_none : (i < k → ⊥) → AddsAll (rows_from rows 0 k) start false t
    left_none last = left.goes_on false t (subst (λ (l : List Rule). AddsAll l t false t) (sym none) (refl, refl))
      where
        none : rows_from rows i (k - i) ≡ []
        none = ap (rows_from rows i) (omega (arith, last)) ∙ rows_none rows i

    module _ (fine : RowsFine e rows k) (more : i < k) where
      pub next_good : InBounds e (rule_at rows i)
      next_good = fine i more

      pub next_place : t.counts.rules < RULES
      next_place = omega (arith, left.places, more)

      split : rows_from rows i (k - i) ≡ rule_at rows i ∷ rows_from rows (i + 1) (k - (i + 1))
      split = ap (rows_from rows i) (omega (arith, more)) ∙ rows_next rows i (k - (i + 1))

      on : (clash : Bool) (u : Tables) → AddsAll (rule_at rows i ∷ rows_from rows (i + 1) (k - (i + 1))) t clash u → AddsAll (rows_from rows 0 k) start clash u
      on clash u h = left.goes_on clash u (subst (λ (l : List Rule). AddsAll l t clash u) (sym split) h)

      -- The next rule does not fit: adding stops.
      pub left_clash : (u : Tables) → (Fits (rules_of t) (held_in t) (rule_at rows i) → ⊥) → u ≡ t → AddsAll (rows_from rows 0 k) start true u
      left_clash u unfit same = on true u (inl (unfit, (same, refl)))

      -- The next rule is held: the others are left to add.
      pub left_held : (u : Tables) → HeldNow (rule_at rows i) t u → Left e rows k start (i + 1) u
      left_held u held =
          record {
            border = record { room = kept.room; sound = kept.sound };
            within = held_within e (rule_at rows i) t u before next_place next_good.steps_in left.within held;
            passed = omega (arith, more);
            places = omega (arith, left.places, more, ap (λ (v : Tables). v.counts.rules) held.rule_held);
            goes_on = λ clash v rest. on clash v (inr (u, (held, rest)));
          }
        where
          before : Kept t
          before = record { room = left.border.room; sound = left.border.sound }

          kept : Kept u
          kept = holds_kept (rule_at rows i) t u before (wider e t.counts.steps left.within.steps_there (rule_at rows i) next_good) next_place held
