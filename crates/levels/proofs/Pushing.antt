-- Setting marks one by one: which days are kept.
use Prim.Native.Nat.{ℕ, ◌+◌, ◌≤◌, ◌<◌}
use native.Mathlib.Omega.{arith}
use native.Mathlib.Decide.{dec_lt}
use mathlib.Core.Path.{◌≡◌, refl, sym, ◌∙◌, subst}
use mathlib.Core.List.{List}
use lib.ListN.{length, take}
use Rattle.std.specs.Prelude.{Some}
use Rattle.std.proofs.lemmas.List.{get_or-take, length-take}
use Rattle.meaning.specs.declared.Counts.{Counts}
use Rattle.meaning.specs.Tables.{rule_at, at}
use Rattle.meaning.proofs.Theory.{earliest_ext, earliest_same}
use Rattle.meaning.proofs.LastDay.{largest_same}
use Rattle.lent.specs.Lent.{held_by}
use Rattle.levels.specs.declared.Row.{Row}
use Rattle.levels.specs.Levels.{more_marks, row_of, Named, held_to, RowPlan, KeepsDays, Keeps}

-- Where a row names one of the marks from first up to k, it keeps these days, as many as there are steps, and the last of them; where it names an older mark, it is as it was.
pub record KeptFrom (steps last first k : ℕ) (days : List ℕ) (kept kept' : List Row) : Type 0 where
  pub same_length : length kept' ≡ length kept
  pub older : (j : ℕ) → j < first → Named j kept' → row_of j kept' ≡ row_of j kept
  pub newer : (j : ℕ) → first ≤ j → j < k → Named j kept' → Keeps j (take steps days) last (row_of j kept')

-- Once n new marks are passed, the row of each open mark that it names holds its days.
pub keeps_days :
    (n : ℕ) {c : Counts} {k : ℕ} {days : List ℕ} {kept kept' : List Row} → k ≡ c.marks + n → c.steps ≤ length days → KeptFrom c.steps c.last c.marks k days kept kept' →
    KeepsDays c days kept (more_marks n c) kept'
keeps_days n {c} {k} {days} {kept} {kept'} all room passed rules watched levels sound before = record {
  kept_earliest = λ j j-in named. told j named j-in (dec_lt j c.marks);
}
  where
    told : (j : ℕ) → Named j kept' → j < c.marks + n → Dec (j < c.marks) → RowPlan (rule_at rules) c.steps (held_to j levels) (row_of j kept')
    told j named j-in (yes older) =
        let same = passed.older j older named in
        subst (RowPlan (rule_at rules) c.steps (held_to j levels)) (sym same) (before.kept_earliest j older (subst (λ (r : Row). r.mark ≡ Some j) same named))
    told j named j-in (no newer) =
        let keeps = passed.newer j (omega arith) (omega (arith, all)) named in
        let same : (v : ℕ) → v < c.steps → at days v ≡ at (row_of j kept').days v =
        λ v v-in. sym (keeps.has_days v (omega (arith, length-take c.steps days, room, v-in)) ∙ get_or-take c.steps days v 0 v-in) in
        record {
          earliest =
              earliest_ext c.steps (rule_at rules) (held_to j levels) (at days) (at (row_of j kept').days) (λ i h. (sound.rules_good i h.0).steps_in) same
              (earliest_same {H = held_by levels} {G = held_to j levels} (λ i h. h.0) (λ i h. (h, omega (arith, sound.levels_open i h))) (λ i h. refl) sound.days_earliest);
          last_day = keeps.dated ∙ sound.last_largest ∙ largest_same c.steps (at days) (at (row_of j kept').days) same;
        }
