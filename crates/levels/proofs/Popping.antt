-- The days at a mark: a copy of those kept is the earliest plan of the rules added before it was set.
use Prim.Native.Nat.{ℕ, ◌-◌, ◌≤◌, ◌<◌}
use native.Mathlib.Omega.{arith}
use mathlib.Core.Path.{◌≡◌, refl, sym, ◌∙◌, ap, subst}
use mathlib.Core.List.{List, ◌++◌}
use lib.ListN.{length, take, drop, get_or-append}
use lib.Seq.{get_or-append_right}
use Rattle.std.proofs.lemmas.List.{get_or-take, get_or-drop, length-take, length-drop, length-append}
use lib.IntN.{ℤ}
use Rattle.meaning.specs.Bounds.{RULES}
use Rattle.meaning.specs.Rules.{largest}
use Rattle.meaning.specs.Tables.{Tables, at, taken, freed_above, down_to, marks_now, rules_now, last_now}
use Rattle.meaning.specs.Promise.{Planned}
use Rattle.meaning.specs.Calls.{rules_of, held_in}
use Rattle.meaning.proofs.Theory.{earliest_same, earliest_ext}
use Rattle.meaning.proofs.LastDay.{largest_same}
use Rattle.meaning.proofs.Places.{down_to_held}
use Rattle.lent.specs.Lent.{held_by}
use Rattle.chains.specs.Chains.{linked, LentChains}
use Rattle.spread.specs.Ground.{rules}
use Rattle.inner_back.specs.Replan.{Plannable}
use Rattle.levels.specs.Levels.{Popped, held_to, RowPlan, KeptFor}
use Rattle.levels.specs.declared.Row.{Row}

-- What is copied over the first n days has n days.
pub copied_from :
    {n : ℕ} {H : ℕ → Type 0} {xs ys : List ℕ} {cs : List ℤ} {days now : List ℕ} (from : List ℕ) → Plannable n H xs ys cs days → length now ≡ length (take n days) → now ≡ take n from → n ≤ length from
copied_from {n} {days = days} from plannable long is = omega (arith, plannable.days_room, long, ap length is, length-take n days, length-take n from)

-- Days that are copied from the row of a mark, which names it, are the earliest plan, and the row has the last of them.
module _
    {n : ℕ} {H : ℕ → Type 0} {xs ys : List ℕ} {cs : List ℤ} {days : List ℕ} {row : Row} (plannable : Plannable n H xs ys cs days) (room : n ≤ length row.days)
    (plan : RowPlan (rules xs ys cs) n H row) where
  copied : (v : ℕ) → v < n → at row.days v ≡ at (take n row.days ++ drop n days) v
  copied v v-in = sym (get_or-append (take n row.days) (drop n days) 0 v (omega (arith, length-take n row.days, room)) ∙ get_or-take n row.days v 0 v-in)

  pub plan_kept : Planned n (rules xs ys cs) H days (take n row.days ++ drop n days)
  plan_kept = record {
    earliest = earliest_ext n (rules xs ys cs) H (at row.days) (at (take n row.days ++ drop n days)) (λ i h. (plannable.in_bounds i h).steps_in) copied plan.earliest;
    past = record {
      same_length = length-append (take n row.days) (drop n days) ∙ omega (arith, length-take n row.days, length-drop n days, room, plannable.days_room);
      kept =
          λ i i-past.
          get_or-append_right (take n row.days) (drop n days) i 0 (omega (arith, length-take n row.days))
          ∙ get_or-drop n days (i - length (take n row.days)) 0 ∙ ap (at days) (omega (arith, length-take n row.days, room, i-past));
    };
  }

  pub last_kept : row.last ≡ largest n (at (take n row.days ++ drop n days))
  last_kept = plan.last_day ∙ largest_same n (at row.days) (at (take n row.days ++ drop n days)) copied

-- The days kept of the mark at place k are those of the rules on the chains, where every place above k was freed.
pub kept_left :
    (t : Tables) {n : ℕ} (k : ℕ) (kept : List Row) {levels xs heads nexts : List ℕ} → levels ≡ freed_above RULES k t.levels → LentChains n (held_by levels) xs heads nexts →
    KeptFor (rules_of t) n (held_to k t.levels) k kept → KeptFor (rules_of t) n (linked nexts) k kept
kept_left t k kept {levels} {nexts = nexts} freed chains days_kept named = record {
  earliest =
      earliest_same {H = held_to k t.levels} {G = linked nexts} (λ i on. (down_to_held k t i).0 (subst (λ (l : List ℕ). held_by l i) freed (chains.only i on)))
      (λ i h. chains.on i (subst (λ (l : List ℕ). held_by l i) (sym freed) ((down_to_held k t i).1 h))) (λ i on. refl) (days_kept named).earliest;
  last_day = (days_kept named).last_day;
}

-- The tables with the places above the marks left freed, and the days of the rules left with their last day, are those that a pop leaves.
pub popped_by :
    (n : ℕ) (t : Tables) {levels days : List ℕ} {left last : ℕ} → levels ≡ freed_above RULES (t.counts.marks - n) t.levels → left ≡ taken RULES levels → last ≡ largest t.counts.steps (at days) →
    Planned t.counts.steps (rules_of t) (held_in (down_to (t.counts.marks - n) t)) t.days days →
    Popped n t (record {
      counts = last_now last (marks_now (t.counts.marks - n) (rules_now left t.counts));
      rules = t.rules;
      days = days;
      levels = levels;
      watched = t.watched;
    })
popped_by n t {levels} {days} freed counted latest planned = record {
  dropped = λ i. record {
    counts = last_now (latest i) (marks_now (t.counts.marks - n) (rules_now ((counted ∙ ap (taken RULES) freed) i) t.counts));
    rules = t.rules;
    days = days;
    levels = freed i;
    watched = t.watched;
  };
  planned = planned;
}
