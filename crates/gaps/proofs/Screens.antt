-- The gap table, the watched rules and the screen: a watched rule stands in the first list of Consequences exactly when its limit is at most its amount; and two clerks who ask the same question
-- see the same gap table.
use Prim.Native.Nat.{ℕ, ◌≤◌, ◌<◌}
use mathlib.Core.Path.{◌≡◌, subst}
use mathlib.Core.Logic.{inl, inr, ◌↔◌}
use lib.IntN.{ℤ, pos}
use lib.Signed.{◌≤ℤ◌}
use Rattle.meaning.specs.Bounds.{YARD_STEPS, NO_LIMIT}
use Rattle.meaning.specs.Rules.{Rule, rule, Always}
use Rattle.meaning.specs.Tables.{Tables, rule_at}
use Rattle.meaning.specs.Promise.{In}
use Rattle.meaning.specs.Calls.{rules_of, held_in}
use Rattle.meaning.specs.Screen.{SameQuestion, SplitOf, first_list, SameScreen}
use Rattle.meaning.proofs.Sequences.{Kept, kept_splits, run_kept}
use Rattle.meaning.proofs.Screens.{always_among, same_screen}
use Rattle.meaning.proofs.Lists.{all_in}
use Rattle.gaps.specs.Gaps.{Gaps, cell, Says, InYard, Right}
use Rattle.gaps.specs.Runs.{RunBeside}
use Rattle.gaps.proofs.Limits.{says_unique, always_limit}
use Rattle.gaps.proofs.Keeping.{run_right}

-- ---- watched rules

-- The pair of the rule has a limit in the gap table, and it is at most the rule's amount.
abbrev pub Limited : Gaps → Rule → Type 0
Limited a r = (cell a r.first r.second ≡ pos NO_LIMIT → ⊥) × (cell a r.first r.second ≤ℤ r.amount)

module _ (t : Tables) (a : Gaps) (kept : Kept t) (right : Right t a) (yard : t.counts.steps ≤ YARD_STEPS) (s : SplitOf t) where
  -- The watched rule under j holds in every arrangement exactly when it is limited so.
  watched_always : (j : ℕ) → j < t.counts.watched → Always (rules_of t) (held_in t) (rule_at t.watched j) ↔ Limited a (rule_at t.watched j)
  watched_always j below =
      let good = (kept.sound.watched_good j below).steps_in in
      always_limit (right (rule_at t.watched j).first (rule_at t.watched j).second (record { one_yard = yard; row_in = good.first_in; column_in = good.second_in })) (rule_at t.watched j).amount

  -- **A watched rule stands in the first list exactly when its limit is at most its amount.**
  pub first_list_limited : (j : ℕ) → j < t.counts.watched → In j (first_list s) ↔ Limited a (rule_at t.watched j)
  first_list_limited j below =
      let split = (kept_splits t s.one s.two s.one' s.two' s.answer s.after kept s.long_one s.long_two s.made).1 in (
        λ there. (watched_always j below).0 (all_in (λ i. (i < t.counts.watched) × Always (rules_of t) (held_in t) (rule_at t.watched i)) (first_list s) j split.in_all.holds.nothing_else there).1,
        λ limited. split.in_all.holds.all_there j below ((watched_always j below).1 limited),
      )

-- So after any sequence of calls.
pub run_first_list : (t : Tables) (a : Gaps) → RunBeside t a → t.counts.steps ≤ YARD_STEPS → (s : SplitOf t) (j : ℕ) → j < t.counts.watched → In j (first_list s) ↔ Limited a (rule_at t.watched j)
run_first_list t a run yard s = let had = run_right t a run in first_list_limited t a (run_kept t had.run) had.right yard s

-- ---- the same screen

-- A limit is one of any rules among which the same rules are held, and so is that there is none.
module _ {t u : Tables} (q : SameQuestion t u) where
  to : (r : Rule) → Always (rules_of t) (held_in t) r → Always (rules_of u) (held_in u) r
  to = always_among q.same_rules.there

  from : (r : Rule) → Always (rules_of u) (held_in u) r → Always (rules_of t) (held_in t) r
  from = always_among q.same_rules.back

  says_there : (x y : ℕ) (c : ℤ) → Says (rules_of t) (held_in t) x y c → Says (rules_of u) (held_in u) x y c
  says_there x y c (inl (e, none)) = inl (e, λ d always. none d (from (rule x y d) always))
  says_there x y c (inr (e, limit)) = inr (e, record { always = to (rule x y c) limit.always; least = λ d always. limit.least d (from (rule x y d) always) })

  -- Every cell that is kept is the same.
  pub same_cells : (a b : Gaps) → Right t a → Right u b → (x y : ℕ) → InYard t.counts.steps x y → cell a x y ≡ cell b x y
  same_cells a b here there x y yard =
      says_unique {R = rules_of u} {H = held_in u} {x = x} {y = y} (says_there x y (cell a x y) (here x y yard))
      (there x y (record { one_yard = subst (λ (n : ℕ). n ≤ YARD_STEPS) q.same_steps yard.one_yard; row_in = subst (λ (n : ℕ). x < n) q.same_steps yard.row_in; column_in = subst (λ (n : ℕ). y < n) q.same_steps yard.column_in }))

-- The same screen, and the same gap table on it.
pub record SameScreenBeside (t u : Tables) (a b : Gaps) : Type 0 where
  pub screen : SameScreen t u
  pub same_gaps : (x y : ℕ) → InYard t.counts.steps x y → cell a x y ≡ cell b x y

-- **Order does not matter**: two sequences of calls that end with the same question end with the same screen, the gap table on it.
pub run_same_screen_beside : (t u : Tables) (a b : Gaps) → RunBeside t a → RunBeside u b → SameQuestion t u → SameScreenBeside t u a b
run_same_screen_beside t u a b one other q =
    let here = run_right t a one in
    let there = run_right u b other in
    record { screen = same_screen (run_kept t here.run) (run_kept u there.run) q; same_gaps = same_cells q a b here.right there.right }
