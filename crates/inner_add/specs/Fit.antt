-- What trying a rule comes to, over the columns of rules and the days alone: it fits and is held now, or it does not and nothing changed. H says which
-- numbers were held, and k is the number that the rule gets; `last` is the last day before, where that is known, and `last'` the one after.
use Rattle.std.specs.Prelude.{ℕ, ◌+◌, ◌≡◌, List, ℤ, Option, Some, None}
use Rattle.meaning.specs.declared.Counts.{Counts}
use Rattle.meaning.specs.Rules.{Rule, Fits, largest, more, plus, rule}
use Rattle.meaning.specs.Tables.{Columns, rule_at, at, put, rules_now, last_now}
use Rattle.meaning.specs.Promise as promise
use Rattle.inner_add.specs.declared.Risen.{Risen}
use Rattle.lent.specs.Lent.{columns}
use Rattle.spread.specs.Ring.{Reached, Lacks}

-- The rule r is written under k, the days are the earliest plan with it, `moved` is how many steps have a day different from before, and the last day is brought up to date.
pub record Taken (n : ℕ) (H : ℕ → Type 0) (k : ℕ) (r : Rule) (before : Columns) (days : List ℕ) (last moved : ℕ) (after : Columns) (days' : List ℕ) (last' : ℕ) : Type 0 where
  pub written : after ≡ put before k r
  pub planned : promise.Planned n (more (rule_at before) k r) (plus H k) days days'
  pub count_moved : moved ≡ promise.moved n days days'
  pub last_day : last ≡ largest n (at days) → last' ≡ largest n (at days')

-- The rule r does not fit, and nothing changed.
pub record Left (H : ℕ → Type 0) (r : Rule) (before : Columns) (days : List ℕ) (after : Columns) (days' : List ℕ) : Type 0 where
  pub unfit : Fits (rule_at before) H r → ⊥
  pub rules_stay : after ≡ before
  pub days_stay : days' ≡ days

-- The answer says which of the two it is, and where the rule fits how the days rose.
abbrev pub Tells : ℕ → (ℕ → Type 0) → ℕ → Rule → Columns → List ℕ → ℕ → Option Risen → Columns → List ℕ → Type 0
Tells n H k r before days last (Some risen) after days' = Taken n H k r before days last risen.moved after days' risen.last
Tells n H k r before days last None after days' = Left H r before days after days'

-- The same; and where the rule x, y, c does not fit, the gain that it asks of y has reached x, from which its ring is found.
pub record TellsWhy
    (n : ℕ) (H : ℕ → Type 0) (k : ℕ) (xs ys : List ℕ) (cs : List ℤ) (days : List ℕ) (x y : ℕ) (c : ℤ) (last : ℕ) (answer : Option Risen) (xs' ys' : List ℕ) (cs' : List ℤ) (days' gains by : List ℕ) : Type 0 where
  pub tells : Tells n H k (rule x y c) (columns xs ys cs) days last answer (columns xs' ys' cs') days'
  pub reached : answer ≡ None → Reached n H k xs' ys' cs' days' gains by x y
  pub lacks : answer ≡ None → Lacks days' gains x y c

-- The first n places of the list have the days with the rule r, `moved` of them other than the days.
pub record Shown (n : ℕ) (H : ℕ → Type 0) (k : ℕ) (r : Rule) (before : Columns) (days list : List ℕ) (moved : ℕ) (list' : List ℕ) : Type 0 where
  pub planned : promise.Planned n (more (rule_at before) k r) (plus H k) list list'
  pub count_moved : moved ≡ promise.moved n days list'

-- The rule r does not fit, and the list is as before.
pub record Unshown (H : ℕ → Type 0) (r : Rule) (before : Columns) (list list' : List ℕ) : Type 0 where
  pub unfit : Fits (rule_at before) H r → ⊥
  pub list_stays : list' ≡ list

-- What trying a rule shows: the answer says which of the two it is.
abbrev pub Shows : ℕ → (ℕ → Type 0) → ℕ → Rule → Columns → List ℕ → List ℕ → Option ℕ → List ℕ → Type 0
Shows n H k r before days list (Some moved) list' = Shown n H k r before days list moved list'
Shows n H k r before days list None list' = Unshown H r before list list'

-- The counts with one more rule, and the last day then.
abbrev pub one_more : ℕ → Counts → Counts
one_more last counts = last_now last (rules_now (counts.rules + 1) counts)
