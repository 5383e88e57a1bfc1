-- Beside sound tables of one yard every pair has a cell that says what is so, and it is near; whether a gap table is right can be told; with a rule added and the
-- table raised it is right again.
use Prim.Native.Nat.{ℕ, ◌-◌, ◌*◌, ◌≤◌, ◌<◌}
use native.Mathlib.Decide.{dec_le, dec_lt}
use mathlib.Core.Path.{subst}
use mathlib.Core.List.{List}
use lib.IntN.{ℤ, ℤ_discrete}
use Rattle.meaning.specs.Bounds.{YARD_STEPS, RULES, LARGEST}
use Rattle.meaning.specs.Rules.{Rule, InSteps, InAmount, InBounds, Earliest}
use Rattle.meaning.specs.Tables.{Tables, at, next, Room, Sound, with_rule, with_days}
use Rattle.meaning.specs.Calls.{rules_of, held_in, rules_and, held_and}
use Rattle.meaning.proofs.Below.{both?, in_words?, all_below?}
use Rattle.meaning.proofs.More.{more_all}
use Rattle.meaning.proofs.DayBound.{day_bound}
use Rattle.meaning.proofs.Places.{held?, next_free, next_below, with_rule_held}
use Rattle.meaning.proofs.Put.{put_more}
use Rattle.gaps.specs.Gaps.{Gaps, cell, Says, InYard, Right, Remade}
use Rattle.gaps.specs.Slacks.{Slacks, stages, cell_of, Near, Raised}
use Rattle.gaps.proofs.Stages.{slacks_say, slacks_near}
use Rattle.gaps.proofs.Limits.{says_unique, says_same}
use Rattle.gaps.proofs.Making.{slacks_exist}
use Rattle.gaps.proofs.Raising.{raised_says}

-- Slacks of single rules exist over the days of sound tables.
pub slacks_of : (t : Tables) → Sound t → (W : ℕ → ℕ → ℕ) × Slacks t.counts.steps (rules_of t) (held_in t) (at t.days) W
slacks_of t sound = slacks_exist t.counts.steps RULES (rules_of t) (held_in t) (at t.days) sound.days_earliest.plan (held? t) (λ i held. held.0)

-- The days of sound tables are not past the steps but one times the largest amount.
pub sound_days : (t : Tables) → Sound t → (v : ℕ) → v < t.counts.steps → at t.days v ≤ (t.counts.steps - 1) * LARGEST
sound_days t sound = day_bound t.counts.steps (rules_of t) (held_in t) (at t.days) sound.rules_good sound.days_earliest

-- The cell of the slack of a pair, after all stages, says what is so.
pub slack_says :
    (t : Tables) → Sound t → (W : ℕ → ℕ → ℕ) → Slacks t.counts.steps (rules_of t) (held_in t) (at t.days) W → (x y : ℕ) → InYard t.counts.steps x y →
    Says (rules_of t) (held_in t) x y (cell_of (at t.days) x y (stages t.counts.steps W x y))
slack_says t sound W slacks x y yard =
    slacks_say t.counts.steps (rules_of t) (held_in t) (at t.days) W slacks sound.rules_good yard.one_yard (sound_days t sound) sound.days_earliest.plan
    x y yard.row_in yard.column_in

-- Every pair of one yard has a cell that says what is so, and it is near.
pub limit_cell : (t : Tables) → Sound t → (x y : ℕ) → InYard t.counts.steps x y → (z : ℤ) × Says (rules_of t) (held_in t) x y z × Near z
limit_cell t sound x y yard = (
  cell_of (at t.days) x y (stages t.counts.steps W x y),
  slack_says t sound W slacks x y yard,
  slacks_near t.counts.steps (rules_of t) (held_in t) (at t.days) W slacks sound.rules_good yard.one_yard (sound_days t sound) x y yard.row_in yard.column_in,
)
  where
    W : ℕ → ℕ → ℕ
    W = (slacks_of t sound).0

    slacks : Slacks t.counts.steps (rules_of t) (held_in t) (at t.days) W
    slacks = (slacks_of t sound).1

-- Whether a cell says what is so can be told.
pub says? : (t : Tables) → Sound t → (x y : ℕ) → InYard t.counts.steps x y → (c : ℤ) → Dec (Says (rules_of t) (held_in t) x y c)
says? t sound x y yard c = told (limit_cell t sound x y yard)
  where
    told : (z : ℤ) × Says (rules_of t) (held_in t) x y z × Near z → Dec (Says (rules_of t) (held_in t) x y c)
    told (z, says, near) =
        in_words? (λ e. subst (Says (rules_of t) (held_in t) x y) e says) (λ other. says_unique {R = rules_of t} {H = held_in t} {x = x} {y = y} says other) (ℤ_discrete z c)

-- Whether the cell of a pair is kept can be told.
pub in_yard? : (n x y : ℕ) → Dec (InYard n x y)
in_yard? n x y =
    in_words?
    (λ h. record { one_yard = h.0; row_in = h.1.0; column_in = h.1.1 })
    (λ yard. (yard.one_yard, (yard.row_in, yard.column_in)))
    (both? (dec_le n YARD_STEPS) (both? (dec_lt x n) (dec_lt y n)))

-- Whether a gap table is right beside sound tables can be told.
pub right? : (t : Tables) → Sound t → (gaps : Gaps) → Dec (Right t gaps)
right? t sound gaps =
    in_words?
    (λ all x y yard. all x yard.row_in y yard.column_in yard)
    (λ right x in-x y in-y. right x y)
    (all_below? (λ x. (y : ℕ) → y < n → So x y) (λ x. all_below? (So x) (λ y. so? x y (in_yard? n x y)) n) n)
  where
    n : ℕ
    n = t.counts.steps

    So : ℕ → ℕ → Type 0
    So x y = InYard n x y → Says (rules_of t) (held_in t) x y (cell gaps x y)

    so? : (x y : ℕ) → Dec (InYard n x y) → Dec (So x y)
    so? x y (yes yard) = in_words? (λ says in-yard. says) (λ so. so yard) (says? t sound x y yard (cell gaps x y))
    so? x y (no outside) = yes (λ yard. absurd (outside yard))

-- The cells of a gap table that is right are near.
pub right_near : (t : Tables) → Sound t → (gaps : Gaps) → Right t gaps → (x y : ℕ) → InYard t.counts.steps x y → Near (cell gaps x y)
right_near t sound gaps right x y yard =
    subst Near (says_unique {R = rules_of t} {H = held_in t} {x = x} {y = y} (limit_cell t sound x y yard).1 (right x y yard)) (limit_cell t sound x y yard).2

-- With a rule added that fits, under the free number, and the table raised, it is right again.
pub raised_right :
    (r : Rule) (t : Tables) (days : List ℕ) → Room t → Sound t → InSteps t.counts.steps r → InAmount r.amount → t.counts.rules < RULES →
    Earliest t.counts.steps (rules_and r t) (held_and t) (at days) → (before after : Gaps) → Right t before →
    Raised t.counts.steps r.first r.second r.amount before after → Right (with_days days (with_rule r t)) after
raised_right r t days room sound steps amount not_full earliest before after right raised x y yard =
    says_same (rules_and r t) (rules_of (with_rule r t)) (held_and t) (held_in (with_rule r t))
    (λ i. (with_rule_held r t i room below).1) (λ i. (with_rule_held r t i room below).0) (λ i held. put_more t.rules (next t) RULES r room.rules_room below i)
    x y (cell after x y)
    (raised_says n (rules_of t) (held_in t) (next t) r (at days) ((n - 1) * LARGEST) (cell before) (next_free t) sound.rules_good new earliest.plan
    (day_bound n (rules_and r t) (held_and t) (at days) (more_all (InBounds n) (rules_of t) (held_in t) (next t) r new sound.rules_good) earliest)
    (λ i j in-i in-j. right i j (inside i j in-i in-j))
    (λ i j in-i in-j. right_near t sound before right i j (inside i j in-i in-j))
    x y yard.row_in yard.column_in (cell after x y) (raised.smaller x y yard))
  where
    n : ℕ
    n = t.counts.steps

    below : next t < RULES
    below = next_below t sound not_full

    new : InBounds n r
    new = record { steps_in = steps; amount_in = amount }

    inside : (i j : ℕ) → i < n → j < n → InYard n i j
    inside i j in-i in-j = record { one_yard = yard.one_yard; row_in = in-i; column_in = in-j }

-- And it is remade.
pub raised_remade :
    (r : Rule) (t : Tables) (days : List ℕ) → Room t → Sound t → InSteps t.counts.steps r → InAmount r.amount → t.counts.rules < RULES →
    Earliest t.counts.steps (rules_and r t) (held_and t) (at days) → (before after : Gaps) → Right t before →
    Raised t.counts.steps r.first r.second r.amount before after → Remade (with_days days (with_rule r t)) before after
raised_remade r t days room sound steps amount not_full earliest before after right raised = record {
  right = raised_right r t days room sound steps amount not_full earliest before after right raised;
  others = raised.others;
  as_many = raised.as_many;
  as_long = raised.as_long;
}
