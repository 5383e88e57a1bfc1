-- Any two outcomes that a promise allows on the same input are equal: the number is that of the first need not met, and what a call leaves when it is carried
-- out, on conflict and refused is fixed each time.
use Prim.Native.Nat.{ℕ}
use native.Mathlib.Decide.{ℕ_discrete}
use mathlib.Core.Path.{◌≡◌, sym, ◌∙◌, ap}
use mathlib.Core.List.{List}
use mathlib.Core.Logic.{◌⊎◌, inl, inr}
use Rattle.meaning.specs.Bounds.{RULES, DONE, CONFLICT}
use Rattle.meaning.specs.Rules.{Rule, Always, Never}
use Rattle.meaning.specs.Tables.{Tables, rule_at, opened, with_rule, without_mark, without_rule, with_days}
use Rattle.meaning.specs.Promise.{Given, bare, Meaning, Obeys, Planned, moved}
use Rattle.meaning.specs.Calls.{WithList, WithLists, rules_of, held_in, next_in, RingIn, open_meaning, watch_meaning, add_meaning, mark_meaning, back_meaning, withdraw_meaning, trial_meaning, consequences_meaning, ring_check_meaning, last_day_meaning}
use Rattle.meaning.proofs.Theory.{earliest_unique}
use Rattle.meaning.proofs.Needs.{first_same}
use Rattle.meaning.proofs.Lists.{past_same, filled_same, exactly_same}
use Rattle.meaning.proofs.Shortest.{reason_unique}

-- Two outcomes of a call are the same.
pub record Same {S : Type 0} (g h : Given) (a b : S) : Type 0 where
  pub answers : g ≡ h
  pub left : a ≡ b

-- What a call leaves when it is carried out is fixed.
abbrev pub Fixed : {S : Type 0} → Meaning S → Type 0
Fixed {S} m = (a b c d : ℕ) (after other : S) → m.done a b after → m.done c d other → (a ≡ c) × (b ≡ d) × (after ≡ other)

-- So is what it leaves on conflict.
abbrev pub FixedOnConflict : {S : Type 0} → Meaning S → Type 0
FixedOnConflict {S} m = (a c : ℕ) (after other : S) → m.conflict a after → m.conflict c other → (a ≡ c) × (after ≡ other)

-- Number and values make what is given.
pub given_eq : (g h : Given) → g.number ≡ h.number → g.one ≡ h.one → g.two ≡ h.two → g ≡ h
given_eq g h p q r i = record { number = p i; one = q i; two = r i }

module _ {S : Type 0} (m : Meaning S) (before : S) (g h : Given) (after other : S) (x : Obeys m before g after) (y : Obeys m before h other) where
  -- The numbers are equal.
  pub numbers_same : g.number ≡ h.number
  numbers_same = first_same m.asks g.number h.number x.first_unmet y.first_unmet

  -- Except on conflict all is equal.
  pub same_unless_conflict : Fixed m → (g.number ≡ CONFLICT → ⊥) → Same g h after other
  same_unless_conflict fixed nc = tell (ℕ_discrete g.number DONE)
    where
      tell : Dec (g.number ≡ DONE) → Same g h after other
      tell (yes e) = record { answers = given_eq g h numbers_same both.0 both.1; left = both.2 }
        where
          both : (g.one ≡ h.one) × (g.two ≡ h.two) × (after ≡ other)
          both = fixed g.one g.two h.one h.two after other (x.when_done e) (y.when_done (sym numbers_same ∙ e))
      tell (no e) = record { answers = rx.0 ∙ ap bare numbers_same ∙ sym ry.0; left = rx.1 ∙ sym ry.1 }
        where
          rx : (g ≡ bare g.number) × (after ≡ before)
          rx = x.when_refused e nc

          ry : (h ≡ bare h.number) × (other ≡ before)
          ry = y.when_refused (λ z. e (numbers_same ∙ z)) (λ z. nc (numbers_same ∙ z))

  -- Where what is left on conflict is fixed too, all is equal.
  pub same_whole : Fixed m → FixedOnConflict m → Same g h after other
  same_whole fixed on_conflict = tell (ℕ_discrete g.number CONFLICT)
    where
      tell : Dec (g.number ≡ CONFLICT) → Same g h after other
      tell (no e) = same_unless_conflict fixed e
      tell (yes e) =
          let cx = x.on_conflict e in
          let cy = y.on_conflict (sym numbers_same ∙ e) in
          let (one, left) = on_conflict g.one h.one after other cx.0 cy.0 in
          record { answers = given_eq g h numbers_same one (cx.1 ∙ sym cy.1); left = left }

  -- A call that knows no conflict is determined whole.
  pub determined : Fixed m → ((a : ℕ) (s : S) → m.conflict a s → ⊥) → Same g h after other
  determined fixed none = same_unless_conflict fixed (λ e. none g.one after (x.on_conflict e).0)

-- ---- each call

pub open_fixed : (n : ℕ) (t : Tables) → Fixed (open_meaning n t)
open_fixed n t a b c d u w x y = (
  x.no_values.0 ∙ sym y.no_values.0,
  x.no_values.1 ∙ sym y.no_values.1,
  x.emptied ∙ (λ i. with_days (days i) (opened n (levels i) t)) ∙ sym y.emptied,
)
  where
    days : u.days ≡ w.days
    days = past_same n t.days u.days w.days x.past y.past (λ v h. x.day_0 v h ∙ sym (y.day_0 v h))

    levels : u.levels ≡ w.levels
    levels = past_same RULES t.levels u.levels w.levels x.past_levels y.past_levels (λ i h. x.all_free i h ∙ sym (y.all_free i h))

pub watch_fixed : (r : Rule) (t : Tables) → Fixed (watch_meaning r t)
watch_fixed r t a b c d u w x y = (x.no_values.0 ∙ sym y.no_values.0, x.no_values.1 ∙ sym y.no_values.1, x.watched ∙ sym y.watched)

-- Two lists that hold the earliest plan in their first n places, written from the same list, are equal.
planned_same : {n : ℕ} {R : ℕ → Rule} {H : ℕ → Type 0} {before a b : List ℕ} → Planned n R H before a → Planned n R H before b → a ≡ b
planned_same {n} {R} {H} {before} {a} {b} x y = past_same n before a b x.past y.past (earliest_unique x.earliest y.earliest)

pub add_fixed : (r : Rule) (s : WithList) → Fixed (add_meaning r s)
add_fixed r s a b c d u w x y = (
  x.count_moved ∙ ap (moved s.tables.counts.steps s.tables.days) days ∙ sym y.count_moved,
  x.no_second ∙ sym y.no_second,
  λ i. record { tables = tables i; list = (x.list_stays ∙ sym y.list_stays) i },
)
  where
    days : u.tables.days ≡ w.tables.days
    days = planned_same x.planned y.planned

    tables : u.tables ≡ w.tables
    tables = x.rule_held ∙ ap (λ l. with_days l (with_rule r s.tables)) days ∙ sym y.rule_held

pub mark_fixed : (t : Tables) → Fixed (mark_meaning t)
mark_fixed t a b c d u w x y = (x.no_values.0 ∙ sym y.no_values.0, x.no_values.1 ∙ sym y.no_values.1, x.marked ∙ sym y.marked)

pub back_fixed : (t : Tables) → Fixed (back_meaning t)
back_fixed t a b c d u w x y = (
  x.no_values.0 ∙ sym y.no_values.0,
  x.no_values.1 ∙ sym y.no_values.1,
  x.dropped ∙ ap (λ l. with_days l (without_mark t)) (planned_same x.planned y.planned) ∙ sym y.dropped,
)

pub withdraw_fixed : (j : ℕ) (t : Tables) → Fixed (withdraw_meaning j t)
withdraw_fixed j t a b c d u w x y = (
  x.no_values.0 ∙ sym y.no_values.0,
  x.no_values.1 ∙ sym y.no_values.1,
  x.gone ∙ ap (λ l. with_days l (without_rule j t)) (planned_same x.planned y.planned) ∙ sym y.gone,
)

pub trial_fixed : (r : Rule) (s : WithLists) → Fixed (trial_meaning r s)
trial_fixed r s a b c d u w x y = (
  x.count_moved ∙ ap (moved s.tables.counts.steps s.tables.days) days ∙ sym y.count_moved,
  x.no_second ∙ sym y.no_second,
  λ i. record { tables = (x.tables_stay ∙ sym y.tables_stay) i; one = days i; two = (x.two_stays ∙ sym y.two_stays) i },
)
  where
    days : u.one ≡ w.one
    days = planned_same x.planned y.planned

pub consequences_fixed : (s : WithLists) → Fixed (consequences_meaning s)
consequences_fixed s a b c d u w x y =
    (all.0, none.0, λ i. record { tables = (x.tables_stay ∙ sym y.tables_stay) i; one = all.1 i; two = none.1 i })
  where
    t : Tables
    t = s.tables

    all : (a ≡ c) × (u.one ≡ w.one)
    all = filled_same (exactly_same (λ j. Always (rules_of t) (held_in t) (rule_at t.watched j)) t.counts.watched) a c s.one u.one w.one x.in_all y.in_all

    none : (b ≡ d) × (u.two ≡ w.two)
    none = filled_same (exactly_same (λ j. Never (rules_of t) (held_in t) (rule_at t.watched j)) t.counts.watched) b d s.two u.two w.two x.in_none y.in_none

pub ring_check_fixed : (r : Rule) (s : WithList) → Fixed (ring_check_meaning r s)
ring_check_fixed r s a b c d u w x y = (go x.verdict y.verdict, x.no_second ∙ sym y.no_second, x.all_stays ∙ sym y.all_stays)
  where
    go : {P : Type 0} → ((a ≡ 1) × P) ⊎ ((a ≡ 0) × (P → ⊥)) → ((c ≡ 1) × P) ⊎ ((c ≡ 0) × (P → ⊥)) → a ≡ c
    go (inl p) (inl q) = p.0 ∙ sym q.0
    go (inl p) (inr q) = absurd (q.1 p.1)
    go (inr p) (inl q) = absurd (p.1 q.1)
    go (inr p) (inr q) = p.0 ∙ sym q.0

pub last_day_fixed : (t : Tables) → Fixed (last_day_meaning t)
last_day_fixed t a b c d u w x y = (x.day ∙ sym y.day, x.no_second ∙ sym y.no_second, x.all_stays ∙ sym y.all_stays)

-- The eight calls that know no conflict.
pub open_determined : (n : ℕ) (t : Tables) (g h : Given) (u w : Tables) → Obeys (open_meaning n t) t g u → Obeys (open_meaning n t) t h w → Same g h u w
open_determined n t g h u w x y = determined (open_meaning n t) t g h u w x y (open_fixed n t) (λ a s z. z)

pub watch_determined : (r : Rule) (t : Tables) (g h : Given) (u w : Tables) → Obeys (watch_meaning r t) t g u → Obeys (watch_meaning r t) t h w → Same g h u w
watch_determined r t g h u w x y = determined (watch_meaning r t) t g h u w x y (watch_fixed r t) (λ a s z. z)

pub mark_determined : (t : Tables) (g h : Given) (u w : Tables) → Obeys (mark_meaning t) t g u → Obeys (mark_meaning t) t h w → Same g h u w
mark_determined t g h u w x y = determined (mark_meaning t) t g h u w x y (mark_fixed t) (λ a s z. z)

pub back_determined : (t : Tables) (g h : Given) (u w : Tables) → Obeys (back_meaning t) t g u → Obeys (back_meaning t) t h w → Same g h u w
back_determined t g h u w x y = determined (back_meaning t) t g h u w x y (back_fixed t) (λ a s z. z)

pub withdraw_determined : (j : ℕ) (t : Tables) (g h : Given) (u w : Tables) → Obeys (withdraw_meaning j t) t g u → Obeys (withdraw_meaning j t) t h w → Same g h u w
withdraw_determined j t g h u w x y = determined (withdraw_meaning j t) t g h u w x y (withdraw_fixed j t) (λ a s z. z)

pub consequences_determined : (s : WithLists) (g h : Given) (u w : WithLists) → Obeys (consequences_meaning s) s g u → Obeys (consequences_meaning s) s h w → Same g h u w
consequences_determined s g h u w x y = determined (consequences_meaning s) s g h u w x y (consequences_fixed s) (λ a v z. z)

pub ring_check_determined : (r : Rule) (s : WithList) (g h : Given) (u w : WithList) → Obeys (ring_check_meaning r s) s g u → Obeys (ring_check_meaning r s) s h w → Same g h u w
ring_check_determined r s g h u w x y = determined (ring_check_meaning r s) s g h u w x y (ring_check_fixed r s) (λ a v z. z)

pub last_day_determined : (t : Tables) (g h : Given) (u w : Tables) → Obeys (last_day_meaning t) t g u → Obeys (last_day_meaning t) t h w → Same g h u w
last_day_determined t g h u w x y = determined (last_day_meaning t) t g h u w x y (last_day_fixed t) (λ a s z. z)

-- ---- the calls that know a conflict

-- Two lists that hold the ring of a conflict, written from the same list, are equal, and so are the two lengths: there is one reason.
rings_same : (r : Rule) (t : Tables) (k j : ℕ) (before a b : List ℕ) → RingIn r t k before a → RingIn r t j before b → (k ≡ j) × (a ≡ b)
rings_same r t = filled_same (reason_unique (rules_of t) (held_in t) (next_in t) r)

pub add_conflict_fixed : (r : Rule) (s : WithList) → FixedOnConflict (add_meaning r s)
add_conflict_fixed r s a c u w x y =
    let (long, list) = rings_same r s.tables a c s.list u.list w.list x.ring_given y.ring_given in
    (long, λ i. record { tables = (x.tables_stay ∙ sym y.tables_stay) i; list = list i })

pub trial_conflict_fixed : (r : Rule) (s : WithLists) → FixedOnConflict (trial_meaning r s)
trial_conflict_fixed r s a c u w x y =
    let (long, two) = rings_same r s.tables a c s.two u.two w.two x.ring_given y.ring_given in
    (long, λ i. record { tables = (x.tables_stay ∙ sym y.tables_stay) i; one = (x.one_stays ∙ sym y.one_stays) i; two = two i })

pub add_determined : (r : Rule) (s : WithList) (g h : Given) (u w : WithList) → Obeys (add_meaning r s) s g u → Obeys (add_meaning r s) s h w → Same g h u w
add_determined r s g h u w x y = same_whole (add_meaning r s) s g h u w x y (add_fixed r s) (add_conflict_fixed r s)

pub trial_determined : (r : Rule) (s : WithLists) (g h : Given) (u w : WithLists) → Obeys (trial_meaning r s) s g u → Obeys (trial_meaning r s) s h w → Same g h u w
trial_determined r s g h u w x y = same_whole (trial_meaning r s) s g h u w x y (trial_fixed r s) (trial_conflict_fixed r s)
