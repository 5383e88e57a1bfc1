-- The starred cases hold, and those of the reason: a test that the checker computes over the whole table, and one law that turns a passed test into the claim.
use Prim.Native.Nat.{ℕ, zero, suc, ◌+◌, ◌-◌, ◌≤◌, ◌<◌}
use native.Mathlib.Omega.{arith}
use native.Mathlib.Decide.{ℕ_discrete, dec_le, dec_lt}
use mathlib.Core.Path.{◌≡◌, refl, sym, ◌∙◌, ap, subst}
use mathlib.Core.List.{List, [], ◌∷◌, ◌++◌}
use mathlib.Core.Bool.{Bool, true, false, not, ◌&&◌, ◌||◌, cond}
use mathlib.Core.Logic.{◌⊎◌, inl, inr}
use lib.Dec.{T, leb, ltb, eqb, leb→le, ltb→lt, lt→ltb, eqb→eq, T_not}
use lib.IntN.{ℤ, pos}
use lib.Signed.{le_z}
use lib.ListN.{length, get_or, set, take, length-append, length-set, get_or-append}
use borrow.Author.Tests.{eq-eqb, ne_eqb, le-leb, lt-leb}
use lib.Seq.{get_or-set_other, get_or-append_seam}
use Rattle.meaning.specs.Bounds.{STEPS, RULES, MARKS, WATCHED, DONE, CONFLICT, ABSENT}
use Rattle.meaning.specs.Rules.{Rule, Keeps, All, InSteps, InBounds, negation, Arrangement, Earliest, Always, Never, Fits, total, more, plus, Reason}
use Rattle.meaning.specs.Tables.{Tables, Columns, rule_at, put, at, ColumnsRoom, taken, Room, opened, with_watched, with_rule, with_mark, freed_above, without_mark, without_rule, with_days}
use Rattle.meaning.specs.Promise.{Given, bare, First, Exactly, moved}
use Rattle.meaning.specs.Calls.{WithList, WithLists, rules_of, held_in, next_in, rules_and, held_and, Opened, Added, WatchedThat, open_meaning, watch_meaning, add_meaning, mark_meaning, back_meaning, withdraw_meaning, consequences_meaning, Asked}
use Rattle.meaning.specs.Runs.{Call, Made, Run}
use Rattle.meaning.specs.Cases.{Row, Case, Days, Done, Possible, Says, Claim, Proved, starred, reasons, withdrawals}
use Rattle.meaning.proofs.Whole.{le→, →eq}
use Rattle.meaning.proofs.Theory.{rule_eq, all_implies, earliest_unique, not_both, never_is_always_not}
use Rattle.meaning.proofs.Needs.{first_same}
use Rattle.meaning.proofs.More.{more_new, more_old}
use Rattle.meaning.proofs.Shortest.{reason_unique, reason_same, reason_held}
use Rattle.meaning.proofs.Determined.{given_eq}
use Rattle.meaning.proofs.Lists.{exactly_same, filled_length, moved_same}
use Rattle.meaning.proofs.Put.{put_new, put_old, put_more}
use Rattle.meaning.proofs.Places.{cell_inside, cell_freed, free_or_held, taken_same, taken_all_free, lowest_only, freed_stays, freed_gone, next_free, next_below, with_rule_held, with_rule_level, without_rule_held, down_to_held}
use Rattle.meaning.proofs.Screens.{Among, arrangement_among}
use Rattle.meaning.proofs.Sequences.{Kept, call_keeps, run_kept}
use Rattle.meaning.proofs.Possible as can
use Rattle.meaning.proofs.Possible.{Allowed}
use Rattle.meaning.proofs.Tests.{both, nth, Below, in_bounds, in-bounds→, earliest_test, earliest_test→, all_below, all_below→, always_test, walk_test→, fits_test, fits_test→, passing, passing_exactly}
use Rattle.meaning.proofs.Rings.{Passes, more_same, total_same, same-test→, same_test, reason_test, reason_test→}

-- ---- lists by place

-- The list with a written at place k; past the end d stands between.
abbrev pub placed : {A : Type 0} → A → ℕ → A → List A → List A
placed d zero a [] = a ∷ []
placed d zero a (b ∷ l) = a ∷ l
placed d (suc k) a [] = d ∷ placed d k a []
placed d (suc k) a (b ∷ l) = b ∷ placed d k a l

placed_here : {A : Type 0} (d : A) (k : ℕ) (a : A) (l : List A) → get_or (placed d k a l) k d ≡ a
placed_here d zero a [] = refl
placed_here d zero a (b ∷ l) = refl
placed_here d (suc k) a [] = placed_here d k a []
placed_here d (suc k) a (b ∷ l) = placed_here d k a l

placed_other : {A : Type 0} (d : A) (k : ℕ) (a : A) (l : List A) (i : ℕ) → (i ≡ k → ⊥) → get_or (placed d k a l) i d ≡ get_or l i d
placed_other d zero a [] zero other = absurd (other refl)
placed_other d zero a [] (suc i) other = refl
placed_other d zero a (b ∷ l) zero other = absurd (other refl)
placed_other d zero a (b ∷ l) (suc i) other = refl
placed_other d (suc k) a [] zero other = refl
placed_other d (suc k) a [] (suc i) other = placed_other d k a [] i (λ e. other (ap suc e))
placed_other d (suc k) a (b ∷ l) zero other = refl
placed_other d (suc k) a (b ∷ l) (suc i) other = placed_other d k a l i (λ e. other (ap suc e))

placed_length : {A : Type 0} (d : A) (k : ℕ) (a : A) (l : List A) (n : ℕ) → k < n → length l ≤ n → length (placed d k a l) ≤ n
placed_length d zero a [] n h long = omega arith
placed_length d zero a (b ∷ l) n h long = omega arith
placed_length d (suc k) a [] zero h long = absurd (omega arith)
placed_length d (suc k) a [] (suc n) h long = omega (arith, placed_length d k a [] n (omega arith) (omega arith))
placed_length d (suc k) a (b ∷ l) zero h long = absurd (omega arith)
placed_length d (suc k) a (b ∷ l) (suc n) h long = omega (arith, placed_length d k a l n (omega arith) (omega arith))

-- The first place of the levels that is free, past their end where none is.
abbrev pub first_gap : List ℕ → ℕ
first_gap [] = 0
first_gap (zero ∷ l) = 0
first_gap (suc a ∷ l) = suc (first_gap l)

gap_short : (l : List ℕ) → first_gap l ≤ length l
gap_short [] = omega arith
gap_short (zero ∷ l) = omega arith
gap_short (suc a ∷ l) = omega (arith, gap_short l)

gap_free : (l : List ℕ) → at l (first_gap l) ≡ 0
gap_free [] = refl
gap_free (zero ∷ l) = refl
gap_free (suc a ∷ l) = gap_free l

gap_below : (l : List ℕ) (i : ℕ) → i < first_gap l → 0 < at l i
gap_below [] i h = absurd (omega arith)
gap_below (zero ∷ l) i h = absurd (omega arith)
gap_below (suc a ∷ l) zero h = omega arith
gap_below (suc a ∷ l) (suc i) h = gap_below l i (omega arith)

-- How many of the levels are held.
abbrev pub how_many : List ℕ → ℕ
how_many [] = 0
how_many (zero ∷ l) = how_many l
how_many (suc a ∷ l) = suc (how_many l)

taken_first : (n a : ℕ) (l : List ℕ) → taken (suc n) (a ∷ l) ≡ cond (eqb a 0) 0 1 + taken n l
unfolding taken
taken_first zero a l = omega arith
taken_first (suc n) a l = omega (arith, taken_first n a l)

taken_is : (n : ℕ) (l : List ℕ) → length l ≤ n → taken n l ≡ how_many l
taken_is n [] long = taken_all_free n [] (λ i h. refl)
taken_is zero (a ∷ l) long = absurd (omega arith)
taken_is (suc n) (zero ∷ l) long = taken_first n 0 l ∙ omega (arith, taken_is n l (omega arith))
taken_is (suc n) (suc a ∷ l) long = taken_first n (suc a) l ∙ omega (arith, one, taken_is n l (omega arith))
  where
    one : cond {A = ℕ} (eqb (suc a) 0) 0 1 ≡ 1
    one = rw (ne_eqb (suc a) 0 (λ e. omega (arith, e))) refl

-- The levels with those above k freed.
abbrev pub lowered : ℕ → List ℕ → List ℕ
lowered k [] = []
lowered k (a ∷ l) = cond (leb a (k + 1)) a 0 ∷ lowered k l

lowered_at : (k : ℕ) (l : List ℕ) (i : ℕ) → at (lowered k l) i ≡ cond (leb (at l i) (k + 1)) (at l i) 0
lowered_at k [] i = rw (le-leb 0 (k + 1) (omega arith)) refl
lowered_at k (a ∷ l) zero = refl
lowered_at k (a ∷ l) (suc i) = lowered_at k l i

lowered_length : (k : ℕ) (l : List ℕ) → length (lowered k l) ≡ length l
lowered_length k [] = refl
lowered_length k (a ∷ l) = ap suc (lowered_length k l)

-- The rules of those of the first n places that are held.
abbrev pub packed : ℕ → List ℕ → List Rule → List Rule
packed zero levels rules = []
packed (suc n) levels rules = cond (eqb (at levels n) 0) (packed n levels rules) (nth rules n ∷ packed n levels rules)

packed_there : (n : ℕ) (levels : List ℕ) (rules : List Rule) (j : ℕ) → j < n → 0 < at levels j → (i : ℕ) × (Below (packed n levels rules) i × (nth (packed n levels rules) i ≡ nth rules j))
packed_there zero levels rules j below some = absurd (omega arith)
packed_there (suc n) levels rules j below some = tell (free_or_held levels n) (ℕ_discrete j n) (λ lower. packed_there n levels rules j lower some)
  where
    Found : List Rule → Type 0
    Found l = (i : ℕ) × (Below l i × (nth l i ≡ nth rules j))

    tell : (at levels n ≡ 0) ⊎ (0 < at levels n) → Dec (j ≡ n) → (j < n → Found (packed n levels rules)) → Found (packed (suc n) levels rules)
    tell (inl e) (yes here) before = absurd (omega (arith, e, some, ap (at levels) here))
    tell (inl e) (no d) before = rw (eq-eqb (at levels n) 0 e) (before (omega arith))
    tell (inr h) (yes here) before = rw (ne_eqb (at levels n) 0 (λ e. omega (arith, e, h))) (0, (omega arith, ap (nth rules) (sym here)))
    tell (inr h) (no d) before = rw (ne_eqb (at levels n) 0 (λ e. omega (arith, e, h))) (let (i, (lower, is)) = before (omega arith) in (suc i, (omega (arith, lower), is)))

packed_from : (n : ℕ) (levels : List ℕ) (rules : List Rule) (i : ℕ) → Below (packed n levels rules) i → (j : ℕ) × ((0 < at levels j) × (nth rules j ≡ nth (packed n levels rules) i))
packed_from zero levels rules i below = absurd (omega arith)
packed_from (suc n) levels rules i below = tell (free_or_held levels n) (packed_from n levels rules) below
  where
    Came : List Rule → Type 0
    Came l = (i : ℕ) → Below l i → (j : ℕ) × ((0 < at levels j) × (nth rules j ≡ nth l i))

    first : 0 < at levels n → Came (packed n levels rules) → Came (nth rules n ∷ packed n levels rules)
    first h before zero lower = (n, (h, refl))
    first h before (suc k) lower = before k (omega arith)

    tell : (at levels n ≡ 0) ⊎ (0 < at levels n) → Came (packed n levels rules) → Below (packed (suc n) levels rules) i → (j : ℕ) × ((0 < at levels j) × (nth rules j ≡ nth (packed (suc n) levels rules) i))
    tell (inl e) before = rw (eq-eqb (at levels n) 0 e) (before i)
    tell (inr h) before = rw (ne_eqb (at levels n) 0 (λ e. omega (arith, e, h))) (first h before i)

-- A family of rules and which are held, given as lists by place.
record Listed (S : ℕ → Rule) (G : ℕ → Type 0) (levels : List ℕ) (rules : List Rule) : Type 0 where
  level_there : (i : ℕ) → G i → 0 < at levels i
  held_there : (i : ℕ) → 0 < at levels i → G i
  each : (i : ℕ) → G i → S i ≡ nth rules i

-- The rules held, as a list.
abbrev pub all_of : List ℕ → List Rule → List Rule
all_of levels rules = packed (length levels) levels rules

module _ {S : ℕ → Rule} {G : ℕ → Type 0} (levels : List ℕ) (rules : List Rule) (h : Listed S G levels rules) where
  to_packed : Among S G (nth (all_of levels rules)) (Below (all_of levels rules))
  to_packed j there =
      let (i, (below, is)) = packed_there (length levels) levels rules j (cell_inside levels j (h.level_there j there)) (h.level_there j there) in
      (i, (below, is ∙ sym (h.each j there)))

  of_packed : Among (nth (all_of levels rules)) (Below (all_of levels rules)) S G
  of_packed i below =
      let (j, (some, is)) = packed_from (length levels) levels rules i below in
      (j, (h.held_there j some, h.each j (h.held_there j some) ∙ is))

  -- The earliest plan of the list is that of the family.
  listed_earliest : {n : ℕ} {p : ℕ → ℕ} → Earliest n (nth (all_of levels rules)) (Below (all_of levels rules)) p → Earliest n S G p
  listed_earliest {p} e =
      record {
        plan = arrangement_among to_packed (λ v. pos (p v)) e.plan;
        no_later = λ q plan. e.no_later q (arrangement_among of_packed (λ v. pos (q v)) plan);
      }

-- ---- what the tables show

-- The rules and their levels by place, how many marks are open, the watched rules and the days. What stands under a free place is no rule.
pub record Shown : Type 0 where
  pub rules : List Rule
  pub levels : List ℕ
  pub marks : ℕ
  pub watched : List Rule
  pub days : List ℕ

pub record Shows (t : Tables) (m : Shown) : Type 0 where
  pub kept : Kept t
  pub steps : t.counts.steps ≡ length m.days
  pub marks : t.counts.marks ≡ m.marks
  pub watched : t.counts.watched ≡ length m.watched
  pub places : length m.levels ≤ RULES
  pub each_level : (i : ℕ) → i < RULES → at t.levels i ≡ at m.levels i
  pub each_rule : (i : ℕ) → held_in t i → rule_at t.rules i ≡ nth m.rules i
  pub each_watched : (i : ℕ) → i < t.counts.watched → rule_at t.watched i ≡ nth m.watched i
  pub each_day : (v : ℕ) → v < t.counts.steps → at t.days v ≡ at m.days v

-- The rules held.
abbrev pub held_rules : Shown → List Rule
held_rules m = all_of m.levels m.rules

-- The number i is held.
abbrev pub held_test : Shown → ℕ → Bool
held_test m i = ltb 0 (at m.levels i)

-- The rules and levels with the rule r taken in.
abbrev pub rules_with : Rule → Shown → List Rule
rules_with r m = placed (record { first = 0; second = 0; amount = pos 0 }) (first_gap m.levels) r m.rules

abbrev pub levels_with : Shown → List ℕ
levels_with m = placed 0 (first_gap m.levels) (m.marks + 1) m.levels

-- What is shown after a row.
abbrev pub next_shown : Shown → Row → Shown
next_shown m (Row.add r k days) = record { rules = rules_with r m; levels = levels_with m; marks = m.marks; watched = m.watched; days = days }
next_shown m (Row.refuse r ring sum) = m
next_shown m Row.mark = record { rules = m.rules; levels = m.levels; marks = m.marks + 1; watched = m.watched; days = m.days }
next_shown m (Row.back k days) = record { rules = m.rules; levels = lowered (m.marks - 1) m.levels; marks = m.marks - 1; watched = m.watched; days = days }
next_shown m (Row.withdraw i days) = record { rules = m.rules; levels = set m.levels i 0; marks = m.marks; watched = m.watched; days = days }
next_shown m (Row.absent i) = m
next_shown m (Row.watch r) = record { rules = m.rules; levels = m.levels; marks = m.marks; watched = m.watched ++ (r ∷ []); days = m.days }
next_shown m (Row.split all none) = m
next_shown m (Row.negate r s) = m
next_shown m (Row.next k) = m

-- ---- the test of a row

abbrev pub rest_of : List ℕ → List ℕ
rest_of [] = []
rest_of (a ∷ l) = l

abbrev pub int_same : ℤ → ℤ → Bool
int_same a b = le_z a b && le_z b a

abbrev pub rule_same : Rule → Rule → Bool
rule_same r s = (eqb r.first s.first && eqb r.second s.second) && int_same r.amount s.amount

-- A rule can be asked for: it is within bounds and there is a place for one more.
abbrev pub asked_test : Shown → Rule → Bool
asked_test m r = in_bounds (length m.days) r && ltb (how_many m.levels) RULES

-- What is known of each watched rule: that it holds in all, in none, or what keeps it from that.
abbrev pub in_all_test : Shown → ℕ → Bool
in_all_test m j = always_test (held_rules m) (nth m.watched j)

abbrev pub in_none_test : Shown → ℕ → Bool
in_none_test m j = always_test (held_rules m) (negation (nth m.watched j))

abbrev pub zeros : List ℕ → List ℕ
zeros [] = []
zeros (a ∷ l) = 0 ∷ zeros l

abbrev pub row_test : Shown → Row → Bool
row_test m (Row.add r k days) =
    (asked_test m r && (eqb (length days) (length m.days) && earliest_test (length m.days) (all_of (levels_with m) (rules_with r m)) days)) && eqb k (moved (length m.days) m.days days)
row_test m (Row.refuse r ring sum) =
    (asked_test m r && (same_test ring (first_gap m.levels ∷ rest_of ring) && int_same (total (more (nth m.rules) (first_gap m.levels) r) ring) sum))
    && reason_test (nth m.rules) (held_test m) (length m.levels) (first_gap m.levels) r (length m.days) (rest_of ring)
row_test m Row.mark = ltb m.marks MARKS
row_test m (Row.back k days) =
    (leb 1 m.marks && eqb k (how_many (lowered (m.marks - 1) m.levels)))
    && (eqb (length days) (length m.days) && earliest_test (length m.days) (all_of (lowered (m.marks - 1) m.levels) m.rules) days)
row_test m (Row.withdraw i days) = held_test m i && (eqb (length days) (length m.days) && earliest_test (length m.days) (all_of (set m.levels i 0) m.rules) days)
row_test m (Row.absent i) = not (held_test m i)
row_test m (Row.watch r) = in_bounds (length m.days) r && ltb (length m.watched) WATCHED
row_test m (Row.split all none) =
    (same_test all (passing (in_all_test m) (length m.watched)) && same_test none (passing (in_none_test m) (length m.watched)))
    && (all_below (λ j. in_all_test m j || fits_test (zeros m.days) (held_rules m) (negation (nth m.watched j))) (length m.watched)
    && all_below (λ j. in_none_test m j || fits_test (zeros m.days) (held_rules m) (nth m.watched j)) (length m.watched)
    )
row_test m (Row.negate r s) = rule_same (negation r) s && rule_same (negation s) r
row_test m (Row.next k) = eqb k (first_gap m.levels)

abbrev pub rows_test : Shown → List Row → Bool
rows_test m [] = true
rows_test m (row ∷ rows) = row_test m row && rows_test (next_shown m row) rows

abbrev pub fresh_shown : List ℕ → Shown
fresh_shown days = record { rules = []; levels = []; marks = 0; watched = []; days = days }

-- The fresh days are as many as there may be steps, and all 0.
abbrev pub fresh_test : List ℕ → Bool
fresh_test days = (leb 1 (length days) && leb (length days) STEPS) && all_below (λ v. eqb (at days v) 0) (length days)

abbrev pub case_test : Case → Bool
case_test c = fresh_test c.fresh && rows_test (fresh_shown c.fresh) c.rows

abbrev pub cases_test : List Case → Bool
cases_test [] = true
cases_test (c ∷ l) = case_test c && cases_test l

passed : T (cases_test starred)
passed = tt

-- ---- lists of rules that grow at the end

nth_old : (l : List Rule) (r : Rule) (i : ℕ) → i < length l → nth (l ++ (r ∷ [])) i ≡ nth l i
nth_old l r i h = get_or-append l (r ∷ []) (record { first = 0; second = 0; amount = pos 0 }) i h

nth_new : (l : List Rule) (r : Rule) (i : ℕ) → i ≡ length l → nth (l ++ (r ∷ [])) i ≡ r
nth_new l r i e = ap (nth (l ++ (r ∷ []))) e ∙ get_or-append_seam l r [] (record { first = 0; second = 0; amount = pos 0 })

longer : {A : Type 0} (l : List A) (a : A) → length (l ++ (a ∷ [])) ≡ length l + 1
longer l a = length-append l (a ∷ [])

-- A table after a rule was put at its end shows the longer list.
put_shows :
    (c : Columns) (k room : ℕ) (l : List Rule) (r : Rule)
    → ColumnsRoom room c
    → k < room
    → k ≡ length l
    → ((i : ℕ) → i < k → rule_at c i ≡ nth l i)
    → (i : ℕ)
    → i < k + 1
    → rule_at (put c k r) i ≡ nth (l ++ (r ∷ [])) i
put_shows c k room l r has below len old i h = tell (ℕ_discrete i k)
  where
    tell : Dec (i ≡ k) → rule_at (put c k r) i ≡ nth (l ++ (r ∷ [])) i
    tell (yes e) = ap (rule_at (put c k r)) e ∙ put_new c k room r has below ∙ sym (nth_new l r i (e ∙ len))
    tell (no n) = put_old c k r i n ∙ old i (omega arith) ∙ sym (nth_old l r i (omega (arith, len)))

-- ---- what the tests say of tables that show the lists

module _ (t : Tables) (m : Shown) (w : Shows t m) where
  -- A number is held where its level is shown.
  pub shown_held : (i : ℕ) → 0 < at m.levels i → held_in t i
  shown_held i some =
      let below : i < RULES = omega (arith, cell_inside m.levels i some, w.places) in
      (below, omega (arith, some, w.each_level i below))

  held_shown : (i : ℕ) → held_in t i → 0 < at m.levels i
  held_shown i (below, some) = omega (arith, some, w.each_level i below)

  -- How many are held.
  pub shown_count : t.counts.rules ≡ how_many m.levels
  shown_count = w.kept.sound.rules_counted ∙ taken_same RULES t.levels m.levels w.each_level ∙ taken_is RULES m.levels w.places

  -- The number that the next rule would have.
  pub shown_next : next_in t ≡ first_gap m.levels
  shown_next =
      lowest_only RULES gap t.levels (omega (arith, short, w.places)) (λ i below. omega (arith, gap_below m.levels i below, w.each_level i (omega (arith, below, short, w.places)))) (last (dec_lt gap RULES))
    where
      gap : ℕ
      gap = first_gap m.levels

      short : gap ≤ length m.levels
      short = gap_short m.levels

      last : Dec (gap < RULES) → (gap ≡ RULES) ⊎ (at t.levels gap ≡ 0)
      last (yes h) = inr (w.each_level gap h ∙ gap_free m.levels)
      last (no d) = inl (omega (arith, short, w.places))

  -- The rules held are those of the lists.
  tables_listed : Listed (rules_of t) (held_in t) m.levels m.rules
  tables_listed = record { level_there = held_shown; held_there = shown_held; each = w.each_rule }

  -- The rule can be asked for.
  asked : (r : Rule) → T (asked_test m r) → Asked r t
  asked r h =
      record {
        room = w.kept.room;
        sound = w.kept.sound;
        steps_in = bounds.steps_in;
        amount_in = bounds.amount_in;
        not_full = omega (arith, shown_count, ltb→lt (how_many m.levels) RULES parts.1);
      }
    where
      parts : T (in_bounds (length m.days) r) × T (ltb (how_many m.levels) RULES)
      parts = both (in_bounds (length m.days) r) (ltb (how_many m.levels) RULES) h

      bounds : InBounds t.counts.steps r
      bounds = subst (λ k. InBounds k r) (sym w.steps) (in-bounds→ (length m.days) r parts.0)

  -- What stands under the next number in the lists with a rule taken in, and under every other.
  new_level : (i : ℕ) → i ≡ next_in t → at (levels_with m) i ≡ m.marks + 1
  new_level i e = ap (at (levels_with m)) (e ∙ shown_next) ∙ placed_here 0 (first_gap m.levels) (m.marks + 1) m.levels

  old_level : (i : ℕ) → (i ≡ next_in t → ⊥) → at (levels_with m) i ≡ at m.levels i
  old_level i other = placed_other 0 (first_gap m.levels) (m.marks + 1) m.levels i (λ e. other (e ∙ sym shown_next))

  new_rule : (r : Rule) (i : ℕ) → i ≡ next_in t → nth (rules_with r m) i ≡ r
  new_rule r i e = ap (nth (rules_with r m)) (e ∙ shown_next) ∙ placed_here (record { first = 0; second = 0; amount = pos 0 }) (first_gap m.levels) r m.rules

  old_rule : (r : Rule) (i : ℕ) → (i ≡ next_in t → ⊥) → nth (rules_with r m) i ≡ nth m.rules i
  old_rule r i other = placed_other (record { first = 0; second = 0; amount = pos 0 }) (first_gap m.levels) r m.rules i (λ e. other (e ∙ sym shown_next))

  -- No held number is the next one.
  apart : (i : ℕ) → held_in t i → i ≡ next_in t → ⊥
  apart i held e = next_free t (subst (held_in t) e held)

  -- The rules held with a new one are the lists with it.
  with_listed : (r : Rule) → Listed (rules_and r t) (held_and t) (levels_with m) (rules_with r m)
  with_listed r = record { level_there = level_there; held_there = λ i some. held_there i some (ℕ_discrete i (next_in t)); each = each }
    where
      level_there : (i : ℕ) → held_and t i → 0 < at (levels_with m) i
      level_there i (inl e) = omega (arith, new_level i e)
      level_there i (inr held) = omega (arith, old_level i (apart i held), held_shown i held)

      held_there : (i : ℕ) → 0 < at (levels_with m) i → Dec (i ≡ next_in t) → held_and t i
      held_there i some (yes e) = inl e
      held_there i some (no d) = inr (shown_held i (omega (arith, some, old_level i d)))

      each : (i : ℕ) → held_and t i → rules_and r t i ≡ nth (rules_with r m) i
      each i (inl e) = ap (rules_and r t) e ∙ more_new (rules_of t) (next_in t) r ∙ sym (new_rule r i e)
      each i (inr held) = more_old (rules_of t) (next_in t) r i (apart i held) ∙ w.each_rule i held ∙ sym (old_rule r i (apart i held))

  earliest_with : (r : Rule) (days : List ℕ) → T (earliest_test (length m.days) (all_of (levels_with m) (rules_with r m)) days) → Earliest t.counts.steps (rules_and r t) (held_and t) (at days)
  earliest_with r days h =
      subst (λ k. Earliest k (rules_and r t) (held_and t) (at days)) (sym w.steps)
      (listed_earliest (levels_with m) (rules_with r m) (with_listed r) (earliest_test→ (length m.days) (all_of (levels_with m) (rules_with r m)) days h))

  -- The earliest plan of the rules that other tables hold, where their levels are given as a list and the rules are those of t.
  earliest_left :
      (u : Tables) (levels : List ℕ) (days : List ℕ) → length levels ≤ RULES → ((i : ℕ) → i < RULES → at u.levels i ≡ at levels i) → ((i : ℕ) → held_in u i → held_in t i) →
      T (earliest_test (length m.days) (all_of levels m.rules) days) → Earliest t.counts.steps (rules_of t) (held_in u) (at days)
  earliest_left u levels days short same fewer h =
      subst (λ k. Earliest k (rules_of t) (held_in u) (at days)) (sym w.steps) (listed_earliest levels m.rules listed (earliest_test→ (length m.days) (all_of levels m.rules) days h))
    where
      held_there : (i : ℕ) → 0 < at levels i → held_in u i
      held_there i some = let below : i < RULES = omega (arith, cell_inside levels i some, short) in (below, omega (arith, some, same i below))

      listed : Listed (rules_of t) (held_in u) levels m.rules
      listed =
          record {
            level_there = λ i held. omega (arith, held.1, same i held.0);
            held_there = held_there;
            each = λ i held. w.each_rule i (fewer i held);
          }

  -- The reason over the lists is the reason over the tables.
  to_tables : (r : Rule) (l : List ℕ) → Reason (nth m.rules) (Passes (held_test m)) (first_gap m.levels) r l → Reason (rules_of t) (held_in t) (next_in t) r l
  to_tables r l h =
      reason_same (nth m.rules) (rules_of t) (held_in t) (next_in t) r (λ i held. sym (w.each_rule i held)) l
      (reason_held (nth m.rules) (Passes (held_test m)) (held_in t) (next_in t) r
      (λ i passes. shown_held i (ltb→lt 0 (at m.levels i) passes))
      (λ i held. lt→ltb 0 (at m.levels i) (held_shown i held))
      l
      (subst (λ k. Reason (nth m.rules) (Passes (held_test m)) k r l) (sym shown_next) h))

-- ---- Add, accepted

add_holds :
    (t : Tables) (m : Shown) (w : Shows t m) (r : Rule) (k : ℕ) (days : List ℕ) (X : Tables → Type 0)
    → T (row_test m (Row.add r k days))
    → ((u : Tables) → Shows u (next_shown m (Row.add r k days)) → X u)
    → Says (Row.add r k days) t X
add_holds t m w r k days X h go l long = (whatever, possible)
  where
    parts : T (asked_test m r && (eqb (length days) (length m.days) && earliest_test (length m.days) (all_of (levels_with m) (rules_with r m)) days)) × T (eqb k (moved (length m.days) m.days days))
    parts = both (asked_test m r && (eqb (length days) (length m.days) && earliest_test (length m.days) (all_of (levels_with m) (rules_with r m)) days)) (eqb k (moved (length m.days) m.days days)) h

    plan : T (asked_test m r) × T (eqb (length days) (length m.days) && earliest_test (length m.days) (all_of (levels_with m) (rules_with r m)) days)
    plan = both (asked_test m r) (eqb (length days) (length m.days) && earliest_test (length m.days) (all_of (levels_with m) (rules_with r m)) days) parts.0

    sized : T (eqb (length days) (length m.days)) × T (earliest_test (length m.days) (all_of (levels_with m) (rules_with r m)) days)
    sized = both (eqb (length days) (length m.days)) (earliest_test (length m.days) (all_of (levels_with m) (rules_with r m)) days) plan.1

    as_long : length days ≡ length m.days
    as_long = eqb→eq (length days) (length m.days) sized.0

    ok : Asked r t
    ok = asked t m w r plan.0

    earliest : Earliest t.counts.steps (rules_and r t) (held_and t) (at days)
    earliest = earliest_with t m w r days sized.1

    b : WithList
    b = record { tables = t; list = l }

    all : Allowed (add_meaning r b) b DONE
    all = can.add_met r t l ok long (at days) earliest

    possible : (l' : List ℕ) × Possible (Call.adds r l l') t
    possible = (all.after.list, record { answer = all.answer; tables = all.after.tables; made = all.keeps })

    whatever : (g : Given) (u : Tables) (l' : List ℕ) → Made (Call.adds r l l') t g u → Done k 0 g × Days u days × X u
    whatever g u l' x = (given_eq g (record { number = DONE; one = k; two = 0 }) done count d.no_second, record { as_many = ap (λ z. z.counts.steps) is ∙ w.steps ∙ sym as_long; each = λ v e. each_day v (omega (arith, e, w.steps, as_long)) }, go u shows)
      where
        done : g.number ≡ DONE
        done = first_same (add_meaning r b).asks g.number DONE x.first_unmet (subst (First (add_meaning r b).asks) all.number_is all.keeps.first_unmet)

        d : Added r b g.one g.two (record { tables = u; list = l' })
        d = x.when_done done

        is : u ≡ with_days u.days (with_rule r t)
        is = d.rule_held

        each_day : (v : ℕ) → v < t.counts.steps → at u.days v ≡ at days v
        each_day = earliest_unique d.planned.earliest earliest

        count : g.one ≡ k
        count =
            d.count_moved
            ∙ ap (λ z. moved z t.days u.days) w.steps
            ∙ moved_same (length m.days) t.days m.days u.days days (λ v e. w.each_day v (omega (arith, e, w.steps))) (λ v e. each_day v (omega (arith, e, w.steps)))
            ∙ sym (eqb→eq k (moved (length m.days) m.days days) parts.1)

        shows : Shows u (next_shown m (Row.add r k days))
        shows = subst (λ z. Shows z (next_shown m (Row.add r k days))) (sym is) (record {
          kept = subst Kept is (call_keeps (Call.adds r l l') t u g x w.kept);
          steps = w.steps ∙ sym as_long;
          marks = w.marks;
          watched = w.watched;
          places = placed_length 0 (first_gap m.levels) (m.marks + 1) m.levels RULES (omega (arith, below, shown_next t m w)) w.places;
          each_level = λ i in_table. level i in_table (ℕ_discrete i (next_in t));
          each_rule = λ i held. sym (put_more t.rules (next_in t) RULES r w.kept.room.rules_room below i) ∙ (with_listed t m w r).each i ((with_rule_held r t i w.kept.room below).0 held);
          each_watched = w.each_watched;
          each_day = each_day;
        })
          where
            below : next_in t < RULES
            below = next_below t w.kept.sound ok.not_full

            level : (i : ℕ) → i < RULES → Dec (i ≡ next_in t) → at (with_rule r t).levels i ≡ at (levels_with m) i
            level i in_table (yes e) = ap (at (with_rule r t).levels) e ∙ with_rule_level r t w.kept.room below ∙ ap (λ z. z + 1) w.marks ∙ sym (new_level t m w i e)
            level i in_table (no d) = get_or-set_other t.levels (next_in t) i (t.counts.marks + 1) 0 d ∙ w.each_level i in_table ∙ sym (old_level t m w i d)

-- ---- Add, a conflict

int-same→ : (a b : ℤ) → T (int_same a b) → a ≡ b
int-same→ a b h = →eq a b (omega (arith, le→ a b (record { le = (both (le_z a b) (le_z b a) h).0 }), le→ b a (record { le = (both (le_z a b) (le_z b a) h).1 })))

refuse_holds :
    (t : Tables) (m : Shown) (w : Shows t m) (r : Rule) (ring : List ℕ) (sum : ℤ) (X : Tables → Type 0)
    → T (row_test m (Row.refuse r ring sum))
    → ((u : Tables) → Shows u m → X u)
    → Says (Row.refuse r ring sum) t X
refuse_holds t m w r ring sum X h go l long = (whatever, possible)
  where
    R : ℕ → Rule
    R = nth m.rules

    k : ℕ
    k = first_gap m.levels

    f : ℕ → Bool
    f = held_test m

    rest : List ℕ
    rest = rest_of ring

    parts : T (asked_test m r && (same_test ring (k ∷ rest) && int_same (total (more R k r) ring) sum)) × T (reason_test R f (length m.levels) k r (length m.days) rest)
    parts = both (asked_test m r && (same_test ring (k ∷ rest) && int_same (total (more R k r) ring) sum)) (reason_test R f (length m.levels) k r (length m.days) rest) h

    asks : T (asked_test m r) × T (same_test ring (k ∷ rest) && int_same (total (more R k r) ring) sum)
    asks = both (asked_test m r) (same_test ring (k ∷ rest) && int_same (total (more R k r) ring) sum) parts.0

    form : T (same_test ring (k ∷ rest)) × T (int_same (total (more R k r) ring) sum)
    form = both (same_test ring (k ∷ rest)) (int_same (total (more R k r) ring) sum) asks.1

    ok : Asked r t
    ok = asked t m w r asks.0

    split-ring : ring ≡ k ∷ rest
    split-ring = same-test→ ring (k ∷ rest) form.0

    there : (i : ℕ) → T (f i) → held_in t i
    there i passes = shown_held t m w i (ltb→lt 0 (at m.levels i) passes)

    in_list : (i : ℕ) → T (f i) → InSteps (length m.days) (R i)
    in_list i passes = subst (λ z. InSteps z (R i)) w.steps (subst (InSteps t.counts.steps) (w.each_rule i (there i passes)) (ok.sound.rules_good i (there i passes)).steps_in)

    found : Reason R (Passes f) k r (k ∷ rest)
    found =
        reason_test→ R f (length m.levels) k r (length m.days) rest (λ i passes. cell_inside m.levels i (ltb→lt 0 (at m.levels i) passes)) in_list
        (subst (λ z. InSteps z r) w.steps ok.steps_in) parts.1

    reason : Reason (rules_of t) (held_in t) (next_in t) r ring
    reason = to_tables t m w r ring (subst (Reason R (Passes f) k r) (sym split-ring) found)

    b : WithList
    b = record { tables = t; list = l }

    all : Allowed (add_meaning r b) b CONFLICT
    all = can.add_conflict_met r t l ring ok long reason

    possible : (l' : List ℕ) × Possible (Call.adds r l l') t
    possible = (all.after.list, record { answer = all.answer; tables = all.after.tables; made = all.keeps })

    -- The sum is the same over the tables' rules: every number of the ring is held, or the new one.
    same_sum : total (rules_and r t) ring ≡ sum
    same_sum = total_same (rules_and r t) (more R k r) ring members ∙ int-same→ (total (more R k r) ring) sum form.1
      where
        same_at : (i : ℕ) → plus (held_in t) (next_in t) i → rules_and r t i ≡ more R k r i
        same_at i g = more_same (rules_of t) R (held_in t) (next_in t) r (λ j p. w.each_rule j p) i g ∙ ap (λ z. more R z r i) (shown_next t m w)

        members : All (λ i. rules_and r t i ≡ more R k r i) ring
        members = subst (All (λ i. rules_and r t i ≡ more R k r i)) (sym split-ring) (same_at k (inl (sym (shown_next t m w))), all_implies (λ i g. same_at i (inr (there i g))) rest found.refutes.1.rest_held)

    whatever :
        (g : Given) (u : Tables) (l' : List ℕ)
        → Made (Call.adds r l l') t g u
        → (g.number ≡ CONFLICT) × (take g.one l' ≡ ring) × (total (rules_and r t) ring ≡ sum) × X u
    whatever g u l' x = (conflict, reason_unique (rules_of t) (held_in t) (next_in t) r (take g.one l') ring (x.on_conflict conflict).0.ring_given.holds reason, same_sum, go u (subst (λ z. Shows z m) (sym (x.on_conflict conflict).0.tables_stay) w))
      where
        conflict : g.number ≡ CONFLICT
        conflict = first_same (add_meaning r b).asks g.number CONFLICT x.first_unmet (subst (First (add_meaning r b).asks) all.number_is all.keeps.first_unmet)

-- ---- Mark, Watch and Back

mark_holds :
    (t : Tables) (m : Shown) (w : Shows t m) (X : Tables → Type 0)
    → T (row_test m Row.mark)
    → ((u : Tables) → Shows u (next_shown m Row.mark) → X u)
    → Says Row.mark t X
mark_holds t m w X h go = (whatever, record { answer = all.answer; tables = all.after; made = all.keeps })
  where
    full : t.counts.marks < MARKS
    full = omega (arith, w.marks, ltb→lt m.marks MARKS h)

    all : Allowed (mark_meaning t) t DONE
    all = can.mark_met t w.kept.room w.kept.sound full

    whatever : (g : Given) (u : Tables) → Made Call.marks t g u → Done 0 0 g × X u
    whatever g u x = (given_eq g (record { number = DONE; one = 0; two = 0 }) done (x.when_done done).no_values.0 (x.when_done done).no_values.1, go u shows)
      where
        done : g.number ≡ DONE
        done = first_same (mark_meaning t).asks g.number DONE x.first_unmet (subst (First (mark_meaning t).asks) all.number_is all.keeps.first_unmet)

        is : u ≡ with_mark t
        is = (x.when_done done).marked

        shows : Shows u (next_shown m Row.mark)
        shows = subst (λ z. Shows z (next_shown m Row.mark)) (sym is) (record {
          kept = subst Kept is (call_keeps Call.marks t u g x w.kept);
          steps = w.steps;
          marks = ap (λ z. z + 1) w.marks;
          watched = w.watched;
          places = w.places;
          each_level = w.each_level;
          each_rule = w.each_rule;
          each_watched = w.each_watched;
          each_day = w.each_day;
        })

watch_holds :
    (t : Tables) (m : Shown) (w : Shows t m) (r : Rule) (X : Tables → Type 0)
    → T (row_test m (Row.watch r))
    → ((u : Tables) → Shows u (next_shown m (Row.watch r)) → X u)
    → Says (Row.watch r) t X
watch_holds t m w r X h go = (whatever, record { answer = all.answer; tables = all.after; made = all.keeps })
  where
    parts : T (in_bounds (length m.days) r) × T (ltb (length m.watched) WATCHED)
    parts = both (in_bounds (length m.days) r) (ltb (length m.watched) WATCHED) h

    bounds : InBounds t.counts.steps r
    bounds = subst (λ k. InBounds k r) (sym w.steps) (in-bounds→ (length m.days) r parts.0)

    full : t.counts.watched < WATCHED
    full = omega (arith, w.watched, ltb→lt (length m.watched) WATCHED parts.1)

    all : Allowed (watch_meaning r t) t DONE
    all = can.watch_met r t w.kept.room w.kept.sound bounds.steps_in bounds.amount_in full

    whatever : (g : Given) (u : Tables) → Made (Call.watches r) t g u → Done 0 0 g × X u
    whatever g u x = (given_eq g (record { number = DONE; one = 0; two = 0 }) done (x.when_done done).no_values.0 (x.when_done done).no_values.1, go u shows)
      where
        done : g.number ≡ DONE
        done = first_same (watch_meaning r t).asks g.number DONE x.first_unmet (subst (First (watch_meaning r t).asks) all.number_is all.keeps.first_unmet)

        is : u ≡ with_watched r t
        is = (x.when_done done).watched

        shows : Shows u (next_shown m (Row.watch r))
        shows = subst (λ z. Shows z (next_shown m (Row.watch r))) (sym is) (record {
          kept = subst Kept is (call_keeps (Call.watches r) t u g x w.kept);
          steps = w.steps;
          marks = w.marks;
          watched = omega (arith, longer m.watched r, w.watched);
          places = w.places;
          each_level = w.each_level;
          each_rule = w.each_rule;
          each_watched = put_shows t.watched t.counts.watched WATCHED m.watched r w.kept.room.watched_room full w.watched w.each_watched;
          each_day = w.each_day;
        })

back_holds :
    (t : Tables) (m : Shown) (w : Shows t m) (k : ℕ) (days : List ℕ) (X : Tables → Type 0)
    → T (row_test m (Row.back k days))
    → ((u : Tables) → Shows u (next_shown m (Row.back k days)) → X u)
    → Says (Row.back k days) t X
back_holds t m w k days X h go = (whatever, record { answer = all.answer; tables = all.after; made = all.keeps })
  where
    left : ℕ
    left = m.marks - 1

    levels : List ℕ
    levels = lowered left m.levels

    parts : T (leb 1 m.marks && eqb k (how_many levels)) × T (eqb (length days) (length m.days) && earliest_test (length m.days) (all_of levels m.rules) days)
    parts = both (leb 1 m.marks && eqb k (how_many levels)) (eqb (length days) (length m.days) && earliest_test (length m.days) (all_of levels m.rules) days) h

    marked : T (leb 1 m.marks) × T (eqb k (how_many levels))
    marked = both (leb 1 m.marks) (eqb k (how_many levels)) parts.0

    sized : T (eqb (length days) (length m.days)) × T (earliest_test (length m.days) (all_of levels m.rules) days)
    sized = both (eqb (length days) (length m.days)) (earliest_test (length m.days) (all_of levels m.rules) days) parts.1

    as_long : length days ≡ length m.days
    as_long = eqb→eq (length days) (length m.days) sized.0

    some-mark : 1 ≤ t.counts.marks
    some-mark = omega (arith, w.marks, leb→le 1 m.marks marked.0)

    short : length levels ≤ RULES
    short = omega (arith, lowered_length left m.levels, w.places)

    each_level : (i : ℕ) → i < RULES → at (without_mark t).levels i ≡ at levels i
    each_level i below = ap (λ z. at (freed_above RULES (z - 1) t.levels) i) w.marks ∙ tell (dec_le (at m.levels i) (left + 1)) ∙ sym (lowered_at left m.levels i)
      where
        tell : Dec (at m.levels i ≤ left + 1) → at (freed_above RULES left t.levels) i ≡ cond (leb (at m.levels i) (left + 1)) (at m.levels i) 0
        tell (yes low) = rw (le-leb (at m.levels i) (left + 1) low) (freed_stays RULES left t.levels i (omega (arith, low, w.each_level i below)) ∙ w.each_level i below)
        tell (no high) = rw (lt-leb (at m.levels i) (left + 1) (omega arith)) (freed_gone RULES left t.levels i below (omega (arith, high, w.each_level i below)))

    fewer : (i : ℕ) → held_in (without_mark t) i → held_in t i
    fewer i held = ((down_to_held (t.counts.marks - 1) t i).0 held).0

    count : (without_mark t).counts.rules ≡ k
    count = taken_same RULES (without_mark t).levels levels each_level ∙ taken_is RULES levels short ∙ sym (eqb→eq k (how_many levels) marked.1)

    earliest : Earliest t.counts.steps (rules_of t) (held_in (without_mark t)) (at days)
    earliest = earliest_left t m w (without_mark t) levels days short each_level fewer sized.1

    all : Allowed (back_meaning t) t DONE
    all = can.back_met t w.kept.room w.kept.sound some-mark (at days) earliest

    whatever : (g : Given) (u : Tables) → Made Call.goes_back t g u → Done 0 0 g × (u.counts.rules ≡ k) × Days u days × X u
    whatever g u x = (
      given_eq g (record { number = DONE; one = 0; two = 0 }) done (x.when_done done).no_values.0 (x.when_done done).no_values.1,
      ap (λ z. z.counts.rules) is ∙ count,
      record { as_many = ap (λ z. z.counts.steps) is ∙ w.steps ∙ sym as_long; each = λ v e. each_day v (omega (arith, e, w.steps, as_long)) },
      go u shows,
    )
      where
        done : g.number ≡ DONE
        done = first_same (back_meaning t).asks g.number DONE x.first_unmet (subst (First (back_meaning t).asks) all.number_is all.keeps.first_unmet)

        is : u ≡ with_days u.days (without_mark t)
        is = (x.when_done done).dropped

        each_day : (v : ℕ) → v < t.counts.steps → at u.days v ≡ at days v
        each_day = earliest_unique (x.when_done done).planned.earliest earliest

        shows : Shows u (next_shown m (Row.back k days))
        shows = subst (λ z. Shows z (next_shown m (Row.back k days))) (sym is) (record {
          kept = subst Kept is (call_keeps Call.goes_back t u g x w.kept);
          steps = w.steps ∙ sym as_long;
          marks = ap (λ z. z - 1) w.marks;
          watched = w.watched;
          places = short;
          each_level = each_level;
          each_rule = λ i held. w.each_rule i (fewer i held);
          each_watched = w.each_watched;
          each_day = each_day;
        })

-- ---- Withdraw

withdraw_holds :
    (t : Tables) (m : Shown) (w : Shows t m) (j : ℕ) (days : List ℕ) (X : Tables → Type 0)
    → T (row_test m (Row.withdraw j days))
    → ((u : Tables) → Shows u (next_shown m (Row.withdraw j days)) → X u)
    → Says (Row.withdraw j days) t X
withdraw_holds t m w j days X h go = (whatever, record { answer = all.answer; tables = all.after; made = all.keeps })
  where
    levels : List ℕ
    levels = set m.levels j 0

    parts : T (held_test m j) × T (eqb (length days) (length m.days) && earliest_test (length m.days) (all_of levels m.rules) days)
    parts = both (held_test m j) (eqb (length days) (length m.days) && earliest_test (length m.days) (all_of levels m.rules) days) h

    sized : T (eqb (length days) (length m.days)) × T (earliest_test (length m.days) (all_of levels m.rules) days)
    sized = both (eqb (length days) (length m.days)) (earliest_test (length m.days) (all_of levels m.rules) days) parts.1

    as_long : length days ≡ length m.days
    as_long = eqb→eq (length days) (length m.days) sized.0

    there : held_in t j
    there = shown_held t m w j (ltb→lt 0 (at m.levels j) parts.0)

    short : length levels ≤ RULES
    short = omega (arith, length-set m.levels j 0, w.places)

    each_level : (i : ℕ) → i < RULES → at (without_rule j t).levels i ≡ at levels i
    each_level i below = tell (ℕ_discrete i j)
      where
        tell : Dec (i ≡ j) → at (set t.levels j 0) i ≡ at (set m.levels j 0) i
        tell (yes e) = ap (at (set t.levels j 0)) e ∙ cell_freed t.levels j ∙ sym (ap (at (set m.levels j 0)) e ∙ cell_freed m.levels j)
        tell (no d) = get_or-set_other t.levels j i 0 0 d ∙ w.each_level i below ∙ sym (get_or-set_other m.levels j i 0 0 d)

    fewer : (i : ℕ) → held_in (without_rule j t) i → held_in t i
    fewer i held = ((without_rule_held j t i).0 held).1

    earliest : Earliest t.counts.steps (rules_of t) (held_in (without_rule j t)) (at days)
    earliest = earliest_left t m w (without_rule j t) levels days short each_level fewer sized.1

    all : Allowed (withdraw_meaning j t) t DONE
    all = can.withdraw_met j t w.kept.room w.kept.sound there (at days) earliest

    whatever : (g : Given) (u : Tables) → Made (Call.withdraws j) t g u → Done 0 0 g × Days u days × X u
    whatever g u x = (
      given_eq g (record { number = DONE; one = 0; two = 0 }) done (x.when_done done).no_values.0 (x.when_done done).no_values.1,
      record { as_many = ap (λ z. z.counts.steps) is ∙ w.steps ∙ sym as_long; each = λ v e. each_day v (omega (arith, e, w.steps, as_long)) },
      go u shows,
    )
      where
        done : g.number ≡ DONE
        done = first_same (withdraw_meaning j t).asks g.number DONE x.first_unmet (subst (First (withdraw_meaning j t).asks) all.number_is all.keeps.first_unmet)

        is : u ≡ with_days u.days (without_rule j t)
        is = (x.when_done done).gone

        each_day : (v : ℕ) → v < t.counts.steps → at u.days v ≡ at days v
        each_day = earliest_unique (x.when_done done).planned.earliest earliest

        shows : Shows u (next_shown m (Row.withdraw j days))
        shows = subst (λ z. Shows z (next_shown m (Row.withdraw j days))) (sym is) (record {
          kept = subst Kept is (call_keeps (Call.withdraws j) t u g x w.kept);
          steps = w.steps ∙ sym as_long;
          marks = w.marks;
          watched = w.watched;
          places = short;
          each_level = each_level;
          each_rule = λ i held. w.each_rule i (fewer i held);
          each_watched = w.each_watched;
          each_day = each_day;
        })

absent_holds :
    (t : Tables) (m : Shown) (w : Shows t m) (j : ℕ) (X : Tables → Type 0)
    → T (row_test m (Row.absent j))
    → ((u : Tables) → Shows u m → X u)
    → Says (Row.absent j) t X
absent_holds t m w j X h go = (whatever, record { answer = all.answer; tables = all.after; made = all.keeps })
  where
    free : held_in t j → ⊥
    free held = T_not (held_test m j) h (lt→ltb 0 (at m.levels j) (held_shown t m w j held))

    all : Allowed (withdraw_meaning j t) t ABSENT
    all = can.refusal_met (withdraw_meaning j t) t ABSENT (λ e. omega arith) (λ e. omega arith) (inr (w.kept.room, inr (w.kept.sound, inl (refl, free))))

    whatever : (g : Given) (u : Tables) → Made (Call.withdraws j) t g u → (g ≡ bare ABSENT) × X u
    whatever g u x = (refused.0 ∙ ap bare number, go u (subst (λ z. Shows z m) (sym refused.1) w))
      where
        number : g.number ≡ ABSENT
        number = first_same (withdraw_meaning j t).asks g.number ABSENT x.first_unmet (subst (First (withdraw_meaning j t).asks) all.number_is all.keeps.first_unmet)

        refused : (g ≡ bare g.number) × (u ≡ t)
        refused = x.when_refused (λ e. omega (arith, e, number)) (λ e. omega (arith, e, number))

-- ---- Consequences

-- What holds in all arrangements of the list holds in all of the tables, and the other way round; so for what holds in none.
module _ (t : Tables) (m : Shown) (w : Shows t m) where
  to_list : (d : ℕ → ℤ) → Arrangement (rules_of t) (held_in t) d → Arrangement (nth (held_rules m)) (Below (held_rules m)) d
  to_list = arrangement_among (of_packed m.levels m.rules (tables_listed t m w))

  of_list : (d : ℕ → ℤ) → Arrangement (nth (held_rules m)) (Below (held_rules m)) d → Arrangement (rules_of t) (held_in t) d
  of_list = arrangement_among (to_packed m.levels m.rules (tables_listed t m w))

  -- The watched rule as the tables have it, for the one of the list.
  watched_rule : (P : Rule → Type 0) (j : ℕ) → j < length m.watched → P (nth m.watched j) → P (rule_at t.watched j)
  watched_rule P j h p = subst P (sym (w.each_watched j (omega (arith, w.watched, h)))) p

  in_all : (j : ℕ) → j < length m.watched → T (in_all_test m j) → Always (rules_of t) (held_in t) (rule_at t.watched j)
  in_all j h p = watched_rule (Always (rules_of t) (held_in t)) j h (λ d a. walk_test→ (length (held_rules m)) (held_rules m) (nth m.watched j).first (nth m.watched j).second (nth m.watched j).amount p d (to_list d a))

  in_none : (j : ℕ) → j < length m.watched → T (in_none_test m j) → Never (rules_of t) (held_in t) (rule_at t.watched j)
  in_none j h p =
      watched_rule
      (Never (rules_of t) (held_in t))
      j
      h
      ((never_is_always_not (rules_of t) (held_in t) r).1 (λ d a. walk_test→ (length (held_rules m)) (held_rules m) (negation r).first (negation r).second (negation r).amount p d (to_list d a)))
    where
      r : Rule
      r = nth m.watched j

  not_all : (j : ℕ) → j < length m.watched → T (fits_test (zeros m.days) (held_rules m) (negation (nth m.watched j))) → Always (rules_of t) (held_in t) (rule_at t.watched j) → ⊥
  not_all j h p all = not_both f.days r (subst (Keeps f.days) (w.each_watched j (omega (arith, w.watched, h))) (all f.days (of_list f.days f.arrangement))) f.kept
    where
      r : Rule
      r = nth m.watched j

      f : Fits (nth (held_rules m)) (Below (held_rules m)) (negation r)
      f = fits_test→ (zeros m.days) (held_rules m) (negation r) p

  not_none : (j : ℕ) → j < length m.watched → T (fits_test (zeros m.days) (held_rules m) (nth m.watched j)) → Never (rules_of t) (held_in t) (rule_at t.watched j) → ⊥
  not_none j h p none = none f.days (of_list f.days f.arrangement) (watched_rule (Keeps f.days) j h f.kept)
    where
      f : Fits (nth (held_rules m)) (Below (held_rules m)) (nth m.watched j)
      f = fits_test→ (zeros m.days) (held_rules m) (nth m.watched j) p

  -- A list of the numbers that pass is the list that P asks for, where each number passes or is known not to have P.
  list_is :
      (P : (ℕ → Rule) → (ℕ → Type 0) → Rule → Type 0) (f g : ℕ → Bool) (l : List ℕ)
      → ((j : ℕ) → j < length m.watched → T (f j) → P (rules_of t) (held_in t) (rule_at t.watched j))
      → ((j : ℕ) → j < length m.watched → T (g j) → P (rules_of t) (held_in t) (rule_at t.watched j) → ⊥)
      → T (same_test l (passing f (length m.watched)))
      → T (all_below (λ j. f j || g j) (length m.watched))
      → WatchedThat P t l
  list_is P f g l yes' no' same told =
      subst
      (WatchedThat P t)
      (sym (same-test→ l (passing f (length m.watched)) same))
      (subst
      (λ k. Exactly (λ j. P (rules_of t) (held_in t) (rule_at t.watched j)) k (passing f (length m.watched)))
      (sym w.watched)
      (passing_exactly (λ j. P (rules_of t) (held_in t) (rule_at t.watched j)) f (length m.watched) yes' (λ j h nf. no' j h (other (f j) (g j) (all_below→ (λ i. f i || g i) (length m.watched) told j h) nf))))
    where
      other : (a b : Bool) → T (a || b) → T (not a) → T b
      other true b h n = absurd n
      other false b h n = h

split_holds :
    (t : Tables) (m : Shown) (w : Shows t m) (all none : List ℕ) (X : Tables → Type 0)
    → T (row_test m (Row.split all none))
    → ((u : Tables) → Shows u m → X u)
    → Says (Row.split all none) t X
split_holds t m w all none X h go l k long-l long-k = (whatever, (can-be.after.one, can-be.after.two, record { answer = can-be.answer; tables = can-be.after.tables; made = can-be.keeps }))
  where
    c : ℕ
    c = length m.watched

    all' : ℕ → Bool
    all' j = fits_test (zeros m.days) (held_rules m) (negation (nth m.watched j))

    none' : ℕ → Bool
    none' j = fits_test (zeros m.days) (held_rules m) (nth m.watched j)

    parts : T (same_test all (passing (in_all_test m) c) && same_test none (passing (in_none_test m) c)) × T (all_below (λ j. in_all_test m j || all' j) c && all_below (λ j. in_none_test m j || none' j) c)
    parts = both (same_test all (passing (in_all_test m) c) && same_test none (passing (in_none_test m) c)) (all_below (λ j. in_all_test m j || all' j) c && all_below (λ j. in_none_test m j || none' j) c) h

    lists : T (same_test all (passing (in_all_test m) c)) × T (same_test none (passing (in_none_test m) c))
    lists = both (same_test all (passing (in_all_test m) c)) (same_test none (passing (in_none_test m) c)) parts.0

    told : T (all_below (λ j. in_all_test m j || all' j) c) × T (all_below (λ j. in_none_test m j || none' j) c)
    told = both (all_below (λ j. in_all_test m j || all' j) c) (all_below (λ j. in_none_test m j || none' j) c) parts.1

    is_all : WatchedThat Always t all
    is_all = list_is t m w Always (in_all_test m) all' all (in_all t m w) (not_all t m w) lists.0 told.0

    is_none : WatchedThat Never t none
    is_none = list_is t m w Never (in_none_test m) none' none (in_none t m w) (not_none t m w) lists.1 told.1

    b : WithLists
    b = record { tables = t; one = l; two = k }

    can-be : Allowed (consequences_meaning b) b DONE
    can-be = can.consequences_met t l k all none w.kept.room w.kept.sound long-l long-k is_all is_none

    whatever :
        (g : Given) (u : Tables) (l' k' : List ℕ)
        → Made (Call.asks_consequences l l' k k') t g u
        → Done (length all) (length none) g × (take (length all) l' ≡ all) × (take (length none) k' ≡ none) × X u
    whatever g u l' k' x = (
      given_eq g (record { number = DONE; one = length all; two = length none }) done one two,
      ap (λ z. take z l') (sym one) ∙ found_all,
      ap (λ z. take z k') (sym two) ∙ found_none,
      go u (subst (λ z. Shows z m) (sym (x.when_done done).tables_stay) w),
    )
      where
        done : g.number ≡ DONE
        done = first_same (consequences_meaning b).asks g.number DONE x.first_unmet (subst (First (consequences_meaning b).asks) can-be.number_is can-be.keeps.first_unmet)

        found_all : take g.one l' ≡ all
        found_all = exactly_same (λ j. Always (rules_of t) (held_in t) (rule_at t.watched j)) t.counts.watched (take g.one l') all (x.when_done done).in_all.holds is_all

        found_none : take g.two k' ≡ none
        found_none = exactly_same (λ j. Never (rules_of t) (held_in t) (rule_at t.watched j)) t.counts.watched (take g.two k') none (x.when_done done).in_none.holds is_none

        one : g.one ≡ length all
        one = sym (filled_length g.one l l' (x.when_done done).in_all) ∙ ap length found_all

        two : g.two ≡ length none
        two = sym (filled_length g.two k k' (x.when_done done).in_none) ∙ ap length found_none

-- ---- the law

rule_same→ : (r s : Rule) → T (rule_same r s) → r ≡ s
rule_same→ r s h = rule_eq r s (eqb→eq r.first s.first steps.0) (eqb→eq r.second s.second steps.1) (int-same→ r.amount s.amount parts.1)
  where
    parts : T (eqb r.first s.first && eqb r.second s.second) × T (int_same r.amount s.amount)
    parts = both (eqb r.first s.first && eqb r.second s.second) (int_same r.amount s.amount) h

    steps : T (eqb r.first s.first) × T (eqb r.second s.second)
    steps = both (eqb r.first s.first) (eqb r.second s.second) parts.0

-- A row that passes its test holds, of any tables that show the lists.
pub row_holds : (row : Row) (m : Shown) → T (row_test m row) → (t : Tables) → Shows t m → (X : Tables → Type 0) → ((u : Tables) → Shows u (next_shown m row) → X u) → Says row t X
row_holds (Row.add r k days) m h t w X go = add_holds t m w r k days X h go
row_holds (Row.refuse r ring sum) m h t w X go = refuse_holds t m w r ring sum X h go
row_holds Row.mark m h t w X go = mark_holds t m w X h go
row_holds (Row.back k days) m h t w X go = back_holds t m w k days X h go
row_holds (Row.withdraw j days) m h t w X go = withdraw_holds t m w j days X h go
row_holds (Row.absent j) m h t w X go = absent_holds t m w j X h go
row_holds (Row.watch r) m h t w X go = watch_holds t m w r X h go
row_holds (Row.split all none) m h t w X go = split_holds t m w all none X h go
row_holds (Row.negate r s) m h t w X go =
    let q = both (rule_same (negation r) s) (rule_same (negation s) r) h in
    (rule_same→ (negation r) s q.0, rule_same→ (negation s) r q.1, go t w)
row_holds (Row.next k) m h t w X go = (shown_next t m w ∙ sym (eqb→eq k (first_gap m.levels) h), go t w)

-- Rows that pass their tests hold, of any tables that show the lists.
rows_hold : (rows : List Row) (m : Shown) → T (rows_test m rows) → (t : Tables) → Shows t m → Claim t rows
rows_hold [] m h t w = tt
rows_hold (row ∷ rows) m h t w =
    let p = both (row_test m row) (rows_test (next_shown m row) rows) h in
    row_holds row m p.0 t w (λ u. Claim u rows) (rows_hold rows (next_shown m row) p.1)

-- Open on any tables with room, where X is what is claimed of the tables it leaves.
pub fresh_holds :
    (days : List ℕ)
    → T (fresh_test days)
    → (t : Tables)
    → Room t
    → (X : Tables → Type 0)
    → ((u : Tables) → Shows u (fresh_shown days) → X u)
    → ((g : Given) (u : Tables) → Made (Call.opens (length days)) t g u → Done 0 0 g × Days u days × X u) × Possible (Call.opens (length days)) t
fresh_holds days h t room X go = (whatever, record { answer = all.answer; tables = all.after; made = all.keeps })
  where
    n : ℕ
    n = length days

    size : T (leb 1 n && leb n STEPS) × T (all_below (λ v. eqb (at days v) 0) n)
    size = both (leb 1 n && leb n STEPS) (all_below (λ v. eqb (at days v) 0) n) h

    bounds : T (leb 1 n) × T (leb n STEPS)
    bounds = both (leb 1 n) (leb n STEPS) size.0

    all : Allowed (open_meaning n t) t DONE
    all = can.open_met n t room (leb→le 1 n bounds.0) (leb→le n STEPS bounds.1)

    whatever : (g : Given) (u : Tables) → Made (Call.opens n) t g u → Done 0 0 g × Days u days × X u
    whatever g u x = (given_eq g (record { number = DONE; one = 0; two = 0 }) done o.no_values.0 o.no_values.1, record { as_many = ap (λ z. z.counts.steps) is; each = each_day }, go u shows)
      where
        done : g.number ≡ DONE
        done = first_same (open_meaning n t).asks g.number DONE x.first_unmet (subst (First (open_meaning n t).asks) all.number_is all.keeps.first_unmet)

        o : Opened n t g.one g.two u
        o = x.when_done done

        is : u ≡ with_days u.days (opened n u.levels t)
        is = o.emptied

        each_day : (v : ℕ) → v < n → at u.days v ≡ at days v
        each_day v e = o.day_0 v e ∙ sym (eqb→eq (at days v) 0 (all_below→ (λ i. eqb (at days i) 0) n size.1 v e))

        shows : Shows u (fresh_shown days)
        shows = subst (λ z. Shows z (fresh_shown days)) (sym is) (record {
          kept = subst Kept is (run_kept u (Run.from_open n t g u x done));
          steps = refl;
          marks = refl;
          watched = refl;
          places = omega arith;
          each_level = λ i below. o.all_free i below;
          each_rule = λ i held. absurd (omega (arith, held.1, o.all_free i held.0));
          each_watched = λ i e. absurd (omega arith);
          each_day = each_day;
        })

-- A case that passes its test is proved.
case_holds : (c : Case) → T (case_test c) → Proved c
case_holds c h t room = fresh_holds c.fresh p.0 t room (λ u. Claim u c.rows) (rows_hold c.rows (fresh_shown c.fresh) p.1)
  where
    p : T (fresh_test c.fresh) × T (rows_test (fresh_shown c.fresh) c.rows)
    p = both (fresh_test c.fresh) (rows_test (fresh_shown c.fresh) c.rows) h

-- Every case of a list is proved.
abbrev pub AllProved : List Case → Type 0
AllProved [] = Unit {0}
AllProved (c ∷ l) = Proved c × AllProved l

-- Cases that pass their tests are proved.
cases_hold : (l : List Case) → T (cases_test l) → AllProved l
cases_hold [] h = tt
cases_hold (c ∷ l) h = let p = both (case_test c) (cases_test l) h in (case_holds c p.0, cases_hold l p.1)

-- The starred cases, all of them.
pub starred_proved : AllProved starred
starred_proved = cases_hold starred passed

-- The cases of the reason.
pub reasons_proved : AllProved reasons
reasons_proved = cases_hold reasons tt

-- The cases of Withdraw.
pub withdrawals_proved : AllProved withdrawals
withdrawals_proved = cases_hold withdrawals tt
