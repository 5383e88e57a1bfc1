-- Order does not matter, and nothing is unsaid: an arrangement of rules is one of any rules that are among them. So where no rule is missing nothing that is said is lost, and where none is missing
-- either way the same is said.
use Prim.Native.Nat.{ℕ, ◌≤◌, ◌<◌}
use native.Mathlib.Omega.{arith}
use mathlib.Core.Path.{◌≡◌, refl, sym, ◌∙◌, ap, subst}
use mathlib.Core.List.{List}
use mathlib.Core.Logic.{inr}
use lib.IntN.{ℤ, pos}
use lib.ListN.{length}
use Rattle.meaning.specs.Bounds.{RULES, DONE}
use Rattle.meaning.specs.Rules.{Rule, Keeps, Arrangement, Earliest, Always, Never, largest}
use Rattle.meaning.specs.Tables.{Tables, rule_at, at, next, Room, with_rule, with_days}
use Rattle.meaning.specs.Promise.{Given, gave, In}
use Rattle.meaning.specs.Calls.{with_list, with_lists, rules_of, held_in, WatchedThat, Split, add_meaning}
use Rattle.meaning.specs.Runs.{Call, Made, Run}
use Rattle.meaning.specs.Screen.{HeldToo, SameQuestion, SplitOf, first_list, second_list, SameScreen, NothingUnsaid}
use Rattle.meaning.proofs.Needs.{done_met}
use Rattle.meaning.proofs.Needs as needs
use Rattle.meaning.proofs.LastDay.{largest_same}
use Rattle.meaning.proofs.Determined.{given_eq}
use Rattle.meaning.proofs.Lists.{all_in, rising_same, filled_length}
use Rattle.meaning.proofs.Put.{put_old}
use Rattle.meaning.proofs.Places.{next_free, next_below, with_rule_held}
use Rattle.meaning.proofs.Sequences.{Kept, call_keeps, run_kept, kept_splits, kept_last}

-- ---- the law

-- Every rule of the family R held by H is one of the family S held by G.
abbrev pub Among : (ℕ → Rule) → (ℕ → Type 0) → (ℕ → Rule) → (ℕ → Type 0) → Type 0
Among R H S G = (i : ℕ) → H i → (j : ℕ) × (G j × (S j ≡ R i))

-- An arrangement of rules is one of those that are among them.
pub arrangement_among : {R S : ℕ → Rule} {H G : ℕ → Type 0} → Among R H S G → (d : ℕ → ℤ) → Arrangement S G d → Arrangement R H d
arrangement_among found d keeps i h = let (j, (g, is)) = found i h in subst (Keeps d) is (keeps j g)

-- So what holds in every arrangement of the fewer holds in every one of the more, what holds in none still holds in none, and no earliest day is earlier.
pub always_among : {R S : ℕ → Rule} {H G : ℕ → Type 0} → Among R H S G → (r : Rule) → Always R H r → Always S G r
always_among found r all d keeps = all d (arrangement_among found d keeps)

pub never_among : {R S : ℕ → Rule} {H G : ℕ → Type 0} → Among R H S G → (r : Rule) → Never R H r → Never S G r
never_among found r none d keeps = none d (arrangement_among found d keeps)

pub earliest_among : {n : ℕ} {R S : ℕ → Rule} {H G : ℕ → Type 0} {p q : ℕ → ℕ} → Among R H S G → Earliest n R H p → Earliest n S G q → (v : ℕ) → v < n → p v ≤ q v
earliest_among {q} found a b v below = omega (arith, a.no_later q (arrangement_among found (λ v. pos (q v)) b.plan) v below)

-- ---- on sound tables

-- On u the same is asked as on t, and no rule held in t is missing.
pub record NoneMissing (t u : Tables) : Type 0 where
  pub same_steps : t.counts.steps ≡ u.counts.steps
  pub as_many_watched : t.counts.watched ≡ u.counts.watched
  pub each_watched : (j : ℕ) → j < t.counts.watched → rule_at t.watched j ≡ rule_at u.watched j
  pub rules_there : HeldToo t u

-- What Consequences gives on sound tables.
split_given : {t : Tables} → Kept t → (a : SplitOf t) → (a.answer.number ≡ DONE) × Split (with_lists t a.one a.two) a.answer.one a.answer.two (with_lists a.after a.one' a.two')
split_given {t} k a = kept_splits t a.one a.two a.one' a.two' a.answer a.after k a.long_one a.long_two a.made

module _ {t u : Tables} (kt : Kept t) (ku : Kept u) (more : NoneMissing t u) where
  -- What is said of a watched rule on t is said on u, so its number stands in the list there.
  stays :
      (P : (ℕ → Rule) → (ℕ → Type 0) → Rule → Type 0) → ((r : Rule) → P (rules_of t) (held_in t) r → P (rules_of u) (held_in u) r) →
      (l m : List ℕ) → WatchedThat P t l → WatchedThat P u m → (j : ℕ) → In j l → In j m
  stays P said l m on-t on-u j there =
      let (below, has) = all_in (λ i. (i < t.counts.watched) × P (rules_of t) (held_in t) (rule_at t.watched i)) l j on-t.nothing_else there in
      on-u.all_there j (omega (arith, more.as_many_watched)) (subst (P (rules_of u) (held_in u)) (more.each_watched j below) (said (rule_at t.watched j) has))

  plan_there : Earliest t.counts.steps (rules_of u) (held_in u) (at u.days)
  plan_there = subst (λ (n : ℕ). Earliest n (rules_of u) (held_in u) (at u.days)) (sym more.same_steps) ku.sound.days_earliest

  -- **Where no rule is missing nothing is unsaid.**
  pub nothing_unsaid : NothingUnsaid t u
  nothing_unsaid = record {
    no_day_earlier = λ v below. omega (arith, earliest_among more.rules_there kt.sound.days_earliest plan_there v below);
    first_stays =
        λ a b. stays Always (always_among more.rules_there) (first_list a) (first_list b) (split_given kt a).1.in_all.holds (split_given ku b).1.in_all.holds;
    second_stays =
        λ a b. stays Never (never_among more.rules_there) (second_list a) (second_list b) (split_given kt a).1.in_none.holds (split_given ku b).1.in_none.holds;
  }

-- The same question, seen from either side.
forth : {t u : Tables} → SameQuestion t u → NoneMissing t u
forth q = record { same_steps = q.same_steps; as_many_watched = q.as_many_watched; each_watched = q.each_watched; rules_there = q.same_rules.there }

back : {t u : Tables} → SameQuestion t u → NoneMissing u t
back q = record {
  same_steps = sym q.same_steps;
  as_many_watched = sym q.as_many_watched;
  each_watched = λ j below. sym (q.each_watched j (omega (arith, q.as_many_watched)));
  rules_there = q.same_rules.back;
}

-- **The same question has the same screen.**
module _ {t u : Tables} (kt : Kept t) (ku : Kept u) (q : SameQuestion t u) where
  to : NothingUnsaid t u
  to = nothing_unsaid kt ku (forth q)

  from : NothingUnsaid u t
  from = nothing_unsaid ku kt (back q)

  days : (v : ℕ) → v < t.counts.steps → at t.days v ≡ at u.days v
  days v below = omega (arith, to.no_day_earlier v below, from.no_day_earlier v (omega (arith, q.same_steps)))

  last : t.counts.last ≡ u.counts.last
  last =
      kt.sound.last_largest
      ∙ largest_same t.counts.steps (at t.days) (at u.days) days
      ∙ ap (λ (n : ℕ). largest n (at u.days)) q.same_steps
      ∙ sym ku.sound.last_largest

  first_same : (a : SplitOf t) (b : SplitOf u) → first_list a ≡ first_list b
  first_same a b =
      rising_same (first_list a) (first_list b) (split_given kt a).1.in_all.holds.rising (split_given ku b).1.in_all.holds.rising (to.first_stays a b) (from.first_stays b a)

  second_same : (a : SplitOf t) (b : SplitOf u) → second_list a ≡ second_list b
  second_same a b =
      rising_same (second_list a) (second_list b) (split_given kt a).1.in_none.holds.rising (split_given ku b).1.in_none.holds.rising (to.second_stays a b) (from.second_stays b a)

  answer_same : (a : SplitOf t) (b : SplitOf u) → a.answer ≡ b.answer
  answer_same a b =
      let (done-t, split-t) = split_given kt a in
      let (done-u, split-u) = split_given ku b in
      given_eq a.answer b.answer (done-t ∙ sym done-u)
      (sym (filled_length a.answer.one a.one a.one' split-t.in_all) ∙ ap length (first_same a b) ∙ filled_length b.answer.one b.one b.one' split-u.in_all)
      (sym (filled_length a.answer.two a.two a.two' split-t.in_none) ∙ ap length (second_same a b) ∙ filled_length b.answer.two b.two b.two' split-u.in_none)

  pub same_screen : SameScreen t u
  same_screen = record {
    same_days = days;
    same_last = last;
    last_answered = λ g h t' u' x y. (kept_last t g t' kt x).1 ∙ ap (λ (k : ℕ). gave DONE k 0) last ∙ sym (kept_last u h u' ku y).1;
    same_answer = answer_same;
    same_first = first_same;
    same_second = second_same;
  }

-- ---- one accepted Add

-- No rule is missing after it.
none_missing : (r : Rule) (t : Tables) → Room t → next t < RULES → (days : List ℕ) → NoneMissing t (with_days days (with_rule r t))
none_missing r t room below days = record {
  same_steps = refl;
  as_many_watched = refl;
  each_watched = λ j below. refl;
  rules_there =
      λ i there. (i, ((with_rule_held r t i room below).1 (inr there), put_old t.rules (next t) r i (λ e. next_free t (subst (held_in t) e there))));
}

-- **Nothing is unsaid** by an accepted Add, on whatever tables: so after any sequence of calls.
pub add_unsays_nothing : (r : Rule) (l l' : List ℕ) (t u : Tables) (g : Given) → Made (Call.adds r l l') t g u → g.number ≡ DONE → NothingUnsaid t u
add_unsays_nothing r l l' t u g x done =
    let met = done_met DONE g.number (add_meaning r (with_list t l)).asks (needs.add_rises r (with_list t l)) x.first_unmet done in
    let before : Kept t = record { sound = met.1.0; room = met.0.0 } in
    nothing_unsaid before (call_keeps (Call.adds r l l') t u g x before) (subst (NoneMissing t) (sym (x.when_done done).rule_held) (none_missing r t before.room (next_below t before.sound met.1.1.1.1.0) u.days))

-- ---- after sequences of calls

-- **Order does not matter**: two sequences of calls that end with the same question end with the same screen, however they went.
pub run_same_screen : (t u : Tables) → Run t → Run u → SameQuestion t u → SameScreen t u
run_same_screen t u one other = same_screen (run_kept t one) (run_kept u other)
