-- What an assertion does to the arrangements: where all its rules fit, they are those under which its term holds; where one does not fit, there is none.
use Prim.Native.Nat.{ℕ, ◌+◌, ◌≤◌, ◌<◌}
use native.Mathlib.Omega.{arith}
use mathlib.Core.Path.{◌≡◌, refl, sym, subst}
use mathlib.Core.Bool.{true, false, true≢false, false≢true}
use mathlib.Core.List.{List, [], ◌∷◌, map}
use mathlib.Core.Logic.Iff
use mathlib.Core.Logic.{inl, inr, ◌↔◌}
use lib.ListN.{length, length-set}
use lib.IntN.{ℤ}
use Rattle.meaning.specs.Bounds.{RULES}
use Rattle.meaning.specs.Rules.{Rule, Keeps, Arrangement, plus}
use Rattle.meaning.specs.Tables.{Tables, Room, rule_at, put, taken, next, with_rule, with_days}
use Rattle.meaning.specs.Calls.{rules_of, held_in}
use Rattle.meaning.proofs.Put.{put_new, put_old, put_room}
use Rattle.meaning.proofs.Places.{taken_set, lowest_found, lowest_free_there, next_free, with_rule_held}
use Rattle.reading.specs.Tree.{Term, Named, rules_of_term, Supported}
use Rattle.reading.specs.Saying.{resolved}
use Rattle.script_meaning.specs.Effect.{AddsAll, HeldNow}
use Rattle.script_meaning.specs.Terms.{Holds, AllKept}
use Rattle.script_meaning.proofs.Adding.{Each, one_more}
use Rattle.script_meaning.proofs.Truth.{term_holds}

-- The days d keep every rule of the tables.
abbrev pub KeptIn : (ℕ → ℤ) → Tables → Type 0
KeptIn d t = Arrangement (rules_of t) (held_in t) d

-- The tables have room, and the rule count is that of the places held.
pub record Counted (t : Tables) : Type 0 where
  pub room : Room t
  pub counted : t.counts.rules ≡ taken RULES t.levels

module _ (r : Rule) (t : Tables) (c : Counted t) (few : t.counts.rules < RULES) where
  next_place : next t < RULES
  next_place = lowest_found RULES t.levels (omega (arith, c.counted))

  counted_more : (v : Tables) → HeldNow r t v → Counted v
  counted_more v h = subst Counted (sym h.rule_held) now
    where
      now : Counted (with_days v.days (with_rule r t))
      now = record {
        room = record {
          rules_room = put_room t.rules (next t) RULES r c.room.rules_room;
          days_room = omega (arith, h.planned.past.same_length, c.room.days_room);
          levels_room = omega (arith, length-set t.levels (next t) (t.counts.marks + 1), c.room.levels_room);
          watched_room = c.room.watched_room;
        };
        counted = omega (
          arith,
          c.counted,
          taken_set RULES t.levels (next t) (t.counts.marks + 1) next_place (omega (arith, next_place, c.room.levels_room))
              (lowest_free_there RULES t.levels next_place) (omega arith),
        );
      }

module _ (d : ℕ → ℤ) where
  -- With one rule held more, its arrangements are those of before that keep it.
  module _ (r : Rule) (t : Tables) (days : List ℕ) (c : Counted t) (few : t.counts.rules < RULES) where
    place : next t < RULES
    place = next_place r t c few

    more-kept : KeptIn d t → Keeps d r → KeptIn d (with_days days (with_rule r t))
    more-kept old new i h = tell ((with_rule_held r t i c.room place).0 h)
      where
        tell : plus (held_in t) (next t) i → Keeps d (rule_at (put t.rules (next t) r) i)
        tell (inl e) =
            subst (λ (j : ℕ). Keeps d (rule_at (put t.rules (next t) r) j)) (sym e)
            (subst (λ (x : Rule). Keeps d x) (sym (put_new t.rules (next t) RULES r c.room.rules_room place)) new)
        tell (inr there) = subst (λ (x : Rule). Keeps d x) (sym (put_old t.rules (next t) r i (λ e. next_free t (subst (held_in t) e there)))) (old i there)

    older-kept : KeptIn d (with_days days (with_rule r t)) → KeptIn d t
    older-kept all i there =
        subst (λ (x : Rule). Keeps d x) (put_old t.rules (next t) r i (λ e. next_free t (subst (held_in t) e there))) (all i ((with_rule_held r t i c.room place).1 (inr there)))

    new-kept : KeptIn d (with_days days (with_rule r t)) → Keeps d r
    new-kept all =
        subst (λ (x : Rule). Keeps d x) (put_new t.rules (next t) RULES r c.room.rules_room place) (all (next t) ((with_rule_held r t (next t) c.room place).1 (inl refl)))

  -- All fit: what is held then is kept by exactly the days that kept what was held and keep the new rules.
  pub adds_exactly :
      (l : List Rule) (t u : Tables) → Counted t → t.counts.rules + length l ≤ RULES → AddsAll l t false u → KeptIn d u ↔ (KeptIn d t × Each (Keeps d) l)
  adds_exactly [] t u c few (is, fine) = ((λ a. (subst (KeptIn d) is a, tt)), (λ a. subst (KeptIn d) (sym is) a.0))
  adds_exactly (r ∷ l) t u c few (inl (unfit, (is, clash))) = absurd (false≢true clash)
  adds_exactly (r ∷ l) t u c few (inr (v, (h, rest))) =
      let more = adds_exactly l v u (counted_more r t c (omega arith) v h) (omega (arith, one_more r t v h)) rest in (
        (λ a. let b = more.0 a in
            let now = subst (KeptIn d) h.rule_held b.0 in
            (older-kept r t v.days c (omega arith) now, (new-kept r t v.days c (omega arith) now, b.1))),
        (λ a. more.1 (subst (KeptIn d) (sym h.rule_held) (more-kept r t v.days c (omega arith) a.0 a.1.0), a.1.1)),
      )

  -- One does not fit: no days keep what was held and the new rules.
  pub adds_none :
      (l : List Rule) (t u : Tables) → Counted t → t.counts.rules + length l ≤ RULES → AddsAll l t true u → KeptIn d t → Each (Keeps d) l → ⊥
  adds_none [] t u c few (is, fine) old new = true≢false fine
  adds_none (r ∷ l) t u c few (inl (unfit, is)) old new = unfit (record { days = d; arrangement = old; kept = new.0 })
  adds_none (r ∷ l) t u c few (inr (v, (h, rest))) old new =
      adds_none l v u (counted_more r t c (omega arith) v h) (omega (arith, one_more r t v h)) rest
      (subst (KeptIn d) (sym h.rule_held) (more-kept r t v.days c (omega arith) old new.0)) new.1

  -- Rules over names are kept by the days of the steps that the names stand for.
  over_names : (S : List ℕ → ℕ) (rs : List Named) → Each (Keeps d) (map (resolved S) rs) ↔ AllKept (λ w. d (S w)) rs
  over_names S [] = ((λ a. tt), (λ a. tt))
  over_names S (r ∷ rs) = let more = over_names S rs in ((λ a. (a.0, more.0 a.1)), (λ a. (a.0, more.1 a.1)))

  -- **An assertion whose rules all fit** leaves exactly the arrangements under which its term holds, in the standard's meaning.
  pub assertion_kept :
      (x : Term) → Supported false x → (S : List ℕ → ℕ) (t u : Tables) → Counted t → t.counts.rules + length (map (resolved S) (rules_of_term false x)) ≤ RULES →
      AddsAll (map (resolved S) (rules_of_term false x)) t false u → KeptIn d u ↔ (KeptIn d t × Holds x (λ w. d (S w)))
  assertion_kept x supported S t u c few adds =
      let rules = rules_of_term false x in
      Iff.trans (adds_exactly (map (resolved S) rules) t u c few adds) (Iff.and Iff.rfl (Iff.trans (over_names S rules) (term_holds x (λ w. d (S w)) supported)))

  -- **An assertion with a rule that does not fit**: under no arrangement of what was held does its term hold.
  pub assertion_none :
      (x : Term) → Supported false x → (S : List ℕ → ℕ) (t u : Tables) → Counted t → t.counts.rules + length (map (resolved S) (rules_of_term false x)) ≤ RULES →
      AddsAll (map (resolved S) (rules_of_term false x)) t true u → KeptIn d t → Holds x (λ w. d (S w)) → ⊥
  assertion_none x supported S t u c few adds old holds =
      let rules = rules_of_term false x in
      adds_none (map (resolved S) rules) t u c few adds old ((over_names S rules).1 ((term_holds x (λ w. d (S w)) supported).1 holds))
