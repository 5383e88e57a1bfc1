-- Rules added one after the other: the tables stay sound, and what was held stays.
use Prim.Native.Nat.{ℕ, ◌+◌, ◌≤◌, ◌<◌}
use native.Mathlib.Omega.{arith}
use mathlib.Core.Path.{◌≡◌, refl, sym, ◌∙◌, ap, subst}
use mathlib.Core.Bool.{Bool}
use mathlib.Core.List.{List, [], ◌∷◌}
use mathlib.Core.Logic.{◌⊎◌, inl, inr}
use lib.ListN.{length, replicate, length-replicate}
use Rattle.meaning.specs.Bounds.{STEPS, RULES, DONE}
use Rattle.meaning.specs.Rules.{Rule, InBounds, plus}
use Rattle.meaning.specs.Tables.{Tables, at, next, with_rule, with_days}
use Rattle.meaning.specs.Promise.{Given, Obeys, moved}
use Rattle.meaning.specs.Calls.{WithList, rules_of, held_in, add_meaning, Added}
use Rattle.meaning.specs.Runs.{Call}
use Rattle.meaning.proofs.Needs.{obeys_done}
use Rattle.meaning.proofs.Put.{put_old}
use Rattle.meaning.proofs.Places.{next_free, next_below, with_rule_held, with_rule_level, with_rule_levels}
use Rattle.meaning.proofs.Sequences.{Kept, call_keeps}
use Rattle.script_meaning.specs.Effect.{HeldNow, AddsAll}

-- Every rule of the list has P.
abbrev pub Each : (Rule → Type 0) → List Rule → Type 0
Each P [] = Unit {0}
Each P (r ∷ l) = P r × Each P l

-- What stays where rules are added: the steps, the marks and the watched rules, and every rule that was held, with its level. A new rule has the level that is open.
pub record Grown (t u : Tables) : Type 0 where
  pub same_steps : u.counts.steps ≡ t.counts.steps
  pub same_open : u.counts.marks ≡ t.counts.marks
  pub same_count : u.counts.watched ≡ t.counts.watched
  pub more_rules : t.counts.rules ≤ u.counts.rules
  pub same_watched : u.watched ≡ t.watched
  pub older_rules : (i : ℕ) → held_in t i → rules_of u i ≡ rules_of t i
  pub older_levels : (i : ℕ) → held_in t i → at u.levels i ≡ at t.levels i
  pub new_levels : (i : ℕ) → held_in u i → held_in t i ⊎ (at u.levels i ≡ t.counts.marks + 1)

-- What was held is held.
pub still_held : {t u : Tables} → Grown t u → (i : ℕ) → held_in t i → held_in u i
still_held g i (below, some) = (below, omega (arith, some, g.older_levels i (below, some)))

grown_refl : (t : Tables) → Grown t t
grown_refl t = record {
  same_steps = refl;
  same_open = refl;
  same_count = refl;
  more_rules = omega arith;
  same_watched = refl;
  older_rules = λ i h. refl;
  older_levels = λ i h. refl;
  new_levels = λ i h. inl h;
}

grown_more : {t u v : Tables} → Grown t u → Grown u v → Grown t v
grown_more {t} {u} {v} a b = record {
  same_steps = b.same_steps ∙ a.same_steps;
  same_open = b.same_open ∙ a.same_open;
  same_count = b.same_count ∙ a.same_count;
  more_rules = omega (arith, a.more_rules, b.more_rules);
  same_watched = b.same_watched ∙ a.same_watched;
  older_rules = λ i h. b.older_rules i (still_held a i h) ∙ a.older_rules i h;
  older_levels = λ i h. b.older_levels i (still_held a i h) ∙ a.older_levels i h;
  new_levels = λ i h. told i (b.new_levels i h);
}
  where
    told : (i : ℕ) → held_in u i ⊎ (at v.levels i ≡ u.counts.marks + 1) → held_in t i ⊎ (at v.levels i ≡ t.counts.marks + 1)
    told i (inr e) = inr (omega (arith, e, a.same_open))
    told i (inl h) = was (a.new_levels i h)
      where
        was : held_in t i ⊎ (at u.levels i ≡ t.counts.marks + 1) → held_in t i ⊎ (at v.levels i ≡ t.counts.marks + 1)
        was (inl older) = inl older
        was (inr e) = inr (b.older_levels i h ∙ e)

module _ (r : Rule) (t u : Tables) (k : Kept t) (good : InBounds t.counts.steps r) (room : t.counts.rules < RULES) (h : HeldNow r t u) where
  ring : List ℕ
  ring = replicate STEPS 0

  given_back : Given
  given_back = record { number = DONE; one = moved t.counts.steps t.days u.days; two = 0 }

  abbrev lent : Tables → WithList
  lent v = record { tables = v; list = ring }

  added : Added r (lent t) given_back.one 0 (lent u)
  unfolding given_back
  added = record { rule_held = h.rule_held; planned = h.planned; count_moved = refl; no_second = refl; list_stays = refl }

  made : Obeys (add_meaning r (lent t)) (lent t) given_back (lent u)
  unfolding ring given_back
  made =
      obeys_done (add_meaning r (lent t)) (lent t) given_back.one 0 (lent u)
      ((k.room, omega (arith, length-replicate {A = ℕ} STEPS 0)), (k.sound, (good.steps_in, (good.amount_in, (room, (h.fits, tt))))))
      added

  pub holds_kept : Kept u
  unfolding ring given_back
  holds_kept = call_keeps (Call.adds r ring ring) t u given_back made k

holds_grown : (r : Rule) (t u : Tables) → Kept t → t.counts.rules < RULES → HeldNow r t u → Grown t u
holds_grown r t u k few h = subst (Grown t) (sym h.rule_held) grown
  where
    below : next t < RULES
    below = next_below t k.sound few

    level : (i : ℕ) → plus (held_in t) (next t) i → held_in t i ⊎ (at (with_rule r t).levels i ≡ t.counts.marks + 1)
    level i (inl e) = inr (ap (at (with_rule r t).levels) e ∙ with_rule_level r t k.room below)
    level i (inr there) = inl there

    grown : Grown t (with_days u.days (with_rule r t))
    grown = record {
      same_steps = refl;
      same_open = refl;
      same_count = refl;
      more_rules = omega arith;
      same_watched = refl;
      older_rules = λ i there. put_old t.rules (next t) r i (λ e. next_free t (subst (held_in t) e there));
      older_levels = with_rule_levels r t;
      new_levels = λ i there. level i ((with_rule_held r t i k.room below).0 there);
    }

-- With one rule added there is one rule more.
pub one_more : (r : Rule) (t u : Tables) → HeldNow r t u → u.counts.rules ≡ t.counts.rules + 1
one_more r t u h = ap (λ (v : Tables). v.counts.rules) h.rule_held

-- Rules within bounds, as many as there are places for, leave sound tables, and what was held stays.
pub adds_kept :
    (l : List Rule) (t u : Tables) (clash : Bool) →
    Kept t → Each (InBounds t.counts.steps) l → t.counts.rules + length l ≤ RULES → AddsAll l t clash u → Kept u × Grown t u
adds_kept [] t u clash k good room (is, fine) = (subst Kept (sym is) k, subst (Grown t) (sym is) (grown_refl t))
adds_kept (r ∷ l) t u clash k good room (inl (unfit, (is, clashes))) = (subst Kept (sym is) k, subst (Grown t) (sym is) (grown_refl t))
adds_kept (r ∷ l) t u clash k (here, there) room (inr (v, (h, rest))) =
    let step = holds_grown r t v k (omega arith) h in
    let more = adds_kept l v u clash (holds_kept r t v k here (omega arith) h) (subst (λ (n : ℕ). Each (InBounds n) l) (sym step.same_steps) there)
    (omega (arith, one_more r t v h)) rest in
    (more.0, grown_more step more.1)
