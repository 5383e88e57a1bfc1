-- Trial answers as Add would, with the same days where the rule fits and the same ring where it does not.
use Prim.Native.Nat.{ℕ, ◌≤◌, ◌<◌}
use native.Mathlib.Decide.{ℕ_discrete}
use mathlib.Core.Path.{◌≡◌, refl, sym, ◌∙◌, ap}
use mathlib.Core.List.{List, ◌∷◌, tail}
use mathlib.Core.Logic.{inl, inr}
use lib.ListN.{length, take}
use Rattle.meaning.specs.Bounds.{STEPS, DONE, CONFLICT}
use Rattle.meaning.specs.Rules.{Rule}
use Rattle.meaning.specs.Tables.{Tables, at, Room}
use Rattle.meaning.specs.Promise.{Given, bare, Need, needs, First, Obeys}
use Rattle.meaning.specs.Calls.{WithList, WithLists, rules_of, held_in, next_in, add_needs, add_meaning, trial_meaning}
use Rattle.meaning.proofs.Theory.{earliest_unique}
use Rattle.meaning.proofs.Needs.{first_same}
use Rattle.meaning.proofs.Lists.{moved_same, filled_length}
use Rattle.meaning.proofs.Shortest.{reason_unique}
use Rattle.meaning.proofs.Determined.{given_eq}

-- The first need may be put in other words.
first_other : (k : ℕ) (P Q : Type 0) (l : List Need) (g : ℕ) → (P → Q) → (Q → P) → First (needs k P ∷ l) g → First (needs k Q ∷ l) g
first_other k P Q l g to from (inl a) = inl (a.0, λ q. a.1 (from q))
first_other k P Q l g to from (inr a) = inr (to a.0, a.1)

-- The answers g of Add and h of Trial agree, Add having left a and Trial b.
pub record AsAdd (r : Rule) (t : Tables) (g h : Given) (a : WithList) (b : WithLists) : Type 0 where
  pub same_answer : g ≡ h
  pub same_days : g.number ≡ DONE → (v : ℕ) → v < t.counts.steps → at a.tables.days v ≡ at b.one v
  pub same_ring : g.number ≡ CONFLICT → take g.one a.list ≡ take h.one b.two

pub trial_as_add :
    (r : Rule) (t : Tables) (ring days rings : List ℕ)
    → STEPS ≤ length ring
    → STEPS ≤ length days
    → STEPS ≤ length rings
    → (g h : Given) (a : WithList) (b : WithLists)
    → Obeys (add_meaning r (record { tables = t; list = ring })) (record { tables = t; list = ring }) g a
    → Obeys (trial_meaning r (record { tables = t; one = days; two = rings })) (record { tables = t; one = days; two = rings }) h b
    → AsAdd r t g h a b
trial_as_add r t ring days rings long-ring long-days long-rings g h a b x y =
    record {
      same_answer = tell (ℕ_discrete g.number DONE) (ℕ_discrete g.number CONFLICT);
      same_days = agree;
      same_ring = ring-same;
    }
  where
    rest : List Need
    rest = tail (add_needs r t (Room t))

    same : g.number ≡ h.number
    same =
        first_same
        (trial_meaning r (record { tables = t; one = days; two = rings })).asks
        g.number
        h.number
        (first_other _ (Room t × (STEPS ≤ length ring)) (Room t × (STEPS ≤ length days) × (STEPS ≤ length rings)) rest g.number (λ p. (p.0, long-days, long-rings)) (λ p. (p.0, long-ring)) x.first_unmet)
        y.first_unmet

    agree : g.number ≡ DONE → (v : ℕ) → v < t.counts.steps → at a.tables.days v ≡ at b.one v
    agree e = earliest_unique (x.when_done e).planned.earliest (y.when_done (sym same ∙ e)).planned.earliest

    ring-same : g.number ≡ CONFLICT → take g.one a.list ≡ take h.one b.two
    ring-same e =
        reason_unique (rules_of t) (held_in t) (next_in t) r (take g.one a.list) (take h.one b.two) (x.on_conflict e).0.ring_given.holds
        (y.on_conflict (sym same ∙ e)).0.ring_given.holds

    tell : Dec (g.number ≡ DONE) → Dec (g.number ≡ CONFLICT) → g ≡ h
    tell (yes e) conflict = given_eq g h same count ((x.when_done e).no_second ∙ sym (y.when_done (sym same ∙ e)).no_second)
      where
        count : g.one ≡ h.one
        count =
            (x.when_done e).count_moved
            ∙ moved_same t.counts.steps t.days t.days a.tables.days b.one (λ v below. refl) (agree e)
            ∙ sym (y.when_done (sym same ∙ e)).count_moved
    tell (no not_done) (yes e) = given_eq g h same long ((x.on_conflict e).1 ∙ sym (y.on_conflict (sym same ∙ e)).1)
      where
        long : g.one ≡ h.one
        long =
            sym (filled_length g.one ring a.list (x.on_conflict e).0.ring_given)
            ∙ ap length (ring-same e)
            ∙ filled_length h.one rings b.two (y.on_conflict (sym same ∙ e)).0.ring_given
    tell (no not_done) (no no_conflict) =
        (x.when_refused not_done no_conflict).0 ∙ ap bare same ∙ sym (y.when_refused (λ e. not_done (same ∙ e)) (λ e. no_conflict (same ∙ e))).0
