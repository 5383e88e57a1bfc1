-- Where all rules speak of steps below e alone, a rule can be tried on these e of n steps: the steps from e on keep their days, which are their earliest still.
use Prim.Native.Nat.{ℕ, zero, suc, ◌≤◌, ◌<◌}
use native.Mathlib.Omega.{arith}
use native.Mathlib.Decide.{dec_lt, dec_le}
use mathlib.Core.Path.{◌≡◌, refl, sym, ◌∙◌, subst}
use mathlib.Core.Bool.{cond}
use lib.Dec.{ltb}
use mathlib.Core.List.{List}
use lib.IntN.{ℤ, pos}
use borrow.Author.Tests.{eq-eqb, lt-ltb, le-ltb}
use Rattle.meaning.specs.Rules.{Rule, InSteps, Earliest, Plan, more, plus, rule}
use Rattle.meaning.specs.Tables.{Columns, at}
use Rattle.meaning.specs.Promise as promise
use Rattle.meaning.proofs.LastDay.{largest_beyond}
use Rattle.meaning.proofs.More.{arrangement_old}
use Rattle.lent.specs.Lent.{columns}
use Rattle.spread.specs.Ground.{rules}
use Rattle.inner_add.specs.Lending.{Holdable}
use Rattle.inner_add.specs.Fit.{Taken}

-- The days of the steps below e, and 0 from e on.
cut : ℕ → (ℕ → ℕ) → ℕ → ℕ
cut e p v = cond (ltb v e) (p v) 0

cut_below : (e : ℕ) (p : ℕ → ℕ) (v : ℕ) → v < e → cut e p v ≡ p v
unfolding cut
cut_below e p v below = rw (lt-ltb v e below) refl

cut_past : (e : ℕ) (p : ℕ → ℕ) (v : ℕ) → e ≤ v → cut e p v ≡ 0
unfolding cut
cut_past e p v past = rw (le-ltb v e past) refl

-- Where all rules speak of steps below e alone, the steps from e on have day 0.
day_0_beyond : (n e : ℕ) (R : ℕ → Rule) (H : ℕ → Type 0) (p : ℕ → ℕ) → Earliest n R H p → ((i : ℕ) → H i → InSteps e (R i)) → (v : ℕ) → e ≤ v → v < n → p v ≡ 0
day_0_beyond n e R H p earliest within v past below = omega (arith, earliest.no_later (cut e p) plan v below, cut_past e p v past)
  where
    plan : Plan R H (cut e p)
    plan i held = rw (cut_below e p (R i).first (within i held).first_in, cut_below e p (R i).second (within i held).second_in) (earliest.plan i held)

-- Steps that keep their days do not count as moved.
moved_beyond : (n e : ℕ) (a b : List ℕ) → e ≤ n → ((v : ℕ) → e ≤ v → at b v ≡ at a v) → promise.moved e a b ≡ promise.moved n a b
moved_beyond zero e a b fewer same =
    let none : e ≡ 0 = omega (arith, fewer) in
    subst (λ (k : ℕ). promise.moved k a b ≡ promise.moved 0 a b) (sym none) refl
moved_beyond (suc n) e a b fewer same = tell (λ below. moved_beyond n e a b below same) (dec_le e n)
  where
    tell : (e ≤ n → promise.moved e a b ≡ promise.moved n a b) → Dec (e ≤ n) → promise.moved e a b ≡ promise.moved (suc n) a b
    tell fewer-still (yes below) = rw (eq-eqb (at a n) (at b n) (sym (same n below))) (omega (arith, fewer-still below))
    tell fewer-still (no past) =
        let all : e ≡ suc n = omega (arith, fewer, past) in
        subst (λ (k : ℕ). promise.moved k a b ≡ promise.moved (suc n) a b) (sym all) refl

module _ (n e : ℕ) (fewer : e ≤ n) (H : ℕ → Type 0) (order : ℕ → ℕ) (k : ℕ) (xs ys : List ℕ) (cs : List ℤ) (days heads nexts : List ℕ) (x y : ℕ) (c : ℤ) where
  -- What is ready on n steps is ready on e.
  pub ready_within :
      Holdable n H order k xs ys cs days heads nexts x y c → ((i : ℕ) → H i → InSteps e (rules xs ys cs i)) → InSteps e (rule x y c) →
      Holdable e H order k xs ys cs days heads nexts x y c
  ready_within r within new =
      let ground = r.base.ground in
      record {
        base = record {
          ground = record {
            steps_in = omega (arith, fewer, ground.steps_in);
            number_in = ground.number_in;
            placed = ground.placed;
            next_place = ground.next_place;
            days_room = omega (arith, fewer, ground.days_room);
            heads_room = omega (arith, fewer, ground.heads_room);
            in_steps = within;
            plan = ground.plan;
            chained = record {
              ranks_differ = ground.chained.ranks_differ;
              head_held = λ a j h. ground.chained.head_held a j (omega (arith, fewer));
              head_own = λ a j h. ground.chained.head_own a j (omega (arith, fewer));
              head_newest = λ a j h. ground.chained.head_newest a j (omega (arith, fewer));
              next_held = ground.chained.next_held;
              next_own = ground.chained.next_own;
              next_older = ground.chained.next_older;
              next_newest = ground.chained.next_newest;
            };
          };
          earliest = record { plan = r.base.earliest.plan; no_later = λ q p v h. r.base.earliest.no_later q p v (omega (arith, fewer)) };
          rules_good = λ i h. record { steps_in = within i h; amount_in = (r.base.rules_good i h).amount_in };
          columns_room = r.base.columns_room;
        };
        new_good = record { steps_in = new; amount_in = r.new_good.amount_in };
        free = r.free;
        not_full = r.not_full;
      }

  -- What is held on e steps is held on n.
  pub taken_beyond :
      Earliest n (rules xs ys cs) H (at days) → ((i : ℕ) → H i → InSteps e (rules xs ys cs i)) → (H k → ⊥) → (last moved : ℕ) (after : Columns) (days' : List ℕ) (last' : ℕ) →
      Taken e H k (rule x y c) (columns xs ys cs) days last moved after days' last' → Taken n H k (rule x y c) (columns xs ys cs) days last moved after days' last'
  taken_beyond was within free last moved after days' last' taken = record {
    written = taken.written;
    planned = record {
      earliest = record { plan = taken.planned.earliest.plan; no_later = no_later };
      past = record { same_length = taken.planned.past.same_length; kept = λ i h. taken.planned.past.kept i (omega (arith, fewer)) };
    };
    count_moved = taken.count_moved ∙ moved_beyond n e days days' fewer taken.planned.past.kept;
    last_day = λ known. taken.last_day (known ∙ largest_beyond e n (at days) fewer zeros) ∙ sym (largest_beyond e n (at days') fewer (λ v past below. taken.planned.past.kept v past ∙ zeros v past below));
  }
    where
      zeros : (v : ℕ) → e ≤ v → v < n → at days v ≡ 0
      zeros = day_0_beyond n e (rules xs ys cs) H (at days) was within

      no_later : (q : ℕ → ℕ) → Plan (more (rules xs ys cs) k (rule x y c)) (plus H k) q → (v : ℕ) → v < n → at days' v ≤ q v
      no_later q p v h = tell (dec_lt v e)
        where
          tell : Dec (v < e) → at days' v ≤ q v
          tell (yes below) = taken.planned.earliest.no_later q p v below
          tell (no past) =
              omega (
                arith,
                taken.planned.past.kept v (omega (arith, past)),
                was.no_later q (arrangement_old (rules xs ys cs) H k (rule x y c) (λ w. pos (q w)) free p) v h,
              )
