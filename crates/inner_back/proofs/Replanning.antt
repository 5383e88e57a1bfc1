-- From days that keep the rules to their earliest plan: what holds before and after the gains are spread.
use Prim.Native.Nat.{ℕ, ◌+◌, ◌-◌, ◌^◌, ◌≤◌, ◌<◌}
use native.Mathlib.Omega.{arith}
use mathlib.Core.Path.{sym}
use mathlib.Core.List.{List}
use lib.ListN.{length}
use lib.IntN.{ℤ}
use Rattle.meaning.specs.Rules.{Earliest}
use Rattle.meaning.specs.Tables.{at}
use Rattle.meaning.specs.Promise.{Planned}
use Rattle.meaning.proofs.Theory.{earliest_ext}
use Rattle.meaning.proofs.DayBound.{day_bound}
use Rattle.chains.specs.Chains.{ChainsOf}
use Rattle.spread.specs.Ground.{rules, Ground}
use Rattle.spread.specs.Clauses.{Askable, Spread}
use Rattle.spread.proofs.Uses.{back_earliest}
use Rattle.inner_back.specs.Replan.{Plannable, Reaches, Bringable, Brought}

module _ {n : ℕ} {H : ℕ → Type 0} {xs ys : List ℕ} {cs : List ℤ} {days : List ℕ} (plannable : Plannable n H xs ys cs days) where
  -- Where some of the rules stay, they can be planned.
  pub plannable_fewer : {S : ℕ → Type 0} → ((i : ℕ) → S i → H i) → Plannable n S xs ys cs days
  plannable_fewer stay = record {
    steps_in = plannable.steps_in;
    number_in = λ i s. plannable.number_in i (stay i s);
    placed = λ i s. plannable.placed i (stay i s);
    days_room = plannable.days_room;
    in_bounds = λ i s. plannable.in_bounds i (stay i s);
    plan = λ i s. plannable.plan i (stay i s);
  }

  -- With their chains, gains can be spread over them.
  pub ground :
      {order : ℕ → ℕ} {heads nexts : List ℕ} → n ≤ length heads → ((i : ℕ) → H i → i < length nexts) → ChainsOf n H order xs heads nexts →
      Ground n H order xs ys cs days heads nexts
  ground heads_room next_place chained = record {
    steps_in = plannable.steps_in;
    number_in = plannable.number_in;
    placed = plannable.placed;
    next_place = next_place;
    days_room = plannable.days_room;
    heads_room = heads_room;
    in_steps = λ i i-in. (plannable.in_bounds i i-in).steps_in;
    plan = plannable.plan;
    chained = chained;
  }

  -- Each of the first n steps is asked to reach day k, and the gains for that have been spread.
  module _ {k : ℕ} {asked gains by : List ℕ} (reaches : Reaches n k days asked) (spread : Spread n H xs ys cs days n (λ v. at days v + at asked v) asked gains by) where
    -- The days with their gains, less k, are the earliest plan.
    pub earliest_less : Earliest n (rules xs ys cs) H (λ v. at days v + at gains v - k)
    earliest_less =
        back_earliest n (rules xs ys cs) H (at days) (at asked) (at gains) k (λ i i-in. (plannable.in_bounds i i-in).steps_in) reaches
        (record { plan = spread.plan (λ beyond. absurd (omega arith)); forced = spread.forced })

    -- The days can be brought there.
    pub bringable : k < 2 ^ 32 → n ≤ length gains → Bringable n k gains days
    bringable narrow gains_room = record {
      gains_room = gains_room;
      days_room = plannable.days_room;
      narrow = narrow;
      not_before = λ v v-in. omega (arith, reaches v v-in, spread.forced.not_below v v-in);
      fits = λ v v-in.
          omega (arith, day_bound n (rules xs ys cs) H (λ w. at days w + at gains w - k) plannable.in_bounds earliest_less v v-in, plannable.steps_in);
    }

    -- Once they are brought there, they are the earliest plan.
    pub planned : {after : List ℕ} → Brought n k gains days after → Planned n (rules xs ys cs) H days after
    planned {after} brought = record {
      earliest =
          earliest_ext n (rules xs ys cs) H (λ v. at days v + at gains v - k) (at after) (λ i i-in. (plannable.in_bounds i i-in).steps_in)
          (λ v v-in. sym (brought.moved v v-in)) earliest_less;
      past = brought.past;
    }

-- Gains that bring each day to k can be spread.
pub askable : {n k : ℕ} (days : List ℕ) {gains by : List ℕ} → k < 2 ^ 32 → n ≤ length gains → n ≤ length by → Reaches n k days gains → Askable n gains by
askable days narrow gains_room by_room reaches =
    record { gains_room = gains_room; by_room = by_room; small = λ v v-in. omega (arith, reaches v v-in) }
