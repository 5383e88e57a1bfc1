-- The state before the first turn, and what the state between two turns says.
use Prim.Native.Nat.{ℕ, ◌+◌, ◌^◌, ◌≤◌, ◌<◌, min}
use native.Mathlib.Omega.{arith}
use native.Mathlib.Decide.{dec_lt}
use mathlib.Core.Path.{◌≡◌, sym, ◌∙◌, subst}
use mathlib.Core.List.{List}
use lib.IntN.{ℤ}
use Rattle.meaning.specs.Rules.{Rule, Plan, InSteps}
use Rattle.meaning.specs.Tables.{at}
use Rattle.meaning.specs.Reckoning.{up, dn}
use Rattle.meaning.proofs.Whole.{plan→, →plan}
use Rattle.waiting.specs.Places.{Put}
use Rattle.spread.specs.Trace.{CameBy, Traced}
use Rattle.spread.specs.State.{Ready, BetweenTurns}
use Rattle.spread.specs.Clauses.{Collected, Spread}
use Rattle.spread.specs.Ground.{rules, Ground}

-- Before the first turn, where each step with a gain is collected.
pub no_turn_yet :
    (n : ℕ) (R : ℕ → Rule) (H : ℕ → Type 0) (d low g by list : ℕ → ℕ) (k : ℕ) → ((v : ℕ) → v < n → low v ≡ d v + g v) → Collected n g by list k →
    BetweenTurns n R H d low g by list k
no_turn_yet n R H d low g by list k asked c = record {
  turns = 0;
  last = 0;
  rank = λ v. n;
  state = record {
    forced = record { not_below = λ v below. omega (arith, asked v below); no_later = λ q plan above v below. omega (arith, asked v below, above v below) };
    settled_first = λ v w v-in w-in v-settled w-open. absurd (omega arith);
    last_least = λ v v-in v-settled. absurd (omega arith);
    kept = λ i held settled seen. absurd (omega arith);
    open_rank = λ v v-in v-open. omega arith;
    listed = c.listed;
    listed_open = λ j j-in. omega arith;
    open_listed = λ v v-in has v-open. c.all_listed v v-in has;
    counted = omega (arith, c.counted);
    not_raised = λ v v-in has none. sym (asked v v-in);
    raised = λ v v-in has i named. absurd (omega (arith, c.not_raised v v-in has));
    raised_from = λ v v-in has i named. absurd (omega (arith, c.not_raised v v-in has));
  };
}

-- Where all steps with a gain are collected, a turn can be made.
pub collected_ready : (n : ℕ) (g by list : ℕ → ℕ) (k : ℕ) → ((v : ℕ) → v < n → g v < 2 ^ 62) → Collected n g by list k → Ready n g list k
collected_ready n g by list k small c = record { small = small; listed_in = c.listed.step; room = c.counted }

-- Once the list is empty, the days with their gains are a plan.
pub all_settled :
    (n : ℕ) (R : ℕ → Rule) (H : ℕ → Type 0) (d low g by list : ℕ → ℕ) → ((i : ℕ) → H i → InSteps n (R i)) → Plan R H d →
    BetweenTurns n R H d low g by list 0 → Plan R H (λ v. d v + g v)
all_settled n R H d low g by list steps plan b i held = →plan (λ v. d v + g v) (R i) (tell (dec_lt 0 (g (R i).first)))
  where
    settled : 0 < g (R i).first → Dec (b.rank (R i).first < b.turns) → b.rank (R i).first < b.turns
    settled has (yes h) = h
    settled has (no h) = absurd (omega (arith, (b.state.open_listed (R i).first (steps i held).first_in has (omega arith)).place_in))

    tell :
        Dec (0 < g (R i).first) →
        d (R i).first + g (R i).first + dn (R i).amount ≤ d (R i).second + g (R i).second + up (R i).amount
    tell (yes has) = b.state.kept i held (settled has (dec_lt (b.rank (R i).first) b.turns)) (λ e. tt)
    tell (no none) = omega (arith, plan→ d (R i) (plan i held))

-- Between two turns each gain can be traced. The ranks of the open steps are brought down to the number of turns.
pub traced :
    (n : ℕ) (R : ℕ → Rule) (H : ℕ → Type 0) (d low g by list : ℕ → ℕ) (k : ℕ) → BetweenTurns n R H d low g by list k → Traced n R H d low g by
traced n R H d low g by list k b = record {
  rank = λ v. min (b.rank v) b.turns;
  rank_in = λ v v-in has. rank_in v v-in has (dec_lt (b.rank v) b.turns);
  not_raised = b.state.not_raised;
  raised = λ v v-in has i named. lowered v i (b.state.raised v v-in has i named) (b.state.raised_from v v-in has i named);
}
  where
    rank_in : (v : ℕ) → v < n → 0 < g v → Dec (b.rank v < b.turns) → min (b.rank v) b.turns < n
    rank_in v v-in has (yes h) = omega (arith, b.state.counted)
    rank_in v v-in has (no h) = omega (arith, b.state.counted, (b.state.open_listed v v-in has (omega arith)).place_in)

    lowered :
        (v i : ℕ) → CameBy R H (λ w. d w + g w) b.rank v i → b.rank (R i).first < b.turns →
        CameBy R H (λ w. d w + g w) (λ w. min (b.rank w) b.turns) v i
    lowered v i h from = record { held = h.held; leads_to = h.leads_to; tight = h.tight; before = omega (arith, h.before) }

-- Where the turns stop for want of steps in the list, unless the goal is a step with a gain, the gains were spread.
pub stopped :
    (n : ℕ) (H : ℕ → Type 0) (order : ℕ → ℕ) (xs ys : List ℕ) (cs : List ℤ) (days heads nexts : List ℕ) (goal : ℕ) (low : ℕ → ℕ) (before gains by list : List ℕ) (k : ℕ) →
    Ground n H order xs ys cs days heads nexts → BetweenTurns n (rules xs ys cs) H (at days) low (at gains) (at by) (at list) k →
    ((goal < n → at gains goal ≡ 0) → k ≡ 0) → ((v : ℕ) → n ≤ v → at gains v ≡ at before v) → Spread n H xs ys cs days goal low before gains by
stopped n H order xs ys cs days heads nexts goal low before gains by list k ground b empty past = record {
  forced = b.state.forced;
  plan = λ short.
      all_settled n (rules xs ys cs) H (at days) low (at gains) (at by) (at list) ground.in_steps ground.plan
      (subst (λ (l : ℕ). BetweenTurns n (rules xs ys cs) H (at days) low (at gains) (at by) (at list) l) (empty short) b);
  traced = traced n (rules xs ys cs) H (at days) low (at gains) (at by) (at list) k b;
  past = past;
}

-- Gains that were spread from those with one at y put in, were spread from those before.
pub from_before :
    (n : ℕ) (H : ℕ → Type 0) (xs ys : List ℕ) (cs : List ℤ) (days : List ℕ) (goal : ℕ) (low : ℕ → ℕ) (before begun gains by : List ℕ) (y gain : ℕ) → y < n →
    Put y gain (at before) (at begun) → Spread n H xs ys cs days goal low begun gains by → Spread n H xs ys cs days goal low before gains by
from_before n H xs ys cs days goal low before begun gains by y gain y-in put s = record {
  forced = s.forced;
  plan = s.plan;
  traced = s.traced;
  past = λ v beyond. s.past v beyond ∙ put.others v (λ e. omega arith);
}
