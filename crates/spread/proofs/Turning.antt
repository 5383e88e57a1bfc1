-- One turn: the step of largest gain leaves the list and is settled, and its rules are relaxed.
use Prim.Native.Nat.{ℕ, suc, ◌-◌, ◌<◌}
use native.Mathlib.Omega.{arith}
use native.Mathlib.Decide.{ℕ_discrete}
use mathlib.Core.Path.{◌≡◌, ap}
use mathlib.Core.List.{List}
use lib.IntN.{ℤ}
use Rattle.meaning.specs.Tables.{at}
use Rattle.spread.specs.State.{Ready, BetweenTurns}
use Rattle.waiting.specs.Places.{Put, LargestAt}
use Rattle.spread.specs.Relax.{instead}
use Rattle.spread.proofs.Places.{put_instead}
use Rattle.spread.specs.Ground.{rules, Ground}
use Rattle.spread.specs.Clauses.{RelaxedAll, Turned}
use Rattle.spread.proofs.Settling.{settle_keeps}

-- Where one step has left the list, with the last one in its place, a turn can still be made.
pub ready_without :
    (n : ℕ) (g list list₁ : ℕ → ℕ) (k j : ℕ) → j < k → Put j (list (k - 1)) list list₁ → Ready n g list k → Ready n g list₁ (k - 1)
ready_without n g list list₁ k j some out ready = record {
  small = ready.small;
  listed_in = λ i i-in. by_place i i-in (ℕ_discrete i j);
  room = omega (arith, ready.room);
}
  where
    by_place : (i : ℕ) → i < k - 1 → Dec (i ≡ j) → list₁ i < n
    by_place i i-in (yes e) = omega (arith, ap list₁ e, out.there, ready.listed_in (k - 1) (omega arith))
    by_place i i-in (no e) = omega (arith, out.others i e, ready.listed_in i (omega arith))

-- The turn is made once all rules of that step are relaxed.
pub turned :
    (n : ℕ) (H : ℕ → Type 0) (order : ℕ → ℕ) (xs ys : List ℕ) (cs : List ℤ) (days heads nexts : List ℕ) (gains by list list₁ : List ℕ) (k j : ℕ) (gains' by' list' : List ℕ) (k' : ℕ) →
    Ground n H order xs ys cs days heads nexts → at list j < n → LargestAt (at gains) (at list) k j → Put j (at list (k - 1)) (at list) (at list₁) →
    RelaxedAll n H xs ys cs days (at list j) gains by list₁ (k - 1) gains' by' list' k' →
    Turned n H xs ys cs days gains by list k gains' by' list' k'
turned n H order xs ys cs days heads nexts gains by list list₁ k j gains' by' list' k' ground step_in largest out relaxed = record {
  ready = relaxed.ready;
  fewer = omega (arith, relaxed.no_more, largest.place_in);
  past = relaxed.past;
  keeps = keeps;
}
  where
    keeps :
        (low : ℕ → ℕ) → BetweenTurns n (rules xs ys cs) H (at days) low (at gains) (at by) (at list) k →
        BetweenTurns n (rules xs ys cs) H (at days) low (at gains') (at by') (at list') k'
    keeps low b = record {
      turns = suc b.turns;
      last = at list j;
      rank = instead (at list j) b.turns b.rank;
      state =
          relaxed.keeps low (instead (at list j) b.turns b.rank) (suc b.turns)
          (omega (arith, (put_instead (at list j) b.turns b.rank).there))
          (settle_keeps n (rules xs ys cs) H (at days) low b.turns b.last b.rank (at gains) (at by) (at list) (at list₁) k j
          ground.in_steps b.state largest.place_in largest.largest out);
    }
