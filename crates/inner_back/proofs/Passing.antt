-- What each loop over the steps keeps, from the first step and one step further.
use Prim.Native.Nat.{ℕ, ◌+◌, ◌-◌, ◌≤◌, ◌<◌}
use native.Mathlib.Omega.{arith}
use native.Mathlib.Decide.{ℕ_discrete}
use mathlib.Core.Path.{◌≡◌, ◌∙◌, ap}
use mathlib.Core.List.{List}
use lib.ListN.{length, set, length-set}
use Rattle.meaning.specs.Tables.{at}
use Rattle.meaning.proofs.Lists.{past_refl}
use Rattle.waiting.specs.Places.{Put}
use Rattle.waiting.proofs.Places.{put_set}
use Rattle.inner_back.specs.Replan.{Reaches, Brought}

-- One step more has the gain that brings its day to k.
pub reaches_more :
    (k v : ℕ) (days gains : List ℕ) → v < length gains → at days v ≤ k → Reaches v k days gains → Reaches (v + 1) k days (set gains v (k - at days v))
reaches_more k v days gains inside not_after passed w w-in = told (ℕ_discrete w v)
  where
    put : Put v (k - at days v) (at gains) (at (set gains v (k - at days v)))
    put = put_set gains v (k - at days v) inside

    told : Dec (w ≡ v) → at days w + at (set gains v (k - at days v)) w ≡ k
    told (yes e) = omega (arith, ap (at days) e, ap (at (set gains v (k - at days v))) e, put.there)
    told (no e) = omega (arith, put.others w e, passed w (omega arith))

-- Before the first step nothing is brought.
pub brought_none : (k : ℕ) (gains days : List ℕ) → Brought 0 k gains days days
brought_none k gains days = record { moved = λ v v-in. absurd (omega arith); past = past_refl 0 days }

-- One day more is brought up by its gain and back by k.
pub brought_more :
    {k v : ℕ} {gains before after : List ℕ} → Brought v k gains before after → v < length after → (day : ℕ) → day ≡ at after v + at gains v - k →
    Brought (v + 1) k gains before (set after v day)
brought_more {k} {v} {gains} {before} {after} passed inside day is = record {
  moved = λ w w-in. told w w-in (ℕ_discrete w v);
  past = record {
    same_length = length-set after v day ∙ passed.past.same_length;
    kept = λ w w-past. put.others w (λ e. omega arith) ∙ passed.past.kept w (omega arith);
  };
}
  where
    put : Put v day (at after) (at (set after v day))
    put = put_set after v day inside

    told : (w : ℕ) → w < v + 1 → Dec (w ≡ v) → at (set after v day) w ≡ at before w + at gains w - k
    told w w-in (yes e) =
        omega (arith, ap (at (set after v day)) e, put.there, is, passed.past.kept v (omega arith), ap (at before) e, ap (at gains) e)
    told w w-in (no e) = put.others w e ∙ passed.moved w (omega arith)
