-- What relaxing one rule does: its second step is raised as far as the rule asks, where it is lower.
use Rattle.std.specs.Prelude.{ℕ, suc, ◌+◌, ◌^◌, ◌≤◌, ◌<◌, ◌≡◌, ◌⊎◌, List, cond, eqb, length, get_or, ℤ, pos}
use Rattle.meaning.specs.Tables.{at}
use Rattle.meaning.specs.Reckoning.{up, dn}
use Rattle.lent.specs.Lent.{BIAS}
use Rattle.waiting.specs.Places.{Put}

-- The numbers f with v at place i instead.
unfoldable pub instead : ℕ → ℕ → (ℕ → ℕ) → ℕ → ℕ
instead i v f j = cond (eqb j i) v (f j)

-- Step y, which had the gain `had`, stands in the list now: it is put at the end where it had none.
pub record Entered (had y : ℕ) (list : ℕ → ℕ) (k : ℕ) (list' : ℕ → ℕ) (k' : ℕ) : Type 0 where
  pub new : had ≡ 0 → (k' ≡ suc k) × Put k y list list'
  pub old : 0 < had → (k' ≡ k) × ((j : ℕ) → list' j ≡ list j)

-- The rule under i, with second step y and amount c, raised y: its first step, whose day plus BIAS is `reach`, asks more of y than
-- its day was, and just its day now. No other gain changed.
pub record Raise (d : ℕ → ℕ) (y : ℕ) (c : ℤ) (i reach : ℕ) (g by list : ℕ → ℕ) (k : ℕ) (g' by' list' : ℕ → ℕ) (k' : ℕ) : Type 0 where
  pub short : d y + g y + up c + BIAS < reach + dn c
  pub reaches : d y + g' y + up c + BIAS ≡ reach + dn c
  pub other_gains : (v : ℕ) → (v ≡ y → ⊥) → g' v ≡ g v
  pub named : Put y (suc i) by by'
  pub entered : Entered (g y) y list k list' k'

-- The rule asks no more of y than its day is, and nothing changed.
pub record Kept (d : ℕ → ℕ) (y : ℕ) (c : ℤ) (reach : ℕ) (gains by list : List ℕ) (k : ℕ) (gains' by' list' : List ℕ) (k' : ℕ) : Type 0 where
  pub enough : reach + dn c ≤ d y + at gains y + up c + BIAS
  pub same_gains : gains' ≡ gains
  pub same_by : by' ≡ by
  pub same_list : list' ≡ list
  pub same_count : k' ≡ k

-- The rule under i can be read and its second step, below n, raised: it has a place in each list, and in the list of open steps too where it has no gain.
pub record Relaxable (n : ℕ) (ys : List ℕ) (cs : List ℤ) (days gains by : List ℕ) (k i : ℕ) : Type 0 where
  pub second_place : i < length ys
  pub amount_place : i < length cs
  pub second_in : at ys i < n
  pub second_day : at ys i < length days
  pub second_gain : at ys i < length gains
  pub second_by : at ys i < length by
  pub number_fits : i < 65535
  pub small : at gains (at ys i) < 2 ^ 62
  pub room : at gains (at ys i) ≡ 0 → k < n

-- The rule under i was relaxed, where `reach` is the day of its first step plus BIAS.
abbrev pub Relaxed : List ℕ → List ℤ → List ℕ → ℕ → ℕ → List ℕ → List ℕ → List ℕ → ℕ → List ℕ → List ℕ → List ℕ → ℕ → Type 0
Relaxed ys cs days i reach gains by list k gains' by' list' k' =
    Kept (at days) (at ys i) (get_or cs i (pos 0)) reach gains by list k gains' by' list' k'
    ⊎ Raise (at days) (at ys i) (get_or cs i (pos 0)) i reach (at gains) (at by) (at list) k (at gains') (at by') (at list') k'
