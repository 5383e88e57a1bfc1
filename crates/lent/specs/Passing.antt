-- What a test of every cell of a list tells.
use Rattle.std.specs.Prelude.{ℕ, ◌<◌, ◌≡◌, Bool, true, false, List, get_or}

-- Of the first m cells: where the answer r is yes the test said yes to each, and where it is no the test said no to one. `says x b` is that the test may say b to x.
pub record EachTested {T : Type 0} (says : T → Bool → Type 0) (cells : List T) (m : ℕ) (r : Bool) : Type 0 where
  pub each : r ≡ true → (i : ℕ) (d : T) → i < m → says (get_or cells i d) true
  pub one : r ≡ false → (i : ℕ) × (i < m) × ((d : T) → says (get_or cells i d) false)
