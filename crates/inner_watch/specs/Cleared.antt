-- Days set to 0, and places freed.
use Rattle.std.specs.Prelude.{ℕ, ◌<◌, ◌≡◌, List}
use Rattle.meaning.specs.Tables.{at}
use Rattle.meaning.specs.Promise.{Past}

-- The first n days are 0, and from place n on the days are as before.
pub record Cleared (n : ℕ) (before after : List ℕ) : Type 0 where
  pub day_0 : (v : ℕ) → v < n → at after v ≡ 0
  pub past : Past n before after

-- The first n places are free, and from place n on the levels are as before.
pub record Freed (n : ℕ) (before after : List ℕ) : Type 0 where
  pub all_free : (i : ℕ) → i < n → at after i ≡ 0
  pub past_levels : Past n before after
