-- What every call but Open begins with.
use Rattle.std.specs.Prelude.{ℕ, ◌≡◌, Bool, true, List, [], ◌∷◌}
use Rattle.meaning.specs.Bounds.{DONE, SHORT, DAMAGED}
use Rattle.meaning.specs.Tables.{Tables, Room, Sound}
use Rattle.meaning.specs.Promise.{Need, needs, First}
use Rattle.lent.specs.Lent.{held_by}
use Rattle.gaps.specs.Gaps.{Gaps, Right}
use Rattle.chains.specs.Chains.{LentChains}

-- The tables have room, and the other lists that are lent have it too, as `lists` says; the tables are sound; the gap table is right.
abbrev pub entry_needs : Bool → Tables → Gaps → List Need
entry_needs lists t gaps = needs SHORT ((lists ≡ true) × Room t) ∷ needs DAMAGED (Sound t) ∷ needs DAMAGED (Right t gaps) ∷ []

-- The number is that of the first of these needs that is not met; where all are met, heads and nexts hold the chains of the rules held.
pub record Entered (lists : Bool) (t : Tables) (gaps : Gaps) (number : ℕ) (heads nexts : List ℕ) : Type 0 where
  pub first_unmet : First (entry_needs lists t gaps) number
  pub chained : number ≡ DONE → LentChains t.counts.steps (held_by t.levels) t.rules.firsts heads nexts
