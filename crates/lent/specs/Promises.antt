-- The promises of the ten calls over the lists that are lent, each stated once: inner calls, public calls and exports cite them.
-- In each, the first lists are as they were lent, in the order counts, rules, days, levels, watched rules, other lists; then what was asked;
-- then what is given back, and the counts and the lists that the call may write as it left them.
use Rattle.std.specs.Prelude.{ℕ, List, ℤ}
use Rattle.meaning.specs.declared.Counts.{Counts}
use Rattle.meaning.specs.Rules.{rule}
use Rattle.meaning.specs.Tables.{Tables, Room, Sound}
use Rattle.meaning.specs.Promise.{Given, Obeys}
use Rattle.meaning.specs.Calls.{with_list, with_lists, open_meaning, watch_meaning, add_meaning, mark_meaning, back_meaning, withdraw_meaning, trial_meaning, consequences_meaning, ring_check_meaning, last_day_meaning}
use Rattle.lent.specs.Lent.{tables}

-- The tables have room and are sound: what the inner calls may rely on.
pub record Border (t : Tables) : Type 0 where
  pub room : Room t
  pub sound : Sound t

module _ (counts : Counts) (xs ys : List ℕ) (cs : List ℤ) (days levels wxs wys : List ℕ) (wcs : List ℤ) where
  -- The tables as they were lent.
  abbrev lent : Tables
  lent = tables counts xs ys cs days levels wxs wys wcs

  abbrev pub Opens : ℕ → Given → Counts → List ℕ → List ℕ → Type 0
  Opens n g counts' days' levels' = Obeys (open_meaning n lent) lent g (tables counts' xs ys cs days' levels' wxs wys wcs)

  abbrev pub Watches : ℕ → ℕ → ℤ → Given → Counts → List ℕ → List ℕ → List ℤ → Type 0
  Watches x y c g counts' wxs' wys' wcs' = Obeys (watch_meaning (rule x y c) lent) lent g (tables counts' xs ys cs days levels wxs' wys' wcs')

  abbrev pub Adds : List ℕ → ℕ → ℕ → ℤ → Given → Counts → List ℕ → List ℕ → List ℤ → List ℕ → List ℕ → List ℕ → Type 0
  Adds ring x y c g counts' xs' ys' cs' days' levels' ring' =
      Obeys (add_meaning (rule x y c) (with_list lent ring)) (with_list lent ring) g (with_list (tables counts' xs' ys' cs' days' levels' wxs wys wcs) ring')

  abbrev pub Marks : Given → Counts → Type 0
  Marks g counts' = Obeys (mark_meaning lent) lent g (tables counts' xs ys cs days levels wxs wys wcs)

  abbrev pub GoesBack : Given → Counts → List ℕ → List ℕ → Type 0
  GoesBack g counts' days' levels' = Obeys (back_meaning lent) lent g (tables counts' xs ys cs days' levels' wxs wys wcs)

  abbrev pub Withdraws : ℕ → Given → Counts → List ℕ → List ℕ → Type 0
  Withdraws i g counts' days' levels' = Obeys (withdraw_meaning i lent) lent g (tables counts' xs ys cs days' levels' wxs wys wcs)

  abbrev pub Tries : List ℕ → List ℕ → ℕ → ℕ → ℤ → Given → Counts → List ℕ → List ℕ → Type 0
  Tries one two x y c g counts' one' two' =
      Obeys (trial_meaning (rule x y c) (with_lists lent one two)) (with_lists lent one two) g (with_lists (tables counts' xs ys cs days levels wxs wys wcs) one' two')

  abbrev pub Splits : List ℕ → List ℕ → Given → Counts → List ℕ → List ℕ → Type 0
  Splits one two g counts' one' two' =
      Obeys (consequences_meaning (with_lists lent one two)) (with_lists lent one two) g (with_lists (tables counts' xs ys cs days levels wxs wys wcs) one' two')

  abbrev pub ChecksRing : List ℕ → ℕ → ℕ → ℤ → Given → Counts → Type 0
  ChecksRing list x y c g counts' =
      Obeys (ring_check_meaning (rule x y c) (with_list lent list)) (with_list lent list) g (with_list (tables counts' xs ys cs days levels wxs wys wcs) list)

  abbrev pub TellsLastDay : Given → Counts → Type 0
  TellsLastDay g counts' = Obeys (last_day_meaning lent) lent g (tables counts' xs ys cs days levels wxs wys wcs)
