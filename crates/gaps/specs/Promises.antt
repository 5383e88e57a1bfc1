-- The promises of the eleven calls over the lists and the gap table that are lent, each stated once, as those without the gap table stand in `lent`: public calls and exports cite them.
-- Where a call is lent a list, it stands behind the gap table; then what was asked; then what is given back, and the counts and what the call may write as it left them.
use Rattle.std.specs.Prelude.{ℕ, ◌+◌, ◌≤◌, List, cond, eqb, ℤ, pos, negsuc, Result, Ok, Err, Option, Some, None}
use Rattle.meaning.specs.declared.Counts.{Counts}
use Rattle.meaning.specs.declared.Refusal.{Refusal}
use Rattle.meaning.specs.Rules.{rule}
use Rattle.meaning.specs.Tables.{Tables}
use Rattle.meaning.specs.Promise.{Given, Obeys, gave}
use Rattle.meaning.specs.Reckoning.{up, dn}
use Rattle.meaning.specs.Calls.{with_list, with_lists}
use Rattle.lent.specs.Lent.{tables}
use Rattle.gaps.specs.Gaps.{Gaps}
use Rattle.gaps.specs.Beside.{beside, open_beside, watch_beside, add_beside, mark_beside, back_beside, withdraw_beside, trial_beside, consequences_beside, ring_check_beside, last_day_beside, gap_beside}

-- A limit is told in two values: 1 and its size where it is not below 0, 2 and its size where it is.
abbrev pub kind_of : ℤ → ℕ
kind_of (pos n) = 1
kind_of (negsuc n) = 2

abbrev pub size_of : ℤ → ℕ
size_of z = up z + dn z

-- What Gap gives, where a caller has it as its number, whether the pair has a limit, and the limit.
abbrev pub gap_given : ℕ → ℕ → ℤ → Given
gap_given number limited limit = gave number (cond (eqb limited 0) 0 (kind_of limit)) (size_of limit)

-- Whether the pair has a limit, 1 or 0, and the limit, 0 where there is none or on a refusal: what a caller has of an answer of Gap.
abbrev pub limited_told : Result (Option ℤ) Refusal → ℕ
limited_told (Ok (Some z)) = 1
limited_told (Ok None) = 0
limited_told (Err r) = 0

abbrev pub limit_told : Result (Option ℤ) Refusal → ℤ
limit_told (Ok (Some z)) = z
limit_told (Ok None) = pos 0
limit_told (Err r) = pos 0

module _ (counts : Counts) (xs ys : List ℕ) (cs : List ℤ) (days levels wxs wys : List ℕ) (wcs : List ℤ) (gaps : Gaps) where
  -- The tables as they were lent.
  abbrev lent : Tables
  lent = tables counts xs ys cs days levels wxs wys wcs

  abbrev pub Opens : ℕ → Given → Counts → List ℕ → List ℕ → Gaps → Type 0
  Opens n g counts' days' levels' gaps' = Obeys (open_beside n (beside lent gaps)) (beside lent gaps) g (beside (tables counts' xs ys cs days' levels' wxs wys wcs) gaps')

  abbrev pub Watches : ℕ → ℕ → ℤ → Given → Counts → List ℕ → List ℕ → List ℤ → Type 0
  Watches x y c g counts' wxs' wys' wcs' = Obeys (watch_beside (rule x y c) (beside lent gaps)) (beside lent gaps) g (beside (tables counts' xs ys cs days levels wxs' wys' wcs') gaps)

  abbrev pub Adds : List ℕ → ℕ → ℕ → ℤ → Given → Counts → List ℕ → List ℕ → List ℤ → List ℕ → List ℕ → Gaps → List ℕ → Type 0
  Adds ring x y c g counts' xs' ys' cs' days' levels' gaps' ring' =
      Obeys (add_beside (rule x y c) (beside (with_list lent ring) gaps)) (beside (with_list lent ring) gaps) g
      (beside (with_list (tables counts' xs' ys' cs' days' levels' wxs wys wcs) ring') gaps')

  abbrev pub Marks : Given → Counts → Type 0
  Marks g counts' = Obeys (mark_beside (beside lent gaps)) (beside lent gaps) g (beside (tables counts' xs ys cs days levels wxs wys wcs) gaps)

  abbrev pub GoesBack : Given → Counts → List ℕ → List ℕ → Gaps → Type 0
  GoesBack g counts' days' levels' gaps' = Obeys (back_beside (beside lent gaps)) (beside lent gaps) g (beside (tables counts' xs ys cs days' levels' wxs wys wcs) gaps')

  abbrev pub Withdraws : ℕ → Given → Counts → List ℕ → List ℕ → Gaps → Type 0
  Withdraws i g counts' days' levels' gaps' = Obeys (withdraw_beside i (beside lent gaps)) (beside lent gaps) g (beside (tables counts' xs ys cs days' levels' wxs wys wcs) gaps')

  abbrev pub Tries : List ℕ → List ℕ → ℕ → ℕ → ℤ → Given → Counts → List ℕ → List ℕ → Type 0
  Tries one two x y c g counts' one' two' =
      Obeys (trial_beside (rule x y c) (beside (with_lists lent one two) gaps)) (beside (with_lists lent one two) gaps) g
      (beside (with_lists (tables counts' xs ys cs days levels wxs wys wcs) one' two') gaps)

  abbrev pub Splits : List ℕ → List ℕ → Given → Counts → List ℕ → List ℕ → Type 0
  Splits one two g counts' one' two' =
      Obeys (consequences_beside (beside (with_lists lent one two) gaps)) (beside (with_lists lent one two) gaps) g
      (beside (with_lists (tables counts' xs ys cs days levels wxs wys wcs) one' two') gaps)

  abbrev pub ChecksRing : List ℕ → ℕ → ℕ → ℤ → Given → Counts → Type 0
  ChecksRing list x y c g counts' =
      Obeys (ring_check_beside (rule x y c) (beside (with_list lent list) gaps)) (beside (with_list lent list) gaps) g
      (beside (with_list (tables counts' xs ys cs days levels wxs wys wcs) list) gaps)

  abbrev pub TellsLastDay : Given → Counts → Type 0
  TellsLastDay g counts' = Obeys (last_day_beside (beside lent gaps)) (beside lent gaps) g (beside (tables counts' xs ys cs days levels wxs wys wcs) gaps)

  -- What Gap gives is told so, and `limited` is 1 or 0.
  pub record TellsGap (x y number limited : ℕ) (limit : ℤ) (counts' : Counts) : Type 0 where
    pub obeys :
        Obeys (gap_beside x y (beside lent gaps)) (beside lent gaps) (gap_given number limited limit) (beside (tables counts' xs ys cs days levels wxs wys wcs) gaps)
    pub flag : limited ≤ 1
