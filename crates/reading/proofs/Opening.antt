-- The reading of a text goes on from its opening bracket.
use Prim.Native.Nat.{ℕ}
use mathlib.Core.Path.{◌≡◌, refl, sym}
use mathlib.Core.Bool.{Bool, true, false, cond}
use mathlib.Core.List.{List}
use lib.Dec.{eqb}
use Rattle.text.specs.Lexicon.{OPEN, SYMBOL, token_at}
use Rattle.reading.specs.Tree.{Piece, Command}
use Rattle.reading.specs.Reading.{Why, Read, then, expect, headed, reading}
use Rattle.reading.specs.Parts.{opening}

by_first : (b : Bool) (r : Read Piece) (i : ℕ) (next : Piece → ℕ → Read Command) → then (cond b r (Read.stop Why.wrong i)) next ≡ cond b (then r next) (Read.stop Why.wrong i)
by_first true r i next = refl
by_first false r i next = refl

pub opened : (s : List ℕ) → reading s ≡ then (opening s) (λ _ i. then (expect SYMBOL s i) (λ w j. headed w.letters w.place s j))
opened s = sym (by_first (eqb (token_at s 0).from 0) (expect OPEN s 0) (token_at s 0).from (λ _ i. then (expect SYMBOL s i) (λ w j. headed w.letters w.place s j)))
