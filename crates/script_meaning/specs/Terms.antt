-- What a term of a script says, by SMT-LIB's meaning, and when days keep rules over names.
use Rattle.std.specs.Prelude.{ℕ, Bool, true, false, List, [], ◌∷◌, ℤ, ◌-ℤ◌, ◌≤ℤ◌, ◌<ℤ◌}
use Rattle.text.specs.Lexicon.{same_bytes}
use Rattle.words.specs.Words.{W_at_most, W_below, W_at_least}
use Rattle.reading.specs.Tree.{Piece, amount_of, Term, Named}

abbrev pub either_type : Bool → Type 0 → Type 0 → Type 0
either_type true A B = A
either_type false A B = B

-- What the operator w says of a difference z and an amount c: `<=` that z is at most c, `<` that it is below c, `>=` that it is at least c, `>` that it is above c.
abbrev pub Compared : List ℕ → ℤ → ℤ → Type 0
Compared w z c =
    either_type (same_bytes w W_at_most) (z ≤ℤ c)
    (either_type (same_bytes w W_below) (z <ℤ c) (either_type (same_bytes w W_at_least) (c ≤ℤ z) (c <ℤ z)))

-- The term holds under the days d, which gives each name its day.
abbrev pub Holds : Term → (List ℕ → ℤ) → Type 0
Holds (Term.atom w x y c) d = Compared w (d x.letters -ℤ d y.letters) (amount_of c)
Holds (Term.negation t) d = Holds t d → ⊥
Holds (Term.conjunction t u) d = Holds t d × Holds u d
Holds (Term.also t u) d = Holds t d × Holds u d

-- The days d keep the rule over names; every rule of a list.
abbrev pub KeptBy : (List ℕ → ℤ) → Named → Type 0
KeptBy d r = (d r.first -ℤ d r.second) ≤ℤ r.amount

abbrev pub AllKept : (List ℕ → ℤ) → List Named → Type 0
AllKept d [] = Unit {0}
AllKept d (r ∷ rs) = KeptBy d r × AllKept d rs
