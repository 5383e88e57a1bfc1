-- **The grammar**: the tokens that each term and each command is written with, and the limits within which it is read. proofs/Spelling and proofs/Understood show that the
-- reading is exactly this.
use Rattle.std.specs.Prelude.{ℕ, ◌≤◌, ◌≡◌, Bool, true, false, List, [], ◌∷◌, ◌++◌, length}
use Rattle.meaning.specs.Bounds.{NAME_BYTES, DEPTH, ASKED}
use Rattle.text.specs.Lexicon.{OPEN, CLOSE, NUMERAL, SYMBOL, token_at}
use Rattle.words.specs.Words.{reserved, compares, W_set_logic, W_declare_fun, W_assert, W_push, W_pop, W_check_sat, W_get_value, W_exit, W_QF_IDL, W_Int, W_not, W_and, W_minus}
use Rattle.reading.specs.Tree.{Piece, Amount, Term, depth, Supported, Command}
use Rattle.reading.specs.Reading.{lexeme, piece, past}

-- A token that is meant: a bracket, this word, this name or numeral at its place.
pub data Sign : Type 0 where
  opens closes : Sign
  word : List ℕ → Sign
  name numeral : Piece → Sign

-- An amount is N or (- N).
abbrev pub spelt_amount : Amount → List Sign
spelt_amount (Amount.plus n) = Sign.numeral n ∷ []
spelt_amount (Amount.minus n) = Sign.opens ∷ Sign.word W_minus ∷ Sign.numeral n ∷ Sign.closes ∷ []

-- An atom is (OPERATOR (- NAME NAME) AMOUNT); the negation (not TERM); a conjunction (and TERM TERM ..), the rest being one term after the other.
abbrev pub spelt : Term → List Sign
spelt (Term.atom w x y c) =
    Sign.opens ∷ Sign.word w ∷ Sign.opens ∷ Sign.word W_minus ∷ Sign.name x ∷ Sign.name y ∷ Sign.closes ∷ (spelt_amount c ++ (Sign.closes ∷ []))
spelt (Term.negation t) = Sign.opens ∷ Sign.word W_not ∷ (spelt t ++ (Sign.closes ∷ []))
spelt (Term.conjunction t u) = Sign.opens ∷ Sign.word W_and ∷ (spelt t ++ (spelt u ++ (Sign.closes ∷ [])))
spelt (Term.also t u) = spelt t ++ spelt u

abbrev pub spelt_names : List Piece → List Sign
spelt_names [] = []
spelt_names (w ∷ ws) = Sign.name w ∷ spelt_names ws

-- What stands in a command after its opening bracket.
abbrev pub spelt_inside : Command → List Sign
spelt_inside Command.set_logic = Sign.word W_set_logic ∷ Sign.word W_QF_IDL ∷ []
spelt_inside Command.check_sat = Sign.word W_check_sat ∷ []
spelt_inside Command.exit = Sign.word W_exit ∷ []
spelt_inside (Command.declare w) = Sign.word W_declare_fun ∷ Sign.name w ∷ Sign.opens ∷ Sign.closes ∷ Sign.word W_Int ∷ []
spelt_inside (Command.assert t) = Sign.word W_assert ∷ spelt t
spelt_inside (Command.push n) = Sign.word W_push ∷ Sign.numeral n ∷ []
spelt_inside (Command.pop n) = Sign.word W_pop ∷ Sign.numeral n ∷ []
spelt_inside (Command.get_value ws) = Sign.word W_get_value ∷ Sign.opens ∷ (spelt_names ws ++ (Sign.closes ∷ []))

abbrev pub spelt_command : Command → List Sign
spelt_command c = Sign.opens ∷ (spelt_inside c ++ (Sign.closes ∷ []))

-- The token at place i of the text is the one meant; the tokens from place i to place j are these.
abbrev pub Stands : List ℕ → ℕ → Sign → Type 0
Stands s i Sign.opens = (token_at s i).kind ≡ OPEN
Stands s i Sign.closes = (token_at s i).kind ≡ CLOSE
Stands s i (Sign.word w) = ((token_at s i).kind ≡ SYMBOL) × (lexeme s (token_at s i) ≡ w)
Stands s i (Sign.name p) = ((token_at s i).kind ≡ SYMBOL) × (piece s (token_at s i) ≡ p)
Stands s i (Sign.numeral p) = ((token_at s i).kind ≡ NUMERAL) × (piece s (token_at s i) ≡ p)

abbrev pub Spells : List ℕ → ℕ → List Sign → ℕ → Type 0
Spells s i [] j = i ≡ j
Spells s i (g ∷ l) j = Stands s i g × Spells s (past s i) l j

-- A name that may be used: no reserved word, and not too long.
pub record NameFine (w : Piece) : Type 0 where
  pub not_reserved : reserved w.letters ≡ false
  pub short : length w.letters ≤ NAME_BYTES

abbrev pub NamesFine : List Piece → Type 0
NamesFine [] = Unit {0}
NamesFine (w ∷ ws) = NameFine w × NamesFine ws

-- The tree is a term, or where `rest` is true the rest of a conjunction: `also` stands only there. The operators of its atoms compare, and its names may be used.
abbrev pub Formed : (rest : Bool) → Term → Type 0
Formed rest (Term.atom w x y c) = (compares w ≡ true) × (NameFine x × NameFine y)
Formed rest (Term.negation t) = Formed false t
Formed rest (Term.conjunction t u) = Formed false t × Formed true u
Formed rest (Term.also t u) = (rest ≡ true) × (Formed false t × Formed true u)

-- A command within the limits: its term is not too deep and has no `and` under an odd number of `not`; it asks for one name or more, and not too many.
abbrev pub Within : Command → Type 0
Within Command.set_logic = Unit {0}
Within Command.check_sat = Unit {0}
Within Command.exit = Unit {0}
Within (Command.declare w) = NameFine w
Within (Command.assert t) = Formed false t × ((depth t ≤ DEPTH) × Supported false t)
Within (Command.push n) = Unit {0}
Within (Command.pop n) = Unit {0}
Within (Command.get_value ws) = NamesFine ws × ((1 ≤ length ws) × (length ws ≤ ASKED))

-- The text begins with the command c, which is written from its first byte to place e, within the limits.
pub record Written (s : List ℕ) (c : Command) (e : ℕ) : Type 0 where
  pub begins : (token_at s 0).from ≡ 0
  pub spells : Spells s 0 (spelt_command c) e
  pub within : Within c
