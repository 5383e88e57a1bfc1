-- What a command says, as a tree: pieces of the text with their places, amounts, terms and commands; and the rules and the depth of a term.
use Rattle.std.specs.Prelude.{ℕ, ◌+◌, ◌≡◌, Bool, true, false, not, cond, List, [], ◌∷◌, ◌++◌, leb, ℤ, pos, neg_ℤ, ◌-ℤ◌}
use Rattle.text.specs.Lexicon.{same_bytes, number}
use Rattle.words.specs.Words.{W_at_most, W_below, W_at_least}

-- A name or a numeral of the text: its bytes, and the place where it begins.
pub record Piece : Type 0 where
  pub letters : List ℕ
  pub place : ℕ

-- The number that a numeral says.
abbrev pub said_by : Piece → ℕ
said_by n = number 0 n.letters

-- An amount: N, or (- N).
pub data Amount : Type 0 where
  plus minus : Piece → Amount

abbrev pub amount_of : Amount → ℤ
amount_of (plus n) = pos (said_by n)
amount_of (minus n) = neg_ℤ (pos (said_by n))

-- A term: an atom, with its operator, its two names and its amount; (not TERM); (and TERM TERM ..), the first term and the rest. The rest is the last term, or `also`: a
-- term and the rest after it.
pub data Term : Type 0 where
  atom : (operator : List ℕ) (x y : Piece) (amount : Amount) → Term
  negation : Term → Term
  conjunction also : (first rest : Term) → Term

-- How deep a term is: an atom is one deep, a term of others one deeper than the deepest of them.
abbrev pub deeper : ℕ → ℕ → ℕ
deeper a b = cond (leb a b) b a

abbrev pub depth : Term → ℕ
depth (atom w x y c) = 1
depth (negation t) = depth t + 1
depth (conjunction t u) = deeper (depth t) (depth u) + 1
depth (also t u) = deeper (depth t) (depth u)

-- A rule over names: the day of the first less the day of the second is at most the amount.
pub record Named : Type 0 where
  pub first : List ℕ
  pub second : List ℕ
  pub amount : ℤ

abbrev pub named : List ℕ → List ℕ → ℤ → Named
named x y c = record { first = x; second = y; amount = c }

-- Not x, y, c is y, x, -c-1.
abbrev pub negated : Named → Named
negated r = named r.second r.first (neg_ℤ r.amount -ℤ pos 1)

abbrev pub either_rule : Bool → Named → Named → Named
either_rule true a b = a
either_rule false a b = b

-- What the operator w says of x, y and the amount c: `<` lowers the limit by 1; `>=` and `>` are the negations of `<` and `<=`.
abbrev pub said : List ℕ → List ℕ → List ℕ → ℤ → Named
said w x y c =
    either_rule (same_bytes w W_at_most) (named x y c)
    (either_rule (same_bytes w W_below) (named x y (c -ℤ pos 1))
    (either_rule (same_bytes w W_at_least) (negated (named x y (c -ℤ pos 1))) (negated (named x y c))))

-- The rule under an odd number of `not`, or an even one.
abbrev pub under : Bool → Named → Named
under odd r = either_rule odd (negated r) r

-- The rules of a term's atoms, from left to right; the term stands under an odd number of `not` or not.
abbrev pub rules_of_term : Bool → Term → List Named
rules_of_term odd (atom w x y c) = under odd (said w x.letters y.letters (amount_of c)) ∷ []
rules_of_term odd (negation t) = rules_of_term (not odd) t
rules_of_term odd (conjunction t u) = rules_of_term odd t ++ rules_of_term odd u
rules_of_term odd (also t u) = rules_of_term odd t ++ rules_of_term odd u

-- No `and` stands under an odd number of `not`.
abbrev pub Supported : Bool → Term → Type 0
Supported odd (atom w x y c) = Unit {0}
Supported odd (negation t) = Supported (not odd) t
Supported odd (conjunction t u) = (odd ≡ false) × (Supported odd t × Supported odd u)
Supported odd (also t u) = (odd ≡ false) × (Supported odd t × Supported odd u)

-- The listed commands.
pub data Command : Type 0 where
  set_logic check_sat exit : Command
  declare : (name : Piece) → Command
  assert : (term : Term) → Command
  push pop : (levels : Piece) → Command
  get_value : (names : List Piece) → Command
