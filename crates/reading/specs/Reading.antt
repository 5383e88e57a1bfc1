-- The reading of a text, from left to right: what it says, or the leftmost place that stops it, and why.
use Rattle.std.specs.Prelude.{ℕ, zero, suc, ◌+◌, ◌-◌, Bool, false, not, cond, List, [], ◌∷◌, eqb, leb, ltb, length}
use Rattle.meaning.specs.Bounds.{NAME_BYTES, DEPTH, ASKED}
use Rattle.text.specs.Lexicon.{Tok}
use Rattle.text.specs.Lexicon.{OPEN, CLOSE, NUMERAL, SYMBOL, both, token_at, bytes, same_bytes}
use Rattle.words.specs.Words.{reserved, compares, operates, W_set_logic, W_declare_fun, W_assert, W_push, W_pop, W_check_sat, W_get_value, W_exit, W_QF_IDL, W_Int, W_not, W_and, W_minus}
use Rattle.reading.specs.Tree.{Piece, Amount, Term, Command}

-- Why reading stops: at something unsupported, at a departure from the form, at a size fault.
pub data Why : Type 0 where
  other wrong size : Why

-- What was read, and the place past it; or why reading stopped, and the place of the token that stopped it.
pub data Read (A : Type 0) : Type 0 where
  got : A → ℕ → Read A
  stop : Why → ℕ → Read A

module _ {A B : Type 0} where
  -- Reading goes on from what was read, or has stopped.
  abbrev pub then : Read A → (A → ℕ → Read B) → Read B
  then (Read.got a i) next = next a i
  then (Read.stop w i) next = Read.stop w i

-- The bytes of a token; the token as a piece; the place past the token at place i.
abbrev pub lexeme : List ℕ → Tok → List ℕ
lexeme s t = bytes s t.from t.to

abbrev pub piece : List ℕ → Tok → Piece
piece s t = record { letters = lexeme s t; place = t.from }

abbrev pub past : List ℕ → ℕ → ℕ
past s i = (token_at s i).to

-- The token is this symbol. It can be a name: a simple symbol that is no reserved word.
abbrev pub is_word : List ℕ → Tok → List ℕ → Bool
is_word s t w = both (eqb t.kind SYMBOL) (same_bytes (lexeme s t) w)

abbrev pub is_name : List ℕ → Tok → Bool
is_name s t = both (eqb t.kind SYMBOL) (not (reserved (lexeme s t)))

-- Reading stops at the token at place i.
abbrev pub stops : {A : Type 0} → Why → List ℕ → ℕ → Read A
stops w s i = Read.stop w (token_at s i).from

-- A token of kind k; this word; a name of at most NAME-BYTES bytes.
abbrev pub expect : ℕ → List ℕ → ℕ → Read Piece
expect k s i = cond (eqb (token_at s i).kind k) (Read.got (piece s (token_at s i)) (past s i)) (stops Why.wrong s i)

abbrev pub expect_word : List ℕ → List ℕ → ℕ → Read Piece
expect_word w s i = cond (is_word s (token_at s i) w) (Read.got (piece s (token_at s i)) (past s i)) (stops Why.wrong s i)

abbrev pub expect_name : List ℕ → ℕ → Read Piece
expect_name s i =
    cond (is_name s (token_at s i))
    (cond (leb ((token_at s i).to - (token_at s i).from) NAME_BYTES) (Read.got (piece s (token_at s i)) (past s i)) (stops Why.size s i))
    (stops Why.wrong s i)

-- Something that was read, and after it the closing bracket.
abbrev pub closed : {A : Type 0} → List ℕ → A → ℕ → Read A
closed s a i = then (expect CLOSE s i) (λ _ j. Read.got a j)

-- An amount: N or (- N).
abbrev pub amount : List ℕ → ℕ → Read Amount
amount s i =
    cond (eqb (token_at s i).kind OPEN)
    (then (expect_word W_minus s (past s i)) (λ _ j. then (expect NUMERAL s j) (λ n k. closed s (Amount.minus n) k)))
    (then (expect NUMERAL s i) (λ n j. Read.got (Amount.plus n) j))

-- What stands in an atom after its operator w: (- NAME NAME), an amount, and the closing bracket.
abbrev pub comparison : List ℕ → List ℕ → ℕ → Read Term
comparison w s i =
    then (expect OPEN s i) (λ _ a. then (expect_word W_minus s a) (λ _ b.
    then (expect_name s b) (λ x c. then (expect_name s c) (λ y d. then (expect CLOSE s d) (λ _ e.
    then (amount s e) (λ m f. closed s (Term.atom w x y m) f))))))

-- One term or more and the closing bracket; `one` reads a term. The fuel is more than there are tokens left.
unfoldable pub rest_from : (one : ℕ → Read Term) → (fuel : ℕ) → List ℕ → ℕ → Read Term
rest_from one zero s i = stops Why.wrong s i
rest_from one (suc f) s i =
    then (one i) (λ t j. cond (eqb (token_at s j).kind CLOSE) (Read.got t (past s j)) (then (rest_from one f s j) (λ u k. Read.got (Term.also t u) k)))

-- What stands after `and`: a term, and the rest.
abbrev pub conjoined : (one : ℕ → Read Term) → List ℕ → ℕ → Read Term
conjoined one s i = then (one i) (λ t j. then (rest_from one (suc (length s)) s j) (λ u k. Read.got (Term.conjunction t u) k))

-- What stands in a bracketed term after the bracket, where `one odd` reads a term one deeper, under an odd number of `not` or not: an atom, `not` and a term, or `and`
-- and terms, which is unsupported under an odd number of `not`. Another operator is unsupported.
abbrev pub inside : (one : Bool → ℕ → Read Term) → List ℕ → Bool → ℕ → Read Term
inside one s odd i =
    cond (eqb (token_at s i).kind SYMBOL)
    (cond (compares (lexeme s (token_at s i))) (comparison (lexeme s (token_at s i)) s (past s i))
    (cond (same_bytes (lexeme s (token_at s i)) W_not) (then (one (not odd) (past s i)) (λ t j. closed s (Term.negation t) j))
    (cond (same_bytes (lexeme s (token_at s i)) W_and) (cond odd (stops Why.other s i) (conjoined (one false) s (past s i))) (stops Why.other s i))))
    (stops Why.wrong s i)

-- No bracketed term: a symbol without a bracket is an operator without arguments, unsupported but for those that take some.
abbrev pub unbracketed : List ℕ → ℕ → Read Term
unbracketed s i = cond (eqb (token_at s i).kind SYMBOL) (cond (operates (lexeme s (token_at s i))) (stops Why.wrong s i) (stops Why.other s i)) (stops Why.wrong s i)

-- A term, which may be d deep. A bracket that opens a term too deep is a size fault.
unfoldable pub term : (d : ℕ) → List ℕ → Bool → ℕ → Read Term
term zero s odd i = cond (eqb (token_at s i).kind OPEN) (stops Why.size s i) (unbracketed s i)
term (suc d) s odd i = cond (eqb (token_at s i).kind OPEN) (inside (term d s) s odd (past s i)) (unbracketed s i)

-- One name or more, at most ASKED, and the closing bracket; n names have been read. The fuel is more than there are tokens left.
unfoldable pub names_from : (fuel : ℕ) → List ℕ → (n i : ℕ) → Read (List Piece)
names_from zero s n i = stops Why.wrong s i
names_from (suc f) s n i =
    then (expect_name s i) (λ w j. cond (ltb n ASKED)
    (cond (eqb (token_at s j).kind CLOSE) (Read.got (w ∷ []) (past s j)) (then (names_from f s (n + 1) j) (λ ws k. Read.got (w ∷ ws) k)))
    (stops Why.size s i))

abbrev pub asked : List ℕ → ℕ → Read (List Piece)
asked s i = names_from (suc (length s)) s 0 i

-- What stands in a `declare-fun` after its name: NAME () Int, and the closing bracket.
abbrev pub declared : List ℕ → ℕ → Read Command
declared s i =
    then (expect_name s i) (λ x a. then (expect OPEN s a) (λ _ b. then (expect CLOSE s b) (λ _ c. then (expect_word W_Int s c) (λ _ d. closed s (Command.declare x) d))))

-- The command whose name w ends at place i: a listed command in its form, else unsupported, at the name's place p.
abbrev pub headed : List ℕ → ℕ → List ℕ → ℕ → Read Command
headed w p s i =
    cond (same_bytes w W_assert) (then (term DEPTH s false i) (λ t j. closed s (Command.assert t) j))
    (cond (same_bytes w W_declare_fun) (declared s i)
    (cond (same_bytes w W_check_sat) (closed s Command.check_sat i)
    (cond (same_bytes w W_push) (then (expect NUMERAL s i) (λ n j. closed s (Command.push n) j))
    (cond (same_bytes w W_pop) (then (expect NUMERAL s i) (λ n j. closed s (Command.pop n) j))
    (cond (same_bytes w W_get_value) (then (expect OPEN s i) (λ _ a. then (asked s a) (λ ws b. closed s (Command.get_value ws) b)))
    (cond (same_bytes w W_set_logic) (then (expect_word W_QF_IDL s i) (λ _ j. closed s Command.set_logic j))
    (cond (same_bytes w W_exit) (closed s Command.exit i) (Read.stop Why.other p))))))))

-- The command after its opening bracket, which is the first token. It is headed by a symbol or reserved word.
abbrev pub bracketed : List ℕ → Read Command
bracketed s = then (expect OPEN s 0) (λ _ i. then (expect SYMBOL s i) (λ w j. headed w.letters w.place s j))

-- **The reading** of a text: the command that it begins with, from its first byte on, and the place past its closing bracket.
abbrev pub reading : List ℕ → Read Command
reading s = cond (eqb (token_at s 0).from 0) (bracketed s) (stops Why.wrong s 0)
