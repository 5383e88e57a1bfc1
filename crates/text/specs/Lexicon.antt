-- The lexicon of scripts, from SMT-LIB 2.6: white space, comments, pieces and tokens. A text is a list of bytes; a token is found from a place in it.
use Rattle.std.specs.Prelude.{ℕ, ◌+◌, ◌*◌, ◌-◌, Bool, true, false, cond, List, [], ◌∷◌, eqb, leb, drop, take}

-- a or b; a and b; b is from lo to hi.
abbrev pub either : Bool → Bool → Bool
either a b = cond a true b

abbrev pub both : Bool → Bool → Bool
both a b = cond a b false

abbrev pub from_to : ℕ → ℕ → ℕ → Bool
from_to lo hi b = both (leb lo b) (leb b hi)

-- White space is tab, line feed, carriage return and space, and nothing else.
abbrev pub white : ℕ → Bool
white b = either (eqb b 9) (either (eqb b 10) (either (eqb b 13) (eqb b 32)))

-- A comment ends at a line feed or a carriage return.
abbrev pub line_end : ℕ → Bool
line_end b = either (eqb b 10) (eqb b 13)

-- The classes of bytes. The first five end a piece.
abbrev pub WHITE : ℕ
WHITE = 0

abbrev pub OPENS : ℕ
OPENS = 1

abbrev pub CLOSES : ℕ
CLOSES = 2

abbrev pub SEMICOLON : ℕ
SEMICOLON = 3

abbrev pub QUOTE : ℕ
QUOTE = 4

abbrev pub FOREIGN : ℕ
FOREIGN = 5

abbrev pub ZERO : ℕ
ZERO = 6

abbrev pub ONE : ℕ
ONE = 7

abbrev pub DIGIT : ℕ
DIGIT = 8

abbrev pub POINT : ℕ
POINT = 9

abbrev pub HASH : ℕ
HASH = 10

abbrev pub COLON : ℕ
COLON = 11

abbrev pub LETTER_B : ℕ
LETTER_B = 12

abbrev pub LETTER_X : ℕ
LETTER_X = 13

abbrev pub HEX_LETTER : ℕ
HEX_LETTER = 14

abbrev pub LETTER : ℕ
LETTER = 15

-- a, c to f and A to F: with the digits and b, the hexadecimal digits.
abbrev pub hex_letter : ℕ → Bool
hex_letter b = either (eqb b 97) (either (from_to 99 102 b) (from_to 65 70 b))

-- A letter, or one of the bytes ~ ! @ $ % ^ & * _ - + = < > / and the question mark: with the digits and the point, what a simple symbol is made of.
abbrev pub letter : ℕ → Bool
letter b =
    either (from_to 97 122 b) (either (from_to 65 90 b) (either (eqb b 126) (either (eqb b 33) (either (eqb b 64) (either (from_to 36 38 b)
    (either (eqb b 94) (either (eqb b 42) (either (eqb b 95) (either (eqb b 45) (either (eqb b 43) (either (from_to 60 63 b) (eqb b 47))))))))))))

-- The class of a byte. Bytes that no token may have, NUL and those above 127 among them, are FOREIGN.
abbrev pub class : ℕ → ℕ
class b =
    cond (white b) WHITE
    (cond (eqb b 40) OPENS
    (cond (eqb b 41) CLOSES
    (cond (eqb b 59) SEMICOLON
    (cond (either (eqb b 124) (eqb b 34)) QUOTE
    (cond (eqb b 48) ZERO
    (cond (eqb b 49) ONE
    (cond (from_to 50 57 b) DIGIT
    (cond (eqb b 46) POINT
    (cond (eqb b 35) HASH
    (cond (eqb b 58) COLON
    (cond (eqb b 98) LETTER_B
    (cond (eqb b 120) LETTER_X
    (cond (hex_letter b) HEX_LETTER
    (cond (letter b) LETTER FOREIGN))))))))))))))

-- Classes that end a piece; those of digits, of hexadecimal digits, of what a symbol is made of, and of what it may begin with.
abbrev pub ends : ℕ → Bool
ends k = leb k QUOTE

abbrev pub digit : ℕ → Bool
digit k = from_to ZERO DIGIT k

abbrev pub hex_digit : ℕ → Bool
hex_digit k = either (digit k) (either (eqb k LETTER_B) (eqb k HEX_LETTER))

abbrev pub begins_symbol : ℕ → Bool
begins_symbol k = either (eqb k POINT) (from_to LETTER_B LETTER k)

abbrev pub symbolic : ℕ → Bool
symbolic k = either (digit k) (begins_symbol k)

-- What a piece is, as far as it has been read.
abbrev pub NOTHING : ℕ
NOTHING = 0

abbrev pub A_ZERO : ℕ
A_ZERO = 1

abbrev pub A_NUMERAL : ℕ
A_NUMERAL = 2

abbrev pub A_POINT : ℕ
A_POINT = 3

abbrev pub A_DECIMAL : ℕ
A_DECIMAL = 4

abbrev pub A_HASH : ℕ
A_HASH = 5

abbrev pub A_HEX_MARK : ℕ
A_HEX_MARK = 6

abbrev pub A_HEX : ℕ
A_HEX = 7

abbrev pub A_BINARY_MARK : ℕ
A_BINARY_MARK = 8

abbrev pub A_BINARY : ℕ
A_BINARY = 9

abbrev pub A_SYMBOL : ℕ
A_SYMBOL = 10

abbrev pub A_COLON : ℕ
A_COLON = 11

abbrev pub A_KEYWORD : ℕ
A_KEYWORD = 12

abbrev pub A_FAULT : ℕ
A_FAULT = 13

-- What a piece is with one byte more, of class k: a numeral is 0 or begins with another digit; a decimal is a numeral, a point and digits; #x and
-- hexadecimal digits; #b and binary digits; a simple symbol does not begin with a digit; a keyword is a colon and a simple symbol.
abbrev pub begun : ℕ → ℕ
begun k =
    cond (eqb k ZERO) A_ZERO
    (cond (digit k) A_NUMERAL
    (cond (eqb k HASH) A_HASH
    (cond (eqb k COLON) A_COLON
    (cond (begins_symbol k) A_SYMBOL A_FAULT))))

abbrev pub grown : ℕ → ℕ → ℕ
grown p k =
    cond (eqb p NOTHING) (begun k)
    (cond (eqb p A_ZERO) (cond (eqb k POINT) A_POINT A_FAULT)
    (cond (eqb p A_NUMERAL) (cond (digit k) A_NUMERAL (cond (eqb k POINT) A_POINT A_FAULT))
    (cond (either (eqb p A_POINT) (eqb p A_DECIMAL)) (cond (digit k) A_DECIMAL A_FAULT)
    (cond (eqb p A_HASH) (cond (eqb k LETTER_X) A_HEX_MARK (cond (eqb k LETTER_B) A_BINARY_MARK A_FAULT))
    (cond (either (eqb p A_HEX_MARK) (eqb p A_HEX)) (cond (hex_digit k) A_HEX A_FAULT)
    (cond (either (eqb p A_BINARY_MARK) (eqb p A_BINARY)) (cond (from_to ZERO ONE k) A_BINARY A_FAULT)
    (cond (eqb p A_SYMBOL) (cond (symbolic k) A_SYMBOL A_FAULT)
    (cond (eqb p A_COLON) (cond (begins_symbol k) A_KEYWORD A_FAULT)
    (cond (eqb p A_KEYWORD) (cond (symbolic k) A_KEYWORD A_FAULT) A_FAULT)))))))))

-- The kinds of tokens. BAD is what is no token of the standard here: a piece that is none, and | and ".
abbrev pub END : ℕ
END = 0

abbrev pub OPEN : ℕ
OPEN = 1

abbrev pub CLOSE : ℕ
CLOSE = 2

abbrev pub NUMERAL : ℕ
NUMERAL = 3

abbrev pub SYMBOL : ℕ
SYMBOL = 4

abbrev pub OTHER : ℕ
OTHER = 5

abbrev pub BAD : ℕ
BAD = 6

-- The kind of a whole piece: OTHER are decimals, hexadecimals, binaries and keywords. Reserved words are symbols here.
abbrev pub kind : ℕ → ℕ
kind p =
    cond (either (eqb p A_ZERO) (eqb p A_NUMERAL)) NUMERAL
    (cond (eqb p A_SYMBOL) SYMBOL
    (cond (either (eqb p A_DECIMAL) (either (eqb p A_HEX) (either (eqb p A_BINARY) (eqb p A_KEYWORD)))) OTHER BAD))

-- How many bytes of white space and comments the text begins with; where `inside` is true it begins inside a comment. A comment may hold any byte
-- and runs to a line feed, a carriage return or the end of the text.
unfoldable pub skipped : (inside : Bool) → List ℕ → ℕ
skipped inside [] = 0
skipped inside (b ∷ l) =
    cond inside (1 + skipped (cond (line_end b) false true) l)
    (cond (white b) (1 + skipped false l) (cond (eqb b 59) (1 + skipped true l) 0))

-- How many bytes the piece has that the text begins with: it runs up to white space, a bracket, a semicolon, | or ".
unfoldable pub extent : List ℕ → ℕ
extent [] = 0
extent (b ∷ l) = cond (ends (class b)) 0 (1 + extent l)

-- What the piece is that the text begins with, p being what it was before.
unfoldable pub whole : ℕ → List ℕ → ℕ
whole p [] = p
whole p (b ∷ l) = cond (ends (class b)) p (whole (grown p (class b)) l)

-- A token: its kind, where it begins, and the place past its last byte.
pub record Tok : Type 0 where
  pub kind : ℕ
  pub from : ℕ
  pub to : ℕ

abbrev pub tok : ℕ → ℕ → ℕ → Tok
tok k f t = record { kind = k; from = f; to = t }

-- The piece at place f.
abbrev pub piece_at : List ℕ → ℕ → Tok
piece_at s f = tok (kind (whole NOTHING (drop f s))) f (f + extent (drop f s))

-- The token that stands at place f, where the text from there on is given.
abbrev pub token_of : List ℕ → ℕ → List ℕ → Tok
token_of s f [] = tok END f f
token_of s f (b ∷ l) =
    cond (eqb (class b) OPENS) (tok OPEN f (f + 1))
    (cond (eqb (class b) CLOSES) (tok CLOSE f (f + 1))
    (cond (eqb (class b) QUOTE) (tok BAD f (f + 1)) (piece_at s f)))

-- Where the first token from place i on begins, and that token. At the end of the text its kind is END.
abbrev pub start : List ℕ → ℕ → ℕ
start s i = i + skipped false (drop i s)

abbrev pub token_at : List ℕ → ℕ → Tok
token_at s i = token_of s (start s i) (drop (start s i) s)

-- The bytes from a to b.
abbrev pub bytes : List ℕ → ℕ → ℕ → List ℕ
bytes s a b = take (b - a) (drop a s)

-- The two texts are the same.
unfoldable pub same_bytes : List ℕ → List ℕ → Bool
same_bytes [] [] = true
same_bytes [] (b ∷ l) = false
same_bytes (a ∷ k) [] = false
same_bytes (a ∷ k) (b ∷ l) = cond (eqb a b) (same_bytes k l) false

-- A larger numeral than CAP is past every bound; numbers are read as CAP from there on.
abbrev pub CAP : ℕ
CAP = 10000000

abbrev pub cut : ℕ → ℕ
cut n = cond (leb n CAP) n CAP

-- The number that the digits say, after those that say n.
unfoldable pub number : ℕ → List ℕ → ℕ
number n [] = n
number n (b ∷ l) = number (10 * n + (b - 48)) l
