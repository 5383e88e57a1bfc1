-- The code's tokens as the lexicon speaks of them.
use Rattle.std.specs.Prelude.{ℕ}
use Rattle.text.specs.declared.Kind.{Kind}
use Rattle.text.specs.declared.Kind.TheVariants.{End, Open, Close, Numeral, Symbol, Other, Bad}
use Rattle.text.specs.declared.Tok.{Tok as Given}
use Rattle.text.specs.Lexicon.{END, OPEN, CLOSE, NUMERAL, SYMBOL, OTHER, BAD, Tok, tok}

-- The lexicon's number of a kind.
abbrev pub code_of : Kind → ℕ
code_of End = END
code_of Open = OPEN
code_of Close = CLOSE
code_of Numeral = NUMERAL
code_of Symbol = SYMBOL
code_of Other = OTHER
code_of Bad = BAD

-- The token with its kind as a number.
abbrev pub numbered : Given → Tok
numbered t = tok (code_of t.kind) t.from t.to
