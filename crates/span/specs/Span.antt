-- Where a command ends.
use Rattle.std.specs.Prelude.{ℕ, zero, suc, ◌+◌, ◌-◌, Bool, cond, List, eqb, leb, length}
use Rattle.text.specs.Lexicon.{OPEN, CLOSE, BAD, END, both, either, token_at}

-- Where a command ends that begins at the text's start: past the bracket that closes its first one. 0 where it has no such end, or has | or " outside
-- comments or a piece that is no token on the way. d brackets are open at place i; the fuel is more than there are tokens left.
unfoldable pub span_from : (fuel : ℕ) → List ℕ → (d i : ℕ) → ℕ
span_from zero s d i = 0
span_from (suc f) s d i =
    cond (either (eqb (token_at s i).kind END) (eqb (token_at s i).kind BAD)) 0
    (cond (eqb (token_at s i).kind OPEN) (span_from f s (d + 1) (token_at s i).to)
    (cond (eqb (token_at s i).kind CLOSE) (cond (leb d 1) (token_at s i).to (span_from f s (d - 1) (token_at s i).to))
    (span_from f s d (token_at s i).to)))

-- A text that does not begin with an opening bracket is no command.
abbrev pub begins_open : List ℕ → Bool
begins_open s = both (eqb (token_at s 0).kind OPEN) (eqb (token_at s 0).from 0)

abbrev pub span : List ℕ → ℕ
span s = cond (begins_open s) (span_from (suc (length s)) s 0 0) 0
