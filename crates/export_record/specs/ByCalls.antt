-- A whole script by the two calls over C's record: what a caller does who starts it and then hands over one command after the other.
use Rattle.std.specs.Prelude.{ℕ, ◌≤◌, ◌≡◌, List, length}
use Rattle.meaning.specs.Bounds.{ROOM, DONE}
use Rattle.meaning.specs.Promise.{Given, Obeys}
use Rattle.text.specs.Lexicon.{END, token_at}
use Rattle.script_meaning.specs.Whole.{rest}
use Rattle.script_meaning.specs.ByCalls.{GoesBy}
use Rattle.export_record.specs.Records.{LentByC, start_by_c, command_by_c}

-- The same lent, with other bytes for the answers.
abbrev pub with_out : List ℕ → LentByC → LentByC
with_out out l = record { tables = l.tables; kept = l.kept; names = l.names; lens = l.lens; out = out }

-- One command call, on the text from the first token after place i on, with `out` lent for its answer, ROOM bytes or more.
pub record CallsByC (s : List ℕ) (i : ℕ) (l : LentByC) (answer : Given) (after : LentByC) : Type 0 where
  pub some : (token_at s i).kind ≡ END → ⊥
  pub out : List ℕ
  pub room : ROOM ≤ length out
  pub keeps : Obeys (command_by_c (rest s i) (with_out out l)) (with_out out l) answer after

-- With l lent, the caller goes through the script s from place i on, as `GoesBy` says.
abbrev pub GoesByC : List ℕ → ℕ → LentByC → (g : ℕ) → (b : List ℕ) → Type 0
GoesByC s = GoesBy (λ l. l.out) (CallsByC s) s

-- **The whole script by calls over C's record**: l, whatever stands in it, is lent to a start that is carried out; then the caller goes through the script.
pub record RunsByC (s : List ℕ) (l : LentByC) (g : ℕ) (b : List ℕ) : Type 0 where
  pub answer : Given
  pub after : LentByC
  pub started : Obeys (start_by_c l) l answer after
  pub accepted : answer.number ≡ DONE
  pub goes : GoesByC s 0 after g b
