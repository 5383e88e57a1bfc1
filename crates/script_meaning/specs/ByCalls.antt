-- A whole script by the two library calls: what a caller does who starts it and then hands over one command after the other.
use Rattle.std.specs.Prelude.{ℕ, ◌+◌, ◌≤◌, ◌≡◌, true, false, List, [], ◌++◌, length, take}
use Rattle.meaning.specs.Bounds.{ROOM, DONE}
use Rattle.meaning.specs.Promise.{Given, Obeys}
use Rattle.text.specs.Lexicon.{END, token_at}
use Rattle.script_meaning.specs.Record.{Lent}
use Rattle.script_meaning.specs.Commands.{start_meaning, command_meaning}
use Rattle.script_meaning.specs.Traces.{with_out}
use Rattle.script_meaning.specs.Whole.{exits, error_line, rest, read_at}

-- One command call, on the text from the first token after place i on. The caller lends `out` for its answer, ROOM bytes or more, fresh ones or those of the call
-- before; nothing else that is lent was touched since.
pub record CallsAt (s : List ℕ) (i : ℕ) (l : Lent) (answer : Given) (after : Lent) : Type 0 where
  pub some : (token_at s i).kind ≡ END → ⊥
  pub out : List ℕ
  pub room : ROOM ≤ length out
  pub keeps : Obeys (command_meaning (rest s i) (with_out out l)) (with_out out l) answer after

-- With l lent, which is of kind S and has its bytes for answers in `out`, the caller goes through the script s from place i on, prints the bytes b from there on and ends with the number g.
-- At the end of the text he stops, else he makes a command call: Calls says what it may give and leave. On a refusal he prints its number and stops. Else he prints the bytes written; after
-- `exit` he stops, after another command he goes on past the bytes read.
pub data GoesBy {S : Type 0} (out : S → List ℕ) (Calls : ℕ → S → Given → S → Type 0) (s : List ℕ) : ℕ → S → (g : ℕ) → (b : List ℕ) → Type 0 where
  at_end : (i : ℕ) (l : S) → (token_at s i).kind ≡ END → GoesBy out Calls s i l DONE []
  refused : (i : ℕ) (l : S) (a : Given) (m : S) → Calls i l a m → (a.number ≡ DONE → ⊥) → GoesBy out Calls s i l a.number (error_line a.number)
  exited : (i : ℕ) (l : S) (a : Given) (m : S) → Calls i l a m → a.number ≡ DONE → exits (read_at s i) ≡ true → GoesBy out Calls s i l DONE (take a.two (out m))
  goes_on :
      (i : ℕ) (l : S) (a : Given) (m : S) → Calls i l a m → a.number ≡ DONE → exits (read_at s i) ≡ false →
      (g : ℕ) (b : List ℕ) → GoesBy out Calls s ((token_at s i).from + a.one) m g b → GoesBy out Calls s i l g (take a.two (out m) ++ b)

abbrev pub Goes : List ℕ → ℕ → Lent → (g : ℕ) → (b : List ℕ) → Type 0
Goes s = GoesBy (λ l. l.out) (CallsAt s) s

-- **The whole script by calls**: the caller lends l, whatever stands in it, to a start that is carried out, goes through the script from its beginning on, prints
-- the bytes b in all and ends with the number g.
pub record RunsByCalls (s : List ℕ) (l : Lent) (g : ℕ) (b : List ℕ) : Type 0 where
  pub answer : Given
  pub after : Lent
  pub started : Obeys (start_meaning l) l answer after
  pub accepted : answer.number ≡ DONE
  pub goes : Goes s 0 after g b
