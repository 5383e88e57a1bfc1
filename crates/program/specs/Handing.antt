-- What the program hands to standard output, and the status that it ends with. The bytes that the system takes are those that its writes answer for.
use Rattle.std.specs.Prelude.{ℕ, zero, suc, ◌≤◌, ◌<◌, ◌≡◌, ◌⊎◌, Bool, true, false, List, ◌++◌, length, take}
use Rattle.std.specs.Prelude.{Result, Ok, Err}
use Rattle.meaning.specs.Bounds.{TEXT}
use Rattle.streams.specs.declared.Stopped.{Stopped}
use Rattle.program.specs.declared.Ending.{Ending}
use Rattle.program.specs.declared.Ending.TheVariants.{Ended, Refused}
use Rattle.script_meaning.specs.Record.{Lent}
use Rattle.script_meaning.specs.Whole.{blank}
use Rattle.script_run.specs.Reaching.{Advances}

-- The script came to its end or to `exit`; a refusal ended it; standard input could not be read or standard output not be written.
abbrev pub ENDED : ℕ
ENDED = 0

abbrev pub REFUSED : ℕ
REFUSED = 1

abbrev pub FAILED : ℕ
FAILED = 2

-- The status of a script that was played to its end, by the number it ended with.
abbrev pub status : ℕ → ℕ
status zero = ENDED
status (suc g) = REFUSED

-- The status of an ending, and of what became of a script, which a stream that failed cuts off.
abbrev pub number_of : Ending → ℕ
number_of Ended = ENDED
number_of Refused = REFUSED

abbrev pub status_told : Result Ending Stopped → ℕ
status_told (Ok ending) = number_of ending
status_told (Err stopped) = FAILED

-- The script s from place i on, part after part, each played into the same bytes, from their first on. b is all that was taken, and r the status. What a part wrote is
-- taken whole before the next part is played; where less of it is taken, that is the last that is written, and the status says so.
pub data Handed (s : List ℕ) : ℕ → Lent → ℕ → List ℕ → Type 0 where
  all : (i : ℕ) (l : Lent) (g j w : ℕ) (l' : Lent) → Advances s i l g false j w l' → Handed s i l (status g) (take w l'.out)
  more :
      (i : ℕ) (l : Lent) (h j w : ℕ) (l' : Lent) (r : ℕ) (b : List ℕ) → Advances s i l h true j w l' → Handed s j l' r b → Handed s i l r (take w l'.out ++ b)
  cut : (i : ℕ) (l : Lent) (h j w : ℕ) (l' : Lent) (k : ℕ) (paused : Bool) → Advances s i l h paused j w l' → k < w → Handed s i l FAILED (take k l'.out)

-- The program ends with the status r, and what was taken of the script's answers, from place i on, is `bytes`.
pub record Ends (s : List ℕ) (i : ℕ) (l : Lent) (r : ℕ) : Type 0 where
  pub bytes : List ℕ
  pub handed : Handed s i l r bytes

-- The script s is played on fresh tables, into any bytes for the answers.
abbrev pub Played : List ℕ → ℕ → Type 0
Played s r = (out : List ℕ) × Ends s 0 (blank out) r

-- **A text that was read whole is answered** with the status r: a script of more than TEXT bytes is refused; any other is played on fresh tables.
pub record Answered (s : List ℕ) (r : ℕ) : Type 0 where
  pub too_long : TEXT < length s → (r ≡ FAILED → ⊥) → r ≡ REFUSED
  pub played : length s ≤ TEXT → Played s r

-- **The program**, which leaves the bytes t where it was lent room for the text: either the text could not be read, or the first n of these bytes are the text, and it is answered.
abbrev pub Runs : List ℕ → ℕ → Type 0
Runs t r = (r ≡ FAILED) ⊎ ((n : ℕ) × ((n ≤ length t) × Answered (take n t) r))
