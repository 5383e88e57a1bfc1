-- A script carried out in parts: the places that are reached by carrying out commands, a part, and the parts one after the other.
use Rattle.std.specs.Prelude.{ℕ, ◌+◌, ◌≤◌, ◌<◌, ◌≡◌, Bool, true, false, List, ◌++◌, length, take}
use Rattle.meaning.specs.Bounds.{ROOM, DONE, SHORT}
use Rattle.meaning.specs.Promise.{First}
use Rattle.text.specs.Lexicon.{END, token_at}
use Rattle.script_meaning.specs.Record.{Lent}
use Rattle.script_meaning.specs.Effect.{Does}
use Rattle.script_meaning.specs.Commands.{text_needs}
use Rattle.script_meaning.specs.Whole.{rest, read_at, after_command, exits, Plays}

-- The script s from place i on, with l lent and k bytes written so far, comes to place j, with m lent and v bytes written, when some of its commands are
-- carried out, none of them `exit`. Each is carried out as where the whole script plays.
pub data Reaches (s : List ℕ) : ℕ → Lent → ℕ → ℕ → Lent → ℕ → Type 0 where
  there : (i : ℕ) (l : Lent) (k : ℕ) → Reaches s i l k i l k
  carried :
      (i : ℕ) (l l' : Lent) (k w j : ℕ) (m : Lent) (v : ℕ) → ((token_at s i).kind ≡ END → ⊥) → k + ROOM ≤ length l.out → First (text_needs (rest s i) l) DONE →
      Does (read_at s i) k l w l' → exits (read_at s i) ≡ false → Reaches s (after_command s i) l' (k + w) j m v → Reaches s i l k j m v

-- **A part of a script**: s from place i on, with l lent and no byte written yet, as far as the bytes for the answers go. It is played with the number g; w bytes
-- are written, and l' is left. It pauses exactly for want of room: place j is reached, at which the next part begins; and with room for one command at least,
-- some were carried out. Where it does not pause, the script has ended.
pub record Advances (s : List ℕ) (i : ℕ) (l : Lent) (g : ℕ) (paused : Bool) (j w : ℕ) (l' : Lent) : Type 0 where
  pub plays : Plays s i l 0 g w l'.out
  pub written_in : w ≤ length l.out
  pub reached : paused ≡ true → Reaches s i l 0 j l' w
  pub filled : paused ≡ true → length l.out < w + ROOM
  pub onward : paused ≡ true → ROOM ≤ length l.out → (i < j) × (j ≤ length s)
  pub ended : paused ≡ false → g ≡ SHORT → ⊥

-- The script s from place i on, part after part, until it ends with the number g: each part is played into the same bytes, from their first on, and what it wrote is
-- handed on before the next. b is all that was handed on.
pub data Parts (s : List ℕ) : ℕ → Lent → ℕ → List ℕ → Type 0 where
  last : (i : ℕ) (l : Lent) (g j w : ℕ) (l' : Lent) → Advances s i l g false j w l' → Parts s i l g (take w l'.out)
  more :
      (i : ℕ) (l : Lent) (h j w : ℕ) (l' : Lent) (g : ℕ) (b : List ℕ) → Advances s i l h true j w l' → Parts s j l' g b → Parts s i l g (take w l'.out ++ b)
