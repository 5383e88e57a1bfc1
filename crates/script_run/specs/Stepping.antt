-- One command of a script: how it begins, how it is settled, and what it says of the script from there on.
use Rattle.std.specs.Prelude.{ℕ, ◌+◌, ◌≤◌, ◌<◌, ◌≡◌, Bool, true, false, List, length, Result, Ok, Err, Option, Some, None}
use Rattle.meaning.specs.declared.Refusal.{Refusal}
use Rattle.meaning.specs.Refusals.{number_of}
use Rattle.meaning.specs.Bounds.{ROOM, DONE, SHORT}
use Rattle.text.specs.Lexicon.{END, token_at}
use Rattle.write.specs.Written.{over}
use Rattle.script_meaning.specs.Record.{Lent}
use Rattle.script_meaning.specs.Whole.{error_line, Plays, blank}
use Rattle.script_run.specs.Reaching.{Reaches}

-- Something stands after place i, from place `from` on; n bytes are lent, and k of them written.
pub record CommandThere (s : List ℕ) (i n k from : ℕ) : Type 0 where
  pub not_over : (token_at s i).kind ≡ END → ⊥
  pub room : k + ROOM ≤ n
  pub from_is : from ≡ (token_at s i).from
  pub within : from ≤ length s
  pub onward : i ≤ from

-- No command can be carried out, and the script ends with the number.
pub data Halts (s : List ℕ) (i n k : ℕ) : ℕ → Type 0 where
  over_there : (token_at s i).kind ≡ END → Halts s i n k DONE
  short_there : ((token_at s i).kind ≡ END → ⊥) → n < k + ROOM → Halts s i n k SHORT

-- The answer tells where a command begins; that there is none, at the end of the text; or the refusal with which the script ends.
abbrev pub Begins : List ℕ → (i n k : ℕ) → Result (Option ℕ) Refusal → Type 0
Begins s i n k (Ok (Some from)) = CommandThere s i n k from
Begins s i n k (Ok None) = Halts s i n k DONE
Begins s i n k (Err r) = Halts s i n k (number_of r)

-- A refusal was printed from place k on, where there is one; e is the place past what is written, w bytes where there is none; it is at most ROOM bytes on.
pub record Settled (out : List ℕ) (k g w : ℕ) (out' : List ℕ) (e : ℕ) : Type 0 where
  pub refused : (g ≡ DONE → ⊥) → (out' ≡ over out k (error_line g)) × (e ≡ k + length (error_line g))
  pub done : g ≡ DONE → (out' ≡ out) × (e ≡ k + w)
  pub short : e ≤ k + ROOM

pub record GoesOn (g : ℕ) (ended going : Bool) : Type 0 where
  pub on : going ≡ true → (g ≡ DONE) × (ended ≡ false)
  pub stopped : going ≡ false → g ≡ DONE → ended ≡ true

-- Nothing was carried out and nothing written, for want of room: the script stands where it stood.
pub record Waits (i : ℕ) (l : Lent) (k j e : ℕ) (l' : Lent) : Type 0 where
  pub same_place : j ≡ i
  pub same_written : e ≡ k
  pub same_lent : l' ≡ l
  pub no_room : length l.out < k + ROOM

-- One command of the script s from place i on, with l lent and k bytes written: either the script ends, with the number g and e bytes written, or it goes on
-- from place j, with l' lent and e bytes written. Where it pauses, it ends and has done nothing.
pub record Steps (s : List ℕ) (i : ℕ) (l : Lent) (k g : ℕ) (going paused : Bool) (j e : ℕ) (l' : Lent) : Type 0 where
  pub ends : going ≡ false → Plays s i l k g e l'.out
  pub on : going ≡ true → Reaches s i l k j l' e
  pub onward : going ≡ true → (i < j) × (j ≤ length s)
  pub waits : paused ≡ true → Waits i l k j e l'
  pub not_short : paused ≡ false → g ≡ SHORT → ⊥
  pub written_in : k ≤ length l.out → e ≤ length l.out

-- The script plays from its start on tables of zeros, with no byte written.
abbrev pub PlaysFresh : List ℕ → List ℕ → (g w : ℕ) → List ℕ → Type 0
PlaysFresh s out g w out' = Plays s 0 (blank out) 0 g w out'
