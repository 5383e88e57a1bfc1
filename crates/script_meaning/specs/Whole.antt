-- A whole script: its commands one after the other, and the bytes that they print.
use Rattle.std.specs.Prelude.{ℕ, ◌+◌, ◌*◌, ◌≤◌, ◌<◌, ◌≡◌, Bool, true, false, List, [], ◌∷◌, ◌++◌, length, drop, replicate, pos}
use Rattle.meaning.specs.Bounds.{STEPS, RULES, WATCHED, NAME_BYTES, ROOM, TEXT, DONE, SHORT, SIZE}
use Rattle.meaning.specs.Tables.{at, steps_alone}
use Rattle.meaning.specs.Promise.{First}
use Rattle.text.specs.Lexicon.{END, token_at}
use Rattle.span.specs.Span.{span}
use Rattle.reading.specs.Tree.{Command}
use Rattle.reading.specs.Reading.{Read, reading}
use Rattle.write.specs.Written.{over, decimal}
use Rattle.script_meaning.specs.Record.{Lent, StartRoom, no_notes}
use Rattle.script_meaning.specs.Effect.{Does}
use Rattle.script_meaning.specs.Commands.{text_needs}

-- The command is exit.
abbrev pub exits : Read Command → Bool
exits (Read.got Command.set_logic e) = false
exits (Read.got Command.check_sat e) = false
exits (Read.got Command.exit e) = true
exits (Read.got (Command.declare w) e) = false
exits (Read.got (Command.assert t) e) = false
exits (Read.got (Command.push n) e) = false
exits (Read.got (Command.pop n) e) = false
exits (Read.got (Command.get_value ws) e) = false
exits (Read.stop w i) = false

-- What a refusal prints: (error "N") and a line feed, N its number.
abbrev pub error_line : ℕ → List ℕ
error_line g = 40 ∷ 101 ∷ 114 ∷ 114 ∷ 111 ∷ 114 ∷ 32 ∷ 34 ∷ (decimal g ++ (34 ∷ 41 ∷ 10 ∷ []))

-- The text from the first token after place i on, and what it is read as.
abbrev pub rest : List ℕ → ℕ → List ℕ
rest s i = drop (token_at s i).from s

abbrev pub read_at : List ℕ → ℕ → Read Command
read_at s i = reading (rest s i)

-- The place past the command.
abbrev pub after_command : List ℕ → ℕ → ℕ
after_command s i = (token_at s i).from + span (rest s i)

-- The script s from place i on, with l lent and k bytes written so far, ends with the number g, when w bytes have been written in all and the bytes for the
-- answers are `out`. End of text ends it silently. Where fewer than ROOM bytes are left for a command it stops and writes nothing more. A refusal prints its
-- number and ends it; so does `exit`, which prints nothing.
pub data Plays (s : List ℕ) : ℕ → Lent → ℕ → (g w : ℕ) → (out : List ℕ) → Type 0 where
  at_end : (i : ℕ) (l : Lent) (k : ℕ) → (token_at s i).kind ≡ END → Plays s i l k DONE k l.out
  no_room : (i : ℕ) (l : Lent) (k : ℕ) → ((token_at s i).kind ≡ END → ⊥) → length l.out < k + ROOM → Plays s i l k SHORT k l.out
  refused :
      (i : ℕ) (l : Lent) (k g : ℕ) → ((token_at s i).kind ≡ END → ⊥) → k + ROOM ≤ length l.out → First (text_needs (rest s i) l) g → (g ≡ DONE → ⊥) →
      Plays s i l k g (k + length (error_line g)) (over l.out k (error_line g))
  exited :
      (i : ℕ) (l l' : Lent) (k w : ℕ) → ((token_at s i).kind ≡ END → ⊥) → k + ROOM ≤ length l.out → First (text_needs (rest s i) l) DONE →
      Does (read_at s i) k l w l' → exits (read_at s i) ≡ true → Plays s i l k DONE (k + w) l'.out
  goes_on :
      (i : ℕ) (l l' : Lent) (k w g v : ℕ) (out : List ℕ) → ((token_at s i).kind ≡ END → ⊥) → k + ROOM ≤ length l.out → First (text_needs (rest s i) l) DONE →
      Does (read_at s i) k l w l' → exits (read_at s i) ≡ false → Plays s (after_command s i) l' (k + w) g v out → Plays s i l k g v out

-- What is lent at the start of a script: tables with room, STEPS steps on day 0, no rule, mark or watched rule, every place free, and an empty record.
pub record Fresh (l : Lent) : Type 0 where
  pub room : StartRoom l
  pub counts_are : l.tables.counts ≡ steps_alone STEPS
  pub notes_are : l.notes ≡ no_notes
  pub day_0 : (v : ℕ) → v < STEPS → at l.tables.days v ≡ 0
  pub all_free : (i : ℕ) → i < RULES → at l.tables.levels i ≡ 0

-- The tables of a script's own: zeros, each table exactly as long as its bound says.
abbrev pub blank : List ℕ → Lent
blank out = record {
  tables = record {
    counts = steps_alone STEPS;
    rules = record { firsts = replicate {A = ℕ} RULES 0; seconds = replicate {A = ℕ} RULES 0; amounts = replicate RULES (pos 0) };
    days = replicate {A = ℕ} STEPS 0;
    levels = replicate {A = ℕ} RULES 0;
    watched = record { firsts = replicate {A = ℕ} WATCHED 0; seconds = replicate {A = ℕ} WATCHED 0; amounts = replicate WATCHED (pos 0) };
  };
  notes = no_notes;
  names = replicate {A = ℕ} (NAME_BYTES * STEPS) 0;
  lens = replicate {A = ℕ} STEPS 0;
  out = out;
}

-- **The whole script** s, whose answers go into `out`: it ends with the number g, w bytes are written, and `out'` is left. Where fewer than ROOM bytes are lent
-- and there is a command or too long a script, SHORT; a script of more than TEXT bytes is SIZE, before its first command.
pub record RunsScript (s out : List ℕ) (g w : ℕ) (out' : List ℕ) : Type 0 where
  pub too_long : TEXT < length s → ROOM ≤ length out → (g ≡ SIZE) × ((w ≡ length (error_line SIZE)) × (out' ≡ over out 0 (error_line SIZE)))
  pub too_long_short : TEXT < length s → length out < ROOM → (g ≡ SHORT) × ((w ≡ 0) × (out' ≡ out))
  pub played : length s ≤ TEXT → Plays s 0 (blank out) 0 g w out'
