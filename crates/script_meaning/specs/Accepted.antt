-- What is accepted, from the text of the commands alone: which names are declared, whether the logic is set, what the last question printed, what is asserted; and from these, for every text, the
-- number that it is refused with, or that it is carried out.
use Rattle.std.specs.Prelude.{ℕ, ◌+◌, ◌≤◌, ◌<◌, ◌≡◌, Bool, true, false, List, [], ◌∷◌, ◌++◌, ◌⊎◌, length, drop}
use Rattle.meaning.specs.Bounds.{STEPS, RULES, MARKS, DONE, FULL, NOMARK, SYNTAX, MODE, NAME, SIZE}
use Rattle.meaning.specs.Tables.{Tables}
use Rattle.meaning.specs.Promise.{Given, Need, needs, First}
use Rattle.meaning.specs.Runs.{Call, Made}
use Rattle.text.specs.Lexicon.{END, token_at}
use Rattle.span.specs.Span.{span}
use Rattle.reading.specs.Tree.{said_by, Term, rules_of_term, Command}
use Rattle.reading.specs.Reading.{Why, Read, reading}
use Rattle.reading.specs.Saying.{term_needs, name_needs}
use Rattle.script_meaning.specs.Record.{Lent}
use Rattle.script_meaning.specs.Effect.{Does}
use Rattle.script_meaning.specs.Mixed.{on_tables}
use Rattle.script_meaning.specs.Whole.{Fresh, rest, read_at, after_command}
use Rattle.script_meaning.specs.Traces.{History, nothing_asserted, with_term, with_levels, Satisfiable, Quiet, with_out}

-- What is known after some commands: the names declared, whether the logic is set, whether a question was the last that counts, and what is asserted, by level.
pub record Story : Type 0 where
  pub names : List (List ℕ)
  pub logic : Bool
  pub asked : Bool
  pub asserted : History

-- At the start nothing is.
abbrev pub begun : Story
begun = record { names = []; logic = false; asked = false; asserted = nothing_asserted }

-- The same, with this asserted and no question since.
abbrev pub with_asserted : History → Story → Story
with_asserted h k = record { names = k.names; logic = k.logic; asked = false; asserted = h }

-- What is known after a text that was read as r and is carried out.
abbrev pub onward : Read Command → Story → Story
onward (Read.got Command.set_logic e) k = record { names = k.names; logic = true; asked = false; asserted = k.asserted }
onward (Read.got Command.check_sat e) k = record { names = k.names; logic = k.logic; asked = true; asserted = k.asserted }
onward (Read.got Command.exit e) k = with_asserted k.asserted k
onward (Read.got (Command.declare w) e) k = record { names = w.letters ∷ k.names; logic = k.logic; asked = false; asserted = k.asserted }
onward (Read.got (Command.assert t) e) k = with_asserted (with_term t k.asserted) k
onward (Read.got (Command.push n) e) k = with_asserted (with_levels (said_by n) k.asserted) k
onward (Read.got (Command.pop n) e) k = with_asserted (drop (said_by n) k.asserted) k
onward (Read.got (Command.get_value ws) e) k = k
onward (Read.stop w i) k = k

-- The name is one of the list.
abbrev pub OneOf : List (List ℕ) → List ℕ → Type 0
OneOf [] w = ⊥
OneOf (v ∷ l) w = (w ≡ v) ⊎ OneOf l w

-- How many rules the asserted terms have in all.
abbrev pub rules_in : List Term → ℕ
rules_in [] = 0
rules_in (t ∷ l) = length (rules_of_term false t) + rules_in l

abbrev pub rules_asserted : History → ℕ
rules_asserted [] = 0
rules_asserted (l ∷ h) = rules_in l + rules_asserted h

-- What a command needs: the logic, once; for `get_value` that the last question printed `sat`; names declared, or not yet; amounts within bounds; and room for STEPS names, RULES rules, as long as
-- what is asserted is satisfiable, and MARKS levels. There is one level more than are pushed.
abbrev pub told_needs : Command → Story → List Need
told_needs Command.set_logic k = needs MODE (k.logic ≡ false) ∷ []
told_needs Command.check_sat k = needs MODE (k.logic ≡ true) ∷ []
told_needs Command.exit k = []
told_needs (Command.declare w) k = needs MODE (k.logic ≡ true) ∷ needs NAME (OneOf k.names w.letters → ⊥) ∷ needs FULL (length k.names < STEPS) ∷ []
told_needs (Command.assert t) k =
    needs MODE (k.logic ≡ true)
    ∷ (term_needs (OneOf k.names) (rules_of_term false t)
    ++ (needs FULL (Satisfiable k.asserted → rules_asserted k.asserted + length (rules_of_term false t) ≤ RULES) ∷ []))
told_needs (Command.push n) k = needs MODE (k.logic ≡ true) ∷ needs FULL (length k.asserted + said_by n ≤ MARKS + 1) ∷ []
told_needs (Command.pop n) k = needs MODE (k.logic ≡ true) ∷ needs NOMARK (said_by n < length k.asserted) ∷ []
told_needs (Command.get_value ws) k = needs MODE (k.logic ≡ true) ∷ needs MODE ((k.asked ≡ true) × Satisfiable k.asserted) ∷ name_needs (OneOf k.names) ws

-- What a text needs: a command, with brackets that close; its form and its sizes; and what the command needs.
abbrev pub accepts : Read Command → Story → List Need
accepts (Read.got c e) k = told_needs c k
accepts (Read.stop Why.other i) k = []
accepts (Read.stop Why.wrong i) k = needs SYNTAX ⊥ ∷ []
accepts (Read.stop Why.size i) k = needs SIZE ⊥ ∷ []

abbrev pub told_text : List ℕ → Story → List Need
told_text text k = needs SYNTAX (1 ≤ span text) ∷ accepts (reading text) k

-- What is lent comes from a start and then texts that were carried out, after which k is known; in between there may be quiet calls, and other bytes may be lent for the answers.
pub data Recounts : Lent → Story → Type 0 where
  fresh : (l : Lent) → Fresh l → Recounts l begun
  carried_out :
      (l : Lent) (k : Story) → Recounts l k → (text : List ℕ) (i w : ℕ) (m : Lent) → First (told_text text k) DONE → Does (reading text) i l w m →
      Recounts m (onward (reading text) k)
  quiet_call : (l : Lent) (k : Story) → Recounts l k → (c : Call) (g : Given) (t : Tables) → Made c l.tables g t → Quiet c g → Recounts (on_tables t l) k
  other_bytes : (l : Lent) (k : Story) → Recounts l k → (out : List ℕ) → Recounts (with_out out l) k

-- The script s, from place i on, where k is known, ends with the number g, where there is always room for an answer: at its end, or at `exit`, with DONE, else at the first text that is refused.
pub data EndsWith (s : List ℕ) : ℕ → Story → ℕ → Type 0 where
  at_end : (i : ℕ) (k : Story) → (token_at s i).kind ≡ END → EndsWith s i k DONE
  refused : (i : ℕ) (k : Story) (g : ℕ) → ((token_at s i).kind ≡ END → ⊥) → First (told_text (rest s i) k) g → (g ≡ DONE → ⊥) → EndsWith s i k g
  exited : (i : ℕ) (k : Story) (e : ℕ) → ((token_at s i).kind ≡ END → ⊥) → First (told_text (rest s i) k) DONE → read_at s i ≡ Read.got Command.exit e → EndsWith s i k DONE
  goes_on :
      (i : ℕ) (k : Story) (g : ℕ) → ((token_at s i).kind ≡ END → ⊥) → First (told_text (rest s i) k) DONE → ((e : ℕ) → read_at s i ≡ Read.got Command.exit e → ⊥) →
      EndsWith s (after_command s i) (onward (read_at s i) k) g → EndsWith s i k g
