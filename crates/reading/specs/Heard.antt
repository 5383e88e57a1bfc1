-- What the readers hand on: what was read, or why and where reading stopped; the command by value, and the rules of its term, or the steps of its names, in rows.
use Rattle.std.specs.Prelude.{ℕ, ◌+◌, ◌≤◌, ◌<◌, ◌≡◌, false, List, [], ◌∷◌, map, length, Option, Some, None, Result, Ok, Err}
use Rattle.meaning.specs.declared.Refusal.{Refusal}
use Rattle.meaning.specs.Bounds.{DONE}
use Rattle.meaning.specs.Refusals.{number_of}
use Rattle.meaning.specs.Rules.{Rule}
use Rattle.meaning.specs.Tables.{Columns, rule_at, at}
use Rattle.meaning.specs.Promise.{First}
use Rattle.text.specs.Lexicon.{cut}
use Rattle.words.specs.Words.{reserved}
use Rattle.names.specs.Names.{name_at}
use Rattle.reading.specs.declared.Kind.{Kind}
use Rattle.reading.specs.declared.Stop.{Stop}
use Rattle.reading.specs.declared.Heard.{Heard}
use Rattle.reading.specs.Tree.{Piece, said_by, Named, rules_of_term, Command}
use Rattle.reading.specs.Reading.{Why, Read}
use Rattle.reading.specs.Saying.{step_in, KnownIn, resolved, term_needs, said_needs}

module _ {A : Type 0} where
  -- The reading that stopped so.
  abbrev pub stopped : Stop → Read A
  stopped (Stop.Unsupported i) = Read.stop Why.other i
  stopped (Stop.Wrong i) = Read.stop Why.wrong i
  stopped (Stop.Size i) = Read.stop Why.size i

  -- The reading came to something: what P says holds of it and of the place past it.
  abbrev pub Came : Read A → (A → ℕ → Type 0) → Type 0
  Came (Read.got a i) P = P a i
  Came (Read.stop w i) P = ⊥

module _ {A T : Type 0} where
  -- What a reader gives back is what the reading R came to: where it is Ok x, P says what x tells of what was read and of the place past it; where it is Err, reading
  -- stopped so.
  abbrev pub Hears : Read A → (A → ℕ → T → Type 0) → Result T Stop → Type 0
  Hears R P (Ok x) = Came R (λ a i. P a i x)
  Hears R P (Err e) = R ≡ stopped e

-- The fault noted, as a number: DONE where there is none.
abbrev pub noted_as : Option Refusal → ℕ
noted_as None = DONE
noted_as (Some r) = number_of r

-- The first n names are no reserved words.
abbrev pub NoneReserved : ℕ → List ℕ → List ℕ → Type 0
NoneReserved n names lens = (k : ℕ) → k < n → reserved (name_at names lens k) ≡ false

-- The rows from place k on are the rules.
abbrev pub Laid : Columns → ℕ → List Rule → Type 0
Laid rows k [] = Unit {0}
Laid rows k (r ∷ rs) = (rule_at rows k ≡ r) × Laid rows (k + 1) rs

-- The column from place k on has the steps of the names, where S gives the step of each name.
abbrev pub Listed : (List ℕ → ℕ) → List ℕ → ℕ → List Piece → Type 0
Listed S column k [] = Unit {0}
Listed S column k (w ∷ ws) = (at column k ≡ S w.letters) × Listed S column (k + 1) ws

-- The rules rs were put into the rows after the first k, while there were places: how many rules there are now, and the first fault of NAME and AMOUNT, where f was the
-- fault noted before. There are as many rows as the first column has places.
pub record Rowed (n : ℕ) (names lens : List ℕ) (rs : List Named) (k f : ℕ) (before : Columns) (k' f' : ℕ) (after : Columns) : Type 0 where
  pub counted : k' ≡ k + length rs
  pub fault_stays : (f ≡ DONE → ⊥) → f' ≡ f
  pub fault_first : f ≡ DONE → First (term_needs (KnownIn n names lens) rs) f'
  pub laid : f' ≡ DONE → k' ≤ length after.firsts → Laid after k (map (resolved (step_in n names lens)) rs)
  pub as_many : length after.firsts ≡ length before.firsts
  pub below_stays : (i : ℕ) → i < k → rule_at after i ≡ rule_at before i

-- The command as numbers: the ends of the name that it declares, how many rules or names it has, how many levels it opens or closes.
abbrev pub kind_of : Command → Kind
kind_of Command.set_logic = Kind.SetLogic
kind_of Command.check_sat = Kind.CheckSat
kind_of Command.exit = Kind.Exit
kind_of (Command.declare w) = Kind.Declare w.place (w.place + length w.letters)
kind_of (Command.assert t) = Kind.Assert (length (rules_of_term false t))
kind_of (Command.push n) = Kind.Push (cut (said_by n))
kind_of (Command.pop n) = Kind.Pop (cut (said_by n))
kind_of (Command.get_value ws) = Kind.GetValue (length ws)

-- The rows have the rules of an asserted term, where there is a place for each, or the steps of the names asked for.
abbrev pub Holding : (List ℕ → ℕ) → Command → Columns → Type 0
Holding S Command.set_logic rows = Unit {0}
Holding S Command.check_sat rows = Unit {0}
Holding S Command.exit rows = Unit {0}
Holding S (Command.declare w) rows = Unit {0}
Holding S (Command.assert t) rows = length (rules_of_term false t) ≤ length rows.firsts → Laid rows 0 (map (resolved S) (rules_of_term false t))
Holding S (Command.push n) rows = Unit {0}
Holding S (Command.pop n) rows = Unit {0}
Holding S (Command.get_value ws) rows = Listed S rows.firsts 0 ws

-- The command c was read, with n names declared: its kind, the first fault of its names and amounts, and, where there is none, the rows.
pub record Tells (n : ℕ) (names lens : List ℕ) (c : Command) (kind : Kind) (fault : ℕ) (rows : Columns) : Type 0 where
  pub kind_is : kind ≡ kind_of c
  pub fault_first : First (said_needs (KnownIn n names lens) c) fault
  pub holding : fault ≡ DONE → Holding (step_in n names lens) c rows

-- The command told: its kind, the place past it, its fault.
abbrev pub told : Kind → ℕ → Option Refusal → Heard
told k e f = record { kind = k; past = e; fault = f }
