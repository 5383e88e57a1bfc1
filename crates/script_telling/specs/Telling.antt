-- What a command prints, the record after it, and the name that it declares, by its kind.
use Rattle.std.specs.Prelude.{ℕ, ◌+◌, ◌≡◌, Bool, true, false, cond, List, [], eqb, ltb}
use Rattle.text.specs.Lexicon.{bytes}
use Rattle.names.specs.Names.{Declared}
use Rattle.reading.specs.declared.Kind.{Kind}
use Rattle.script_meaning.specs.declared.Notes.{Notes}
use Rattle.script_meaning.specs.Effect.{either_answer, SAT, UNSAT, forgotten, at_level, one_named, logic_set, sat_told}
use Rattle.values.specs.Pair.{row_values}

-- What a command prints; the names asked for stand in the column, by their steps.
abbrev pub printed : Kind → ℕ → (names lens days column : List ℕ) → List ℕ
printed Kind.SetLogic broken names lens days column = []
printed (Kind.Declare a b) broken names lens days column = []
printed (Kind.Assert k) broken names lens days column = []
printed (Kind.Push k) broken names lens days column = []
printed (Kind.Pop k) broken names lens days column = []
printed Kind.CheckSat broken names lens days column = either_answer (eqb broken 0) SAT UNSAT
printed (Kind.GetValue k) broken names lens days column = row_values names lens days column k
printed Kind.Exit broken names lens days column = []

-- The record after a command; clash says whether a rule did not fit, k how many marks are open after it.
abbrev pub noted : Kind → Notes → Bool → ℕ → Notes
noted Kind.SetLogic n clash k = logic_set n
noted (Kind.Declare a b) n clash k = one_named n
noted (Kind.Assert i) n clash k = at_level (cond clash (k + 1) n.broken) n
noted (Kind.Push j) n clash k = forgotten n
noted (Kind.Pop j) n clash k = at_level (cond (ltb (k + 1) n.broken) 0 n.broken) n
noted Kind.CheckSat n clash k = sat_told n
noted (Kind.GetValue i) n clash k = n
noted Kind.Exit n clash k = forgotten n

-- The command is exit.
abbrev pub is_exit : Kind → Bool
is_exit Kind.SetLogic = false
is_exit (Kind.Declare a b) = false
is_exit (Kind.Assert i) = false
is_exit (Kind.Push k) = false
is_exit (Kind.Pop k) = false
is_exit Kind.CheckSat = false
is_exit (Kind.GetValue i) = false
is_exit Kind.Exit = true

-- The tables of the names with their index, before and after a command: as they were, but for a name that is declared.
pub record Same (names lens hashes heads nexts names' lens' hashes' heads' nexts' : List ℕ) : Type 0 where
  pub names_same : names' ≡ names
  pub lens_same : lens' ≡ lens
  pub hashes_same : hashes' ≡ hashes
  pub heads_same : heads' ≡ heads
  pub nexts_same : nexts' ≡ nexts

abbrev pub Declares : Kind → List ℕ → ℕ → (names lens hashes heads nexts names' lens' hashes' heads' nexts' : List ℕ) → Type 0
Declares (Kind.Declare a b) s n = Declared n (bytes s a b)
Declares Kind.SetLogic s n = Same
Declares (Kind.Assert i) s n = Same
Declares (Kind.Push k) s n = Same
Declares (Kind.Pop k) s n = Same
Declares Kind.CheckSat s n = Same
Declares (Kind.GetValue i) s n = Same
Declares Kind.Exit s n = Same
