-- What a command needs of the names and amounts that it says, and the rules over steps that a term says.
use Rattle.std.specs.Prelude.{ℕ, zero, suc, ◌+◌, ◌<◌, false, cond, List, [], ◌∷◌}
use Rattle.meaning.specs.Bounds.{AMOUNT, NAME}
use Rattle.meaning.specs.Rules.{Rule, InAmount}
use Rattle.meaning.specs.Promise.{Need, needs}
use Rattle.text.specs.Lexicon.{same_bytes}
use Rattle.names.specs.Names.{name_at}
use Rattle.reading.specs.Tree.{Piece, Named, rules_of_term, Command}

-- The number of the name w, seeking from number k over `left` names; past the last where none of them is w.
unfoldable pub seek : (left k : ℕ) → List ℕ → List ℕ → List ℕ → ℕ
seek zero k names lens w = k
seek (suc left) k names lens w = cond (same_bytes (name_at names lens k) w) k (seek left (k + 1) names lens w)

-- The step that the name w stands for among n names: steps are numbered as declared. Where w is not declared, n.
abbrev pub step_in : ℕ → List ℕ → List ℕ → List ℕ → ℕ
step_in n names lens w = seek n 0 names lens w

-- The name is one of the n that are declared.
abbrev pub KnownIn : ℕ → List ℕ → List ℕ → List ℕ → Type 0
KnownIn n names lens w = step_in n names lens w < n

-- The rule over steps that a rule over names says, where S gives the step of each name.
abbrev pub resolved : (List ℕ → ℕ) → Named → Rule
resolved S r = record { first = S r.first; second = S r.second; amount = r.amount }

-- The leftmost of NAME and AMOUNT over the rules of a term, in an atom NAME first. K says which names are declared.
abbrev pub term_needs : (List ℕ → Type 0) → List Named → List Need
term_needs K [] = []
term_needs K (r ∷ rs) = needs NAME (K r.first) ∷ needs NAME (K r.second) ∷ needs AMOUNT (InAmount r.amount) ∷ term_needs K rs

-- Every name is declared.
abbrev pub name_needs : (List ℕ → Type 0) → List Piece → List Need
name_needs K [] = []
name_needs K (w ∷ ws) = needs NAME (K w.letters) ∷ name_needs K ws

-- What a command needs of its names and amounts: a new name is not declared yet, every other is; the amounts of the rules are within bounds.
abbrev pub said_needs : (List ℕ → Type 0) → Command → List Need
said_needs K Command.set_logic = []
said_needs K Command.check_sat = []
said_needs K Command.exit = []
said_needs K (Command.declare w) = needs NAME (K w.letters → ⊥) ∷ []
said_needs K (Command.assert t) = term_needs K (rules_of_term false t)
said_needs K (Command.push n) = []
said_needs K (Command.pop n) = []
said_needs K (Command.get_value ws) = name_needs K ws
