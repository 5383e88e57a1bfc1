-- What the readers of parts of a command promise: tokens, names, amounts, atoms; and of the whole command.
use Rattle.std.specs.Prelude.{ℕ, ◌≤◌, ◌<◌, ◌≡◌, Bool, true, false, cond, List, eqb, length, ℤ, pos, neg_ℤ, ◌-ℤ◌, ◌≤ℤ◌, Option, MatchOption}
use Rattle.meaning.specs.Tables.{Columns}
use Rattle.text.specs.declared.Tok.{Tok as Given}
use Rattle.text.specs.Lexicon.{END, OPEN, SYMBOL, CAP, cut, either, token_at, same_bytes}
use Rattle.text.specs.Numbered.{code_of, numbered}
use Rattle.words.specs.Words.{W_above, W_below, W_at_least}
use Rattle.reading.specs.declared.Stop.{Stop}
use Rattle.reading.specs.declared.Heard.{Heard}
use Rattle.reading.specs.declared.atom.Atom.{Atom}
use Rattle.reading.specs.Tree.{Piece, said_by, Amount, Term, Command}
use Rattle.reading.specs.Reading.{Why, Read, stops, expect}
use Rattle.reading.specs.Saying.{step_in, KnownIn}
use Rattle.reading.specs.Heard.{noted_as, Tells}

-- The opening bracket of a text, which is its first byte.
abbrev pub opening : List ℕ → Read Piece
opening s = cond (eqb (token_at s 0).from 0) (expect OPEN s 0) (stops Why.wrong s 0)

-- The token t stands first from place i on.
pub record Standing (s : List ℕ) (i : ℕ) (t : Given) : Type 0 where
  pub told : numbered t ≡ token_at s i
  pub ordered : t.from ≤ t.to
  pub within : (code_of t.kind ≡ END → ⊥) → (i < t.to) × (t.to ≤ length s)

-- The token t, a symbol, stands first from place i on; or another token does, and reading stops there.
pub record SymbolAt (s : List ℕ) (i : ℕ) (t : Given) : Type 0 where
  pub told : numbered t ≡ token_at s i
  pub symbol : code_of t.kind ≡ SYMBOL
  pub ordered : t.from ≤ t.to
  pub within : (i < t.to) × (t.to ≤ length s)

pub record NoSymbolAt (s : List ℕ) (i : ℕ) (e : Stop) : Type 0 where
  pub other : (token_at s i).kind ≡ SYMBOL → ⊥
  pub there : e ≡ Stop.Wrong (token_at s i).from

-- The step that the name w stands for, where it is one of the n declared; None where it is not.
abbrev pub StepOf : ℕ → List ℕ → List ℕ → List ℕ → Option ℕ → Type 0
StepOf n names lens w o = MatchOption o (KnownIn n names lens w → ⊥) (λ k. (k ≡ step_in n names lens w) × (k < n))

-- The amount with its numeral read as CAP where it is larger: past every bound.
abbrev pub capped : Amount → ℤ
capped (Amount.plus n) = pos (cut (said_by n))
capped (Amount.minus n) = neg_ℤ (pos (cut (said_by n)))

-- The steps and the amount are those of an atom's names x and y and its amount m.
pub record AtomSaid (n : ℕ) (names lens : List ℕ) (x y : Piece) (m : Amount) (a : Atom) : Type 0 where
  pub first_is : StepOf n names lens x.letters a.first
  pub second_is : StepOf n names lens y.letters a.second
  pub says : a.amount ≡ capped m

-- The term is an atom of the operator w, with these steps and this amount.
abbrev pub AtomOf : ℕ → List ℕ → List ℕ → List ℕ → Atom → Term → Type 0
AtomOf n names lens w a (Term.atom v x y m) = (v ≡ w) × AtomSaid n names lens x y m a
AtomOf n names lens w a (Term.negation t) = ⊥
AtomOf n names lens w a (Term.conjunction t u) = ⊥
AtomOf n names lens w a (Term.also t u) = ⊥

-- The amount of an atom that was read is no larger than CAP.
pub record AtomSmall (a : Atom) : Type 0 where
  pub not_below : neg_ℤ (pos CAP) ≤ℤ a.amount
  pub not_above : a.amount ≤ℤ pos CAP

-- One of a and b holds and odd does not; or odd, and neither.
abbrev pub turned : Bool → Bool → Bool → Bool
turned a b odd = cond (either a b) (cond odd false true) odd

-- The amount c or its negation, or one less.
abbrev pub final : (flip less : Bool) → ℤ → ℤ
final flip less c = cond less (cond flip (neg_ℤ c) c -ℤ pos 1) (cond flip (neg_ℤ c) c)

-- Whether the operator w under an odd number of `not` or not swaps the names; whether it lowers the amount by one.
abbrev pub flips : List ℕ → Bool → Bool
flips w odd = turned (same_bytes w W_above) (same_bytes w W_at_least) odd

abbrev pub lessens : List ℕ → Bool → Bool
lessens w odd = turned (same_bytes w W_above) (same_bytes w W_below) odd

-- The names swapped, and the amount negated.
abbrev pub swapped : Atom → Atom
swapped a = record { first = a.second; second = a.first; amount = neg_ℤ a.amount }

-- The atom that says by itself what the atom a says under the operator w.
abbrev pub turned_atom : List ℕ → Bool → Atom → Atom
turned_atom w odd a = record {
  first = cond (flips w odd) a.second a.first;
  second = cond (flips w odd) a.first a.second;
  amount = final (flips w odd) (lessens w odd) a.amount;
}

-- The command c was read up to place e: it is told with that place, and the rows have its rules or steps.
pub record CommandSaid (n : ℕ) (names lens : List ℕ) (c : Command) (e : ℕ) (h : Heard) (rows : Columns) : Type 0 where
  pub past_is : h.past ≡ e
  pub tells : Tells n names lens c h.kind (noted_as h.fault) rows
