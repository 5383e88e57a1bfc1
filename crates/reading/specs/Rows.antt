-- What is put into the rows: the caller's columns stay the same ones, the rows before stay, and the first fault is noted.
use Rattle.std.specs.Prelude.{ℕ, ◌+◌, ◌≤◌, ◌<◌, ◌≡◌, Bool, List, [], ◌∷◌, length, ℤ, Option, Some, None, IsSome}
use Rattle.meaning.specs.Bounds.{DONE, NAME, AMOUNT}
use Rattle.meaning.specs.Rules.{rule, InAmount}
use Rattle.meaning.specs.Tables.{Columns, rule_at, at}
use Rattle.meaning.specs.Promise.{First, needs}
use Rattle.lent.specs.Lent.{columns}
use Rattle.reading.specs.declared.atom.Atom.{Atom}
use Rattle.reading.specs.declared.rows.Rows.{Rows}
use Rattle.reading.specs.declared.reader.Reader.{Reader}
use Rattle.reading.specs.Tree.{Piece, Term, rules_of_term}
use Rattle.reading.specs.Saying.{step_in, KnownIn, name_needs}
use Rattle.reading.specs.Heard.{noted_as, Listed, Rowed}

-- The rows as columns.
abbrev pub columns_of : Rows → Columns
columns_of r = columns r.xs.now r.ys.now r.cs.now

-- The columns are those that were lent, and as long.
pub record Kept (before after : Rows) : Type 0 where
  pub same_xs : after.xs.ghost_name ≡ before.xs.ghost_name
  pub same_ys : after.ys.ghost_name ≡ before.ys.ghost_name
  pub same_cs : after.cs.ghost_name ≡ before.cs.ghost_name
  pub as_many_xs : length after.xs.now ≡ length before.xs.now
  pub as_many_ys : length after.ys.now ≡ length before.ys.now
  pub as_many_cs : length after.cs.now ≡ length before.cs.now

-- Nothing has been put yet.
pub record Fresh (r : Rows) : Type 0 where
  pub none : r.count ≡ 0
  pub no_fault : r.fault ≡ None

-- The rule was written into the next row, where there is such a row; every other row is as before.
pub record RowWritten (x y : ℕ) (c : ℤ) (before after : Rows) : Type 0 where
  pub written : before.count < length before.xs.now → rule_at (columns_of after) before.count ≡ rule x y c
  pub others_stay : (i : ℕ) → (i ≡ before.count → ⊥) → rule_at (columns_of after) i ≡ rule_at (columns_of before) i

-- The rule that an atom says was put: a fault noted before stays, else the first need that is not met is noted; where both names are declared the next row has the rule.
pub record RulePut (a : Atom) (before after : Rows) : Type 0 where
  pub counted : after.count ≡ before.count + 1
  pub fault_stays : (noted_as before.fault ≡ DONE → ⊥) → noted_as after.fault ≡ noted_as before.fault
  pub fault_first : noted_as before.fault ≡ DONE → First (needs NAME (IsSome a.first) ∷ needs NAME (IsSome a.second) ∷ needs AMOUNT (InAmount a.amount) ∷ []) (noted_as after.fault)
  pub written : (x y : ℕ) → a.first ≡ Some x → a.second ≡ Some y → before.count < length before.xs.now → rule_at (columns_of after) before.count ≡ rule x y a.amount
  pub others_stay : (i : ℕ) → (i ≡ before.count → ⊥) → rule_at (columns_of after) i ≡ rule_at (columns_of before) i

-- The step of a name asked for was put.
pub record NamePut (o : Option ℕ) (before after : Rows) : Type 0 where
  pub counted : after.count ≡ before.count + 1
  pub fault_stays : (noted_as before.fault ≡ DONE → ⊥) → noted_as after.fault ≡ noted_as before.fault
  pub fault_first : noted_as before.fault ≡ DONE → First (needs NAME (IsSome o) ∷ []) (noted_as after.fault)
  pub written : (x : ℕ) → o ≡ Some x → at after.xs.now before.count ≡ x
  pub others_stay : (i : ℕ) → (i ≡ before.count → ⊥) → at after.xs.now i ≡ at before.xs.now i

-- The rules of a term that was read up to place x, under an odd number of `not` or not, were put. There are no more rows than bytes read.
pub record TermPut (r : Reader) (odd : Bool) (t : Term) (before after : Rows) (x : ℕ) : Type 0 where
  pub rowed : Rowed r.names.count r.names.letters.now r.names.lens.now (rules_of_term odd t) before.count (noted_as before.fault) (columns_of before) after.count (noted_as after.fault) (columns_of after)
  pub few : after.count ≤ x
  pub within : x ≤ length r.text.now

-- The steps of the names that were read were put, as the only rows.
pub record NamesPut (r : Reader) (ws : List Piece) (after : Rows) : Type 0 where
  pub counted : after.count ≡ length ws
  pub fault_first : First (name_needs (KnownIn r.names.count r.names.letters.now r.names.lens.now) ws) (noted_as after.fault)
  pub listed : noted_as after.fault ≡ DONE → Listed (step_in r.names.count r.names.letters.now r.names.lens.now) after.xs.now 0 ws
