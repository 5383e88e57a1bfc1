-- The lists that are lent to a function, as the tables of the meaning; and what must be in reach for a rule to be read.
use Rattle.std.specs.Prelude.{ℕ, ◌+◌, ◌≤◌, ◌<◌, ◌≡◌, List, length, get_or, ℤ, pos}
use Rattle.meaning.specs.declared.Counts.{Counts}
use Rattle.lent.specs.declared.Rules.{Rules}
use Rattle.lent.specs.declared.Tables.{Tables as Lists}
use Rattle.meaning.specs.Bounds.{RULES}
use Rattle.meaning.specs.Rules.{Keeps}
use Rattle.meaning.specs.Reckoning.{up, dn}
use Rattle.meaning.specs.Tables.{Columns, Tables, rule_at, at}

-- The table of rules whose columns are lent: first steps, second steps and amounts.
abbrev pub columns : List ℕ → List ℕ → List ℤ → Columns
columns xs ys cs = record { firsts = xs; seconds = ys; amounts = cs }

-- The columns of a table of rules, as that table.
abbrev pub columns_of : Rules → Columns
columns_of r = columns r.xs.now r.ys.now r.cs.now

-- All that is lent, as the office tables: the counts, the rules, the days, the level of each rule and the watched rules.
abbrev pub tables : Counts → List ℕ → List ℕ → List ℤ → List ℕ → List ℕ → List ℕ → List ℕ → List ℤ → Tables
tables counts xs ys cs days levels wxs wys wcs = record {
  counts = counts;
  rules = columns xs ys cs;
  days = days;
  levels = levels;
  watched = columns wxs wys wcs;
}

-- The lists lent as the tables, with the counts, as the office tables.
abbrev pub tables_of : Counts → Lists → Tables
tables_of counts t = tables counts
    t.rules.xs.now t.rules.ys.now t.rules.cs.now t.days.now t.levels.now
    t.watched.xs.now t.watched.ys.now t.watched.cs.now

-- What P says of the lists lent as the tables, one by one.
abbrev pub of_lists : {A : Type 1} → (List ℕ → List ℕ → List ℤ → List ℕ → List ℕ → List ℕ → List ℕ → List ℤ → A) → Lists → A
of_lists P t = P t.rules.xs.now t.rules.ys.now t.rules.cs.now t.days.now t.levels.now t.watched.xs.now t.watched.ys.now t.watched.cs.now

-- The numbers below m: of m watched rules, and of places in order, those passed.
abbrev pub first : ℕ → ℕ → Type 0
first m i = i < m

-- The numbers held, where the levels are lent: the places whose cell is not 0.
abbrev pub held_by : List ℕ → ℕ → Type 0
held_by levels i = (i < RULES) × (0 < at levels i)

-- Every place below m is held.
abbrev pub AllHeld : ℕ → List ℕ → Type 0
AllHeld m levels = (i : ℕ) → i < m → 0 < at levels i

-- No place below m has a level above k.
abbrev pub NoneAbove : ℕ → ℕ → List ℕ → Type 0
NoneAbove m k levels = (i : ℕ) → i < m → at levels i ≤ k + 1

-- Every place from number m on is free.
abbrev pub FreeFrom : ℕ → List ℕ → Type 0
FreeFrom m levels = (i : ℕ) → m ≤ i → i < RULES → at levels i ≡ 0

-- An amount is counted from so far below 0: no i32 is lower, so that what is counted is a natural number.
abbrev pub BIAS : ℕ
BIAS = 2147483648

-- r is the amount c counted from BIAS below 0.
pub record Biased (c : ℤ) (r : ℕ) : Type 0 where
  pub is : r + dn c ≡ up c + BIAS
  pub narrow : r < 4294967296

-- The days keep the rule under i.
abbrev pub KeptAt : List ℕ → List ℕ → List ℤ → List ℕ → ℕ → Type 0
KeptAt xs ys cs days i = Keeps (λ v. pos (at days v)) (rule_at (columns xs ys cs) i)

-- r is the latest day that the rule under i leaves its first step, counted from BIAS below 0.
abbrev pub Limit : List ℕ → List ℤ → List ℕ → ℕ → ℕ → Type 0
Limit ys cs days i r = r + dn (get_or cs i (pos 0)) ≡ at days (get_or ys i 0) + up (get_or cs i (pos 0)) + BIAS

-- r is how many days the rule under i has to spare.
abbrev pub Spare : List ℕ → List ℕ → List ℤ → List ℕ → ℕ → ℕ → Type 0
Spare xs ys cs days i r = at days (get_or xs i 0) + dn (get_or cs i (pos 0)) + r ≡ at days (get_or ys i 0) + up (get_or cs i (pos 0))

-- Number i has a place in each column.
pub record Placed (xs ys : List ℕ) (cs : List ℤ) (i : ℕ) : Type 0 where
  pub first_place : i < length xs
  pub second_place : i < length ys
  pub amount_place : i < length cs

-- The rule under i has a second step with a day, and an amount.
pub record Limited (ys : List ℕ) (cs : List ℤ) (days : List ℕ) (i : ℕ) : Type 0 where
  pub second_place : i < length ys
  pub amount_place : i < length cs
  pub second_day : get_or ys i 0 < length days

-- Number i has a place in each column, and both steps of the rule under it have a day.
pub record Dated (xs ys : List ℕ) (cs : List ℤ) (days : List ℕ) (i : ℕ) : Type 0 where
  pub placed : Placed xs ys cs i
  pub first_day : get_or xs i 0 < length days
  pub second_day : get_or ys i 0 < length days
