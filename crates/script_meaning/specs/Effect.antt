-- What each command does to the tables and the record, and what it prints.
use Rattle.std.specs.Prelude.{ℕ, ◌+◌, ◌*◌, ◌≡◌, Bool, true, false, cond, List, [], ◌∷◌, ◌++◌, map, ◌⊎◌, eqb, ltb, length, set}
use Rattle.meaning.specs.Bounds.{NAME_BYTES}
use Rattle.meaning.specs.Rules.{Rule, Fits}
use Rattle.meaning.specs.Tables.{Tables, at, with_rule, with_days}
use Rattle.meaning.specs.Promise.{Planned}
use Rattle.meaning.specs.Calls.{rules_of, held_in, rules_and, held_and}
use Rattle.reading.specs.Tree.{Piece, said_by, Named, rules_of_term, Command}
use Rattle.reading.specs.Reading.{Why, Read}
use Rattle.reading.specs.Saying.{resolved}
use Rattle.levels.specs.Levels.{with_marks, Popped}
use Rattle.write.specs.Written.{over, decimal}
use Rattle.script_meaning.specs.declared.Notes.{Notes}
use Rattle.script_meaning.specs.Record.{Lent, step_of}

-- The rule fits and is held now, and the days are the earliest plan.
pub record HeldNow (r : Rule) (t u : Tables) : Type 0 where
  pub fits : Fits (rules_of t) (held_in t) r
  pub rule_held : u ≡ with_days u.days (with_rule r t)
  pub planned : Planned t.counts.steps (rules_and r t) (held_and t) t.days u.days

-- The rules are added one after the other. At the first that does not fit adding stops: `clash` is true, and those before it stay held.
abbrev pub AddsAll : List Rule → Tables → Bool → Tables → Type 0
AddsAll [] t clash u = (u ≡ t) × (clash ≡ false)
AddsAll (r ∷ l) t clash u =
    ((Fits (rules_of t) (held_in t) r → ⊥) × ((u ≡ t) × (clash ≡ true))) ⊎ ((v : Tables) × (HeldNow r t v × AddsAll l v clash u))

-- The record after a command that forgets a remembered `sat`: with b for the contradictory level, counted from 1, with nothing else changed, with one name more, with
-- the logic set.
abbrev pub at_level : ℕ → Notes → Notes
at_level b n = record { names = n.names; logic = n.logic; broken = b; sat = false }

abbrev pub forgotten : Notes → Notes
forgotten n = at_level n.broken n

abbrev pub one_named : Notes → Notes
one_named n = record { names = n.names + 1; logic = n.logic; broken = n.broken; sat = false }

abbrev pub logic_set : Notes → Notes
logic_set n = record { names = n.names; logic = true; broken = n.broken; sat = false }

-- The record after `check-sat`, which prints `sat` where no level counts as contradictory.
abbrev pub sat_told : Notes → Notes
sat_told n = record { names = n.names; logic = n.logic; broken = n.broken; sat = eqb n.broken 0 }

abbrev pub with_notes : Notes → Lent → Lent
with_notes n l = record { tables = l.tables; notes = n; names = l.names; lens = l.lens; out = l.out }

-- What is lent after a command that changes the tables and forgets a remembered `sat`, the contradictory level being b, counted from 1.
abbrev pub with_tables : Tables → ℕ → Lent → Lent
with_tables t b l = record {
  tables = t;
  notes = at_level b l.notes;
  names = l.names;
  lens = l.lens;
  out = l.out;
}

-- What is lent with the bytes w written for an answer, from place k on.
abbrev pub with_printed : ℕ → List ℕ → Lent → Lent
with_printed k w l = record { tables = l.tables; notes = l.notes; names = l.names; lens = l.lens; out = over l.out k w }

-- What is lent with the name w declared, under the next number.
abbrev pub with_name : List ℕ → Lent → Lent
with_name w l = record {
  tables = l.tables;
  notes = one_named l.notes;
  names = over l.names (NAME_BYTES * l.notes.names) w;
  lens = set l.lens l.notes.names (length w);
  out = l.out;
}

-- The level counts as contradictory after a clash: the number of marks open, counted from 1.
abbrev pub broken_after : Bool → Tables → ℕ
broken_after clash t = cond clash (t.counts.marks + 1) 0

-- The contradictory level after a pop that leaves t: none where that level was popped.
abbrev pub broken_left : ℕ → Tables → ℕ
broken_left b t = cond (ltb (t.counts.marks + 1) b) 0 b

-- The name w with its day: (name day).
abbrev pub pair : List ℕ → ℕ → List ℕ
pair w day = 40 ∷ (w ++ (32 ∷ (decimal day ++ (41 ∷ []))))

-- Further pairs, each after a space, with the days p of the names; then the closing bracket and a line feed.
abbrev pub shown_pairs : (List ℕ → ℕ) → List Piece → List ℕ
shown_pairs p [] = 41 ∷ 10 ∷ []
shown_pairs p (w ∷ ws) = 32 ∷ (pair w.letters (p w.letters) ++ shown_pairs p ws)

-- The days p of the names, as get_value prints them: ((name day) (name day) ..).
abbrev pub shown : (List ℕ → ℕ) → List Piece → List ℕ
shown p [] = 40 ∷ 41 ∷ 10 ∷ []
shown p (w ∷ ws) = 40 ∷ (pair w.letters (p w.letters) ++ shown_pairs p ws)

-- The day of a name, where S gives its step.
abbrev pub day_of : (List ℕ → ℕ) → List ℕ → List ℕ → ℕ
day_of S days w = at days (S w)

-- What get_value prints, where S gives the step of each name.
abbrev pub values : (List ℕ → ℕ) → List ℕ → List Piece → List ℕ
values S days = shown (day_of S days)

-- sat, unsat, unsupported, each with a line feed.
abbrev pub SAT : List ℕ
SAT = 115 ∷ 97 ∷ 116 ∷ 10 ∷ []

abbrev pub UNSAT : List ℕ
UNSAT = 117 ∷ 110 ∷ 115 ∷ 97 ∷ 116 ∷ 10 ∷ []

abbrev pub UNSUPPORTED : List ℕ
UNSUPPORTED = 117 ∷ 110 ∷ 115 ∷ 117 ∷ 112 ∷ 112 ∷ 111 ∷ 114 ∷ 116 ∷ 101 ∷ 100 ∷ 10 ∷ []

abbrev pub either_answer : Bool → List ℕ → List ℕ → List ℕ
either_answer true a b = a
either_answer false a b = b

-- The asserted rules are added, from left to right, unless a level counts as contradictory.
abbrev pub Asserts : List Named → Lent → Lent → Type 0
Asserts rs before after =
    ((before.notes.broken ≡ 0 → ⊥) × (after ≡ with_notes (forgotten before.notes) before))
    ⊎ ((before.notes.broken ≡ 0)
    × ((t : Tables) × ((clash : Bool) × (AddsAll (map (resolved (step_of before)) rs) before.tables clash t × (after ≡ with_tables t (broken_after clash t) before)))))

-- What is printed where a text is carried out that was read as r: `sat` exactly when no level counts as contradictory; the days of the names asked for; `unsupported`.
abbrev pub prints : Read Command → Lent → List ℕ
prints (Read.got Command.set_logic e) l = []
prints (Read.got Command.check_sat e) l = either_answer (eqb l.notes.broken 0) SAT UNSAT
prints (Read.got Command.exit e) l = []
prints (Read.got (Command.declare w) e) l = []
prints (Read.got (Command.assert t) e) l = []
prints (Read.got (Command.push n) e) l = []
prints (Read.got (Command.pop n) e) l = []
prints (Read.got (Command.get_value ws) e) l = values (step_of l) l.tables.days ws
prints (Read.stop w i) l = UNSUPPORTED

-- What it changes, but for the bytes printed. Nothing where it is unsupported; what departs from the form, or has a size fault, is not carried out.
abbrev pub Changes : Read Command → Lent → Lent → Type 0
Changes (Read.got Command.set_logic e) before after = after ≡ with_notes (logic_set before.notes) before
Changes (Read.got Command.check_sat e) before after = after ≡ with_notes (sat_told before.notes) before
Changes (Read.got Command.exit e) before after = after ≡ with_notes (forgotten before.notes) before
Changes (Read.got (Command.declare w) e) before after = after ≡ with_name w.letters before
Changes (Read.got (Command.assert t) e) before after = Asserts (rules_of_term false t) before after
Changes (Read.got (Command.push n) e) before after = after ≡ with_tables (with_marks (said_by n) before.tables) before.notes.broken before
Changes (Read.got (Command.pop n) e) before after =
    (t : Tables) × (Popped (said_by n) before.tables t × (after ≡ with_tables t (broken_left before.notes.broken t) before))
Changes (Read.got (Command.get_value ws) e) before after = after ≡ before
Changes (Read.stop Why.other i) before after = after ≡ before
Changes (Read.stop Why.wrong i) before after = ⊥
Changes (Read.stop Why.size i) before after = ⊥

-- A text that was read as r is carried out: it changes what it changes, and prints w bytes from place k on.
abbrev pub Does : Read Command → ℕ → Lent → ℕ → Lent → Type 0
Does r k before w after =
    (mid : Lent) × (Changes r before mid × ((w ≡ length (prints r before)) × (after ≡ with_printed k (prints r before) mid)))
