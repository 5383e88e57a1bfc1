-- A command that was read and whose needs are met can be carried out: it asks of the tables what can be done, declares a name that can be declared, and asks for names
-- that are.
use Prim.Native.Nat.{ℕ, ◌+◌, ◌-◌, ◌≤◌, ◌<◌}
use native.Mathlib.Omega.{arith}
use native.Mathlib.Decide.{ℕ_discrete}
use mathlib.Core.Path.{◌≡◌, refl, sym, ◌∙◌, ap, subst}
use mathlib.Core.Bool.{Bool, false, cond}
use borrow.Author.Tests.{eq-eqb, ne_eqb}
use mathlib.Core.List.{List}
use lib.ListN.{length}
use Rattle.meaning.specs.Bounds.{STEPS, RULES, MARKS, NAME_BYTES, ASKED, DONE}
use Rattle.meaning.specs.Tables.{Columns, at}
use Rattle.meaning.specs.Promise.{First}
use Rattle.meaning.proofs.Needs.{first_same}
use Rattle.text.proofs.Numbers.{cut_small}
use Rattle.reading.specs.declared.Kind.{Kind}
use Rattle.reading.specs.Tree.{said_by, Term, rules_of_term, Command}
use Rattle.reading.specs.Reading.{Read, reading}
use Rattle.reading.specs.Saying.{said_needs}
use Rattle.reading.specs.Heard.{kind_of, Holding, Tells}
use Rattle.reading.proofs.Begun.{declared_new, few_asked}
use Rattle.script_meaning.specs.Record.{Lent, Known, step_of}
use Rattle.script_meaning.specs.Commands.{command_needs}
use Rattle.script_meaning.proofs.Needed.{EachRule, command_met}
use Rattle.script_meaning.proofs.Granted.{Places, declare_met, assert_met, push_met, pop_met}
use Rattle.script_meaning.proofs.Keeping.{Fine}
use Rattle.script_meaning.proofs.Readings.{declared_in_form}
use Rattle.asserts.specs.Rows.{RowsFine}
use Rattle.values.proofs.Rows.{steps_declared}
use Rattle.script_moving.specs.Moving.{Movable, adds, pushes, pops}
use Rattle.script_command.specs.Carrying.{Ready, Heeded}
use Rattle.script_command.proofs.Laying.{laid_fine}

-- The rows have a place for each rule that can be held.
pub record Roomy (rows : Columns) : Type 0 where
  pub firsts_room : RULES ≤ length rows.firsts
  pub seconds_room : RULES ≤ length rows.seconds
  pub amounts_room : RULES ≤ length rows.amounts

-- What is asked of a command of this kind, on the text s with n names declared: of the name that it declares, of the names that it asks for.
abbrev NameFine : List ℕ → ℕ → Kind → Type 0
NameFine s n Kind.SetLogic = Unit {0}
NameFine s n (Kind.Declare a b) = (a ≤ b) × ((b - a ≤ NAME_BYTES) × ((b ≤ length s) × (n + 1 ≤ STEPS)))
NameFine s n (Kind.Assert k) = Unit {0}
NameFine s n (Kind.Push k) = Unit {0}
NameFine s n (Kind.Pop k) = Unit {0}
NameFine s n Kind.CheckSat = Unit {0}
NameFine s n (Kind.GetValue k) = Unit {0}
NameFine s n Kind.Exit = Unit {0}

abbrev NamesFine : List ℕ → ℕ → Kind → Type 0
NamesFine column n Kind.SetLogic = Unit {0}
NamesFine column n (Kind.Declare a b) = Unit {0}
NamesFine column n (Kind.Assert k) = Unit {0}
NamesFine column n (Kind.Push k) = Unit {0}
NamesFine column n (Kind.Pop k) = Unit {0}
NamesFine column n Kind.CheckSat = Unit {0}
NamesFine column n (Kind.GetValue k) = ((k ≤ ASKED) × (k ≤ length column)) × ((i : ℕ) → i < k → at column i < n)
NamesFine column n Kind.Exit = Unit {0}

module _ (l : Lent) (f : Fine l) (e : ℕ) (few : l.notes.names ≤ e) (s : List ℕ) (rows : Columns) (room : Roomy rows) where
  abbrev Can : Kind → Type 0
  Can c = Movable c l.notes.broken e rows l.tables.counts

  -- A command without a term adds no rule.
  quiet : (c : Kind) → adds c l.notes.broken ≡ 0 → l.tables.counts.marks + pushes c ≤ MARKS → pops c ≤ l.tables.counts.marks → Can c
  quiet c none sets drops = record {
    rows_there = (omega (arith, none), (omega (arith, none), omega (arith, none)));
    rows_fine = λ i h. absurd (omega (arith, none, h));
    places = omega (arith, none, f.sound.tables_sound.counts_in.rules_in);
    marks_fit = sets;
    marks_there = drops;
  }

  few_marks : l.tables.counts.marks + 0 ≤ MARKS
  few_marks = omega (arith, f.sound.tables_sound.counts_in.marks_in)

  -- A command with a term adds its rules while no level counts as contradictory.
  asserting : (u : Term) → Holding (step_of l) (Command.assert u) rows → First (command_needs (Command.assert u) l) DONE → Can (kind_of (Command.assert u))
  asserting u laid met = by_level (ℕ_discrete l.notes.broken 0)
    where
      granted : EachRule (Known l) (rules_of_term false u) × Places u l
      granted = assert_met u l met

      by_level : Dec (l.notes.broken ≡ 0) → Can (kind_of (Command.assert u))
      by_level (no some) =
          quiet (kind_of (Command.assert u)) (ap (λ (b : Bool). cond b (length (rules_of_term false u)) 0) (ne_eqb l.notes.broken 0 some)) few_marks (omega arith)
      by_level (yes none) =
          let many = ap (λ (b : Bool). cond b (length (rules_of_term false u)) 0) (eq-eqb l.notes.broken 0 none) in
          let places = granted.1 none in
          let fine = laid_fine e l.notes.names l.names l.lens few rows (rules_of_term false u) (laid (omega (arith, places, room.firsts_room))) granted.0 in
          record {
            rows_there = (
              omega (arith, many, places, room.firsts_room),
              (omega (arith, many, places, room.seconds_room), omega (arith, many, places, room.amounts_room)),
            );
            rows_fine = subst (RowsFine e rows) (sym many) fine;
            places = omega (arith, many, places);
            marks_fit = few_marks;
            marks_there = omega arith;
          }

  movable_of : (d : Command) → Holding (step_of l) d rows → First (command_needs d l) DONE → Can (kind_of d)
  movable_of Command.set_logic holding met = quiet Kind.SetLogic refl few_marks (omega arith)
  movable_of Command.check_sat holding met = quiet Kind.CheckSat refl few_marks (omega arith)
  movable_of Command.exit holding met = quiet Kind.Exit refl few_marks (omega arith)
  movable_of (Command.declare w) holding met = quiet (kind_of (Command.declare w)) refl few_marks (omega arith)
  movable_of (Command.assert u) holding met = asserting u holding met
  movable_of (Command.push n) holding met =
      let fit = push_met n l met in
      quiet (kind_of (Command.push n)) refl (omega (arith, fit, cut_small (said_by n) (omega (arith, fit)))) (omega arith)
  movable_of (Command.pop n) holding met =
      let fit = pop_met n l met in
      quiet (kind_of (Command.pop n)) refl few_marks (omega (arith, fit, cut_small (said_by n) (omega (arith, fit, f.sound.tables_sound.counts_in.marks_in))))
  movable_of (Command.get_value ws) holding met = quiet (kind_of (Command.get_value ws)) refl few_marks (omega arith)

  name_fine : (d : Command) (i : ℕ) → reading s ≡ Read.got d i → First (command_needs d l) DONE → NameFine s l.notes.names (kind_of d)
  name_fine Command.set_logic i is met = tt
  name_fine Command.check_sat i is met = tt
  name_fine Command.exit i is met = tt
  name_fine (Command.declare w) i is met =
      let new = declared_new s w i is in
      (omega arith, (omega (arith, new.short), (new.within, omega (arith, (declare_met w l met).1))))
  name_fine (Command.assert u) i is met = tt
  name_fine (Command.push n) i is met = tt
  name_fine (Command.pop n) i is met = tt
  name_fine (Command.get_value ws) i is met = tt

  names_fine : (d : Command) (i : ℕ) → reading s ≡ Read.got d i → Holding (step_of l) d rows → First (command_needs d l) DONE → NamesFine rows.firsts l.notes.names (kind_of d)
  names_fine Command.set_logic i is holding met = tt
  names_fine Command.check_sat i is holding met = tt
  names_fine Command.exit i is holding met = tt
  names_fine (Command.declare w) i is holding met = tt
  names_fine (Command.assert u) i is holding met = tt
  names_fine (Command.push n) i is holding met = tt
  names_fine (Command.pop n) i is holding met = tt
  names_fine (Command.get_value ws) i is holding met =
      let few = (few_asked s ws i is).1 in (
        (few, omega (arith, few, room.firsts_room)),
        steps_declared l.notes.names l.names l.lens l.tables.days rows.firsts ws holding (command_met (Command.get_value ws) l met).1.0,
      )

  -- The command d was read from the text, with the kind c, the fault g and the rows.
  module _
      (d : Command) (i : ℕ) (is : reading s ≡ Read.got d i) (c : Kind) (g : ℕ) (tells : Tells l.notes.names l.names l.lens d c g rows)
      (met : First (command_needs d l) DONE) where
    faultless : g ≡ DONE
    faultless = first_same (said_needs (Known l) d) g DONE tells.fault_first (command_met d l met).1.0

    pub ready_of : Ready c s l.notes.names l.notes.broken e rows l.tables.counts
    ready_of =
        let holding = tells.holding faultless in
        let named = subst (NameFine s l.notes.names) (sym tells.kind_is) (name_fine d i is met) in
        let asked = subst (NamesFine rows.firsts l.notes.names) (sym tells.kind_is) (names_fine d i is holding met) in
        record {
          declarable = λ a b this. subst (NameFine s l.notes.names) this named;
          askable = record {
            few = λ k this. (subst (NamesFine rows.firsts l.notes.names) this asked).0;
            known = λ k this. (subst (NamesFine rows.firsts l.notes.names) this asked).1;
          };
          movable = subst Can (sym tells.kind_is) (movable_of d holding met);
        }

    pub heeded_of : Heeded d s l.notes.names l.names l.lens c rows
    heeded_of = record {
      tells = subst (λ (h : ℕ). Tells l.notes.names l.names l.lens d c h rows) faultless tells;
      name_there = λ w this. (declared_new s w i (is ∙ ap (λ (x : Command). Read.got x i) this)).letters_are;
      name_fine = λ w this. declared_in_form s w i (is ∙ ap (λ (x : Command). Read.got x i) this);
    }
