-- The parts of a command, made one after the other, do what the command does.
use Prim.Native.Nat.{ℕ, ◌+◌, ◌*◌, ◌≤◌}
use native.Mathlib.Omega.{arith}
use native.Mathlib.Decide.{ℕ_discrete}
use mathlib.Core.Path.{◌≡◌, refl, sym, ◌∙◌, ap, subst}
use mathlib.Core.Bool.{Bool, false, cond}
use mathlib.Core.List.{List, map}
use mathlib.Core.Logic.{inl, inr}
use lib.ListN.{length, set}
use borrow.Author.Tests.{eq-eqb, ne_eqb}
use Rattle.meaning.specs.Bounds.{NAME_BYTES, DONE}
use Rattle.meaning.specs.Rules.{Rule}
use Rattle.meaning.specs.Tables.{Columns, Tables, Sound}
use Rattle.meaning.specs.Promise.{First}
use Rattle.text.specs.Lexicon.{bytes}
use Rattle.text.proofs.Numbers.{cut_small}
use Rattle.reading.specs.declared.Kind.{Kind}
use Rattle.reading.specs.Tree.{Piece, said_by, Term, rules_of_term, Command}
use Rattle.reading.specs.Reading.{Read}
use Rattle.reading.specs.Saying.{resolved}
use Rattle.reading.specs.Heard.{Laid, kind_of, Holding}
use Rattle.write.specs.Written.{over}
use Rattle.levels.specs.Levels.{with_marks, Popped}
use Rattle.levels.proofs.Laws.{with_no_marks, with_marks_border, popped_0}
use Rattle.script_meaning.specs.declared.Notes.{Notes}
use Rattle.script_meaning.specs.Record.{Lent, Known, step_of}
use Rattle.script_meaning.specs.Effect.{Does, Changes, prints, Asserts, AddsAll, at_level}
use Rattle.script_meaning.specs.Commands.{command_needs}
use Rattle.script_meaning.proofs.Needed.{EachRule, command_met}
use Rattle.script_meaning.proofs.Granted.{Places, assert_met, push_met, pop_met}
use Rattle.script_meaning.proofs.Adding.{adds_kept}
use Rattle.script_meaning.proofs.Keeping.{Fine, tables_kept, tables_border, other_fine, rules_in, map_length, changes_fine}
use Rattle.values.proofs.Rows.{shown_row}
use Rattle.asserts.specs.Rows.{rows_from}
use Rattle.asserts.proofs.Going.{rows_none}
use Rattle.script_telling.specs.Telling.{printed, noted, Declares}
use Rattle.script_moving.specs.Moving.{adds, pushes, pops}
use Rattle.script_command.specs.Carrying.{Heeded}
use Rattle.script_command.proofs.Laying.{rows_laid}

-- What is lent, part by part.
abbrev pub lend : Tables → Notes → List ℕ → List ℕ → List ℕ → Lent
lend t n names lens out = record { tables = t; notes = n; names = names; lens = lens; out = out }

lent_same :
    {t t' : Tables} {n n' : Notes} {names names' lens lens' out out' : List ℕ} →
    t ≡ t' → n ≡ n' → names ≡ names' → lens ≡ lens' → out ≡ out' → lend t n names lens out ≡ lend t' n' names' lens' out'
lent_same t-is n-is names-is lens-is out-is = rw (t-is, n-is, names-is, lens-is, out-is) refl

-- The parts of a command as they were made: the rules of rows added, marks set, marks dropped, the answer printed, a name declared, the record written.
pub record Made
    (c : Kind) (rows : Columns) (s : List ℕ) (k : ℕ) (before : Lent) (clash : Bool) (t v : Tables) (w : ℕ) (n : Notes)
    (names lens out hashes heads nexts hashes' heads' nexts' : List ℕ) : Type 0 where
  pub there : adds c before.notes.broken ≤ length rows.firsts
  pub added : AddsAll (rows_from rows 0 (adds c before.notes.broken)) before.tables clash t
  pub dropped : Popped (pops c) (with_marks (pushes c) t) v
  pub wrote : out ≡ over before.out k (printed c before.notes.broken before.names before.lens before.tables.days rows.firsts)
  pub count : w ≡ length (printed c before.notes.broken before.names before.lens before.tables.days rows.firsts)
  pub declared : Declares c s before.notes.names before.names before.lens hashes heads nexts names lens hashes' heads' nexts'
  pub noted_is : n ≡ noted c before.notes clash v.counts.marks

-- Of no row no rule is added.
none_added : (rows : Columns) (t u : Tables) (clash : Bool) → AddsAll (rows_from rows 0 0) t clash u → (u ≡ t) × (clash ≡ false)
none_added rows t u clash adding = subst (λ (rs : List Rule). AddsAll rs t clash u) (rows_none rows 0) adding

-- No mark is set, none is dropped.
idle : (t v : Tables) → Sound t → Popped 0 (with_marks 0 t) v → v ≡ t
idle t v sound dropped = popped_0 (subst (λ (x : Tables). Popped 0 x v) (with_no_marks t) dropped) sound

module _
    (rows : Columns) (s : List ℕ) (k : ℕ) (before : Lent) (clash : Bool) (t v : Tables) (w : ℕ) (n : Notes) (names lens out hashes heads nexts hashes' heads' nexts' : List ℕ)
    (f : Fine before) where
  abbrev Parts : Kind → Type 0
  Parts c = Made c rows s k before clash t v w n names lens out hashes heads nexts hashes' heads' nexts'

  -- What is left, before the answer is printed and with it.
  abbrev silent : Lent
  silent = lend v n names lens before.out

  abbrev left : Lent
  left = lend v n names lens out

  -- A command changed what it changes and printed what it prints.
  done : (r : Read Command) → Changes r before silent → w ≡ length (prints r before) → out ≡ over before.out k (prints r before) → Does r k before w left
  done r changes count wrote = (silent, (changes, (count, lent_same refl refl refl refl wrote)))

  -- Where a command adds nothing, sets no mark and drops none, the tables are as before.
  still : AddsAll (rows_from rows 0 0) before.tables clash t → Popped 0 (with_marks 0 t) v → v ≡ before.tables
  still adding dropped =
      let same = (none_added rows before.tables t clash adding).0 in
      idle t v (subst Sound (sym same) f.sound.tables_sound) dropped ∙ same

  -- The rules of a term, over steps.
  abbrev asked_rules : Term → List Rule
  asked_rules u = map (resolved (step_of before)) (rules_of_term false u)

  -- A term's rules are added while no level counts as contradictory, and else not.
  asserted :
      (u : Term) → (length (rules_of_term false u) ≤ length rows.firsts → Laid rows 0 (map (resolved (step_of before)) (rules_of_term false u))) →
      First (command_needs (Command.assert u) before) DONE → Parts (kind_of (Command.assert u)) → Asserts (rules_of_term false u) before silent
  asserted u laid met m = by_level (ℕ_discrete before.notes.broken 0)
    where
      granted : EachRule (Known before) (rules_of_term false u) × Places u before
      granted = assert_met u before met

      by_level : Dec (before.notes.broken ≡ 0) → Asserts (rules_of_term false u) before silent
      by_level (no some) =
          let adding = subst (λ (b : Bool). AddsAll (rows_from rows 0 (cond b (length (rules_of_term false u)) 0)) before.tables clash t) (ne_eqb before.notes.broken 0 some) m.added in
          let fine = (none_added rows before.tables t clash adding).1 in
          inl (
            some,
            lent_same (still adding m.dropped) (m.noted_is ∙ ap (λ (b : Bool). noted (Kind.Assert (length (rules_of_term false u))) before.notes b v.counts.marks) fine)
                m.declared.names_same m.declared.lens_same refl,
          )
      by_level (yes none) =
          let places = subst (λ (b : Bool). cond b (length (rules_of_term false u)) 0 ≤ length rows.firsts) (eq-eqb before.notes.broken 0 none) m.there in
          let adding = subst (λ (b : Bool). AddsAll (rows_from rows 0 (cond b (length (rules_of_term false u)) 0)) before.tables clash t) (eq-eqb before.notes.broken 0 none) m.added in
          let are : rows_from rows 0 (length (rules_of_term false u)) ≡ (asked_rules u) =
          ap (rows_from rows 0) (sym (map_length (step_of before) (rules_of_term false u))) ∙ rows_laid rows 0 (asked_rules u) (laid places) in
          let told = subst (λ (l : List Rule). AddsAll l before.tables clash t) are adding in
          let kept = adds_kept (asked_rules u) before.tables t clash (tables_kept f) (rules_in before f (rules_of_term false u) granted.0)
          (omega (arith, granted.1 none, map_length (step_of before) (rules_of_term false u))) told in
          let same = idle t v kept.0.sound m.dropped in
          inr (
            none,
            (
              v,
              (
                clash,
                (
                  subst (AddsAll (asked_rules u) before.tables clash) (sym same) told,
                  lent_same refl (m.noted_is ∙ ap (λ (b : ℕ). at_level (cond clash (v.counts.marks + 1) b) before.notes) none)
                      m.declared.names_same m.declared.lens_same refl,
                ),
              ),
            ),
          )

  -- By the command; what is known of a name that is declared is that it stands in the text.
  abbrev Named_there : Command → Type 0
  Named_there d = (x : Piece) → d ≡ Command.declare x → bytes s x.place (x.place + length x.letters) ≡ x.letters

  by_command :
      (d : Command) (i : ℕ) → Holding (step_of before) d rows → Named_there d → First (command_needs d before) DONE → Parts (kind_of d) → Does (Read.got d i) k before w left
  by_command Command.set_logic i holding there met m =
      done (Read.got Command.set_logic i) (lent_same (still m.added m.dropped) m.noted_is m.declared.names_same m.declared.lens_same refl) m.count m.wrote
  by_command Command.check_sat i holding there met m =
      done (Read.got Command.check_sat i) (lent_same (still m.added m.dropped) m.noted_is m.declared.names_same m.declared.lens_same refl) m.count m.wrote
  by_command Command.exit i holding there met m =
      done (Read.got Command.exit i) (lent_same (still m.added m.dropped) m.noted_is m.declared.names_same m.declared.lens_same refl) m.count m.wrote
  by_command (Command.declare x) i holding there met m =
      let is = there x refl in
      done (Read.got (Command.declare x) i)
      (lent_same (still m.added m.dropped) m.noted_is
      (m.declared.names_are ∙ ap (over before.names (NAME_BYTES * before.notes.names)) is)
      (m.declared.lens_are ∙ ap (λ (l : List ℕ). set before.lens before.notes.names (length l)) is) refl)
      m.count m.wrote
  by_command (Command.assert u) i holding there met m = done (Read.got (Command.assert u) i) (asserted u holding met m) m.count m.wrote
  by_command (Command.push j) i holding there met m =
      let small = cut_small (said_by j) (omega (arith, push_met j before met)) in
      let set_is = ap (λ (x : ℕ). with_marks x t) small ∙ ap (with_marks (said_by j)) (none_added rows before.tables t clash m.added).0 in
      let border = with_marks_border (said_by j) (tables_border f) (push_met j before met) in
      done (Read.got (Command.push j) i)
      (lent_same (popped_0 (subst (λ (x : Tables). Popped 0 x v) set_is m.dropped) border.sound) m.noted_is m.declared.names_same m.declared.lens_same refl)
      m.count m.wrote
  by_command (Command.pop j) i holding there met m =
      let small = cut_small (said_by j) (omega (arith, pop_met j before met, f.sound.tables_sound.counts_in.marks_in)) in
      let same = (none_added rows before.tables t clash m.added).0 in
      done (Read.got (Command.pop j) i) (
        v,
        (
          subst (λ (x : Tables). Popped (said_by j) x v) (with_no_marks t ∙ same) (subst (λ (x : ℕ). Popped x (with_marks 0 t) v) small m.dropped),
          lent_same refl m.noted_is m.declared.names_same m.declared.lens_same refl,
        ),
      )
      m.count m.wrote
  by_command (Command.get_value ws) i holding there met m =
      let is = shown_row before.notes.names before.names before.lens before.tables.days rows.firsts ws holding (command_met (Command.get_value ws) before met).1.0 in
      done (Read.got (Command.get_value ws) i)
      (lent_same (still m.added m.dropped) m.noted_is m.declared.names_same m.declared.lens_same refl)
      (m.count ∙ ap length is) (m.wrote ∙ ap (over before.out k) is)

  pub does :
      (c : Kind) (d : Command) (i : ℕ) → Heeded d s before.notes.names before.names before.lens c rows → First (command_needs d before) DONE → Parts c →
      Does (Read.got d i) k before w left
  does c d i heeded met m = by_command d i (heeded.tells.holding refl) heeded.name_there met (subst Parts heeded.tells.kind_is m)

-- The command that was read.
abbrev command_in : Read Command → Command
command_in (Read.got d i) = d
command_in (Read.stop y i) = Command.exit

-- What a command that was heeded leaves is sound and has room.
pub does_fine :
    (c : Kind) (rows : Columns) (s : List ℕ) (d : Command) (i k w : ℕ) (before after : Lent) → Fine before →
    Heeded d s before.notes.names before.names before.lens c rows → First (command_needs d before) DONE → Does (Read.got d i) k before w after → Fine after
does_fine c rows s d i k w before after f heeded met (mid, (changes, (count, is))) =
    subst Fine (sym is) (other_fine _ mid (changes_fine (Read.got d i) before mid f (λ x e same. heeded.name_fine x (ap command_in same)) met changes))
