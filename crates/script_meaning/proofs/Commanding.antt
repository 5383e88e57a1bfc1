-- Every command that is carried out keeps the link between the asserted terms and the rules held.
use Prim.Native.Nat.{ℕ, ◌+◌, ◌≤◌}
use native.Mathlib.Omega.{arith}
use mathlib.Core.Path.{◌≡◌, refl, sym, subst}
use mathlib.Core.Bool.{Bool, true, false}
use mathlib.Core.List.{List, map}
use mathlib.Core.Logic.{inl, inr}
use lib.ListN.{length, drop}
use Rattle.meaning.specs.Bounds.{RULES, DONE}
use Rattle.meaning.specs.Promise.{First}
use Rattle.reading.specs.Tree.{said_by, Term, rules_of_term, Supported, Command}
use Rattle.reading.specs.Reading.{Why, Read, reading}
use Rattle.reading.specs.Saying.{resolved}
use Rattle.script_meaning.specs.Record.{Lent, Known, step_of}
use Rattle.script_meaning.specs.Effect.{Changes, Does, Asserts}
use Rattle.script_meaning.specs.Commands.{command_needs, read_needs, text_needs}
use Rattle.script_meaning.specs.Traces.{History, follows, with_term, with_levels, with_out}
use Rattle.reading.proofs.Begun.{asserted_supported}
use Rattle.script_meaning.proofs.Readings.{declared_in_form}
use Rattle.script_meaning.proofs.Granted.{declare_met, assert_met, pop_met, text_met}
use Rattle.script_meaning.proofs.Adding.{adds_kept}
use Rattle.script_meaning.proofs.Keeping.{Fine, NamesInForm, tables_kept, rules_in, map_length, other_fine, changes_fine}
use Rattle.script_meaning.proofs.Named.{of_rules}
use Rattle.script_meaning.proofs.InForce.{InForce, named_in_force, broken_in_force, added_in_force}
use Rattle.script_meaning.proofs.Stacking.{push_in_force, pop_in_force}

-- Another record with the same names and the same contradictory level, and other bytes for the answers.
abbrev noted : Lent → (logic sat : Bool) → List ℕ → Lent
noted l logic sat out = record {
  tables = l.tables;
  notes = record { names = l.notes.names; logic = logic; broken = l.notes.broken; sat = sat };
  names = l.names;
  lens = l.lens;
  out = out;
}

-- It keeps the link; so do other bytes alone.
noted_in_force : (l m : Lent) (h : History) (logic sat : Bool) (out : List ℕ) → InForce l h → Fine m → m ≡ noted l logic sat out → InForce m h
noted_in_force l m h logic sat out i g is =
    subst (λ (x : Lent). InForce x h) (sym is) (record { fine = subst Fine is g; as_many = i.as_many; declared = i.declared; exact = i.exact; none = i.none })

pub bytes_in_force : (l : Lent) (h : History) (out : List ℕ) → InForce l h → InForce (with_out out l) h
bytes_in_force l h out i = noted_in_force l (with_out out l) h l.notes.logic l.notes.sat out i (other_fine out l i.fine) refl

-- An assertion.
asserts_in_force :
    (t : Term) (l m : Lent) (h : History) → InForce l h → Fine m → Supported false t → First (command_needs (Command.assert t) l) DONE → Asserts (rules_of_term false t) l m →
    InForce m (with_term t h)
asserts_in_force t l m h i g supported met (inl (some, is)) =
    subst (λ (x : Lent). InForce x (with_term t h)) (sym is) (broken_in_force l h i t (of_rules (Known l) false t (assert_met t l met).0) some (subst Fine is g))
asserts_in_force t l m h i g supported met (inr (clean, (u, (clash, (adds, is))))) =
    let rs = rules_of_term false t in
    let each = (assert_met t l met).0 in
    let few : l.tables.counts.rules + length (map (resolved (step_of l)) rs) ≤ RULES = omega (arith, (assert_met t l met).1 clean, map_length (step_of l) rs) in
    let more = adds_kept (map (resolved (step_of l)) rs) l.tables u clash (tables_kept i.fine) (rules_in l i.fine rs each) few adds in
    subst (λ (x : Lent). InForce x (with_term t h)) (sym is)
    (added_in_force l h i t (of_rules (Known l) false t each) supported clean u more.1 few clash (subst Fine is g) adds)

-- What a command changes keeps the link, where a name that it declares is in form and a term that it asserts is supported.
changes_in_force :
    (r : Read Command) (l m : Lent) (h : History) → InForce l h → Fine m → NamesInForm r →
    ((t : Term) (e : ℕ) → r ≡ Read.got (Command.assert t) e → Supported false t) → First (read_needs r l) DONE → Changes r l m → InForce m (follows r h)
changes_in_force (Read.got Command.set_logic e) l m h i g named supported met is = noted_in_force l m h true false l.out i g is
changes_in_force (Read.got Command.check_sat e) l m h i g named supported met is = noted_in_force l m h _ _ _ i g is
changes_in_force (Read.got Command.exit e) l m h i g named supported met is = noted_in_force l m h _ _ _ i g is
changes_in_force (Read.got (Command.declare w) e) l m h i g named supported met is =
    subst (λ (x : Lent). InForce x h) (sym is) (named_in_force w.letters l h i (subst Fine is g) (named w e refl).short (declare_met w l met).1)
changes_in_force (Read.got (Command.assert t) e) l m h i g named supported met asserts = asserts_in_force t l m h i g (supported t e refl) met asserts
changes_in_force (Read.got (Command.push n) e) l m h i g named supported met is =
    subst (λ (x : Lent). InForce x (with_levels (said_by n) h)) (sym is) (push_in_force (said_by n) l h i (subst Fine is g))
changes_in_force (Read.got (Command.pop n) e) l m h i g named supported met (u, (popped, is)) =
    subst (λ (x : Lent). InForce x (drop (said_by n) h)) (sym is) (pop_in_force (said_by n) l h i (pop_met n l met) u popped (subst Fine is g))
changes_in_force (Read.got (Command.get_value ws) e) l m h i g named supported met is = subst (λ (x : Lent). InForce x h) (sym is) i
changes_in_force (Read.stop Why.other j) l m h i g named supported met is = subst (λ (x : Lent). InForce x h) (sym is) i
changes_in_force (Read.stop Why.wrong j) l m h i g named supported met impossible = absurd impossible
changes_in_force (Read.stop Why.size j) l m h i g named supported met impossible = absurd impossible

-- Every command that is carried out keeps the link.
pub command_in_force :
    (text : List ℕ) (k w : ℕ) (l m : Lent) (h : History) → InForce l h → First (text_needs text l) DONE → Does (reading text) k l w m → InForce m (follows (reading text) h)
command_in_force text k w l m h i needs-met (mid, (changes, (w-is, is))) =
    let met = (text_met text l needs-met).1 in
    let g = changes_fine (reading text) l mid i.fine (declared_in_form text) met changes in
    subst (λ (x : Lent). InForce x (follows (reading text) h)) (sym is)
    (bytes_in_force mid (follows (reading text) h) _ (changes_in_force (reading text) l mid h i g (declared_in_form text) (asserted_supported text) met changes))
