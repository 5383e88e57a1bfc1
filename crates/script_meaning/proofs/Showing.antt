-- Order does not matter and nothing is unsaid with script calls among the others: every sequence ends with sound tables, and an assertion that is carried out only adds rules, or none.
use Prim.Native.Nat.{ℕ}
use native.Mathlib.Omega.{arith}
use mathlib.Core.Path.{◌≡◌, refl, sym, ap, subst}
use mathlib.Core.Bool.{false}
use mathlib.Core.List.{List, map}
use mathlib.Core.Logic.{inl, inr}
use Rattle.meaning.specs.Bounds.{DONE}
use Rattle.meaning.specs.Tables.{Tables, Columns, rule_at}
use Rattle.meaning.specs.Promise.{Given, First, Obeys}
use Rattle.meaning.specs.Screen.{SameQuestion, SameScreen, NothingUnsaid}
use Rattle.meaning.proofs.Sequences.{Kept}
use Rattle.meaning.proofs.Screens.{NoneMissing, same_screen, nothing_unsaid}
use Rattle.reading.specs.Tree.{Term, rules_of_term, Command}
use Rattle.reading.specs.Reading.{Read, reading}
use Rattle.reading.specs.Saying.{resolved}
use Rattle.script_meaning.specs.Record.{Lent, step_of}
use Rattle.script_meaning.specs.Effect.{Asserts, Does}
use Rattle.script_meaning.specs.Commands.{command_needs, read_needs, command_meaning}
use Rattle.script_meaning.specs.Mixed.{MixedRun}
use Rattle.script_meaning.proofs.Granted.{granted, text_met, assert_met}
use Rattle.script_meaning.proofs.Adding.{Grown, still_held, adds_kept}
use Rattle.script_meaning.proofs.Keeping.{Fine, tables_kept, rules_in, map_length}
use Rattle.script_meaning.proofs.Mixing.{mixed_kept}

-- **Order does not matter**: two sequences that end with the same question end with the same screen, however they went.
pub mixed_same_screen : (l m : Lent) → MixedRun l → MixedRun m → SameQuestion l.tables m.tables → SameScreen l.tables m.tables
mixed_same_screen l m one other = same_screen (mixed_kept l one) (mixed_kept m other)

-- Where nothing is changed no rule is missing, nor where rules are added.
none_changed : (t : Tables) → NoneMissing t t
none_changed t = record { same_steps = refl; as_many_watched = refl; each_watched = λ j below. refl; rules_there = λ i held. (i, (held, refl)) }

none_dropped : {t u : Tables} → Grown t u → NoneMissing t u
none_dropped g = record {
  same_steps = sym g.same_steps;
  as_many_watched = sym g.same_count;
  each_watched = λ j below. ap (λ (c : Columns). rule_at c j) (sym g.same_watched);
  rules_there = λ i held. (i, (still_held g i held, g.older_rules i held));
}

-- The rules of an assertion that is carried out are added up to the first that does not fit; where a level counts as contradictory none is.
asserts_none_missing :
    (t : Term) (l after : Lent) → Fine l → First (command_needs (Command.assert t) l) DONE → Asserts (rules_of_term false t) l after →
    Kept after.tables × NoneMissing l.tables after.tables
asserts_none_missing t l after f met (inl (some, is)) = subst (λ (m : Lent). Kept m.tables × NoneMissing l.tables m.tables) (sym is) (tables_kept f, none_changed l.tables)
asserts_none_missing t l after f met (inr (none, (u, (clash, (adds, is))))) =
    let rs = rules_of_term false t in
    let (each, places) = assert_met t l met in
    let (kept, grown) = adds_kept (map (resolved (step_of l)) rs) l.tables u clash (tables_kept f) (rules_in l f rs each)
    (omega (arith, places none, map_length (step_of l) rs)) adds in
    subst (λ (m : Lent). Kept m.tables × NoneMissing l.tables m.tables) (sym is) (kept, none_dropped grown)

-- **Nothing is unsaid** by an `assert` that is carried out, on whatever is lent: so after any sequence of calls.
pub assert_unsays_nothing :
    (text : List ℕ) (t : Term) (e : ℕ) → reading text ≡ Read.got (Command.assert t) e → (l after : Lent) (g : Given) → Obeys (command_meaning text l) l g after → g.number ≡ DONE →
    NothingUnsaid l.tables after.tables
assert_unsays_nothing text t e asserts l after g x done =
    let given = granted text l (subst (First (command_meaning text l).asks) done x.first_unmet) in
    let f : Fine l = record { room = given.room.start_room; sound = given.sound } in
    let (mid, (changes, (count, is))) = subst (λ (r : Read Command). Does r 0 l g.two after) asserts (x.when_done done).done in
    let met = subst (λ (r : Read Command). First (read_needs r l) DONE) asserts (text_met text l given.met).1 in
    let (kept, none) = asserts_none_missing t l mid f met changes in
    nothing_unsaid (tables_kept f) (subst (λ (m : Lent). Kept m.tables) (sym is) kept) (subst (λ (m : Lent). NoneMissing l.tables m.tables) (sym is) none)
