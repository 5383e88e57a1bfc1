-- What a command that is carried out leaves is sound and has room.
use Prim.Native.Nat.{ℕ, suc, ◌+◌, ◌*◌, ◌≤◌, ◌<◌}
use native.Mathlib.Omega.{arith}
use native.Mathlib.Decide.{ℕ_discrete, dec_lt}
use mathlib.Core.Path.{◌≡◌, refl, sym, ◌∙◌, ap, subst}
use mathlib.Core.Bool.{Bool, true, false}
use mathlib.Core.List.{List, [], ◌∷◌, map}
use mathlib.Core.Logic.{inl, inr}
use lib.Dec.{eqb}
use lib.ListN.{length, length-set}
use lib.Seq.{get_or-set_same, get_or-set_other}
use borrow.Author.Tests.{lt-ltb, le-ltb, ne_eqb}
use Rattle.meaning.specs.Bounds.{STEPS, NAME_BYTES, DONE}
use Rattle.meaning.specs.Rules.{InBounds}
use Rattle.meaning.specs.Tables.{Tables, at}
use Rattle.meaning.specs.Promise.{First}
use Rattle.meaning.proofs.Sequences.{Kept}
use Rattle.lent.specs.Promises.{Border}
use Rattle.reading.specs.Tree.{Piece, said_by, Named, rules_of_term, Command}
use Rattle.reading.specs.Reading.{Why, Read, reading}
use Rattle.reading.specs.Saying.{resolved}
use Rattle.names.specs.Names.{name_at, Shelved}
use Rattle.names.proofs.Shelves.{name_new, name_old}
use Rattle.write.proofs.Laws.{length_over}
use Rattle.levels.specs.Levels.{with_marks, Popped}
use Rattle.levels.proofs.Laws.{with_marks_border, popped_border}
use Rattle.script_meaning.specs.Record.{Lent, StartRoom, ScriptSound, InForm, Known, step_of}
use Rattle.script_meaning.specs.Effect.{Does, Changes, with_notes, with_tables, with_name, broken_after, broken_left}
use Rattle.script_meaning.specs.Commands.{read_needs, text_needs}
use Rattle.script_meaning.specs.Traces.{with_out}
use Rattle.script_meaning.proofs.Seeking.{numbered_known}
use Rattle.script_meaning.proofs.Needed.{EachRule}
use Rattle.script_meaning.proofs.Granted.{declare_met, assert_met, push_met, text_met}
use Rattle.script_meaning.proofs.Readings.{declared_in_form}
use Rattle.script_meaning.proofs.Adding.{Each, adds_kept}

-- What is lent has room and is sound.
pub record Fine (l : Lent) : Type 0 where
  pub room : StartRoom l
  pub sound : ScriptSound l

-- The tables of what is lent have room and are sound.
pub tables_kept : {l : Lent} → Fine l → Kept l.tables
tables_kept f = record { sound = f.sound.tables_sound; room = f.room.tables_room }

pub tables_border : {l : Lent} → Fine l → Border l.tables
tables_border f = record { sound = f.sound.tables_sound; room = f.room.tables_room }

-- Another record with the same names, a level that is open, and no `sat` beside a contradictory one.
with_record :
    (l : Lent) (logic sat : Bool) (b : ℕ) → Fine l → b ≤ l.tables.counts.marks + 1 → ((b ≡ 0 → ⊥) → sat ≡ false) →
    Fine (with_notes (record { names = l.notes.names; logic = logic; broken = b; sat = sat }) l)
with_record l logic sat b f level unless = record {
  room = record { tables_room = f.room.tables_room; names_room = f.room.names_room; lens_room = f.room.lens_room };
  sound = record {
    tables_sound = f.sound.tables_sound;
    all_steps = f.sound.all_steps;
    names_in = f.sound.names_in;
    names_short = f.sound.names_short;
    names_in_form = f.sound.names_in_form;
    names_different = f.sound.names_different;
    level_open = level;
    no_sat = unless;
  };
}

-- Other bytes for the answer.
pub other_fine : (out : List ℕ) (l : Lent) → Fine l → Fine (with_out out l)
other_fine out l f = record {
  room = record { tables_room = f.room.tables_room; names_room = f.room.names_room; lens_room = f.room.lens_room };
  sound = record {
    tables_sound = f.sound.tables_sound;
    all_steps = f.sound.all_steps;
    names_in = f.sound.names_in;
    names_short = f.sound.names_short;
    names_in_form = f.sound.names_in_form;
    names_different = f.sound.names_different;
    level_open = f.sound.level_open;
    no_sat = f.sound.no_sat;
  };
}

-- Other tables that are sound and have as many steps, with a level that is open.
tables_fine : (t : Tables) (b : ℕ) (l : Lent) → Fine l → Kept t → t.counts.steps ≡ l.tables.counts.steps → b ≤ t.counts.marks + 1 → Fine (with_tables t b l)
tables_fine t b l f k same level = record {
  room = record { tables_room = k.room; names_room = f.room.names_room; lens_room = f.room.lens_room };
  sound = record {
    tables_sound = k.sound;
    all_steps = same ∙ f.sound.all_steps;
    names_in = f.sound.names_in;
    names_short = f.sound.names_short;
    names_in_form = f.sound.names_in_form;
    names_different = f.sound.names_different;
    level_open = level;
    no_sat = λ some. refl;
  };
}

-- The names that are shelved.
pub shelved_of : {l : Lent} → Fine l → Shelved l.notes.names l.names l.lens
shelved_of f = record {
  names_room = f.room.names_room;
  lens_room = f.room.lens_room;
  names_in = f.sound.names_in;
  short_names = f.sound.names_short;
}

-- A name in form that was not declared, declared now.
module _ (w : List ℕ) (l : Lent) (f : Fine l) (form : InForm w) (new : Known l w → ⊥) (few : l.notes.names < STEPS) where
  abbrev then : Lent
  then = with_name w l

  name_here : name_at then.names then.lens l.notes.names ≡ w
  name_here = name_new l.notes.names w l.names l.lens few form.short (shelved_of f)

  name_there : (k : ℕ) → k < l.notes.names → name_at then.names then.lens k ≡ name_at l.names l.lens k
  name_there = name_old l.notes.names w l.names l.lens few form.short (shelved_of f)

  unknown : (k : ℕ) → k < l.notes.names → name_at l.names l.lens k ≡ w → ⊥
  unknown k h e = new (numbered_known l.names l.lens w l.notes.names k h e)

  short_at : (k : ℕ) → k < l.notes.names + 1 → at then.lens k ≤ NAME_BYTES
  short_at k h = tell (ℕ_discrete k l.notes.names)
    where
      tell : Dec (k ≡ l.notes.names) → at then.lens k ≤ NAME_BYTES
      tell (yes e) = rw e (omega (arith, get_or-set_same l.lens l.notes.names (length w) 0 (omega (arith, f.room.lens_room)), form.short))
      tell (no o) = omega (arith, get_or-set_other l.lens l.notes.names k (length w) 0 o, f.sound.names_short k (omega arith))

  form_at : (k : ℕ) → k < l.notes.names + 1 → InForm (name_at then.names then.lens k)
  form_at k h = tell (ℕ_discrete k l.notes.names)
    where
      tell : Dec (k ≡ l.notes.names) → InForm (name_at then.names then.lens k)
      tell (yes e) = rw e (subst InForm (sym name_here) form)
      tell (no o) = subst InForm (sym (name_there k (omega arith))) (f.sound.names_in_form k (omega arith))

  different_at : (j k : ℕ) → j < k → k < l.notes.names + 1 → name_at then.names then.lens j ≡ name_at then.names then.lens k → ⊥
  different_at j k below h same = tell (ℕ_discrete k l.notes.names)
    where
      tell : Dec (k ≡ l.notes.names) → ⊥
      tell (yes e) = unknown j (omega arith) (sym (name_there j (omega arith)) ∙ same ∙ ap (λ (i : ℕ). name_at then.names then.lens i) e ∙ name_here)
      tell (no o) = f.sound.names_different j k below (omega arith) (sym (name_there j (omega arith)) ∙ same ∙ name_there k (omega arith))

  pub named_fine : Fine (with_name w l)
  named_fine = record {
    room = record {
      tables_room = f.room.tables_room;
      names_room = omega (arith, length_over l.names (NAME_BYTES * l.notes.names) w, f.room.names_room);
      lens_room = omega (arith, length-set l.lens l.notes.names (length w), f.room.lens_room);
    };
    sound = record {
      tables_sound = f.sound.tables_sound;
      all_steps = f.sound.all_steps;
      names_in = omega arith;
      names_short = short_at;
      names_in_form = form_at;
      names_different = different_at;
      level_open = f.sound.level_open;
      no_sat = λ some. refl;
    };
  }

-- The rules of a term whose names are declared and whose amounts are within bounds are rules within bounds.
pub rules_in : (l : Lent) → Fine l → (rs : List Named) → EachRule (Known l) rs → Each (InBounds l.tables.counts.steps) (map (resolved (step_of l)) rs)
rules_in l f [] each = tt
rules_in l f (r ∷ rs) (here, there) = (
  record {
    steps_in = record {
      first_in = omega (arith, here.first_known, f.sound.names_in, f.sound.all_steps);
      second_in = omega (arith, here.second_known, f.sound.names_in, f.sound.all_steps);
    };
    amount_in = here.amount_in;
  },
  rules_in l f rs there,
)

pub map_length : (S : List ℕ → ℕ) (rs : List Named) → length (map (resolved S) rs) ≡ length rs
map_length S [] = refl
map_length S (r ∷ rs) = ap suc (map_length S rs)

-- A level that counts as contradictory is open.
level_after : (clash : Bool) (t : Tables) → broken_after clash t ≤ t.counts.marks + 1
level_after true t = omega arith
level_after false t = omega arith

level_left : (b : ℕ) (t : Tables) → broken_left b t ≤ t.counts.marks + 1
level_left b t = tell (dec_lt (t.counts.marks + 1) b)
  where
    tell : Dec (t.counts.marks + 1 < b) → broken_left b t ≤ t.counts.marks + 1
    tell (yes h) = rw (lt-ltb (t.counts.marks + 1) b h) (omega arith)
    tell (no h) = rw (le-ltb (t.counts.marks + 1) b (omega arith)) (omega arith)

popped_steps : (n : ℕ) (t u : Tables) → Popped n t u → u.counts.steps ≡ t.counts.steps
popped_steps n t u p = ap (λ (v : Tables). v.counts.steps) p.dropped

pub kept_of : {t : Tables} → Border t → Kept t
kept_of b = record { sound = b.sound; room = b.room }

-- What was read is a declaration only of a name in form.
abbrev pub NamesInForm : Read Command → Type 0
NamesInForm r = (w : Piece) (e : ℕ) → r ≡ Read.got (Command.declare w) e → InForm w.letters

-- Every change that is made leaves what is sound and has room.
pub changes_fine : (r : Read Command) (l m : Lent) → Fine l → NamesInForm r → First (read_needs r l) DONE → Changes r l m → Fine m
changes_fine (Read.got Command.set_logic e) l m f named met is =
    subst Fine (sym is) (with_record l true false l.notes.broken f f.sound.level_open (λ some. refl))
changes_fine (Read.got Command.check_sat e) l m f named met is =
    subst Fine (sym is) (with_record l l.notes.logic (eqb l.notes.broken 0) l.notes.broken f f.sound.level_open (ne_eqb l.notes.broken 0))
changes_fine (Read.got Command.exit e) l m f named met is =
    subst Fine (sym is) (with_record l l.notes.logic false l.notes.broken f f.sound.level_open (λ other. refl))
changes_fine (Read.got (Command.declare w) e) l m f named met is =
    let granted = declare_met w l met in
    subst Fine (sym is) (named_fine w.letters l f (named w e refl) granted.0 granted.1)
changes_fine (Read.got (Command.assert t) e) l m f named met (inl (some, is)) =
    subst Fine (sym is) (with_record l l.notes.logic false l.notes.broken f f.sound.level_open (λ other. refl))
changes_fine (Read.got (Command.assert t) e) l m f named met (inr (none, (u, (clash, (adds, is))))) =
    let rs = rules_of_term false t in
    let granted = assert_met t l met in
    let more = adds_kept (map (resolved (step_of l)) rs) l.tables u clash (tables_kept f) (rules_in l f rs granted.0)
    (omega (arith, granted.1 none, map_length (step_of l) rs)) adds in
    subst Fine (sym is) (tables_fine u (broken_after clash u) l f more.0 more.1.same_steps (level_after clash u))
changes_fine (Read.got (Command.push n) e) l m f named met is =
    subst Fine (sym is)
    (tables_fine (with_marks (said_by n) l.tables) l.notes.broken l f (kept_of (with_marks_border (said_by n) (tables_border f) (push_met n l met))) refl
    (omega (arith, f.sound.level_open)))
changes_fine (Read.got (Command.pop n) e) l m f named met (t, (p, is)) =
    subst Fine (sym is)
    (tables_fine t (broken_left l.notes.broken t) l f (kept_of (popped_border (said_by n) (tables_border f) p))
    (popped_steps (said_by n) l.tables t p) (level_left l.notes.broken t))
changes_fine (Read.got (Command.get_value ws) e) l m f named met is = subst Fine (sym is) f
changes_fine (Read.stop Why.other i) l m f named met is = subst Fine (sym is) f
changes_fine (Read.stop Why.wrong i) l m f named met impossible = absurd impossible
changes_fine (Read.stop Why.size i) l m f named met impossible = absurd impossible

-- **Every command** that is carried out leaves what is sound and has room.
pub does_fine : (text : List ℕ) (k w : ℕ) (l m : Lent) → Fine l → First (text_needs text l) DONE → Does (reading text) k l w m → Fine m
does_fine text k w l m f met (mid, (changes, (w-is, is))) =
    subst Fine (sym is) (other_fine _ mid (changes_fine (reading text) l mid f (declared_in_form text) (text_met text l met).1 changes))
