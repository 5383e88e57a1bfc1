-- **The calls of the library**: from a start on, what is asserted after each command, and that its answer is the one that the text of all commands so far asks for.
use Prim.Native.Nat.{ℕ}
use native.Mathlib.Omega.{arith}
use mathlib.Core.Path.{◌≡◌, refl, sym, ◌∙◌, ap, subst}
use mathlib.Core.List.{List}
use lib.ListN.{length}
use Rattle.meaning.specs.Bounds.{STEPS, RULES, WATCHED, DONE}
use Rattle.meaning.specs.Tables.{Tables, ColumnsRoom, at, steps_alone, last_now}
use Rattle.meaning.proofs.LastDay.{largest_zeros}
use Rattle.meaning.specs.Promise.{Given, First, Obeys}
use Rattle.reading.specs.Reading.{reading}
use Rattle.script_meaning.specs.Record.{Lent, StartRoom}
use Rattle.script_meaning.specs.Commands.{Started, start_meaning, command_meaning}
use Rattle.script_meaning.specs.Traces.{History, nothing_asserted, follows, Traced}
use Rattle.script_meaning.specs.Told.{Answered}
use Rattle.script_meaning.specs.Whole.{Fresh}
use Rattle.script_meaning.proofs.Granted.{start_granted, granted}
use Rattle.script_meaning.proofs.Tracing.{traced_in_force}
use Rattle.script_meaning.proofs.Answering.{command_answered}

-- A start that is carried out leaves what is fresh.
pub start_fresh : (l : Lent) (g : Given) (after : Lent) → Obeys (start_meaning l) l g after → g.number ≡ DONE → Fresh after
start_fresh l g after x done = fresh
  where
    started : Started l g.one g.two after
    started = x.when_done done

    room : StartRoom l
    room = start_granted l (subst (First (start_meaning l).asks) done x.first_unmet)

    fresh : Fresh after
    fresh = record {
      room = record {
        tables_room = record {
          rules_room = subst (λ (t : Tables). ColumnsRoom RULES t.rules) (sym started.opened.emptied) room.tables_room.rules_room;
          days_room = omega (arith, started.opened.past.same_length, room.tables_room.days_room);
          levels_room = omega (arith, started.opened.past_levels.same_length, room.tables_room.levels_room);
          watched_room = subst (λ (t : Tables). ColumnsRoom WATCHED t.watched) (sym started.opened.emptied) room.tables_room.watched_room;
        };
        names_room = omega (arith, ap length started.names_stay, room.names_room);
        lens_room = omega (arith, ap length started.lens_stay, room.lens_room);
      };
      counts_are =
          ap (λ t. t.counts) started.opened.emptied
          ∙ ap (λ (k : ℕ). last_now k (steps_alone STEPS)) (largest_zeros STEPS (at after.tables.days) started.opened.day_0);
      notes_are = started.emptied;
      day_0 = started.opened.day_0;
      all_free = started.opened.all_free;
    }

-- So it begins a trace: nothing is asserted.
pub start_traced : (l : Lent) (g : Given) (after : Lent) → Obeys (start_meaning l) l g after → g.number ≡ DONE → Traced after nothing_asserted
start_traced l g after x done = Traced.fresh after (start_fresh l g after x done)

-- **A command call** goes on with a trace: carried out, by what its text says; refused, with what was asserted before.
pub call_traced :
    (text : List ℕ) (l : Lent) (h : History) (g : Given) (after : Lent) → Traced l h → Obeys (command_meaning text l) l g after →
    (g.number ≡ DONE → Traced after (follows (reading text) h)) × ((g.number ≡ DONE → ⊥) → Traced after h)
call_traced text l h g after t x = (
  (λ done. Traced.carried_out l h t text 0 g.two after (granted text l (subst (First (command_meaning text l).asks) done x.first_unmet)).met (x.when_done done).done),
  (λ refused. subst (λ (m : Lent). Traced m h) (sym (x.when_refused refused (λ e. (x.on_conflict e).0)).1) t),
)

-- **Its answer** is the one that the text of all commands so far asks for: `sat` exactly when what is asserted is satisfiable, the earliest plan of what is asserted.
pub call_answered :
    (text : List ℕ) (l : Lent) (h : History) (g : Given) (after : Lent) → Traced l h → Obeys (command_meaning text l) l g after → g.number ≡ DONE →
    Answered (reading text) h 0 g.two after.out
call_answered text l h g after t x done =
    let r = granted text l (subst (First (command_meaning text l).asks) done x.first_unmet) in
    command_answered l h (traced_in_force l h t) text 0 g.two after after.out r.met (x.when_done done).done r.room.out_room refl
