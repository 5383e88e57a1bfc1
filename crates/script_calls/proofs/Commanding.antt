-- From a command carried out to the promise of the call.
use Prim.Native.Nat.{ℕ}
use mathlib.Core.Path.{◌≡◌, refl, ap}
use mathlib.Core.List.{List}
use mathlib.Core.Logic.{inr}
use Rattle.meaning.specs.Bounds.{DONE, CONFLICT}
use Rattle.meaning.specs.Promise.{First, Obeys, gave}
use Rattle.meaning.specs.Tables.{Columns}
use Rattle.lent.specs.Idle.{idle, watching}
use Rattle.lent.specs.Promises.{Border}
use Rattle.lent.proofs.Watching.{idle_border}
use Rattle.reading.specs.Reading.{reading}
use Rattle.script_meaning.specs.Record.{Lent, StartRoom, ScriptRoom, ScriptSound}
use Rattle.script_meaning.specs.Commands.{command_meaning}
use Rattle.script_meaning.proofs.Alike.{needs_alike}
use Rattle.script_meaning.proofs.Beside.{lent_watching, does_watching}
use Rattle.script_meaning.proofs.Keeping.{Fine}
use Rattle.script_meaning.proofs.Refusing.{never_conflict}
use Rattle.script_command.specs.declared.Carried.{Carried}
use Rattle.script_command.specs.Carrying.{Carries}

-- What is lent is fine with idle watched rules too.
pub idle_fine : {l : Lent} → StartRoom l → ScriptSound l → Fine (lent_watching idle l)
idle_fine {l} room sound = record {
  room = record { tables_room = border.room; names_room = room.names_room; lens_room = room.lens_room };
  sound = record {
    tables_sound = border.sound;
    all_steps = sound.all_steps;
    names_in = sound.names_in;
    names_short = sound.names_short;
    names_in_form = sound.names_in_form;
    names_different = sound.names_different;
    level_open = sound.level_open;
    no_sat = sound.no_sat;
  };
}
  where
    border : Border (watching idle l.tables)
    border = idle_border (record { room = room.tables_room; sound = sound.tables_sound })

-- What a command carries out with some watched rules it carries out with any.
pub carries_watching : (w : Columns) {s : List ℕ} {k : ℕ} {before after : Lent} {r : Carried} → Carries s k before r after → Carries s k (lent_watching w before) r (lent_watching w after)
carries_watching w {s} {k} {before} {after} {r} h = record {
  first_unmet =
      needs_alike s r.number before (lent_watching w before)
      (record { tables_alike = record { same_counts = refl; same_levels = λ i i-in. refl; same_rules = λ i held. refl }; same_notes = refl; same_names = λ j j-in. refl })
      h.first_unmet;
  when_done = λ e. does_watching w (reading s) k before r.written after (h.when_done e);
  when_refused = λ nd. (ap (lent_watching w) (h.when_refused nd).0, (h.when_refused nd).1);
  ends = h.ends;
  bytes_read = h.bytes_read;
}

-- What is carried out, or refused, keeps the promise.
pub commanded :
    (text : List ℕ) (before after : Lent) (r : Carried) → ScriptRoom 0 before → ScriptSound before → Carries text 0 before r after →
    Obeys (command_meaning text before) before (gave r.number r.read r.written) after
commanded text before after r room sound h = record {
  first_unmet = inr (room, inr (sound, h.first_unmet));
  when_done = λ e. record { bytes_read = h.bytes_read e; done = h.when_done e };
  on_conflict = λ e. absurd (never_conflict text before r.number h.first_unmet e);
  when_refused = λ nd nc. ((λ i. gave r.number ((h.when_refused nd).1.1 i) ((h.when_refused nd).1.0 i)), (h.when_refused nd).0);
}

-- Refused before the command is looked at.
pub not_entered : (text : List ℕ) (l : Lent) (k : ℕ) → (k ≡ DONE → ⊥) → (k ≡ CONFLICT → ⊥) → First (command_meaning text l).asks k → Obeys (command_meaning text l) l (gave k 0 0) l
not_entered text l k nd nc f = record {
  first_unmet = f;
  when_done = λ e. absurd (nd e);
  on_conflict = λ e. absurd (nc e);
  when_refused = λ a b. (refl, refl);
}
