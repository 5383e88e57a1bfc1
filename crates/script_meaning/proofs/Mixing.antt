-- After any sequence of calls, script calls among them, the tables are sound, one question splits the watched rules exactly, and the last day stored is the largest.
use Prim.Native.Nat.{ℕ, ◌≤◌}
use native.Mathlib.Omega.{arith}
use native.Mathlib.Decide.{ℕ_discrete}
use mathlib.Core.Path.{◌≡◌, refl, sym, subst}
use mathlib.Core.List.{List}
use lib.ListN.{length}
use Rattle.meaning.specs.Bounds.{STEPS, DONE, CONFLICT}
use Rattle.meaning.specs.Rules.{largest}
use Rattle.meaning.specs.Tables.{Tables, at}
use Rattle.meaning.specs.Promise.{Given, gave, First, Obeys}
use Rattle.meaning.specs.Calls.{Split, open_meaning}
use Rattle.meaning.specs.Runs.{Call, Made, Run}
use Rattle.meaning.proofs.Needs.{obeys_done}
use Rattle.meaning.proofs.Sequences.{Kept, call_keeps, run_kept, kept_splits, kept_last}
use Rattle.script_meaning.specs.Record.{Lent}
use Rattle.script_meaning.specs.Commands.{command_meaning, start_meaning}
use Rattle.script_meaning.specs.Mixed.{MixedRun, MixedOf}
use Rattle.script_meaning.proofs.Granted.{start_granted, granted}
use Rattle.script_meaning.proofs.Keeping.{tables_kept, does_fine}

-- A start that is accepted leaves what an accepted Open leaves.
started_kept : (l : Lent) (g : Given) (after : Lent) → Obeys (start_meaning l) l g after → g.number ≡ DONE → Kept after.tables
started_kept l g after x done =
    let room = start_granted l (subst (First (start_meaning l).asks) done x.first_unmet) in
    let opened = (x.when_done done).opened in
    run_kept after.tables
    (Run.from_open STEPS l.tables (record { number = DONE; one = g.one; two = g.two }) after.tables
    (obeys_done (open_meaning STEPS l.tables) l.tables g.one g.two after.tables (room.tables_room, ((omega arith, omega arith), tt)) opened) refl)

-- A command that is carried out leaves sound tables.
commanded_kept : (text : List ℕ) (l : Lent) (g : Given) (after : Lent) → Obeys (command_meaning text l) l g after → g.number ≡ DONE → Kept after.tables
commanded_kept text l g after x done =
    let r = granted text l (subst (First (command_meaning text l).asks) done x.first_unmet) in
    tables_kept (does_fine text 0 g.two l after (record { room = r.room.start_room; sound = r.sound }) r.met (x.when_done done).done)

-- A refused call leaves what was sound.
refused_kept :
    {A : Type 0} (g : Given) (l after : Lent) → (g.number ≡ CONFLICT → ⊥) → ((g.number ≡ DONE → ⊥) → (g.number ≡ CONFLICT → ⊥) → A × (after ≡ l)) →
    (g.number ≡ DONE → Kept after.tables) → Kept l.tables → Kept after.tables
refused_kept g l after clear refused done k = tell (ℕ_discrete g.number DONE)
  where
    tell : Dec (g.number ≡ DONE) → Kept after.tables
    tell (yes e) = done e
    tell (no e) = subst (λ (x : Lent). Kept x.tables) (sym (refused e clear).1) k

-- After any sequence of calls the tables are sound.
pub mixed_kept : (l : Lent) → MixedRun l → Kept l.tables
mixed_kept l (MixedOf.from_open n m g t made done) = run_kept t (Run.from_open n m.tables g t made done)
mixed_kept l (MixedOf.from_start m g after x done) = started_kept m g l x done
mixed_kept l (MixedOf.then_call m run c g t made) = call_keeps c m.tables t g made (mixed_kept m run)
mixed_kept l (MixedOf.then_start m run g after x) =
    refused_kept g m l (λ e. (x.on_conflict e).0) x.when_refused (λ e. started_kept m g l x e) (mixed_kept m run)
mixed_kept l (MixedOf.then_command m run text g after x) =
    refused_kept g m l (λ e. (x.on_conflict e).0) x.when_refused (λ e. commanded_kept text m g l x e) (mixed_kept m run)

-- After any sequence, with lists long enough, Consequences is carried out and what it gives is exactly the split.
pub mixed_splits :
    (m : Lent) (one two one' two' : List ℕ) (g : Given) (u : Tables) → MixedRun m → m.tables.counts.watched ≤ length one → m.tables.counts.watched ≤ length two →
    Made (Call.asks_consequences one one' two two') m.tables g u →
    (g.number ≡ DONE) × Split (record { tables = m.tables; one = one; two = two }) g.one g.two (record { tables = u; one = one'; two = two' })
mixed_splits m one two one' two' g u run = kept_splits m.tables one two one' two' g u (mixed_kept m run)

-- After any sequence the last day stored is the largest day of the plan, and Last day is carried out, gives it and changes nothing.
pub mixed_last :
    (m : Lent) (g : Given) (u : Tables) → MixedRun m → Made Call.asks_last_day m.tables g u →
    (m.tables.counts.last ≡ largest m.tables.counts.steps (at m.tables.days)) × (g ≡ gave DONE m.tables.counts.last 0) × (u ≡ m.tables)
mixed_last m g u run = kept_last m.tables g u (mixed_kept m run)
