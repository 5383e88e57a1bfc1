-- The gap table among script calls: after any sequence it is right, and what else is lent comes from the same calls made without it. A script call leaves tables of as many steps as there can be, beside which
-- every gap table is right, or it leaves what it was lent.
use Prim.Native.Nat.{ℕ}
use native.Mathlib.Omega.{arith}
use native.Mathlib.Decide.{ℕ_discrete}
use mathlib.Core.Path.{◌≡◌, sym, ap, subst}
use mathlib.Core.List.{List}
use Rattle.meaning.specs.Bounds.{STEPS, DONE, CONFLICT}
use Rattle.meaning.specs.Tables.{Tables}
use Rattle.meaning.specs.Promise.{Given, First, Obeys}
use Rattle.gaps.specs.Gaps.{Gaps, Right}
use Rattle.gaps.proofs.Keeping.{wide_right, opened_without, made_without, made_right, gap_stays}
use Rattle.script_meaning.specs.Record.{Lent}
use Rattle.script_meaning.specs.Commands.{start_meaning, command_meaning}
use Rattle.script_meaning.specs.Mixed.{on_tables, MixedRun, MixedOf}
use Rattle.script_meaning.proofs.Granted.{granted}
use Rattle.script_meaning.proofs.Keeping.{does_fine}
use Rattle.export_record.specs.MixedBeside.{MixedBeside}

-- Beside tables of STEPS steps every gap table is right.
all_right : (t : Tables) (a : Gaps) → t.counts.steps ≡ STEPS → Right t a
all_right t a all = wide_right t a (omega (arith, all))

-- A start that is accepted, and a command that is carried out, leave tables of STEPS steps.
started_steps : (l : Lent) (g : Given) (after : Lent) → Obeys (start_meaning l) l g after → g.number ≡ DONE → after.tables.counts.steps ≡ STEPS
started_steps l g after x done = ap (λ (t : Tables). t.counts.steps) (x.when_done done).opened.emptied

commanded_steps : (text : List ℕ) (l : Lent) (g : Given) (after : Lent) → Obeys (command_meaning text l) l g after → g.number ≡ DONE → after.tables.counts.steps ≡ STEPS
commanded_steps text l g after x done =
    let r = granted text l (subst (First (command_meaning text l).asks) done x.first_unmet) in
    (does_fine text 0 g.two l after (record { room = r.room.start_room; sound = r.sound }) r.met (x.when_done done).done).sound.all_steps

-- So after either the gap table is right where it was.
stays_right :
    {A : Type 0} (g : Given) (l after : Lent) (a : Gaps) → (g.number ≡ CONFLICT → ⊥) → ((g.number ≡ DONE → ⊥) → (g.number ≡ CONFLICT → ⊥) → A × (after ≡ l)) →
    (g.number ≡ DONE → after.tables.counts.steps ≡ STEPS) → Right l.tables a → Right after.tables a
stays_right g l after a clear refused done right = tell (ℕ_discrete g.number DONE)
  where
    tell : Dec (g.number ≡ DONE) → Right after.tables a
    tell (yes e) = all_right after.tables a (done e)
    tell (no e) = subst (λ (x : Lent). Right x.tables a) (sym (refused e clear).1) right

-- **After any sequence of calls**, script calls among the public ones.
pub record FollowsMixed (l : Lent) (a : Gaps) : Type 0 where
  pub run : MixedRun l
  pub right : Right l.tables a

pub mixed_right : (l : Lent) (a : Gaps) → MixedBeside l a → FollowsMixed l a
mixed_right _ _ (MixedBeside.from_open n l a g t b x done) =
    record { run = MixedOf.from_open n l g t (opened_without n l.tables t a b g x) done; right = (x.when_done done).1.right }
mixed_right _ _ (MixedBeside.from_start l a g after x done) =
    record { run = MixedOf.from_start l g after x done; right = all_right after.tables a (started_steps l g after x done) }
mixed_right _ _ (MixedBeside.then_call l a before c g t b x) =
    let had = mixed_right l a before in
    record { run = MixedOf.then_call l had.run c g t (made_without c l.tables t a b g had.right x); right = made_right c l.tables t a b g had.right x }
mixed_right _ _ (MixedBeside.then_gap l a before x y g t b made) =
    let had = mixed_right l a before in
    let (same, stays) = gap_stays x y l.tables t a b g made in
    subst (λ (u : Tables). FollowsMixed (on_tables u l) b) (sym same) (subst (FollowsMixed l) (sym stays) had)
mixed_right _ _ (MixedBeside.then_start l a before g after x) =
    let had = mixed_right l a before in
    record { run = MixedOf.then_start l had.run g after x; right = stays_right g l after a (λ e. (x.on_conflict e).0) x.when_refused (started_steps l g after x) had.right }
mixed_right _ _ (MixedBeside.then_command l a before text g after x) =
    let had = mixed_right l a before in
    record { run = MixedOf.then_command l had.run text g after x; right = stays_right g l after a (λ e. (x.on_conflict e).0) x.when_refused (commanded_steps text l g after x) had.right }
