-- `desk::open`: the room and the count decide the refusals; else the days are cleared, the places freed and the counts set.
use Prim.Native.Nat.{ℕ, ◌<◌}
use mathlib.Core.Path.{◌≡◌, refl}
use mathlib.Core.List.{List}
use mathlib.Core.Logic.{inl, inr}
use Rattle.meaning.specs.Bounds.{RULES, SHORT, STEP}
use Rattle.meaning.specs.Tables.{Tables, at, steps_alone}
use Rattle.meaning.specs.Promise.{Past}
use Rattle.meaning.specs.Calls.{Opened}
use Rattle.meaning.proofs.Sequences.{opened_kept}
use Rattle.lent.proofs.Watching.{idle_border}
use Rattle.desk.proofs.Gapping.{remade_watching}
use Rattle.lent.specs.Lent.{tables}
use Rattle.sound.proofs.Opened.{opened_days}
use Rattle.meaning.proofs.Needs.{obeys_done, obeys_refused}
use native.Mathlib.Omega.{arith}
use Rattle.desk.proofs.open.Goals as goal

-- What Open leaves, from what clears the days and frees the places.
opened_record :
    (n : ℕ) (t : Tables) (levels days : List ℕ) → ((v : ℕ) → v < n → at days v ≡ 0) → Past n t.days days → ((i : ℕ) → i < RULES → at levels i ≡ 0) → Past RULES t.levels levels →
    Opened n t 0 0 (record { counts = steps_alone n; rules = t.rules; days = days; levels = levels; watched = t.watched })
opened_record n t levels days zeros past free past_levels = record {
  no_values = (refl, refl);
  emptied = opened_days n t levels days zeros;
  day_0 = zeros;
  past = past;
  all_free = free;
  past_levels = past_levels;
}

pub returns-then-not-has_room : goal.returns-then-not-has_room
returns-then-not-has_room c = (obeys_refused _ _ SHORT (λ e. omega arith) (λ e. omega arith) (inl (refl, (rw (c.of-tables.ensures c.args.counts) at (c.has_room.ensures c.args.counts)).not_so c.if-not-has_room.true)))

pub returns-then-steps-lt1 : goal.returns-then-steps-lt1
returns-then-steps-lt1 c = (obeys_refused _ _ STEP (λ e. omega arith) (λ e. omega arith) (inr ((rw (c.of-tables.ensures c.args.counts) at (c.has_room.ensures c.args.counts)).so c.if-not-has_room.false, inl (refl, λ h. omega (arith, h.0)))))

pub returns-then-steps-gt-STEPS : goal.returns-then-steps-gt-STEPS
returns-then-steps-gt-STEPS c = (obeys_refused _ _ STEP (λ e. omega arith) (λ e. omega arith) (inr ((rw (c.of-tables.ensures c.args.counts) at (c.has_room.ensures c.args.counts)).so c.if-not-has_room.false, inl (refl, λ h. omega (arith, h.1)))))

pub clear_days-requires : goal.clear_days-requires
clear_days-requires c = omega (arith, ((rw (c.of-tables.ensures c.args.counts) at (c.has_room.ensures c.args.counts)).so c.if-not-has_room.false).days_room, c.if-steps-gt-STEPS.false)

pub free_all-requires : goal.free_all-requires
free_all-requires c = ((rw (c.of-tables.ensures c.args.counts) at (c.has_room.ensures c.args.counts)).so c.if-not-has_room.false).levels_room

pub remake-requires : goal.remake-requires
remake-requires c =
    let lent_at : Tables = tables c.args.counts c.args.rules.xs.now c.args.rules.ys.now c.args.rules.cs.now c.args.days.now c.args.levels.now
    c.args.watched.xs.now c.args.watched.ys.now c.args.watched.cs.now in
    let room = (rw (c.of-tables.ensures c.args.counts) at (c.has_room.ensures c.args.counts)).so c.if-not-has_room.false in
    let clear-days = c.clear_days in
    let free_all = c.free_all in
    let opened = opened_record c.args.steps (lent_at) _ _ (λ v h. clear-days.ensures.day_0 v (omega (arith, h, c.if-steps-gt-STEPS.false))) clear-days.ensures.past free_all.ensures.all_free free_all.ensures.past_levels in
    let kept = opened_kept c.args.steps (lent_at) _ 0 0 room (omega (arith, c.if-steps-lt1.false)) (omega (arith, c.if-steps-gt-STEPS.false)) opened in
    rw c.steps_alone-opened.ensures (idle_border (record { room = kept.room; sound = kept.sound }))

pub returns : goal.returns
returns c =
    let lent_at : Tables = tables c.args.counts c.args.rules.xs.now c.args.rules.ys.now c.args.rules.cs.now c.args.days.now c.args.levels.now
    c.args.watched.xs.now c.args.watched.ys.now c.args.watched.cs.now in
    let room = (rw (c.of-tables.ensures c.args.counts) at (c.has_room.ensures c.args.counts)).so c.if-not-has_room.false in
    let clear-days = c.clear_days in
    let free_all = c.free_all in
    let opened = opened_record c.args.steps (lent_at) _ _ (λ v h. clear-days.ensures.day_0 v (omega (arith, h, c.if-steps-gt-STEPS.false))) clear-days.ensures.past free_all.ensures.all_free free_all.ensures.past_levels in
    let steps_alone = c.steps_alone-opened in
    let remade = rw steps_alone.ensures at c.remake.ensures in
    rw steps_alone.ensures
    (obeys_done _ _ 0 0 _ (room, ((omega (arith, c.if-steps-lt1.false), omega (arith, c.if-steps-gt-STEPS.false)), tt))
    (opened, remade_watching _ _ _ _ _ _ c.args.watched.xs.now c.args.watched.ys.now c.args.watched.cs.now _ _ remade))
