-- `script_calls::start` meets its contract: the room decides the refusal; else the days are cleared, every place freed, the counts set and the record emptied.
use native.Mathlib.Omega.{arith}
use mathlib.Core.Path.{refl}
use mathlib.Core.List.{[]}
use mathlib.Core.Logic.{inl}
use Rattle.meaning.specs.Bounds.{STEPS, SHORT}
use Rattle.lent.specs.Lent.{tables}
use Rattle.sound.proofs.Opened.{opened_days}
use Rattle.meaning.proofs.Needs.{obeys_done, obeys_refused}
use Rattle.script_calls.proofs.start.Goals as goal

pub returns-then-not-start_room : goal.returns-then-not-start_room
returns-then-not-start_room c = λ out. obeys_refused _ _ SHORT (λ e. omega arith) (λ e. omega arith) (inl (refl, λ h. (c.start_room.ensures c.args.counts.now c.args.notes.now out).not_so c.if-not-start_room.true h))

pub clear_days-requires : goal.clear_days-requires
clear_days-requires c = omega (arith, ((c.start_room.ensures c.args.counts.now c.args.notes.now []).so c.if-not-start_room.false).tables_room.days_room)

pub free_all-requires : goal.free_all-requires
free_all-requires c = omega (arith, ((c.start_room.ensures c.args.counts.now c.args.notes.now []).so c.if-not-start_room.false).tables_room.levels_room)

pub returns : goal.returns
returns c = let free_all = c.free_all in
    let clear-days = c.clear_days in
    let start_room = c.start_room in
    λ out. rw (c.steps_alone.ensures, c.no_notes.ensures)
    (obeys_done _ _ 0 0 _ ((start_room.ensures c.args.counts.now c.args.notes.now out).so c.if-not-start_room.false, tt)
    (record {
      opened = record { no_values = (refl, refl); emptied = opened_days STEPS (tables c.args.counts.now c.args.xs.now c.args.ys.now c.args.cs.now c.args.days.now c.args.levels.now c.args.wxs.now c.args.wys.now c.args.wcs.now) _ _ clear-days.ensures.day_0; day_0 = clear-days.ensures.day_0; past = clear-days.ensures.past; all_free = free_all.ensures.all_free; past_levels = free_all.ensures.past_levels };
      emptied = refl;
      names_stay = refl;
      lens_stay = refl;
      out_stays = refl;
    }))
