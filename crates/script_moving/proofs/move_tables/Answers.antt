-- `script_moving::move_tables` meets its contract: the parts in a row leave sound tables one after the other, and together they move the tables as the command asks.
use Prim.Native.Nat.{ℕ}
use mathlib.Core.Path.{sym, ap, subst}
use lib.ListN.{length}
use borrow.Author.Tests.{ltb-true}
use Rattle.meaning.specs.declared.Counts.{Counts}
use Rattle.meaning.specs.Tables.{Tables}
use Rattle.lent.specs.Lent.{columns}
use Rattle.lent.specs.Idle.{idle, unwatched}
use Rattle.lent.specs.Promises.{Border}
use Rattle.levels.specs.Levels.{Popped, with_marks}
use Rattle.levels.proofs.Laws.{with_marks_border, kept_popped}
use Rattle.script_meaning.specs.Effect.{AddsAll}
use Rattle.asserts.specs.Rows.{rows_from}
use Rattle.script_moving.specs.Moving.{adds, pops}
use Rattle.script_moving.proofs.Laws.{rows_added, days_stay, order_stays, pushed_same}
use native.Mathlib.Omega.{arith}
use Rattle.script_moving.proofs.move_tables.Goals as goal

pub add_rules-added-requires : goal.add_rules-added-requires
add_rules-added-requires c = let pre = c.requires in
    let movable = pre.movable in
    let many = c.work_of-work.ensures.0 in record {
      k_in_bounds = rw many movable.rows_there.0;
      k_in_bounds_2 = rw many movable.rows_there.1.0;
      k_in_bounds_3 = rw many movable.rows_there.1.1;
      rows_fine = rw many movable.rows_fine;
      k_bound = rw many movable.places;
      border = pre.border;
      lent_chains = pre.lent_chains;
      within = pre.within;
      all_held = λ is. (pre.order_kept (ltb-true 0 (length c.args.kept.now) is)).all_held;
    }

pub push-pushed-requires : goal.push-pushed-requires
push-pushed-requires c = let args = c.args in
    let pre = c.requires in
    let rows = columns args.row_xs.now args.row_ys.now args.row_cs.now in
    let last = c.add_rules-added.new in
    let before = unwatched args.counts args.xs.now args.ys.now args.cs.now args.days.now args.levels.now in
    let added = unwatched c.add_rules-added.result.counts last.xs last.ys last.cs last.days last.levels in
    let adding = subst (λ (i : ℕ). AddsAll (rows_from rows 0 i) before c.add_rules-added.result.clash added) c.work_of-work.ensures.0 c.add_rules-added.ensures.adds_all in
    let held = rows_added args.e rows (adds args.c args.broken) before added c.add_rules-added.result.clash pre.movable.rows_fine pre.movable.places pre.border pre.within adding in record {
      steps_bound = held.border.sound.counts_in.steps_in;
      in_bounds = held.border.room.days_room;
      n_bound = omega (arith, held.grown.same_open, pre.movable.marks_fit, c.work_of-work.ensures.1.0);
    }

pub pop-popped-requires : goal.pop-popped-requires
pop-popped-requires c = let args = c.args in
    let pre = c.requires in
    let rows = columns args.row_xs.now args.row_ys.now args.row_cs.now in
    let last = c.add_rules-added.new in
    let before = unwatched args.counts args.xs.now args.ys.now args.cs.now args.days.now args.levels.now in
    let added = unwatched c.add_rules-added.result.counts last.xs last.ys last.cs last.days last.levels in
    let adding = subst (λ (i : ℕ). AddsAll (rows_from rows 0 i) before c.add_rules-added.result.clash added) c.work_of-work.ensures.0 c.add_rules-added.ensures.adds_all in
    let held = rows_added args.e rows (adds args.c args.broken) before added c.add_rules-added.result.clash pre.movable.rows_fine pre.movable.places pre.border pre.within adding in
    let push = c.push-pushed in
    let same = pushed_same c.work_of-work.result.push added push.result push.ensures.value in
    let kept = push.ensures.keeps_days (columns last.xs last.ys last.cs) idle last.levels held.border.sound (days_stay before added args.kept.now held.grown pre.kept_days) in
    let ordered = order_stays args.e rows (adds args.c args.broken) before added c.add_rules-added.result.clash pre.movable.rows_fine pre.movable.places pre.border pre.within adding args.kept.now pre.order_kept in
    let border = with_marks_border c.work_of-work.result.push held.border (omega (arith, held.grown.same_open, pre.movable.marks_fit, c.work_of-work.ensures.1.0)) in
    let marks-are = ap (λ (x : Counts). x.marks) push.ensures.value in record {
      border = subst Border (sym same) border;
      n_le_marks = omega (arith, marks-are, held.grown.same_open, pre.movable.marks_there, c.work_of-work.ensures.1.1);
      lent_chains = rw push.ensures.value c.add_rules-added.ensures.lent_chains_2;
      kept_days = rw (ap (λ (x : Counts). x.steps) push.ensures.value) kept;
      in_order = λ is. rw (ap (λ (x : Counts). x.rules) push.ensures.value) (ordered (ltb-true 0 (length args.kept.now) is));
    }

pub returns : goal.returns
returns c = let args = c.args in
    let pre = c.requires in
    let rows = columns args.row_xs.now args.row_ys.now args.row_cs.now in
    let last = c.add_rules-added.new in
    let before = unwatched args.counts args.xs.now args.ys.now args.cs.now args.days.now args.levels.now in
    let added = unwatched c.add_rules-added.result.counts last.xs last.ys last.cs last.days last.levels in
    let adding = subst (λ (i : ℕ). AddsAll (rows_from rows 0 i) before c.add_rules-added.result.clash added) c.work_of-work.ensures.0 c.add_rules-added.ensures.adds_all in
    let held = rows_added args.e rows (adds args.c args.broken) before added c.add_rules-added.result.clash pre.movable.rows_fine pre.movable.places pre.border pre.within adding in
    let push = c.push-pushed in
    let same = pushed_same c.work_of-work.result.push added push.result push.ensures.value in
    let kept = push.ensures.keeps_days (columns last.xs last.ys last.cs) idle last.levels held.border.sound (days_stay before added args.kept.now held.grown pre.kept_days) in
    let pop = c.pop-popped in
    let set = unwatched push.result last.xs last.ys last.cs last.days last.levels in
    let after = unwatched pop.result last.xs last.ys last.cs pop.new.days pop.new.levels in
    let dropped = subst (λ (u : Tables). Popped c.work_of-work.result.pop u after) same pop.ensures.popped in record {
      moves = (
        added,
        (
          adding,
          subst (λ (j : ℕ). Popped (pops args.c) (with_marks j added) after) c.work_of-work.ensures.1.0
              (subst (λ (j : ℕ). Popped j (with_marks c.work_of-work.result.push added) after) c.work_of-work.ensures.1.1 dropped),
        ),
      );
      lent_chains_2 = pop.ensures.lent_chains_2;
      kept_days_2 = kept_popped c.work_of-work.result.pop {t = set} {u = after} pop.ensures.popped (rw (ap (λ (x : Counts). x.steps) push.ensures.value) kept);
    }
