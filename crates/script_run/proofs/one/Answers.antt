-- `script_run::one` meets its contract: where no command can be carried out the script ends, else it ends or goes on as the command says.
use Prim.Native.Nat.{ℕ}
use mathlib.Core.Path.{subst}
use mathlib.Core.List.{List}
use lib.Dec.{eqb}
use lib.ListN.{length}
use borrow.Author.Tests.{eqb-true, eqb-false}
use Rattle.meaning.specs.Bounds.{SHORT}
use Rattle.script_meaning.specs.Whole.{rest}
use Rattle.script_command.specs.Carrying.{in_hand, Carries}
use Rattle.script_run.proofs.Stepping.{maintained_out, part_is, halted_steps, carried_short, carried_within, carried_steps}
use Rattle.script_run.proofs.Naming.{carried_named}
use native.Mathlib.Omega.{arith}
use Rattle.script_run.proofs.one.Goals as goal

pub begin-requires : goal.begin-requires
begin-requires c = c.requires.tab_value

pub returns-in-Ok-None : goal.returns-in-Ok-None
returns-in-Ok-None c = let a = c.args in
    let halts = rw c.in-Ok-None.field-0-is at c.in-Ok-None.ensures in record {
      steps = halted_steps a.s.now a.at (in_hand a.counts a.xs.now a.ys.now a.cs.now a.days.now a.levels.now a.notes a.names.now a.lens.now a.out.now) a.to 0 (eqb 0 SHORT) (eqb-true 0 SHORT) (eqb-false 0 SHORT) halts;
      maintained_2 = c.requires.maintained;
    }

pub returns-in-Err : goal.returns-in-Err
returns-in-Err c = let a = c.args in
    let number = c.number-number.result in
    let halts = rw (← c.number-number.ensures) at c.in-Err.ensures in record {
      steps = halted_steps a.s.now a.at (in_hand a.counts a.xs.now a.ys.now a.cs.now a.days.now a.levels.now a.notes a.names.now a.lens.now a.out.now) a.to number (eqb number SHORT) (eqb-true number SHORT) (eqb-false number SHORT) halts;
      maintained_2 = c.requires.maintained;
    }

pub slice_bounds-carry-count : goal.slice_bounds-carry-count
slice_bounds-carry-count c = (rw c.in-Ok-Some.field-0-is at c.in-Ok-Some.ensures).within

pub slice_bounds-carry-start : goal.slice_bounds-carry-start
slice_bounds-carry-start c = (rw c.in-Ok-Some.field-0-is at c.in-Ok-Some.ensures).within

pub carry-r-requires : goal.carry-r-requires
carry-r-requires c = let pre = c.requires in record {
  tab_value = pre.tab_value;
  in_bounds = pre.in_bounds;
  row_xs_in_bounds = pre.row_xs_in_bounds;
  row_xs_in_bounds_2 = pre.row_xs_in_bounds_2;
  maintained = pre.maintained;
  to_in_bounds = (rw c.in-Ok-Some.field-0-is at c.in-Ok-Some.ensures).room;
  names_le_e = omega arith;
}

pub settle-past-requires : goal.settle-past-requires
settle-past-requires c = let a = c.args in
    let carry = c.carry-r in
    let ready = rw c.in-Ok-Some.field-0-is at c.in-Ok-Some.ensures in
    let before = in_hand a.counts a.xs.now a.ys.now a.cs.now a.days.now a.levels.now a.notes a.names.now a.lens.now a.out.now in
    let after = in_hand carry.result.counts carry.new.xs carry.new.ys carry.new.cs carry.new.days carry.new.levels carry.result.notes carry.new.names carry.new.lens carry.new.out in
    let carries = subst (λ (x : List ℕ). Carries x a.to before carry.result after) (part_is a.s.now a.at (length a.out.now) a.to c.in-Ok-Some.from ready) carry.ensures.carries in record {
      to_in_bounds = omega (arith, ready.room, carry.auto.out);
      written_bound = carried_short a.s.now a.at before a.to c.in-Ok-Some.from ready carry.result after carries (record { room = c.requires.maintained.room; sound = c.requires.maintained.sound });
    }

pub overflow_add-result : goal.overflow_add-result
overflow_add-result c = let a = c.args in
    let carry = c.carry-r in
    let ready = rw c.in-Ok-Some.field-0-is at c.in-Ok-Some.ensures in
    let before = in_hand a.counts a.xs.now a.ys.now a.cs.now a.days.now a.levels.now a.notes a.names.now a.lens.now a.out.now in
    let after = in_hand carry.result.counts carry.new.xs carry.new.ys carry.new.cs carry.new.days carry.new.levels carry.result.notes carry.new.names carry.new.lens carry.new.out in
    let carries = subst (λ (x : List ℕ). Carries x a.to before carry.result after) (part_is a.s.now a.at (length a.out.now) a.to c.in-Ok-Some.from ready) carry.ensures.carries in
    record { fits = omega (arith, carried_within a.s.now a.at before a.to c.in-Ok-Some.from ready carry.result after carries, c.well_formed.0.0) }

pub returns : goal.returns
returns c = let a = c.args in
    let carry = c.carry-r in
    let ready = rw c.in-Ok-Some.field-0-is at c.in-Ok-Some.ensures in
    let before = in_hand a.counts a.xs.now a.ys.now a.cs.now a.days.now a.levels.now a.notes a.names.now a.lens.now a.out.now in
    let after = in_hand carry.result.counts carry.new.xs carry.new.ys carry.new.cs carry.new.days carry.new.levels carry.result.notes carry.new.names carry.new.lens carry.new.out in
    let carries = subst (λ (x : List ℕ). Carries x a.to before carry.result after) (part_is a.s.now a.at (length a.out.now) a.to c.in-Ok-Some.from ready) carry.ensures.carries in record {
      steps = carried_steps a.s.now a.at before a.to c.in-Ok-Some.from ready carry.result after carries c.settle-past.new.out c.settle-past.result c.settle-past.ensures c.goes_on.result c.goes_on.ensures;
      maintained_2 = maintained_out a.notes.names carry.result.notes.names after c.settle-past.new.out carry.new.heads carry.new.nexts carry.new.kept carry.new.hashes carry.new.name_heads carry.new.name_nexts (carried_named (rest a.s.now a.at) a.to before carry.result after carries) (omega (arith, carry.ensures.maintained_2.sound.names_in, carry.ensures.maintained_2.sound.all_steps)) carry.ensures.maintained_2;
    }
