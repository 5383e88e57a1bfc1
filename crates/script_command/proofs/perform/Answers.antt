-- `script_command::perform` meets its contract: its parts in a row do what the command does, and what they leave is maintained.
use Prim.Native.Nat.{ℕ}
use mathlib.Core.Path.{refl, sym, ap, subst}
use Rattle.lent.specs.Lent.{columns}
use Rattle.lent.specs.Idle.{unwatched}
use Rattle.names.specs.Names.{Indexed}
use Rattle.reading.specs.Reading.{Read}
use Rattle.script_meaning.specs.declared.Notes.{Notes}
use Rattle.script_meaning.specs.Effect.{Does}
use Rattle.script_meaning.proofs.Keeping.{Fine, tables_border, shelved_of}
use Rattle.script_meaning.proofs.Orderly.{does_orderly}
use Rattle.script_telling.proofs.Indexing.{indexed_after}
use Rattle.script_moving.proofs.Laws.{moves_border, moves_within}
use Rattle.script_command.specs.Carrying.{in_hand}
use Rattle.script_command.proofs.Composing.{does, does_fine}
use native.Mathlib.Omega.{arith}
use Rattle.script_command.proofs.perform.Goals as goal

pub print-written-requires : goal.print-written-requires
print-written-requires c = let args = c.args in
    let pre = c.requires in
    let before = in_hand args.counts args.xs.now args.ys.now args.cs.now args.days.now args.levels.now args.notes args.names.now args.lens.now args.out.now in
    let m = pre.maintained in
    let fine : Fine before = record { room = m.room; sound = m.sound } in record {
      shelved = shelved_of fine;
      by_index = pre.ready.askable.few;
      by_index_2 = pre.ready.askable.known;
      in_bounds = m.room.tables_room.days_room;
      to_in_bounds = pre.to_in_bounds;
    }

pub move_tables-moved-requires : goal.move_tables-moved-requires
move_tables-moved-requires c = let args = c.args in
    let pre = c.requires in
    let before = in_hand args.counts args.xs.now args.ys.now args.cs.now args.days.now args.levels.now args.notes args.names.now args.lens.now args.out.now in
    let m = pre.maintained in
    let fine : Fine before = record { room = m.room; sound = m.sound } in record {
      movable = pre.ready.movable;
      border = tables_border fine;
      lent_chains = m.chained;
      kept_days = m.days_kept;
      order_kept = m.ordered;
      within = m.within;
    }

pub declare-requires : goal.declare-requires
declare-requires c = let args = c.args in
    let pre = c.requires in
    let before = in_hand args.counts args.xs.now args.ys.now args.cs.now args.days.now args.levels.now args.notes args.names.now args.lens.now args.out.now in
    let m = pre.maintained in
    let fine : Fine before = record { room = m.room; sound = m.sound } in record {
      shelved = shelved_of fine;
      index_room = m.indexed.room;
      by_index = pre.ready.declarable;
    }

pub notes_after-requires : goal.notes_after-requires
notes_after-requires c = let args = c.args in
    let pre = c.requires in
    let before = in_hand args.counts args.xs.now args.ys.now args.cs.now args.days.now args.levels.now args.notes args.names.now args.lens.now args.out.now in
    let m = pre.maintained in
    let fine : Fine before = record { room = m.room; sound = m.sound } in
    let rows = columns args.row_xs.now args.row_ys.now args.row_cs.now in
    let last = c.move_tables-moved.new in
    let moved = unwatched c.move_tables-moved.result.counts last.xs last.ys last.cs last.days last.levels in record {
      names_bound = m.sound.names_in;
      marks_bound = (moves_border args.c args.notes.broken args.e rows before.tables moved c.move_tables-moved.result.clash pre.ready.movable (tables_border fine) m.within c.move_tables-moved.ensures.moves).sound.counts_in.marks_in;
    }

pub returns : goal.returns
returns c = let declare = c.declare in
    let print = c.print-written in
    let args = c.args in
    let pre = c.requires in
    let before = in_hand args.counts args.xs.now args.ys.now args.cs.now args.days.now args.levels.now args.notes args.names.now args.lens.now args.out.now in
    let m = pre.maintained in
    let fine : Fine before = record { room = m.room; sound = m.sound } in
    let rows = columns args.row_xs.now args.row_ys.now args.row_cs.now in
    let last = c.move_tables-moved.new in
    let moved = unwatched c.move_tables-moved.result.counts last.xs last.ys last.cs last.days last.levels in
    let named = declare.new in
    let wrote = print.new.out in
    let after = in_hand c.move_tables-moved.result.counts last.xs last.ys last.cs last.days last.levels c.notes_after.result named.names named.lens wrote in
    let moves = c.move_tables-moved.ensures.moves in
    let noted_is = c.notes_after.ensures in
    let declared = declare.ensures in
    let printed = print.ensures in
    let written = print.result in
    let clash = c.move_tables-moved.result.clash in
    let count = c.notes_after.result in record {
      number_value = (refl, (refl, c.is_exit.ensures));
      does = λ d i heeded met.
          let done : Does (Read.got d i) args.to before written after =
          does rows args.s.now args.to before clash moves.0 moved written count named.names named.lens wrote
          args.hashes.now args.name_heads.now args.name_nexts.now named.hashes named.heads named.nexts fine args.c d i heeded met
          (record { there = pre.ready.movable.rows_there.0; added = moves.1.0; dropped = moves.1.1; wrote = printed.out_after; count = printed.value; declared = declared; noted_is = noted_is }) in
          let then = does_fine args.c rows args.s.now d i args.to written before after fine heeded met done in (
            done,
            record {
              room = then.room;
              sound = then.sound;
              chained = c.move_tables-moved.ensures.lent_chains_2;
              days_kept = c.move_tables-moved.ensures.kept_days_2;
              ordered = λ some. does_orderly (Read.got d i) args.to written before after fine met done (m.ordered (omega (arith, some, c.move_tables-moved.auto.kept)));
              within = moves_within args.c args.notes.broken args.e rows before.tables moved clash pre.ready.movable (tables_border fine) m.within moves;
              indexed = subst (λ (n : ℕ). Indexed n named.names named.lens named.hashes named.heads named.nexts) (sym (ap (λ (x : Notes). x.names) noted_is))
                  (indexed_after args.c args.s.now args.notes clash c.move_tables-moved.result.counts.marks args.names.now args.lens.now args.hashes.now args.name_heads.now args.name_nexts.now named.names named.lens named.hashes named.heads named.nexts declared m.indexed);
            },
          );
    }
