-- `script_calls::command_by` meets its contract: the verdict gives the first refusals; else `script_command::carry` does the rest.
use Prim.Native.Nat.{ℕ}
use mathlib.Core.Path.{◌≡◌, refl}
use Rattle.meaning.specs.Refusals.{number_of}
use Rattle.meaning.proofs.Needs.{not_done}
use lib.IntN.{pos}
use lib.ListN.{length-replicate}
use Rattle.meaning.specs.Bounds.{STEPS, RULES}
use Rattle.lent.specs.Lent.{columns}
use Rattle.script_calls.proofs.Commanding.{idle_fine, carries_watching, commanded, not_entered}
use Rattle.std.specs.Prelude.{Some, None}
use native.Mathlib.Omega.{arith}
use Rattle.script_calls.proofs.command_by.Goals as goal

-- What keeps the days of no mark names none.
unnamed : (k : ℕ) → None ≡ Some k → ⊥
unnamed k e = cc

pub verdict-tested-requires : goal.verdict-tested-requires
verdict-tested-requires c = let long = length-replicate {A = ℕ} STEPS 0 in record {
  tab_value = c.requires;
  in_bounds = omega (arith, long);
  in_bounds_2 = omega (arith, length-replicate {A = ℕ} RULES 0);
  index_room = record { hashes_room = omega (arith, long); heads_room = omega (arith, long); nexts_room = omega (arith, long) };
}

pub returns-in-Err : goal.returns-in-Err
returns-in-Err c = let some = not_done c.in-Err.refusal in
    rw c.number.ensures (not_entered c.args.text.now _ (number_of c.in-Err.refusal) some c.in-Err.ensures.never_conflict (c.in-Err.ensures.refused some c.args.text.now))

pub carry-carried-requires : goal.carry-carried-requires
carry-carried-requires c = let entered = c.in-Ok.ensures in
    let st = entered.stands refl in
    let fine = idle_fine (entered.room refl).start_room st.sound in record {
      tab_value = c.requires;
      in_bounds = omega (arith, length-replicate {A = ℕ} RULES 0);
      row_xs_in_bounds = omega (arith, length-replicate {A = ℕ} RULES 0);
      row_xs_in_bounds_2 = omega (arith, length-replicate RULES (pos 0), length-replicate {A = ℕ} RULES 0);
      maintained = record { room = fine.room; sound = fine.sound; chained = st.chained; days_kept = record { kept_earliest = λ k b named. absurd (unnamed k named) }; ordered = λ some. absurd (omega (arith, some)); indexed = st.indexed; within = record { steps_there = omega arith; rules_within = λ i h. (fine.sound.tables_sound.rules_good i h).steps_in } };
      to_in_bounds = (entered.room refl).out_room;
      names_le_e = omega (arith, st.sound.names_in, st.sound.all_steps);
    }

pub returns : goal.returns
returns c = let a = c.args in
    let carry = c.carry-carried in
    commanded a.text.now _ _ carry.result (c.in-Ok.ensures.room refl) (c.in-Ok.ensures.stands refl).sound (carries_watching (columns a.wxs.now a.wys.now a.wcs.now) carry.ensures.carries)
