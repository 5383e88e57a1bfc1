-- `program::play` meets its contract: what it lends is fresh.
use Prim.Native.Nat.{ℕ}
use native.Mathlib.Omega.{arith}
use mathlib.Core.Path.{refl, subst}
use lib.ListN.{length-replicate}
use lib.IntN.{pos}
use Rattle.meaning.specs.Bounds.{RULES}
use Rattle.text.specs.Table.{TABLE}
use Rattle.script_meaning.specs.Record.{Lent}
use Rattle.script_run.proofs.Fresh.{zeros, long}
use Rattle.program.specs.Handing.{Ends, status_told}
use Rattle.program.proofs.Fresh.{hand_blank, hand_kept}
use Rattle.program.proofs.play.Goals as goal

pub answer-requires : goal.answer-requires
unfolding TABLE
answer-requires c = let no_notes = c.no_notes-notes in
    let steps_alone = c.steps_alone-counts in
    let row = length-replicate {A = ℕ} RULES 0 in
    let amounts = length-replicate RULES (pos 0) in record {
      tab_value = refl;
      in_bounds = long RULES;
      row_xs_in_bounds = omega arith;
      row_xs_in_bounds_2 = omega (arith, row, amounts);
      maintained = hand_kept (zeros 20480) steps_alone.result no_notes.result steps_alone.ensures no_notes.ensures;
      in_bounds_2 = omega (arith, length-replicate {A = ℕ} 20480 0);
    }

pub returns : goal.returns
returns c = let answer = c.answer in
    let no_notes = c.no_notes-notes in
    let steps_alone = c.steps_alone-counts in
    (zeros 20480, subst (λ (l : Lent). Ends c.args.s.now 0 l (status_told answer.result)) (hand_blank (zeros 20480) steps_alone.result no_notes.result steps_alone.ensures no_notes.ensures) answer.ensures)
