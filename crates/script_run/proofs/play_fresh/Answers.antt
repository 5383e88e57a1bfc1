-- `script_run::play_fresh` meets its contract: tables of zeros are fresh, and from them on the script is played as far as the bytes for the answers go.
use mathlib.Core.Path.{refl, subst}
use Prim.Native.Nat.{ℕ}
use lib.ListN.{length-replicate}
use lib.IntN.{pos}
use Rattle.meaning.specs.Bounds.{RULES}
use Rattle.text.specs.Table.{TABLE}
use Rattle.script_meaning.specs.Record.{Lent}
use Rattle.script_meaning.specs.Whole.{Plays}
use Rattle.script_run.proofs.Fresh.{long, hand_is, hand_fresh}
use native.Mathlib.Omega.{arith}
use Rattle.script_run.proofs.play_fresh.Goals as goal

pub advance-played-requires : goal.advance-played-requires
unfolding TABLE
advance-played-requires c = let rows = length-replicate RULES (pos 0) in record {
  tab_value = refl;
  in_bounds = long RULES;
  row_xs_in_bounds = omega arith;
  row_xs_in_bounds_2 = omega (arith, rows, length-replicate {A = ℕ} RULES 0);
  maintained = hand_fresh c.steps_alone-counts.ensures c.no_notes-notes.ensures c.args.out.now;
}

pub returns : goal.returns
returns c = let advance = c.advance-played in
    subst (λ (l : Lent). Plays c.args.s.now 0 l 0 advance.result.number advance.result.written advance.new.out) (hand_is c.steps_alone-counts.ensures c.no_notes-notes.ensures c.args.out.now) advance.ensures.advances.plays
