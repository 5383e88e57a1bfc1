-- A whole script by the calls over C's record is one by the calls over what is seen of it: after a start and after every command that is carried out the flags fit. So it prints what
-- the whole script prints, and ends with its number.
use Prim.Native.Nat.{ℕ, ◌+◌, ◌≤◌}
use mathlib.Core.Path.{◌≡◌}
use mathlib.Core.List.{List}
use lib.ListN.{length, take}
use Rattle.meaning.specs.Bounds.{ROOM, TEXT}
use Rattle.meaning.specs.Promise.{Given}
use Rattle.script_meaning.specs.Whole.{rest, RunsScript}
use Rattle.script_meaning.specs.ByCalls.{CallsAt, Goes, RunsByCalls, GoesBy}
use Rattle.script_meaning.proofs.ByCalls.{caller_script}
use Rattle.text.specs.Lexicon.{token_at}
use Rattle.export_record.specs.Records.{FlagsFit, LentByC, seen}
use Rattle.export_record.specs.ByCalls.{with_out, CallsByC, GoesByC, RunsByC}
use Rattle.export_record.proofs.Mixing.{start_seen, command_seen}

module _ (s : List ℕ) where
  -- A command call, where the flags fit.
  calls_seen : (i : ℕ) (l : LentByC) (a : Given) (m : LentByC) → FlagsFit l.kept → CallsByC s i l a m → CallsAt s i (seen l) a (seen m)
  calls_seen i l a m fits c = record { some = c.some; out = c.out; room = c.room; keeps = command_seen (rest s i) (with_out c.out l) a m fits c.keeps }

  goes_seen : (i : ℕ) (l : LentByC) (g : ℕ) (b : List ℕ) → FlagsFit l.kept → GoesByC s i l g b → Goes s i (seen l) g b
  goes_seen i l g b fits (GoesBy.at_end _ _ over-here) = GoesBy.at_end i (seen l) over-here
  goes_seen i l g b fits (GoesBy.refused _ _ a m c refuses) = GoesBy.refused i (seen l) a (seen m) (calls_seen i l a m fits c) refuses
  goes_seen i l g b fits (GoesBy.exited _ _ a m c done exit) = GoesBy.exited i (seen l) a (seen m) (calls_seen i l a m fits c) done exit
  goes_seen i l g b fits (GoesBy.goes_on _ _ a m c done stays _ d on) =
      GoesBy.goes_on i (seen l) a (seen m) (calls_seen i l a m fits c) done stays g d (goes_seen ((token_at s i).from + a.one) m g d (c.keeps.when_done done).flags_fit on)

  pub runs_seen : (l : LentByC) (g : ℕ) (b : List ℕ) → RunsByC s l g b → RunsByCalls s (seen l) g b
  runs_seen l g b x = record {
    answer = x.answer;
    after = seen x.after;
    started = start_seen l x.answer x.after x.started;
    accepted = x.accepted;
    goes = goes_seen 0 x.after g b (x.started.when_done x.accepted).flags_fit x.goes;
  }

  -- **A caller and the whole script**: the same number, and the bytes that the caller prints are all that the script has written, where there are bytes enough.
  pub caller_by_c_script :
      (l : LentByC) (g : ℕ) (b out : List ℕ) (h w : ℕ) (end : List ℕ) → RunsByC s l g b → RunsScript s out h w end → length s ≤ TEXT → length b + ROOM ≤ length out →
      (g ≡ h) × ((length b ≡ w) × (b ≡ take w end))
  caller_by_c_script l g b out h w end x = caller_script s (seen l) g b out h w end (runs_seen l g b x)
