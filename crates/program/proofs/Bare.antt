-- An empty text is played to its end with nothing written, whatever tables are lent.
use Prim.Native.Nat.{ℕ}
use native.Mathlib.Omega.{arith}
use mathlib.Core.Path.{◌≡◌, refl, sym}
use mathlib.Core.Bool.{false, true≢false}
use mathlib.Core.List.{List, [], ◌∷◌}
use lib.ListN.{length}
use Rattle.meaning.specs.Bounds.{DONE}
use Rattle.text.specs.Lexicon.{END, skipped, token_at}
use Rattle.script_meaning.specs.Whole.{blank, Plays}
use Rattle.script_run.specs.Reaching.{Advances}
use Rattle.program.specs.Handing.{ENDED, Handed, Played}

-- An empty text is at its end.
at_end : (s : List ℕ) → length s ≡ 0 → (token_at s 0).kind ≡ END
unfolding skipped
at_end [] e = refl
at_end (a ∷ s) e = absurd (omega (arith, e))

pub bare_played : (s : List ℕ) → length s ≡ 0 → Played s ENDED
bare_played s empty = ([], record { bytes = []; handed = Handed.all 0 (blank []) DONE 0 0 (blank []) ends })
  where
    ends : Advances s 0 (blank []) DONE false 0 0 (blank [])
    ends = record {
      plays = Plays.at_end 0 (blank []) 0 (at_end s empty);
      written_in = omega arith;
      reached = λ e. absurd (true≢false (sym e));
      filled = λ e. absurd (true≢false (sym e));
      onward = λ e. absurd (true≢false (sym e));
      ended = λ e f. omega (arith, f);
    }
