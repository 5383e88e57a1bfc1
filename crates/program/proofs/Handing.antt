-- How the program ends from a part on: the part is cut, it is the last, or it pauses and is followed by others.
use Prim.Native.Nat.{ℕ, ◌<◌}
use mathlib.Core.Path.{◌≡◌, refl, sym, subst}
use mathlib.Core.Bool.{Bool, true, false, false≢true}
use mathlib.Core.List.{List, ◌++◌}
use lib.ListN.{take}
use Rattle.script_meaning.specs.Record.{Lent}
use Rattle.script_run.specs.Reaching.{Advances}
use Rattle.std.specs.Prelude.{Result, Ok, Err, IsErr}
use Rattle.streams.specs.declared.Stopped.{Stopped}
use Rattle.program.specs.declared.Ending.{Ending}
use Rattle.program.specs.Handing.{FAILED, status, status_told, Handed, Ends}

module _ {s : List ℕ} {i : ℕ} {l : Lent} {g : ℕ} {paused : Bool} {j w : ℕ} {l' : Lent} (part : Advances s i l g paused j w l') where
  pub cut_of : (k : ℕ) → k < w → Ends s i l FAILED
  cut_of k less = record { bytes = take k l'.out; handed = Handed.cut i l g j w l' k paused part less }

  pub last_of : paused ≡ false → Ends s i l (status g)
  last_of ended = record { bytes = take w l'.out; handed = Handed.all i l g j w l' (subst (λ (b : Bool). Advances s i l g b j w l') ended part) }

  pub more_of : paused ≡ true → (r : ℕ) → Ends s j l' r → Ends s i l r
  more_of on r e = record {
    bytes = take w l'.out ++ e.bytes;
    handed = Handed.more i l g j w l' r e.bytes (subst (λ (b : Bool). Advances s i l g b j w l') on part) e.handed;
  }

pub told : {s : List ℕ} {i : ℕ} {l : Lent} {r q : ℕ} → Ends s i l r → q ≡ r → Ends s i l q
told {s} {i} {l} {r} {q} e is = subst (λ (x : ℕ). Ends s i l x) (sym is) e

-- What a stream that failed is told as.
pub fails : (r : Result Ending Stopped) → IsErr r → status_told r ≡ FAILED
fails (Ok ending) err = absurd (false≢true err)
fails (Err stopped) err = refl
