-- An assertion says what its rules say: days keep the rules that are added exactly when the term that stands in the text holds under them, in the standard's meaning.
use Prim.Native.Nat.{ℕ}
use mathlib.Core.Path.{◌≡◌}
use mathlib.Core.Bool.{false}
use mathlib.Core.List.{List}
use mathlib.Core.Logic.{◌↔◌}
use lib.IntN.{ℤ}
use Rattle.reading.specs.Tree.{Term, rules_of_term, Command}
use Rattle.reading.specs.Reading.{Read, reading}
use Rattle.script_meaning.specs.Terms.{Holds, AllKept}
use Rattle.reading.proofs.Begun.{asserted_supported}
use Rattle.script_meaning.proofs.Truth.{term_holds}

-- The rules of an assertion are kept by d exactly when its term holds under d.
pub asserted_holds :
    (text : List ℕ) (t : Term) (e : ℕ) → reading text ≡ Read.got (Command.assert t) e → (d : List ℕ → ℤ) → AllKept d (rules_of_term false t) ↔ Holds t d
asserted_holds text t e is d = term_holds t d (asserted_supported text t e is)
