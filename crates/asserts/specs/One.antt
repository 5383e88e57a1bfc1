-- What adding one rule comes to.
use Rattle.std.specs.Prelude.{◌≡◌, Option, Some, None}
use Rattle.meaning.specs.declared.Counts.{Counts}
use Rattle.meaning.specs.Rules.{Rule, Fits}
use Rattle.meaning.specs.Tables.{Tables}
use Rattle.meaning.specs.Calls.{rules_of, held_in}
use Rattle.script_meaning.specs.Effect.{HeldNow}

-- With counts after it the rule is held now, in the tables u with these counts; with none it does not fit, and the tables are as before.
abbrev pub AddsOne : Rule → Tables → Option Counts → (Counts → Tables) → Type 0
AddsOne r t (Some now) u = HeldNow r t (u now)
AddsOne r t None u = (Fits (rules_of t) (held_in t) r → ⊥) × (u t.counts ≡ t)
