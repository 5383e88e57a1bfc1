-- No command takes a name away: what speaks of declared names' steps alone before it does so after it.
use Prim.Native.Nat.{ℕ, ◌≤◌}
use native.Mathlib.Omega.{arith}
use native.Mathlib.Decide.{ℕ_discrete}
use mathlib.Core.Path.{◌≡◌, ap}
use mathlib.Core.List.{List}
use mathlib.Core.Logic.{inl, inr}
use Rattle.meaning.specs.Bounds.{DONE}
use Rattle.reading.specs.Tree.{Command}
use Rattle.reading.specs.Reading.{Why, Read, reading}
use Rattle.script_meaning.specs.Record.{Lent}
use Rattle.script_meaning.specs.Effect.{Changes, Does}
use Rattle.script_command.specs.declared.Carried.{Carried}
use Rattle.script_command.specs.Carrying.{Carries}

-- How many names are declared.
abbrev named : Lent → ℕ
named l = l.notes.names

changes_named : (r : Read Command) (before after : Lent) → Changes r before after → named before ≤ named after
changes_named (Read.got Command.set_logic e) before after is = omega (arith, ap named is)
changes_named (Read.got Command.check_sat e) before after is = omega (arith, ap named is)
changes_named (Read.got Command.exit e) before after is = omega (arith, ap named is)
changes_named (Read.got (Command.declare w) e) before after is = omega (arith, ap named is)
changes_named (Read.got (Command.assert t) e) before after (inl (some, is)) = omega (arith, ap named is)
changes_named (Read.got (Command.assert t) e) before after (inr (none, (u, (clash, (adds, is))))) = omega (arith, ap named is)
changes_named (Read.got (Command.push n) e) before after is = omega (arith, ap named is)
changes_named (Read.got (Command.pop n) e) before after (t, (popped, is)) = omega (arith, ap named is)
changes_named (Read.got (Command.get_value ws) e) before after is = omega (arith, ap named is)
changes_named (Read.stop Why.other i) before after is = omega (arith, ap named is)
changes_named (Read.stop Why.wrong i) before after impossible = absurd impossible
changes_named (Read.stop Why.size i) before after impossible = absurd impossible

does_named : (r : Read Command) (k w : ℕ) (before after : Lent) → Does r k before w after → named before ≤ named after
does_named r k w before after (mid, (changes, (w-is, is))) = omega (arith, changes_named r before mid changes, ap named is)

pub carried_named : (s : List ℕ) (k : ℕ) (before : Lent) (r : Carried) (after : Lent) → Carries s k before r after → before.notes.names ≤ after.notes.names
carried_named s k before r after carries = tell (ℕ_discrete r.number DONE)
  where
    tell : Dec (r.number ≡ DONE) → before.notes.names ≤ after.notes.names
    tell (yes done) = does_named (reading s) k r.written before after (carries.when_done done)
    tell (no refused) = omega (arith, ap named (carries.when_refused refused).0)
