-- `program::answer` meets its contract: between parts the tables and the record are sound, and however the program ends from the place reached, so it ends from the start. The measure is what is left of the text.
use Prim.Native.Nat.{ℕ, ◌-◌}
use mathlib.Core.Path.{◌≡◌}
use lib.ListN.{length}
use Rattle.script_command.specs.Carrying.{in_hand, Maintained}
use Rattle.program.specs.Handing.{Ends}
use Rattle.program.proofs.answer.Given as goal

abbrev pub invariant-loop-stopped : goal.invariant-loop-stopped
invariant-loop-stopped l = ((length l.row_xs ≡ length l.initial.row_xs)
    × ((length l.row_ys ≡ length l.initial.row_ys)
    × ((length l.row_cs ≡ length l.initial.row_cs)
    × ((length l.xs ≡ length l.initial.xs)
    × ((length l.ys ≡ length l.initial.ys)
    × ((length l.cs ≡ length l.initial.cs)
    × ((length l.days ≡ length l.initial.days)
    × ((length l.levels ≡ length l.initial.levels)
    × ((length l.heads ≡ length l.initial.heads)
    × ((length l.nexts ≡ length l.initial.nexts)
    × ((length l.kept ≡ length l.initial.kept)
    × ((length l.names ≡ length l.initial.names)
    × ((length l.lens ≡ length l.initial.lens)
    × ((length l.hashes ≡ length l.initial.hashes)
    × ((length l.name_heads ≡ length l.initial.name_heads)
    × ((length l.name_nexts ≡ length l.initial.name_nexts)
    × (length l.out ≡ length l.initial.out)))))))))))))))))
    × (Maintained l.noted.names (in_hand l.held l.xs l.ys l.cs l.days l.levels l.noted l.names l.lens l.out) l.heads l.nexts l.kept l.hashes l.name_heads l.name_nexts
    × ((r : ℕ) → Ends l.s l.at (in_hand l.held l.xs l.ys l.cs l.days l.levels l.noted l.names l.lens l.out) r → Ends l.s l.initial.at (in_hand l.initial.held l.initial.xs l.initial.ys l.initial.cs l.initial.days l.initial.levels l.initial.noted l.initial.names l.initial.lens l.initial.out) r))

abbrev pub decreases-loop-stopped : goal.decreases-loop-stopped
decreases-loop-stopped l = length l.s - l.at
