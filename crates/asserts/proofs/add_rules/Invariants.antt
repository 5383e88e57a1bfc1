-- `asserts::add_rules`: what adding the rows left comes to, adding all of them comes to; each turn takes the first row that is left.
use mathlib.Core.Path.{◌≡◌}
use mathlib.Core.Bool.{true}
use Rattle.lent.specs.Lent.{columns, held_by, AllHeld}
use Rattle.lent.specs.Idle.{unwatched}
use Rattle.chains.specs.Chains.{LentChains}
use Rattle.asserts.proofs.Going.{Left}
use Rattle.asserts.proofs.add_rules.Given as goal

abbrev pub invariant-loop-i : goal.invariant-loop-i
invariant-loop-i l = Left l.e (columns l.row_xs l.row_ys l.row_cs) l.k (unwatched l.initial.held l.initial.xs l.initial.ys l.initial.cs l.initial.days l.initial.levels) l.i (unwatched l.held l.xs l.ys l.cs l.days l.levels)
    × (LentChains l.held.steps (held_by l.levels) l.xs l.heads l.nexts × (l.packed ≡ true → AllHeld l.held.rules l.levels))
