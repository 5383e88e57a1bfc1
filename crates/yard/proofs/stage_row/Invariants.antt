-- `yard::stage_row` meets its contract. The loop's invariant: the cells passed are the smaller of what they were and the way.
use Prim.Native.Nat.{◌+◌, min}
use mathlib.Core.Path.{◌≡◌}
use Rattle.meaning.specs.Tables.{at}
use Rattle.yard.specs.Tables.{Made}
use Rattle.yard.proofs.stage_row.Given as goal

abbrev pub invariant-loop-y : goal.invariant-loop-y
invariant-loop-y l = Made 0 (λ j v. v ≡ min (at l.initial.row j) (l.base + at l.via j)) l.y l.initial.row l.row
