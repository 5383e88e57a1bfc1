-- `yard::blank` meets its contract. The loop's invariant: each row passed has 0 in its own column.
use mathlib.Core.Path.{◌≡◌}
use mathlib.Core.List.{[]}
use lib.ListN.{get_or, set}
use Rattle.yard.specs.Tables.{Made}
use Rattle.yard.proofs.blank.Given as goal

abbrev pub invariant-loop-v : goal.invariant-loop-v
invariant-loop-v l = Made [] (λ i r. r ≡ set (get_or l.initial.row-items i []) i 0) l.v l.initial.row-items l.row-items
