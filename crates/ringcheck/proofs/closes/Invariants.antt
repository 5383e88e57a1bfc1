-- `ringcheck::closes` meets its contract. The loop's invariant: the sum is at most 4294967296 for each amount in it, and the list closes the ring exactly when
-- what is left of it does.
use Prim.Native.Nat.{◌+◌, ◌*◌, ◌≤◌}
use mathlib.Core.Logic.{◌↔◌}
use lib.ListN.{drop}
use Rattle.meaning.specs.Tables.{rule_at}
use Rattle.lent.specs.Lent.{columns_of, held_by, BIAS}
use Rattle.ringcheck.specs.Closing.{Closes}
use Rattle.ringcheck.proofs.closes.Given as goal

abbrev pub invariant-loop-number : goal.invariant-loop-number
invariant-loop-number l = (l.sum ≤ (l.number-index + 1) * 4294967296)
    × (Closes (rule_at (columns_of l.rules)) (held_by l.levels) l.x l.y l.amount BIAS l.list ↔ Closes (rule_at (columns_of l.rules)) (held_by l.levels) l.x l.reached l.sum ((l.number-index + 1) * BIAS) (drop l.number-index l.list))
