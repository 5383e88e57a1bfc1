-- `names::index` meets its contract. The loop's invariant: the names passed have their hashes.
use Prim.Native.Nat.{◌≤◌}
use mathlib.Core.Path.{◌≡◌}
use lib.ListN.{length}
use Rattle.names.proofs.Indexing.{Hashes}
use Rattle.names.proofs.index.Given as goal

abbrev pub invariant-loop-k : goal.invariant-loop-k
invariant-loop-k l = (length l.hashes ≡ length l.initial.hashes) × (l.k ≤ l.n) × Hashes l.k l.letters l.lens l.hashes
