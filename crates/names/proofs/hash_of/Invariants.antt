-- `names::hash_of` meets its contract. The loop's invariant: what is hashed so far, with the bytes left, is the hash.
use Prim.Native.Nat.{◌<◌}
use mathlib.Core.Path.{◌≡◌}
use lib.ListN.{drop}
use Rattle.names.specs.Names.{hash, hashed, BUCKETS}
use Rattle.names.proofs.hash_of.Given as goal

abbrev pub invariant-loop-b : goal.invariant-loop-b
invariant-loop-b l = (l.h < BUCKETS) × (hashed l.h (drop l.b-index l.word) ≡ hash l.word)
