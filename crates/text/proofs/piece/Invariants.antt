-- `text::piece` meets its contract. The loop's invariant: the piece read so far, with what follows, is the whole piece from its first place on, in kind and in extent.
use mathlib.Core.Path.{◌≡◌}
use Prim.Native.Nat.{◌+◌, ◌<◌}
use lib.ListN.{drop}
use Rattle.text.specs.Lexicon.{whole, extent}
use Rattle.text.proofs.piece.Given as goal

abbrev pub invariant-loop-i : goal.invariant-loop-i
invariant-loop-i l = (l.p < 16) × (whole l.p (drop l.i l.s) ≡ whole 0 (drop l.f l.s)) × (l.i + extent (drop l.i l.s) ≡ l.f + extent (drop l.f l.s))
