-- `text::symbol_end` meets its contract. The loop's invariant: the symbol read so far, with what follows, is what was a symbol up to place `from` with what follows there, in kind and in extent.
use mathlib.Core.Path.{◌≡◌}
use Prim.Native.Nat.{◌+◌}
use lib.ListN.{drop}
use Rattle.text.specs.Lexicon.{whole, extent}
use Rattle.text.proofs.symbol_end.Given as goal

abbrev pub invariant-loop-i : goal.invariant-loop-i
invariant-loop-i l = (whole 10 (drop l.i l.s) ≡ whole 10 (drop l.from l.s)) × (l.i + extent (drop l.i l.s) ≡ l.from + extent (drop l.from l.s))
