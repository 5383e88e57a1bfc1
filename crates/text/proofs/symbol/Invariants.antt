-- `text::symbol` meets its contract. The loop passes over white space as `token` does, so that the token found from place f on is the one asked for, and `token` may tell it.
use mathlib.Core.Path.{◌≡◌}
use Rattle.text.specs.Lexicon.{start}
use Rattle.text.proofs.symbol.Given as goal

abbrev pub invariant-loop-f : goal.invariant-loop-f
invariant-loop-f l = start l.s l.f ≡ start l.s l.at
