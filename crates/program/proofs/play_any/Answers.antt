-- `program::play_any` meets its contract: an empty text is at its end, and any other is played.
use mathlib.Core.Path.{sym, ◌∙◌}
use borrow.Author.Tests.{eqb-true}
use Rattle.program.proofs.Bare.{bare_played}
use Rattle.program.proofs.play_any.Goals as goal

pub returns-then-is_empty : goal.returns-then-is_empty
returns-then-is_empty c = bare_played _ (eqb-true _ 0 (sym c.is_empty.ensures ∙ c.if-is_empty.true))
