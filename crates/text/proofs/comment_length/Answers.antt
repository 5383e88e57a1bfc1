-- `text::comment_length` meets its contract: the first line end, or the length.
use mathlib.Core.Path.{ap, ◌∙◌}
use lib.ListN.{length}
use Rattle.std.proofs.Common.{rules, tests}
use Rattle.std.proofs.lemmas.Iterator.{YieldsList-from_slice}
use Rattle.std.proofs.lemmas.Iterator.Search.{position_from_yields_List}
use Rattle.std.specs.Option.{unwrap_or}
use Rattle.text.specs.Lexicon.{line_end}
use Rattle.text.proofs.Comments.{run_found}
use Rattle.text.proofs.comment_length.Goals as goal

pub returns : goal.returns
returns c =
    let rest = c.args.rest.now in
    let found = position_from_yields_List line_end _ _ c.position.result c.position.ensures.ran (YieldsList-from_slice _ c.iter.ensures.rest) (λ b t q k. search (rules, tests)) in
    c.unwrap_or.ensures ∙ ap (λ o. unwrap_or o (length rest)) found ∙ run_found rest
