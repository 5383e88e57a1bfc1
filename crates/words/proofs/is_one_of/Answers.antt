-- `words::is_one_of` meets its contract: the search goes through the table as the definition does.
use mathlib.Core.Path.{◌∙◌}
use lib.Dec.{eqb}
use Rattle.std.proofs.Common.{rules, tests}
use Rattle.std.specs.Cmp.Lexicographic.{pointwise}
use Rattle.std.proofs.lemmas.Iterator.{YieldsList-from_slice}
use Rattle.std.proofs.lemmas.Iterator.Search.{any_from_yields_List}
use Rattle.words.proofs.Among.{found_among}
use Rattle.words.proofs.is_one_of.Goals as goal

pub returns : goal.returns
returns c =
    any_from_yields_List (λ w. pointwise eqb c.args.word.now w.now) _ _ c.any.result c.any.ensures.ran (YieldsList-from_slice _ c.iter.ensures.rest) (λ w t q k. search (rules, tests))
    ∙ found_among c.args.word.now c.args.words.now
