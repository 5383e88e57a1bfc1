-- `lent::next_free` meets its contract: where the first places are held there are no others, and else the search finds the lowest free place.
use Rattle.std.proofs.Common.{◌≤◌, ◌≡◌, ◌∙◌, arith, rules, tests, take, eqb, unwrap_or, ap}
use Rattle.std.specs.List.{position}
use Rattle.std.proofs.lemmas.Iterator.{YieldsList-from_slice}
use Rattle.std.proofs.lemmas.Iterator.Search.{position_from_yields_List}
use Rattle.meaning.specs.Bounds.{RULES}
use Rattle.meaning.proofs.Places.{taken_at_most}
use Rattle.lent.proofs.Cells.{lowest_behind, lowest_sought}
use Rattle.lent.proofs.next_free.Goals as goal

pub all_held-requires : goal.all_held-requires
all_held-requires c = omega (arith, c.requires.rules_value, taken_at_most RULES c.args.levels.now, c.requires.in_bounds)

pub returns-then-all_held : goal.returns-then-all_held
returns-then-all_held c =
    let few : c.args.rules ≤ RULES = omega (arith, c.requires.rules_value, taken_at_most RULES c.args.levels.now) in
    lowest_behind c.args.rules c.args.levels.now few c.requires.rules_value (c.all_held.ensures.so c.if-all_held.true)

pub returns : goal.returns
returns c = let levels = c.args.levels.now in
    let found : c.position.result ≡ position (λ x. eqb x 0) (take RULES levels) = position_from_yields_List (λ x. eqb x 0) _ _ c.position.result c.position.ensures.ran (YieldsList-from_slice (take RULES levels) c.iter.ensures.rest) (λ x b q k. search (rules, tests)) in
    let given : c.unwrap_or.result ≡ unwrap_or c.position.result RULES = search rules in
    given ∙ ap (λ r. unwrap_or r RULES) found ∙ lowest_sought levels c.requires.in_bounds
