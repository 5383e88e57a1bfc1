-- `lent::last_day` meets its contract: the larger of each day and of those before it is at last the largest of all.
use Rattle.std.proofs.Common.{rules, ◌≡◌, ◌∙◌, max, take}
use Rattle.std.specs.List.{fold}
use Rattle.lent.proofs.Cells.{largest_fold}
use Rattle.lent.proofs.last_day.Goals as goal

pub returns : goal.returns
returns c = let is : c.fold.result ≡ fold (λ l day. max l day) 0 (take c.args.n c.args.days.now) = search rules in is ∙ largest_fold c.args.n c.args.days.now c.requires
