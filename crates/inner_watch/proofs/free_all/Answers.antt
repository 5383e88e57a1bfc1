-- `inner_watch::free_all` meets its contract: the places up to RULES are filled with 0.
use Rattle.meaning.specs.Bounds.{RULES}
use Rattle.inner_watch.proofs.Clearing.{freed_filled}
use Rattle.inner_watch.proofs.free_all.Goals as goal

pub returns : goal.returns
returns c = freed_filled RULES c.args.levels.now c.fill.new.self c.requires (c.fill.ensures.after (λ y e. e))
