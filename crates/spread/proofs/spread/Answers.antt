-- `spread::spread` meets its contract: the steps with a gain are collected, and then all turns made.
use Rattle.std.proofs.Common.{◌+◌, refl}
use Rattle.chains.specs.Chains.{linked}
use Rattle.meaning.specs.Tables.{at}
use Rattle.spread.specs.Ground.{rules}
use Rattle.spread.proofs.Ends.{no_turn_yet}
use Rattle.spread.proofs.spread.Goals as goal

pub returns : goal.returns
returns c = let a = c.args in
    let w = c.collect-waiting.result in
    c.settle_all.ensures (λ v. at a.held.days.now v + at a.gains.now v)
    (no_turn_yet a.n (rules a.held.rules.xs.now a.held.rules.ys.now a.held.rules.cs.now) (linked a.held.nexts.now) (at a.held.days.now) (λ v. at a.held.days.now v + at a.gains.now v)
    (at a.gains.now) (at c.collect-waiting.new.by) (at w.list) w.count (λ v v-in. refl) c.collect-waiting.ensures.collected)
