-- `sound::first_in` meets its contract: each early return has a column that fails, or a rule behind the first ones; where none does, their chains are those of the rules held.
use Rattle.chains.proofs.Laws.{lent_off}
use Rattle.sound.proofs.Columns.{one_behind, first_tested}
use native.Mathlib.Omega.{arith}
use Rattle.sound.proofs.first_in.Goals as goal

pub returns-then-not-free_from : goal.returns-then-not-free_from
returns-then-not-free_from c = one_behind c.requires.counts_in.rules_in c.requires.all_held (c.free_from.ensures.not_so c.if-not-free_from.true)

pub returns : goal.returns
returns c = let args = c.args in
    let pre = c.requires in
    first_tested pre.counts_in.rules_in pre.all_held
    (c.free_from.ensures.so c.if-not-free_from.false) (c.none_above.ensures.so c.if-not-none_above.false)
    (c.all_in.ensures.so c.if-not-all_in.false)
    (lent_off args.counts.steps args.counts.rules args.tables.rules.xs.now _ _ _ pre.counts_in.rules_in
    (omega (arith, c.build.auto.heads, pre.counts_in.steps_in, pre.testable.heads_room)) (omega (arith, c.build.auto.nexts, pre.testable.nexts_room)) c.off_from.auto.nexts
    c.off_from.ensures c.build.ensures)
