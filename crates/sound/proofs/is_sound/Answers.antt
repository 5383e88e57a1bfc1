-- `sound::is_sound` meets its contract: where every other part is sound, the days are the answer.
use Rattle.sound.proofs.Answers.{tested_by_days}
use Rattle.sound.proofs.is_sound.Goals as goal

pub returns-then-all_in : goal.returns-then-all_in
returns-then-all_in c =
    tested_by_days c.args.counts c.args.tables _ _ (c.counts_in.ensures.so c.if-not-counts_in.false) (c.rules_in.ensures.decides.so c.if-not-rules_in.false)
    (c.rules_in.ensures.chained c.if-not-rules_in.false) (c.all_in.ensures.so c.if-all_in.true) c.days_in.result c.days_in.ensures
