-- `spread::begin` meets its contract: the step has the one gain, and alone waits.
use Rattle.std.proofs.Common.{ℕ, List, slice_set, subst, arith}
use Rattle.meaning.specs.Tables.{at}
use Rattle.waiting.proofs.Places.{put_set}
use Rattle.spread.specs.Clauses.{Collected}
use Rattle.spread.proofs.Collecting.{collected_alone}
use Rattle.spread.proofs.begin.Goals as goal

pub returns-clause-begun : goal.returns-clause-begun
returns-clause-begun g c = let a = c.args in
    let pre = c.requires.askable_alone in
    let gains : List ℕ = slice_set a.gains.now a.y a.gain in
    let by : List ℕ = slice_set a.by.now a.y 0 in
    let asked = put_set a.gains.now a.y a.gain (omega (arith, pre.step_in, pre.gains_room)) in
    let first = rw c.new-waiting.ensures at c.enter.ensures.put in
    record {
      asked = asked;
      collected = subst (λ (k : ℕ). Collected a.n (at gains) (at by) (at c.enter.new.self.list) k) (omega (arith, c.enter.ensures.one_more, c.new-waiting.ensures))
          (collected_alone a.n a.y a.gain (at a.gains.now) (at gains) (at by) (at c.enter.new.self.list) pre.step_in pre.some pre.none_yet asked
          (put_set a.by.now a.y 0 (omega (arith, pre.step_in, pre.by_room))).there first.there);
    }
