use Rattle.inner_split.proofs.Judging.{below_judged}
use native.Mathlib.Omega.{arith}
use Rattle.inner_split.proofs.Split.judge_all.Goals as goal

pub loop-a-preserved : goal.loop-a-preserved
loop-a-preserved c = let judge = c.judge in
    let loop = c.loop-a in
    let s = c.args.self in (
      omega (arith, judge.auto.gains, loop.invariant.0),
      omega (arith, judge.auto.by, loop.invariant.1),
      omega (arith, judge.auto.always, loop.invariant.2),
      omega (arith, judge.auto.never, loop.invariant.3),
      below_judged _ s.count s.watched.xs.now loop.a loop.always judge.new.always loop.invariant.4 judge.ensures.in_all,
      below_judged _ s.count s.watched.ys.now loop.a loop.never judge.new.never loop.invariant.5 judge.ensures.in_none,
    )

pub returns : goal.returns
returns c = let in_bounds = c.args.self.watching.in_bounds in
    record {
      in_all = λ j j-in. c.loop-a.invariant.4 j j-in (omega (arith, c.loop-a-test.false, (in_bounds j j-in).steps_in.first_in));
      in_none = λ j j-in. c.loop-a.invariant.5 j j-in (omega (arith, c.loop-a-test.false, (in_bounds j j-in).steps_in.second_in));
    }
