-- Verdicts have been passed on the rules of a from the link on. The measure is the link.
use Rattle.inner_split.proofs.Judging.{Along}
use Rattle.inner_split.proofs.judge_chain.Given as goal

abbrev pub invariant-loop-link : goal.invariant-loop-link
invariant-loop-link g l = Along (λ j passes. goal.F-post g l.test j passes) l.w l.steps l.a l.link l.initial.verdicts l.verdicts

abbrev pub decreases-loop-link : goal.decreases-loop-link
decreases-loop-link g l = l.link
