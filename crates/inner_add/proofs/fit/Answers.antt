-- `inner_add::fit`: a rule that the days keep is held at once; else `fit_with` tells, over lists of zeros with a place for each step.
use Rattle.chains.specs.Chains.{number, linked}
use mir.Syntax.{w32}
use mir.ValLaws.{to_z-of_z}
use Rattle.inner_add.specs.Planning.{Lack}
use Rattle.inner_add.proofs.Answers.{taken_at_once, no_gains}
use native.Mathlib.Omega.{arith}
use Rattle.inner_add.proofs.fit.Goals as goal

pub returns-then-lack-eq0 : goal.returns-then-lack-eq0
returns-then-lack-eq0 c = let lack = c.lack in
    let args = c.args in
    let l : Lack args.days.now args.x args.y args.c lack.result = rw (to_z-of_z w32 args.c c.ranges.c) at lack.ensures in
    taken_at_once args.n (linked args.nexts.now) number args.m args.xs.now args.ys.now args.cs.now args.days.now args.heads.now args.nexts.now args.x args.y args.c c.requires
    (l.none (omega (arith, c.if-lack-eq0.true))) args.last _ (rw (to_z-of_z w32 args.c c.ranges.c) at c.write_rule.ensures)

pub fit_with-requires : goal.fit_with-requires
fit_with-requires c = record {
  holdable = rw (to_z-of_z w32 c.args.c c.ranges.c) c.requires;
  no_gains = no_gains c.args.n _ c.if-n-le-FEW.true;
}

pub fit_with-requires-2 : goal.fit_with-requires-2
fit_with-requires-2 c = record {
  holdable = rw (to_z-of_z w32 c.args.c c.ranges.c) c.requires;
  no_gains = no_gains c.args.n _ c.requires.base.ground.steps_in;
}
