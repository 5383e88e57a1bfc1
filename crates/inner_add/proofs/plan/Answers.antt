-- `inner_add::plan`: with nothing lacking the days stay; else the gain that is lacking is spread, and x tells whether the rule fits.
use Rattle.chains.specs.Chains.{number, linked}
use mir.Syntax.{w32}
use mir.ValLaws.{to_z-of_z}
use Rattle.inner_add.specs.Planning.{Lack}
use Rattle.inner_add.proofs.Fitting.{fits_at_once, planned}
use native.Mathlib.Omega.{arith}
use borrow.Author.Tests.{eqb-true, eqb-false, leb-true, leb-false, ltb-true, ltb-false}
use Rattle.inner_add.proofs.plan.Goals as goal

pub returns-then-lacks-eq0 : goal.returns-then-lacks-eq0
returns-then-lacks-eq0 c = let l : Lack c.args.days.now c.args.x c.args.y c.args.c c.lack-lacks.result = rw (to_z-of_z w32 c.args.c c.ranges.c) at c.lack-lacks.ensures in
    fits_at_once c.args.n (linked c.args.nexts.now) number c.args.m c.args.rules.xs.now c.args.rules.ys.now c.args.rules.cs.now c.args.days.now
    c.args.heads.now c.args.nexts.now c.args.gains.now c.args.by.now c.args.x c.args.y c.args.c
    c.requires (l.none (omega (arith, c.if-lacks-eq0.true))) c.args.by.now

pub returns : goal.returns
returns c = let lack = c.lack-lacks in
    let l : Lack c.args.days.now c.args.x c.args.y c.args.c lack.result = rw (to_z-of_z w32 c.args.c c.ranges.c) at lack.ensures in
    planned c.args.n (linked c.args.nexts.now) number c.args.m c.args.rules.xs.now c.args.rules.ys.now c.args.rules.cs.now c.args.days.now
    c.args.heads.now c.args.nexts.now c.args.gains.now c.args.by.now c.args.x c.args.y c.args.c
    c.requires lack.result (l.some (omega (arith, c.if-lacks-eq0.false))) _ _ _ (omega (arith, c.spread_one.auto.by, c.requires.no_gains.by_room)) c.spread_one.ensures
    _ (λ e. omega (arith, eqb-true, leb-true, ltb-true)) (λ e. omega (arith, eqb-false, leb-false, ltb-false))
