use mathlib.Core.Path.{refl, ◌∙◌}
use borrow.Author.Tests.{not-true, not-false}
use Rattle.script_command.specs.Carrying.{in_hand}
use Rattle.script_run.proofs.Reaching.{underway_first, underway_on, underway_ends}
use native.Mathlib.Omega.{arith}
use Rattle.script_run.proofs.advance.Goals as goal

pub loop-now_held-init : goal.loop-now_held-init
loop-now_held-init c = let a = c.args in
    ((refl, (refl, (refl, (refl, (refl, (refl, (refl, (refl, (refl, (refl, (refl, (refl, (refl, (refl, (refl, (refl, refl)))))))))))))))), (underway_first a.s.now a.start (in_hand a.counts a.xs.now a.ys.now a.cs.now a.days.now a.levels.now a.notes a.names.now a.lens.now a.out.now), c.requires.maintained))

pub one-step-requires : goal.one-step-requires
one-step-requires c = let pre = c.requires in record {
  tab_value = pre.tab_value;
  in_bounds = omega (arith, pre.in_bounds, c.loop-now_held.invariant.0.0);
  row_xs_in_bounds = omega (arith, pre.row_xs_in_bounds, c.loop-now_held.invariant.0.0, c.loop-now_held.invariant.0.1.0);
  row_xs_in_bounds_2 = omega (arith, pre.row_xs_in_bounds_2, c.loop-now_held.invariant.0.0, c.loop-now_held.invariant.0.1.1.0);
  maintained = c.loop-now_held.invariant.1.1;
}

pub returns-then-not-step : goal.returns-then-not-step
returns-then-not-step c = record {
  advances = underway_ends c.loop-now_held.invariant.1.0 c.one-step.ensures.steps (not-true _ c.if-not-step.true);
  maintained_2 = c.one-step.ensures.maintained_2;
}

pub loop-now_held-smaller : goal.loop-now_held-smaller
loop-now_held-smaller c = omega (arith, c.one-step.ensures.steps.onward (not-false _ c.if-not-step.false))

pub loop-now_held-preserved : goal.loop-now_held-preserved
loop-now_held-preserved c = (
  (c.one-step.auto.row_xs ∙ c.loop-now_held.invariant.0.0, (c.one-step.auto.row_ys ∙ c.loop-now_held.invariant.0.1.0, (c.one-step.auto.row_cs ∙ c.loop-now_held.invariant.0.1.1.0, (c.one-step.auto.xs ∙ c.loop-now_held.invariant.0.1.1.1.0, (c.one-step.auto.ys ∙ c.loop-now_held.invariant.0.1.1.1.1.0, (c.one-step.auto.cs ∙ c.loop-now_held.invariant.0.1.1.1.1.1.0, (c.one-step.auto.days ∙ c.loop-now_held.invariant.0.1.1.1.1.1.1.0, (c.one-step.auto.levels ∙ c.loop-now_held.invariant.0.1.1.1.1.1.1.1.0, (c.one-step.auto.heads ∙ c.loop-now_held.invariant.0.1.1.1.1.1.1.1.1.0, (c.one-step.auto.nexts ∙ c.loop-now_held.invariant.0.1.1.1.1.1.1.1.1.1.0, (c.one-step.auto.kept ∙ c.loop-now_held.invariant.0.1.1.1.1.1.1.1.1.1.1.0, (c.one-step.auto.names ∙ c.loop-now_held.invariant.0.1.1.1.1.1.1.1.1.1.1.1.0, (c.one-step.auto.lens ∙ c.loop-now_held.invariant.0.1.1.1.1.1.1.1.1.1.1.1.1.0, (c.one-step.auto.hashes ∙ c.loop-now_held.invariant.0.1.1.1.1.1.1.1.1.1.1.1.1.1.0, (c.one-step.auto.name_heads ∙ c.loop-now_held.invariant.0.1.1.1.1.1.1.1.1.1.1.1.1.1.1.0, (c.one-step.auto.name_nexts ∙ c.loop-now_held.invariant.0.1.1.1.1.1.1.1.1.1.1.1.1.1.1.1.0, c.one-step.auto.out ∙ c.loop-now_held.invariant.0.1.1.1.1.1.1.1.1.1.1.1.1.1.1.1.1)))))))))))))))),
  (underway_on c.loop-now_held.invariant.1.0 c.one-step.ensures.steps (not-false _ c.if-not-step.false) c.one-step.auto.out, c.one-step.ensures.maintained_2),
)
