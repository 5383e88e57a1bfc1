-- `levels::pop` meets its contract: no mark dropped leaves all as it is; else the places above the marks left are freed, and the rest has the days of the oldest mark dropped.
use Prim.Native.Nat.{◌-◌, ◌<◌}
use borrow.Author.Tests.{ltb-false}
use Rattle.meaning.specs.Bounds.{RULES}
use Rattle.meaning.proofs.Places.{taken_at_most}
use Rattle.lent.specs.Idle.{unwatched}
use Rattle.chains.proofs.Laws.{lent_own}
use Rattle.inner_back.proofs.Dropping.{freeable, plannable_left, earliest_left, planned_left}
use Rattle.levels.proofs.Laws.{popped_none}
use Rattle.levels.proofs.Popping.{kept_left, popped_by}
use native.Mathlib.Omega.{arith}
use Rattle.levels.proofs.pop.Goals as goal

pub returns-then-n-eq0 : goal.returns-then-n-eq0
returns-then-n-eq0 c = record {
  popped = popped_none _ c.if-n-eq0.true c.requires.border.sound;
  lent_chains_2 = c.requires.lent_chains;
}

pub free-left-requires : goal.free-left-requires
free-left-requires c = record {
  freeable = freeable c.requires.border _ (omega arith);
  lent_chains = c.requires.lent_chains;
  in_order = c.requires.in_order;
}

pub days_at-last-requires : goal.days_at-last-requires
days_at-last-requires c = let free = c.free-left in
    let t = unwatched c.args.counts c.args.xs.now c.args.ys.now c.args.cs.now c.args.days.now c.args.levels.now in
    let k-in : c.args.counts.marks - c.args.n < c.args.counts.marks = omega (arith, c.if-n-eq0.false, c.requires.n_le_marks) in
    let chains = free.ensures.lent_chains_2 in record {
      plannable = plannable_left c.requires.border _ free.ensures.levels_after chains;
      earliest = λ all. earliest_left c.requires.border _ free.ensures.levels_after chains (omega (arith, ltb-false free.result c.args.counts.rules all, free.ensures.value));
      lent_chains = lent_own _ _ _ _ _ chains;
      last_value = c.requires.border.sound.last_largest;
      k_bound = omega (arith, k-in, c.requires.border.sound.counts_in.marks_in);
      kept_for = kept_left t _ c.args.kept.now free.ensures.levels_after chains (c.requires.kept_days.kept_earliest _ k-in);
    }

pub overflow_cast-left : goal.overflow_cast-left
overflow_cast-left c = let free = c.free-left in
    omega (arith, free.ensures.value, taken_at_most RULES free.new.levels)

pub returns : goal.returns
returns c = let days-at = c.days_at-last in
    let free = c.free-left in
    let t = unwatched c.args.counts c.args.xs.now c.args.ys.now c.args.cs.now c.args.days.now c.args.levels.now in
    let chains = free.ensures.lent_chains_2 in
    rw (c.last_now.ensures, c.marks_now.ensures, c.rules_now.ensures)
    (record {
      popped = popped_by c.args.n t free.ensures.levels_after free.ensures.value days-at.ensures.value (planned_left c.requires.border _ free.ensures.levels_after chains days-at.ensures.planned);
      lent_chains_2 = chains;
    })
