-- `shortest::reason` meets its contract: some list refutes the rule, so t is what the days lack and a way stays below it; the least of the shortest, behind the rule's
-- number, is the reason.
use Rattle.std.proofs.Common.{ℕ, ◌≡◌, ◌≤◌, ◌+◌, ◌-◌, ◌∙◌, arith, length-take}
use Rattle.std.proofs.lemmas.List.{get_or-take}
use mir.Syntax.{w32}
use mir.ValLaws.{to_z-of_z}
use lib.ListN.{length-set, length-replicate, get_or-replicate, replicate}
use Rattle.meaning.specs.Bounds.{STEPS}
use Rattle.lent.specs.Lent.{BIAS}
use Rattle.chains.specs.Chains.{linked}
use Rattle.shortest.specs.Clauses.{FAR}
use Rattle.shortest.proofs.Writing.{short, short_is, some_below, few_rules, written_all, refuted_still, turned, reason_before}
use Rattle.shortest.proofs.reason.Goals as goal

pub overflow_sub-t : goal.overflow_sub-t
overflow_sub-t c = let a = c.args in
    let lack = c.day_at.result + BIAS - (c.day_at-2.result + c.biased.result) in
    let lacks : (c.day_at-2.result + c.biased.result ≤ c.day_at.result + BIAS) × (lack ≡ short a.n (linked a.nexts.now) a.m a.rules.xs.now a.rules.ys.now a.rules.cs.now a.days.now a.heads.now a.nexts.now a.x a.y a.c a.list.now c.requires.refuted) =
    short_is a.n (linked a.nexts.now) a.m a.rules.xs.now a.rules.ys.now a.rules.cs.now a.days.now a.heads.now a.nexts.now a.x a.y a.c a.list.now c.requires.refuted c.day_at.result c.day_at-2.result c.biased.result
    c.day_at.ensures c.day_at-2.ensures (rw (to_z-of_z w32 a.c c.ranges.c) at c.biased.ensures) in
    lacks.0

pub deepen-requires-clause-far : goal.deepen-requires-clause-far
deepen-requires-clause-far c v v-in =
    get_or-take c.args.n (replicate {A = ℕ} STEPS FAR) v 0 v-in ∙ get_or-replicate STEPS v FAR 0 (omega (arith, v-in, c.requires.refuted.kept.steps_in))

pub invariant_of-search : goal.invariant_of-search
invariant_of-search c = let a = c.args in record {
  chained = turned a.n a.m _ a.heads.now a.nexts.now a.x a.y a.c a.list.now c.requires.refuted c.turn.auto.heads c.turn.auto.nexts c.turn.ensures c.deepen.new.depths _
      (omega (arith, c.deepen.auto.depths ∙ length-take a.n (replicate {A = ℕ} STEPS FAR), length-replicate {A = ℕ} STEPS FAR, c.requires.refuted.kept.steps_in)) c.deepen.ensures.deep;
  ends = record { start_in = c.requires.refuted.second_in; goal_in = c.requires.refuted.first_in; begins = c.deepen.ensures.begins };
}

pub fewest-h-requires-clause-some : goal.fewest-h-requires-clause-some
fewest-h-requires-clause-some c = let a = c.args in
    let lack = c.day_at.result + BIAS - (c.day_at-2.result + c.biased.result) in
    let lacks : (c.day_at-2.result + c.biased.result ≤ c.day_at.result + BIAS) × (lack ≡ short a.n (linked a.nexts.now) a.m a.rules.xs.now a.rules.ys.now a.rules.cs.now a.days.now a.heads.now a.nexts.now a.x a.y a.c a.list.now c.requires.refuted) =
    short_is a.n (linked a.nexts.now) a.m a.rules.xs.now a.rules.ys.now a.rules.cs.now a.days.now a.heads.now a.nexts.now a.x a.y a.c a.list.now c.requires.refuted c.day_at.result c.day_at-2.result c.biased.result
    c.day_at.ensures c.day_at-2.ensures (rw (to_z-of_z w32 a.c c.ranges.c) at c.biased.ensures) in
    let still = refuted_still a.n a.m a.rules.xs.now a.rules.ys.now a.rules.cs.now a.days.now a.heads.now a.nexts.now a.x a.y a.c a.list.now c.requires.refuted c.turn.new.heads c.turn.new.nexts c.turn.auto.heads c.turn.auto.nexts c.turn.ensures in
    some_below a.n (linked c.turn.new.nexts) a.m a.rules.xs.now a.rules.ys.now a.rules.cs.now a.days.now c.turn.new.heads c.turn.new.nexts a.x a.y a.c a.list.now still lack lacks.1

pub trace-requires-clause-list_room : goal.trace-requires-clause-list_room
trace-requires-clause-list_room c = let a = c.args in
    let lack = c.day_at.result + BIAS - (c.day_at-2.result + c.biased.result) in
    let lacks : (c.day_at-2.result + c.biased.result ≤ c.day_at.result + BIAS) × (lack ≡ short a.n (linked a.nexts.now) a.m a.rules.xs.now a.rules.ys.now a.rules.cs.now a.days.now a.heads.now a.nexts.now a.x a.y a.c a.list.now c.requires.refuted) =
    short_is a.n (linked a.nexts.now) a.m a.rules.xs.now a.rules.ys.now a.rules.cs.now a.days.now a.heads.now a.nexts.now a.x a.y a.c a.list.now c.requires.refuted c.day_at.result c.day_at-2.result c.biased.result
    c.day_at.ensures c.day_at-2.ensures (rw (to_z-of_z w32 a.c c.ranges.c) at c.biased.ensures) in
    let still = refuted_still a.n a.m a.rules.xs.now a.rules.ys.now a.rules.cs.now a.days.now a.heads.now a.nexts.now a.x a.y a.c a.list.now c.requires.refuted c.turn.new.heads c.turn.new.nexts c.turn.auto.heads c.turn.auto.nexts c.turn.ensures in
    omega (arith, few_rules a.n (linked c.turn.new.nexts) a.m a.rules.xs.now a.rules.ys.now a.rules.cs.now a.days.now c.turn.new.heads c.turn.new.nexts a.x a.y a.c a.list.now still lack c.fewest-h.result lacks.1 c.fewest-h.ensures, c.requires.refuted.list_room, length-set a.list.now 0 a.m)

pub overflow_add-result : goal.overflow_add-result
overflow_add-result c = let a = c.args in
    let lack = c.day_at.result + BIAS - (c.day_at-2.result + c.biased.result) in
    let lacks : (c.day_at-2.result + c.biased.result ≤ c.day_at.result + BIAS) × (lack ≡ short a.n (linked a.nexts.now) a.m a.rules.xs.now a.rules.ys.now a.rules.cs.now a.days.now a.heads.now a.nexts.now a.x a.y a.c a.list.now c.requires.refuted) =
    short_is a.n (linked a.nexts.now) a.m a.rules.xs.now a.rules.ys.now a.rules.cs.now a.days.now a.heads.now a.nexts.now a.x a.y a.c a.list.now c.requires.refuted c.day_at.result c.day_at-2.result c.biased.result
    c.day_at.ensures c.day_at-2.ensures (rw (to_z-of_z w32 a.c c.ranges.c) at c.biased.ensures) in
    let still = refuted_still a.n a.m a.rules.xs.now a.rules.ys.now a.rules.cs.now a.days.now a.heads.now a.nexts.now a.x a.y a.c a.list.now c.requires.refuted c.turn.new.heads c.turn.new.nexts c.turn.auto.heads c.turn.auto.nexts c.turn.ensures in
    omega (arith, few_rules a.n (linked c.turn.new.nexts) a.m a.rules.xs.now a.rules.ys.now a.rules.cs.now a.days.now c.turn.new.heads c.turn.new.nexts a.x a.y a.c a.list.now still lack c.fewest-h.result lacks.1 c.fewest-h.ensures, c.requires.refuted.kept.steps_in)

pub returns : goal.returns
returns c = let a = c.args in
    let lack = c.day_at.result + BIAS - (c.day_at-2.result + c.biased.result) in
    let lacks : (c.day_at-2.result + c.biased.result ≤ c.day_at.result + BIAS) × (lack ≡ short a.n (linked a.nexts.now) a.m a.rules.xs.now a.rules.ys.now a.rules.cs.now a.days.now a.heads.now a.nexts.now a.x a.y a.c a.list.now c.requires.refuted) =
    short_is a.n (linked a.nexts.now) a.m a.rules.xs.now a.rules.ys.now a.rules.cs.now a.days.now a.heads.now a.nexts.now a.x a.y a.c a.list.now c.requires.refuted c.day_at.result c.day_at-2.result c.biased.result
    c.day_at.ensures c.day_at-2.ensures (rw (to_z-of_z w32 a.c c.ranges.c) at c.biased.ensures) in
    let still = refuted_still a.n a.m a.rules.xs.now a.rules.ys.now a.rules.cs.now a.days.now a.heads.now a.nexts.now a.x a.y a.c a.list.now c.requires.refuted c.turn.new.heads c.turn.new.nexts c.turn.auto.heads c.turn.auto.nexts c.turn.ensures in
    reason_before a.n a.m a.rules.xs.now a.rules.ys.now a.rules.cs.now a.days.now a.heads.now a.nexts.now a.x a.y a.c a.list.now c.requires.refuted c.turn.new.heads c.turn.new.nexts c.turn.auto.heads c.turn.auto.nexts c.turn.ensures _ a.list.now c.trace.new.list
    (written_all a.n (linked c.turn.new.nexts) a.m a.rules.xs.now a.rules.ys.now a.rules.cs.now a.days.now c.turn.new.heads c.turn.new.nexts a.x a.y a.c a.list.now still lack c.fewest-h.result c.trace.new.list lacks.1 c.fewest-h.ensures (c.trace.auto.list ∙ length-set a.list.now 0 a.m) c.trace.ensures)
