-- `ringcheck::is_ring` meets its contract: a list that is too long, or does not close the ring, refutes nothing; of one that closes it the first steps decide.
use Prim.Native.Nat.{◌<◌}
use mathlib.Core.Path.{refl, subst, sym}
use mir.Syntax.{w32}
use mir.ValLaws.{to_z-of_z}
use native.Mathlib.Omega.{arith}
use Rattle.meaning.specs.Rules.{Rule, Refutes}
use Rattle.meaning.specs.Tables.{rule_at, at}
use Rattle.meaning.proofs.Theory.{all_implies}
use Rattle.meaning.proofs.Counting.{all_map, ring_length}
use Rattle.lent.specs.Decides.{Decides, decides_no}
use Rattle.lent.specs.Lent.{columns_of, held_by, Biased}
use Rattle.ringcheck.proofs.Starting.{refutes_closes, different_decides}
use Rattle.ringcheck.proofs.is_ring.Goals as goal

pub returns-then-n-list : goal.returns-then-n-list
returns-then-n-list c = let new : Rule = record { first = c.args.x; second = c.args.y; amount = c.args.c } in
    decides_no refl (λ refutes. omega (
      arith,
      c.if-n-list.true,
      ring_length c.args.n (rule_at (columns_of c.args.rules)) (held_by c.args.levels.now) c.args.m new c.args.list.now c.requires.checkable.rules_in c.requires.checkable.rule_in refutes,
    ))

pub different-requires : goal.different-requires
different-requires c = let closed = c.closes.ensures.so c.if-closes.true in
    let pre = c.requires.checkable in
    let rest = c.in-Some.rest.now in
    record {
      few = pre.steps_in;
      placed = all_implies (λ i held. (pre.placed i held).first_place) rest closed.rest_held;
      steps_in = (pre.rule_in.first_in, all_map (held_by c.args.levels.now) (λ a. a < c.args.n) (at c.args.rules.xs.now) (λ i held. (pre.rules_in i held).first_in) rest closed.rest_held);
    }

pub returns-then-closes : goal.returns-then-closes
returns-then-closes c = let rules = rule_at (columns_of c.args.rules) in
    let held = held_by c.args.levels.now in
    let new : Rule = record { first = c.args.x; second = c.args.y; amount = c.args.c } in
    let amount_is : Biased new.amount c.biased.result = rw (to_z-of_z w32 c.args.c c.ranges.c) at c.biased.ensures in
    let refuted = different_decides rules held c.args.m new c.requires.fact c.biased.result amount_is c.in-Some.field-0-0.now c.in-Some.rest.now
    c.if-first-m.false (c.closes.ensures.so c.if-closes.true) c.different.ensures in
    subst (λ list. Decides c.different.result (Refutes rules held c.args.m new list)) (sym c.in-Some.ensures.cases.0) refuted

pub returns-else-closes : goal.returns-else-closes
returns-else-closes c = let rules = rule_at (columns_of c.args.rules) in
    let held = held_by c.args.levels.now in
    let new : Rule = record { first = c.args.x; second = c.args.y; amount = c.args.c } in
    let amount_is : Biased new.amount c.biased.result = rw (to_z-of_z w32 c.args.c c.ranges.c) at c.biased.ensures in
    decides_no c.if-closes.false (λ refutes.
    c.closes.ensures.not_so c.if-closes.false
    (refutes_closes rules held c.args.m new c.requires.fact c.biased.result amount_is c.in-Some.field-0-0.now c.in-Some.rest.now
    (subst (Refutes rules held c.args.m new) c.in-Some.ensures.cases.0 refutes)))
