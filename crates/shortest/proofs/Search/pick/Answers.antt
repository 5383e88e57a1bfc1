use borrow.Author.Tests.{eqb-false}
use Rattle.std.proofs.Common.{nat_eq, false, ℕ, ◌≤◌, ◌<◌, ◌≡◌, rules, arith, length-take}
use Rattle.meaning.specs.Bounds.{RULES}
use Rattle.meaning.specs.Tables.{at}
use Rattle.shortest.proofs.Passing.{some_there, that_one, front_cell}
use Rattle.shortest.proofs.Sparing.{passed_others, passed_more, passed_lowest, still_to_come}
use Rattle.shortest.proofs.Search.pick.Goals as goal

pub first_from-requires-clause-i_le_length : goal.first_from-requires-clause-i_le_length
first_from-requires-clause-i_le_length c =
    omega (arith, length-take RULES c.args.self.held.rules.xs.now, c.args.self.chained.firsts_room, c.loop-firsts.invariant.0)

pub unwrap-i-requires : goal.unwrap-i-requires
unwrap-i-requires c = let a = c.args in
    let s = a.self in
    let loop = c.loop-firsts in
    let xs = s.held.rules.xs.now in
    let room = s.chained.firsts_room in
    some_there _ _ c.first_from.result c.first_from.ensures (λ fails. still_to_come s a.v a.bound a.layer.now loop.from c.requires loop.invariant.1
    (λ k from k-in own. let other = fails k from (omega (arith, length-take RULES xs, room)) (at xs k) (front_cell RULES xs k room k-in) in let t : nat_eq (at xs k) a.v ≡ false = search rules in eqb-false _ _ t own))

pub fits-requires : goal.fits-requires
fits-requires c = let a = c.args in
    let s = a.self in
    let xs = s.held.rules.xs.now in
    let room = s.chained.firsts_room in
    let i = c.unwrap-i.result in
    let found = that_one _ _ c.first_from.result i c.first_from.ensures c.unwrap-i.ensures in
    let in_place : i < RULES = omega (arith, length-take RULES xs, found.within) in
    let here = found.passes (at xs i) (front_cell RULES xs i room in_place) in
    record { number_in = in_place; own = search rules; room = c.requires.room }

pub returns-then-fits : goal.returns-then-fits
returns-then-fits c = let a = c.args in
    let s = a.self in
    let xs = s.held.rules.xs.now in
    let room = s.chained.firsts_room in
    let i = c.unwrap-i.result in
    let found = that_one _ _ c.first_from.result i c.first_from.ensures c.unwrap-i.ensures in
    let in_place : i < RULES = omega (arith, length-take RULES xs, found.within) in
    let others : (k : ℕ) → c.loop-firsts.from ≤ k → k < i → at xs k ≡ a.v → ⊥ = λ k from k-in own.
    let other = found.fails k from k-in (at xs k) (front_cell RULES xs k room (omega arith)) in let t : nat_eq (at xs k) a.v ≡ false = search rules in eqb-false _ _ t own in
    passed_lowest s a.v a.bound a.layer.now i (c.fits.ensures.so c.if-fits.true) (passed_others s a.v a.bound a.layer.now c.loop-firsts.from i others c.loop-firsts.invariant.1)

pub loop-firsts-preserved : goal.loop-firsts-preserved
loop-firsts-preserved c = let a = c.args in
    let s = a.self in
    let xs = s.held.rules.xs.now in
    let room = s.chained.firsts_room in
    let i = c.unwrap-i.result in
    let found = that_one _ _ c.first_from.result i c.first_from.ensures c.unwrap-i.ensures in
    let in_place : i < RULES = omega (arith, length-take RULES xs, found.within) in
    let others : (k : ℕ) → c.loop-firsts.from ≤ k → k < i → at xs k ≡ a.v → ⊥ = λ k from k-in own.
    let other = found.fails k from k-in (at xs k) (front_cell RULES xs k room (omega arith)) in let t : nat_eq (at xs k) a.v ≡ false = search rules in eqb-false _ _ t own in
    (omega arith, passed_more s a.v a.bound a.layer.now i (c.fits.ensures.not_so c.if-fits.false) (passed_others s a.v a.bound a.layer.now c.loop-firsts.from i others c.loop-firsts.invariant.1))

pub loop-firsts-smaller : goal.loop-firsts-smaller
loop-firsts-smaller c = let xs = c.args.self.held.rules.xs.now in
    let found = that_one _ _ c.first_from.result c.unwrap-i.result c.first_from.ensures c.unwrap-i.ensures in
    omega (arith, length-take RULES xs, found.within, found.onward)

pub overflow_add-from : goal.overflow_add-from
overflow_add-from c = let xs = c.args.self.held.rules.xs.now in
    let found = that_one _ _ c.first_from.result c.unwrap-i.result c.first_from.ensures c.unwrap-i.ensures in
    omega (arith, length-take RULES xs, found.within)
