use Rattle.std.proofs.Common.{ℕ, ◌≤◌, ◌<◌, rules, length, arith}
use Rattle.std.proofs.lemmas.Option.{slice_get-get_or}
use Rattle.meaning.specs.Tables.{at}
use Rattle.shortest.proofs.Following.{by_past, by_all}
use Rattle.shortest.proofs.Search.next.Goals as goal

pub loop-u-preserved : goal.loop-u-preserved
loop-u-preserved c = let a = c.args in
    let s = a.self in
    let loop = c.loop-u in
    let u = c.in-Some.u in
    let in_place : u < length a.before.now = c.in-Some.ensures.within in
    let high : (k : ℕ) → loop.from ≤ k → k < u → s.lack ≤ at a.before.now k =
    λ k from below. let fails = c.in-Some.ensures.fails k from below (at a.before.now k) (slice_get-get_or a.before.now k 0 (omega arith)) in search rules in (
      omega (arith, c.pass.auto.layer, loop.invariant.0),
      omega (arith, c.requires.before_long),
      c.pass.ensures (by_past s a.limit loop.from u a.before.now loop.layer high loop.invariant.2),
    )

pub returns : goal.returns
returns c = let a = c.args in
    let s = a.self in
    let loop = c.loop-u in
    let high : (k : ℕ) → loop.from ≤ k → k < s.steps → s.lack ≤ at a.before.now k =
    λ k from below. let fails = c.in_default.ensures k from (omega (arith, c.requires.before_long)) (at a.before.now k) (slice_get-get_or a.before.now k 0 (omega (arith, c.requires.before_long))) in search rules in
    by_all s a.limit a.before.now loop.layer (by_past s a.limit loop.from s.steps a.before.now loop.layer high loop.invariant.2)
