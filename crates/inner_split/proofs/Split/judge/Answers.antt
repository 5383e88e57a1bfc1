-- Where both chains of the step are empty there is nothing to judge; else the gains from it tell all its watched rules.
use Rattle.std.proofs.Common.{ℕ, ◌+◌, rules, arith, ap}
use Rattle.chains.specs.Chains.{linked}
use Rattle.meaning.specs.Rules.{Rule}
use Rattle.meaning.specs.Tables.{at}
use Rattle.lent.specs.Decides.{Decides, decides_same}
use Rattle.spread.specs.Ground.{rules as held_rules}
use Rattle.inner_split.specs.Carries.{GAIN}
use Rattle.inner_split.specs.Clauses.{Within, Broken}
use Rattle.inner_split.proofs.Telling.{always_told, never_told}
use Rattle.inner_split.proofs.Testing.{carries_within, carries_broken}
use Rattle.inner_split.proofs.Judging.{judged_empty, judged_same}
use Rattle.inner_split.proofs.Split.judge.Goals as goal

pub returns-then-number_at-eq0-2 : goal.returns-then-number_at-eq0-2
returns-then-number_at-eq0-2 c = let a = c.args in
    let s = a.self in
    record {
      in_all = judged_empty _ s.steps s.count s.watched.xs.now s.firsts.heads.now s.firsts.nexts.now s.watching.by_first.chained a.a a.always.now c.requires.a_lt_steps (omega arith);
      in_none = judged_empty _ s.steps s.count s.watched.ys.now s.seconds.heads.now s.seconds.nexts.now s.watching.by_second.chained a.a a.never.now c.requires.a_lt_steps (omega arith);
    }

pub returns : goal.returns
returns c = let a = c.args in
    let s = a.self in
    let gains = c.gains_from.new.gains in
    let days = s.held.days.now in
    let watched : ℕ → Rule = held_rules s.watched.xs.now s.watched.ys.now s.watched.cs.now in
    let held : ℕ → Rule = held_rules s.held.rules.xs.now s.held.rules.ys.now s.held.rules.cs.now in
    let far = c.day_at.result + GAIN in
    record {
      in_all = judged_same _ _ s.count s.watched.xs.now a.a a.always.now c.judge_chain.new.verdicts
          (λ j says j-in of_a post.
          let told = always_told s.steps held (linked s.held.nexts.now) (at days) a.a (at gains) c.gains_from.ensures (watched j) of_a (s.watching.in_bounds j j-in) in
          let within = carries_within s.watched.xs.now s.watched.ys.now s.watched.cs.now days gains far j (omega (arith, c.day_at.ensures, ap (at days) of_a)) in
          let says-so : Decides says (Within far s.watched.ys.now s.watched.cs.now days gains j) = search rules in
          decides_same (λ w. told.1 (within.1 w)) (λ x. within.0 (told.0 x)) says-so)
          c.judge_chain.ensures;
      in_none = judged_same _ _ s.count s.watched.ys.now a.a a.never.now c.judge_chain-2.new.verdicts
          (λ j says j-in of_a post.
          let told = never_told s.steps held (linked s.held.nexts.now) (at days) a.a (at gains) c.gains_from.ensures (watched j) of_a (s.watching.in_bounds j j-in) in
          let broken = carries_broken s.watched.xs.now s.watched.ys.now s.watched.cs.now days gains far j (omega (arith, c.day_at.ensures, ap (at days) of_a)) in
          let says-so : Decides says (Broken far s.watched.xs.now s.watched.cs.now days gains j) = search rules in
          decides_same (λ w. told.1 (broken.1 w)) (λ x. broken.0 (told.0 x)) says-so)
          c.judge_chain-2.ensures;
    }
