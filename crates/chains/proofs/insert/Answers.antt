-- `chains::insert` meets its contract: in front of its chain where no rule of it is above, else behind the last rule above.
use Prim.Native.Nat.{◌<◌}
use native.Mathlib.Omega.{arith}
use mathlib.Core.Path.{◌≡◌, refl, ◌∙◌, ap}
use Rattle.meaning.specs.Tables.{at}
use Rattle.chains.proofs.Amending.{head_rule, last_own, now_front, now_behind}
use Rattle.chains.proofs.insert.Goals as goal

pub returns-then-head-m : goal.returns-then-head-m
returns-then-head-m c = let a = c.args in
    let head_is : c.number_at-head.result ≡ at a.heads.now (at a.xs.now a.m) = c.number_at-head.ensures ∙ ap (at a.heads.now) c.number_at.ensures in
    now_front a.n a.m a.xs.now a.heads.now a.nexts.now c.requires.amendable c.requires.fact _ _ (omega (arith, c.if-head-m.true, head_is)) c.push.ensures

pub last_above-j-requires-clause-linked : goal.last_above-j-requires-clause-linked
last_above-j-requires-clause-linked c = let a = c.args in
    let head_is : c.number_at-head.result ≡ at a.heads.now (at a.xs.now a.m) = c.number_at-head.ensures ∙ ap (at a.heads.now) c.number_at.ensures in
    rw head_is (head_rule a.n a.m a.xs.now a.heads.now a.nexts.now c.requires.amendable (omega (arith, c.if-head-m.false, head_is))).0

pub returns : goal.returns
returns c = let a = c.args in
    let head_is : c.number_at-head.result ≡ at a.heads.now (at a.xs.now a.m) = c.number_at-head.ensures ∙ ap (at a.heads.now) c.number_at.ensures in
    let above : a.m < at a.heads.now (at a.xs.now a.m) = omega (arith, c.if-head-m.false, head_is) in
    now_behind a.n a.m a.xs.now a.heads.now a.nexts.now c.requires.amendable c.requires.fact c.last_above-j.result _
    (last_own a.n a.m a.xs.now a.heads.now a.nexts.now c.requires.amendable c.number_at-head.result above c.last_above-j.result head_is c.last_above-j.ensures) refl
