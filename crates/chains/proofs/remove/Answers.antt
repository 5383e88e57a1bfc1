-- `chains::remove` meets its contract: from the front of its chain, else from behind the last rule above, whose next it is.
use Prim.Native.Nat.{◌<◌}
use native.Mathlib.Omega.{arith}
use mathlib.Core.Path.{◌≡◌, sym, ◌∙◌, ap}
use Rattle.meaning.specs.Tables.{at}
use Rattle.chains.proofs.Amending.{head_rule, head_above, last_own, now_headless, now_without}
use Rattle.chains.proofs.remove.Goals as goal

pub returns-then-head-i : goal.returns-then-head-i
returns-then-head-i c = let a = c.args in
    let head_is : c.number_at-head.result ≡ at a.heads.now (at a.xs.now a.i) = c.number_at-head.ensures ∙ ap (at a.heads.now) c.number_at.ensures in
    now_headless a.n a.i a.xs.now a.heads.now a.nexts.now c.requires.amendable c.requires.linked _ _ (sym head_is ∙ c.if-head-i.true) c.drop_last.ensures

pub overflow_sub-head : goal.overflow_sub-head
overflow_sub-head c = let a = c.args in
    let head_is : c.number_at-head.result ≡ at a.heads.now (at a.xs.now a.i) = c.number_at-head.ensures ∙ ap (at a.heads.now) c.number_at.ensures in
    omega (arith, head_above a.n a.i a.xs.now a.heads.now a.nexts.now c.requires.amendable c.requires.linked, head_is)

pub last_above-j-requires-clause-linked : goal.last_above-j-requires-clause-linked
last_above-j-requires-clause-linked c = let a = c.args in
    let head_is : c.number_at-head.result ≡ at a.heads.now (at a.xs.now a.i) = c.number_at-head.ensures ∙ ap (at a.heads.now) c.number_at.ensures in
    rw head_is (head_rule a.n a.i a.xs.now a.heads.now a.nexts.now c.requires.amendable (head_above a.n a.i a.xs.now a.heads.now a.nexts.now c.requires.amendable c.requires.linked)).0

pub last_above-j-requires-clause-i_lt_j : goal.last_above-j-requires-clause-i_lt_j
last_above-j-requires-clause-i_lt_j c = let a = c.args in
    let head_is : c.number_at-head.result ≡ at a.heads.now (at a.xs.now a.i) = c.number_at-head.ensures ∙ ap (at a.heads.now) c.number_at.ensures in
    omega (arith, head_above a.n a.i a.xs.now a.heads.now a.nexts.now c.requires.amendable c.requires.linked, head_is, c.if-head-i.false)

pub returns : goal.returns
returns c = let a = c.args in
    let head_is : c.number_at-head.result ≡ at a.heads.now (at a.xs.now a.i) = c.number_at-head.ensures ∙ ap (at a.heads.now) c.number_at.ensures in
    let above : a.i < at a.heads.now (at a.xs.now a.i) = head_above a.n a.i a.xs.now a.heads.now a.nexts.now c.requires.amendable c.requires.linked in
    now_without a.n a.i a.xs.now a.heads.now a.nexts.now c.requires.amendable c.requires.linked c.last_above-j.result
    (last_own a.n a.i a.xs.now a.heads.now a.nexts.now c.requires.amendable c.number_at-head.result above c.last_above-j.result head_is c.last_above-j.ensures)
