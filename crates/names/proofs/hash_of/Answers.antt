use native.Mathlib.Omega.{arith}
use mathlib.Core.Path.{sym, ◌∙◌}
use Rattle.names.proofs.Hashing.{hashed_first, hashed_none}
use Rattle.names.proofs.hash_of.Goals as goal

pub loop-b-preserved : goal.loop-b-preserved
loop-b-preserved c = let l = c.loop-b in
    (omega arith, hashed_first c.args.word.now l.h l.b-index c.loop-b-test.true ∙ l.invariant.1)

pub returns : goal.returns
returns c = let l = c.loop-b in
    (sym (hashed_none c.args.word.now l.h l.b-index c.loop-b-test.false) ∙ l.invariant.1, l.invariant.0)
