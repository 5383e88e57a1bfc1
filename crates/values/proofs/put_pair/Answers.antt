-- `values::put_pair` meets its contract: five words, each written where the one before it ended, are one.
use native.Mathlib.Omega.{arith}
use mathlib.Core.List.{[], ◌∷◌, ◌++◌}
use Rattle.write.specs.Written.{decimal}
use Rattle.script_meaning.proofs.Lengths.{pair_long}
use Rattle.values.proofs.Wrote.{wrote_both}
use Rattle.values.proofs.put_pair.Goals as goal

pub word-e-requires-2 : goal.word-e-requires-2
word-e-requires-2 c =
    let name = c.args.name.now in
    omega (arith, c.requires, pair_long name c.args.day, c.word-e.ensures.1, c.word-e.auto.out)

pub word-e-requires-3 : goal.word-e-requires-3
word-e-requires-3 c =
    let name = c.args.name.now in
    omega (arith, c.requires, pair_long name c.args.day, c.word-e.ensures.1, c.word-e.auto.out, c.word-e-2.ensures.1, c.word-e-2.auto.out)

pub number-e-requires : goal.number-e-requires
number-e-requires c =
    let name = c.args.name.now in
    omega (arith, c.requires, pair_long name c.args.day, c.word-e.ensures.1, c.word-e.auto.out, c.word-e-2.ensures.1, c.word-e-2.auto.out, c.word-e-3.ensures.1, c.word-e-3.auto.out)

pub word-requires : goal.word-requires
word-requires c =
    let name = c.args.name.now in
    omega (arith, c.requires, pair_long name c.args.day, c.word-e.ensures.1, c.word-e.auto.out, c.word-e-2.ensures.1, c.word-e-2.auto.out, c.word-e-3.ensures.1, c.word-e-3.auto.out, c.number-e.ensures.1, c.number-e.auto.out)

pub returns : goal.returns
returns c =
    let name = c.args.name.now in
    let args = c.args in
    let digits = decimal args.day in
    wrote_both args.out.now args.to (40 ∷ []) (name ++ (32 ∷ (digits ++ (41 ∷ [])))) c.word-e.ensures
    (wrote_both c.word-e.new.out c.word-e.result name (32 ∷ (digits ++ (41 ∷ []))) c.word-e-2.ensures
    (wrote_both c.word-e-2.new.out c.word-e-2.result (32 ∷ []) (digits ++ (41 ∷ [])) c.word-e-3.ensures
    (wrote_both c.word-e-3.new.out c.word-e-3.result digits (41 ∷ []) c.number-e.ensures c.word.ensures)))
