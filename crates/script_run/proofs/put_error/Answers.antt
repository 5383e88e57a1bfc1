-- `script_run::put_error` meets its contract: three words, each written where the one before it ended, are one.
use mathlib.Core.List.{[], ◌∷◌, ◌++◌}
use Rattle.write.specs.Written.{decimal}
use Rattle.values.proofs.Wrote.{wrote_both}
use Rattle.script_run.proofs.put_error.Goals as goal

pub returns : goal.returns
returns c = let digits = decimal c.args.number in
    wrote_both c.args.out.now c.args.at (40 ∷ 101 ∷ 114 ∷ 114 ∷ 111 ∷ 114 ∷ 32 ∷ 34 ∷ []) (digits ++ (34 ∷ 41 ∷ 10 ∷ [])) c.word-e.ensures
    (wrote_both c.word-e.new.out c.word-e.result digits (34 ∷ 41 ∷ 10 ∷ []) c.number-e.ensures c.word.ensures)
