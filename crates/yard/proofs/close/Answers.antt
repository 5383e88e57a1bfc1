use Prim.Native.Nat.{ℕ}
use mathlib.Core.Path.{sym, ap, subst}
use mathlib.Core.List.{List, []}
use lib.ListN.{take, get_or}
use Rattle.std.proofs.lemmas.List.{get_or-take, length-take}
use Rattle.yard.specs.Squares.{RowBounded, RowStaged}
use Rattle.yard.proofs.Making.{made_more, made_front}
use Rattle.yard.proofs.Staging.{Staged, stages_none, staged_none, stages_more}
use native.Mathlib.Omega.{arith}
use Rattle.yard.proofs.close.Goals as goal
use Rattle.yard.proofs.close.Goals.{else-base-lt-NONE, then-base-lt-NONE}

pub loop-k-init : goal.loop-k-init
loop-k-init c = stages_none _ _ c.told-square c.requires.bounded

pub loop-row-preserved : goal.loop-row-preserved
loop-row-preserved c = let turn = c.loop-row in
    let k = c.loop-k.k in
    let via = get_or c.loop-k.square k [] in
    let same = turn.invariant.rest turn.row-index (omega arith) in
    let first = get_or-take c.args.n c.loop-k.square turn.row-index [] (omega (arith, c.loop-row-test.true, length-take c.args.n c.loop-k.square)) in
    elim c.if-base-lt-NONE.branch [
      | then-base-lt-NONE w ↦
          rw w.row-items-is
          (made_more turn.invariant c.loop-row-test.true w.stage_row.new.row
          (subst (λ (row : List ℕ). RowStaged (get_or row k 0) via row w.stage_row.new.row) same w.stage_row.ensures))
      | else-base-lt-NONE w ↦
          rw w.row-items-is
          (made_more turn.invariant c.loop-row-test.true _
          (subst (Staged k via (take c.args.n c.loop-k.square) turn.row-index) (sym same)
          (staged_none k turn.row-index via (take c.args.n c.loop-k.square)
          (subst RowBounded (sym first) (λ y. c.loop-k.invariant.bounded turn.row-index y (omega (arith, c.loop-row-test.true, c.requires.n_bound, length-take c.args.n c.loop-k.square))))
          (omega (arith, w.if-base-lt-NONE.false, ap (λ (row : List ℕ). get_or row k 0) same)))))
    ]

pub loop-k-preserved : goal.loop-k-preserved
loop-k-preserved c =
    stages_more c.requires.n_bound c.loop-k-test.true c.loop-k.invariant
    (made_front (omega (arith, c.loop-k.invariant.rows, c.requires.n_bound)) c.loop-row-test.false
    (λ i h a. subst (λ (row : List ℕ). RowStaged (get_or row c.loop-k.k 0) (get_or c.loop-k.square c.loop-k.k []) row a) (get_or-take c.args.n c.loop-k.square i [] h)) c.loop-row.invariant)
