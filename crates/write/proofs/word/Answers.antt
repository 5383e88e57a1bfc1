-- `write::word` meets its contract: the part that has the word's length now holds the word.
use mathlib.Core.Path.{◌≡◌, refl, ◌∙◌, ap}
use mathlib.Core.List.{List, ◌++◌}
use Prim.Native.Nat.{ℕ, ◌+◌, ◌-◌}
use lib.ListN.{length, take, drop}
use Rattle.std.proofs.lemmas.List.{drop-drop}
use native.Mathlib.Omega.{arith}
use Rattle.write.proofs.Laws.{over_at_once}
use Rattle.write.proofs.word.Goals as goal

pub returns : goal.returns
returns c =
    let l = c.args.out.now in
    let at = c.args.at in
    let n = length c.args.w.now in
    let back : drop (at + n - at) (drop at l) ≡ drop (at + n) l = drop-drop (at + n - at) at l ∙ ap (λ (k : ℕ). drop k l) (omega arith) in (
      ap (λ (w : List ℕ). take at l ++ (w ++ drop (at + n - at) (drop at l))) c.copy_from_slice.ensures.after
          ∙ ap (λ (r : List ℕ). take at l ++ (c.args.w.now ++ r)) back
          ∙ over_at_once l at c.args.w.now c.requires,
      refl,
    )
