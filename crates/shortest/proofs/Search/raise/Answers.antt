use Rattle.std.proofs.Common.{◌+◌, subst, sym, arith}
use Rattle.shortest.specs.Searching.{IsLayer}
use Rattle.shortest.proofs.Advancing.{layer_after}
use Rattle.shortest.proofs.Search.raise.Goals as goal

pub loop-h-preserved : goal.loop-h-preserved
loop-h-preserved c = let a = c.args in (
  omega (arith, c.next.auto.layer, c.loop-h.invariant.0),
  subst (IsLayer a.self a.g (c.loop-h.h + 1)) (sym c.copy_from_slice.ensures.after)
      (layer_after a.self a.g c.loop-h.h c.loop-h.layer c.next.new.layer (omega (arith, c.next.auto.layer, c.loop-h.invariant.0)) c.loop-h.invariant.1 c.next.ensures),
)
