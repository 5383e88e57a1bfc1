use native.Mathlib.Omega.{arith}
use mathlib.Core.Path.{refl}
use borrow.Author.Count.{below_none, below_more}
use Rattle.lent.specs.Decides.{decides_yes, decides_no}
use Rattle.script_calls.proofs.names_fine.Goals as goal

pub loop-k-init : goal.loop-k-init
loop-k-init c = (omega arith, below_none _)

pub name_fine-requires : goal.name_fine-requires
name_fine-requires c = record {
  tab_value = c.requires.tab_value;
  names_room = c.requires.names_room;
  k_bound = omega (arith, c.loop-k-test.true, c.requires.n_bound);
}

pub returns-then-not-name_fine : goal.returns-then-not-name_fine
returns-then-not-name_fine c = decides_no refl (λ h. c.name_fine.ensures.not_so c.if-not-name_fine.true (h c.loop-k.k c.loop-k-test.true))

pub loop-k-preserved : goal.loop-k-preserved
loop-k-preserved c = let loop = c.loop-k in
    (omega (arith, c.loop-k-test.true), below_more _ loop.k loop.invariant.1 (c.name_fine.ensures.so c.if-not-name_fine.false))

pub returns : goal.returns
returns c = decides_yes refl (λ i h. c.loop-k.invariant.1 i (omega (arith, c.loop-k-test.false)))
