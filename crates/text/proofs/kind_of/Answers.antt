-- `text::kind_of` meets its contract: the table says the kind of each piece, by its number.
use mathlib.Core.Path.{◌≡◌, ◌∙◌}
use Prim.Native.Nat.{◌+◌}
use native.Mathlib.Omega.{arith}
use lib.ListN.{get_or}
use Rattle.text.specs.Lexicon.{kind}
use Rattle.text.proofs.Reading.{kind_is}
use Rattle.text.proofs.Pieces.{kind_known}
use Rattle.text.proofs.kind_of.Goals as goal

pub kind_numbered-requires : goal.kind_numbered-requires
kind_numbered-requires c =
    let is : get_or c.args.tab.now (512 + c.args.p) 0 ≡ kind c.args.p = rw c.requires.tab_value (kind_is c.args.p c.requires.p_bound) in
    omega (arith, is, kind_known c.args.p c.requires.p_bound)

pub returns : goal.returns
returns c = c.kind_numbered.ensures ∙ rw c.requires.tab_value (kind_is c.args.p c.requires.p_bound)
