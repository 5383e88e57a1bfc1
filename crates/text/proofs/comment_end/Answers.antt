-- `text::comment_end` meets its contract: the comment's bytes are passed over.
use native.Mathlib.Omega.{arith}
use Rattle.text.proofs.Comments.{comment_passed}
use Rattle.text.proofs.comment_end.Goals as goal

pub overflow_add-result : goal.overflow_add-result
overflow_add-result c = omega (arith, (comment_passed c.args.s.now c.args.at _ c.requires.at_in_bounds c.requires.at_value c.comment_length.ensures).0)

pub returns : goal.returns
returns c =
    let passed = comment_passed c.args.s.now c.args.at _ c.requires.at_in_bounds c.requires.at_value c.comment_length.ensures in
    (passed.1, passed.2)
