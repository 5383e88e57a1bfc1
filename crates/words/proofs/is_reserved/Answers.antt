-- `words::is_reserved` meets its contract: a word is compared with the reserved words of its length.
use native.Mathlib.Omega.{arith}
use mathlib.Core.Path.{◌≡◌, sym, ◌∙◌}
use Prim.Native.Nat.{ℕ, ◌≤◌}
use mathlib.Core.List.{List}
use mathlib.Core.Bool.{Bool}
use lib.Dec.{T, leb, le→leb}
use lib.ListN.{length}
use Rattle.text.specs.Lexicon.{from_to, same_bytes}
use Rattle.text.proofs.Reading.{both_of}
use Rattle.words.specs.ByLength.{WORDS_TO_3, WORDS_TO_5, WORDS_OF_6, WORDS_TO_9, WORDS_TO_13, WORDS_FROM_14}
use Rattle.words.specs.Words.{among, reserved}
use Rattle.words.proofs.Groups.{by_length, has_those}
use Rattle.words.proofs.is_reserved.Goals as goal

-- The answer of the words of some lengths is the answer, where the length is one of theirs.
answers : (lo hi : ℕ) (L : List (List ℕ)) → T (has_those (from_to lo hi) L) → (w : List ℕ) (r : Bool) → lo ≤ length w → length w ≤ hi → r ≡ among w L → r ≡ reserved w
answers lo hi L has w r h g is = is ∙ sym (by_length (from_to lo hi) L has w (both_of (leb lo (length w)) (leb (length w) hi) (le→leb lo _ h) (le→leb _ hi g)))

pub returns-in-0-to-3 : goal.returns-in-0-to-3
unfolding same_bytes
returns-in-0-to-3 c = answers 0 3 WORDS_TO_3 tt c.args.word.now _ (omega arith) (omega (arith, c.in-0-to-3.if-this-lt4-own.true)) c.is_one_of-in-0-to-3.ensures

pub returns-in-4-to-5 : goal.returns-in-4-to-5
unfolding same_bytes
returns-in-4-to-5 c = answers 4 5 WORDS_TO_5 tt c.args.word.now _ (omega (arith, c.in-4-to-5.if-this-lt4-own.false)) (omega (arith, c.in-4-to-5.if-this-lt6-own.true)) c.is_one_of-in-4-to-5.ensures

pub returns-in-6 : goal.returns-in-6
unfolding same_bytes
returns-in-6 c = answers 6 6 WORDS_OF_6 tt c.args.word.now _ (omega (arith, c.in-6.is)) (omega (arith, c.in-6.is)) c.is_one_of.ensures

pub returns-in-7-to-9 : goal.returns-in-7-to-9
unfolding same_bytes
returns-in-7-to-9 c = answers 7 9 WORDS_TO_9 tt c.args.word.now _ (omega (arith, c.in-7-to-9.if-this-lt6-own.false, c.in-7-to-9.in_default-own.rest)) (omega (arith, c.in-7-to-9.if-this-lt10-own.true)) c.is_one_of-in-7-to-9.ensures

pub returns-in-10-to-13 : goal.returns-in-10-to-13
unfolding same_bytes
returns-in-10-to-13 c = answers 10 13 WORDS_TO_13 tt c.args.word.now _ (omega (arith, c.in-10-to-13.if-this-lt10-own.false)) (omega (arith, c.in-10-to-13.if-this-lt14-own.true)) c.is_one_of-in-10-to-13.ensures

pub returns-in_default : goal.returns-in_default
unfolding same_bytes
returns-in_default c = c.is_one_of-in_default.ensures
    ∙ sym (by_length (leb 14) WORDS_FROM_14 tt c.args.word.now (le→leb 14 _ (omega (arith, c.in_default.if-this-lt14-own.false))))
