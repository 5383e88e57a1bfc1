-- The proof of the cycle of calls {number}. A number below 10 is one digit; of any other the digits of its tenth are written, and then its last.
use Rattle.std.proofs.Common.{List, ℕ, ◌+◌, ◌/◌, ◌%◌, ◌∙◌, ap, arith, set, sym}
use Rattle.write.proofs.Decimal.{length_one, length_more, over_digit, over_digits}
use Rattle.write.specs.Written.{over, decimal}
use Rattle.write.proofs.+number.Goals as goal

pub bounds-out-at : goal.bounds-out-at
bounds-out-at t c = omega (arith, length_one c.args.n c.if-n-lt10.true)

pub returns-then-n-lt10 : goal.returns-then-n-lt10
returns-then-n-lt10 t c =
    let args = c.args in
    (over_digit args.out.now args.at args.n c.if-n-lt10.true, ap (λ (k : ℕ). args.at + k) (sym (length_one args.n c.if-n-lt10.true)))

pub number-e-requires : goal.number-e-requires
number-e-requires t c = (omega (arith, c.decreases), omega (arith, length_more c.args.n c.if-n-lt10.false))

pub bounds-out-e : goal.bounds-out-e
bounds-out-e t c = omega (arith, c.number-e.ensures.1, length_more c.args.n c.if-n-lt10.false, c.number-e.auto.out)

pub overflow_add-result-2 : goal.overflow_add-result-2
overflow_add-result-2 t c = omega (arith, c.number-e.ensures.1, length_more c.args.n c.if-n-lt10.false)

pub returns : goal.returns
returns t c =
    let args = c.args in
    let large = c.if-n-lt10.false in
    let call = c.number-e in (
      ap (λ (o : List ℕ). set o call.result (48 + args.n % 10)) call.ensures.0
          ∙ ap (λ (e : ℕ). set (over args.out.now args.at (decimal (args.n / 10))) e (48 + args.n % 10)) call.ensures.1
          ∙ over_digits args.out.now args.at args.n large,
      omega (arith, call.ensures.1, length_more args.n large),
    )
