-- `text::grow` meets its contract: a symbol stays one with a letter more; else the table says what each piece grows to, and that is below 16.
use Prim.Native.Nat.{ℕ}
use mathlib.Core.Path.{◌≡◌, sym, subst}
use native.Mathlib.Omega.{arith}
use Rattle.text.specs.Lexicon.{grown}
use Rattle.text.proofs.Reading.{grown_is, grown_small, of_letter, symbol_stays}
use Rattle.text.proofs.grow.Goals as goal

pub returns-then-p-eq-A_SYMBOL : goal.returns-then-p-eq-A_SYMBOL
returns-then-p-eq-A_SYMBOL c = let is = symbol_stays c.args.k c.requires.k_bound (of_letter 5 c.args.k (omega arith) c.if-k-gt-COLON.true) in
    (subst (λ (p : ℕ). 10 ≡ grown p c.args.k) (sym c.if-p-eq-A_SYMBOL.true) (sym is), omega arith)

pub returns : goal.returns
returns c = let p = c.args.p in
    let k = c.args.k in
    let is = grown_is p k c.requires.p_bound c.requires.k_bound in
    rw c.requires.tab_value (is, rw is (grown_small p k c.requires.p_bound c.requires.k_bound))
