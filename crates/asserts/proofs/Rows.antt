-- The rules of rows, as a list: as many as there are rows, and each within bounds where the rows are.
use Prim.Native.Nat.{ℕ, zero, suc, ◌+◌, ◌<◌}
use native.Mathlib.Omega.{arith}
use mathlib.Core.Path.{◌≡◌, refl, ap, subst}
use lib.ListN.{length}
use Rattle.meaning.specs.Rules.{InBounds}
use Rattle.meaning.specs.Tables.{Columns, rule_at}
use Rattle.script_meaning.proofs.Adding.{Each}
use Rattle.asserts.specs.Rows.{rows_from, RowsFine}

-- There are as many as rows.
pub rows_length : (rows : Columns) (k n : ℕ) → length (rows_from rows k n) ≡ n
unfolding rows_from
rows_length rows k zero = refl
rows_length rows k (suc n) = ap suc (rows_length rows (k + 1) n)

-- Each is within bounds.
each_from : (e : ℕ) (rows : Columns) (k n : ℕ) → ((i : ℕ) → i < n → InBounds e (rule_at rows (k + i))) → Each (InBounds e) (rows_from rows k n)
unfolding rows_from
each_from e rows k zero fine = tt
each_from e rows k (suc n) fine = (
  subst (λ (i : ℕ). InBounds e (rule_at rows i)) (omega arith) (fine 0 (omega arith)),
  each_from e rows (k + 1) n (λ i l. subst (λ (j : ℕ). InBounds e (rule_at rows j)) (omega arith) (fine (i + 1) (omega (arith, l)))),
)

pub rows_each : (e : ℕ) (rows : Columns) (n : ℕ) → RowsFine e rows n → Each (InBounds e) (rows_from rows 0 n)
rows_each e rows n fine = each_from e rows 0 n (λ i l. subst (λ (j : ℕ). InBounds e (rule_at rows j)) (omega arith) (fine i l))
