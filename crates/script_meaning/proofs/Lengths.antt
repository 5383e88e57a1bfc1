-- How long the text is that get-value prints: a name has at most NAME-BYTES bytes and a day, which fits 32 bits, at most 10 digits; four bytes stand around each
-- name and its day, and three around all.
use Prim.Native.Nat.{ℕ, ◌+◌, ◌*◌, ◌≤◌, ◌<◌}
use native.Mathlib.Omega.{arith}
use mathlib.Core.Path.{◌≡◌}
use mathlib.Core.List.{List, [], ◌∷◌, ◌++◌}
use lib.ListN.{length, length-append}
use Rattle.meaning.specs.Bounds.{NAME_BYTES}
use Rattle.reading.specs.Tree.{Piece}
use Rattle.write.specs.Written.{decimal}
use Rattle.write.proofs.Decimal.{decimal_ten}
use Rattle.script_meaning.specs.Effect.{pair, shown_pairs, shown}
use Rattle.script_meaning.proofs.Needed.{EachName}

-- The name w with the day d.
pub pair_long : (w : List ℕ) (d : ℕ) → length (pair w d) ≡ length w + length (decimal d) + 3
pair_long w d = omega (arith, length-append w (32 ∷ (decimal d ++ (41 ∷ []))), length-append (decimal d) (41 ∷ []))

pub pair_short : (w : List ℕ) (d : ℕ) → length w ≤ NAME_BYTES → d < 4294967296 → length (pair w d) ≤ 45
pair_short w d short small = omega (arith, pair_long w d, decimal_ten d (omega arith))

-- K says which names are declared; all of them are short, and their days p fit 32 bits.
module _ (p : List ℕ → ℕ) (K : List ℕ → Type 0) (short : (w : List ℕ) → K w → length w ≤ NAME_BYTES) (small : (w : List ℕ) → K w → p w < 4294967296) where
  -- One name and the pairs behind it.
  one : (w : Piece) (ws : List Piece) → K w.letters → length (pair w.letters (p w.letters) ++ shown_pairs p ws) ≤ 45 + length (shown_pairs p ws)
  one w ws known =
      omega (
        arith,
        length-append (pair w.letters (p w.letters)) (shown_pairs p ws),
        pair_short w.letters (p w.letters) (short w.letters known) (small w.letters known),
      )

  pairs_short : (ws : List Piece) → EachName K ws → length (shown_pairs p ws) ≤ 46 * length ws + 2
  pairs_short [] each = omega arith
  pairs_short (w ∷ ws) each = omega (arith, one w ws each.0, pairs_short ws each.1)

  pub shown_short : (ws : List Piece) → EachName K ws → length (shown p ws) ≤ 46 * length ws + 3
  shown_short [] each = omega arith
  shown_short (w ∷ ws) each = omega (arith, one w ws each.0, pairs_short ws each.1)
