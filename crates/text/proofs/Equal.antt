-- Two texts have the same bytes exactly where they are equal.
use Prim.Native.Nat.{ℕ}
use mathlib.Core.Path.{◌≡◌, refl}
use mathlib.Core.Bool.{Bool, true, false, cond, ◌&&◌, false≢true}
use mathlib.Core.List.{List, [], ◌∷◌}
use lib.Dec.{eqb}
use borrow.Author.Tests.{eqb-true, eq-eqb}
use Rattle.std.specs.Cmp.Lexicographic.{pointwise}
use Rattle.text.specs.Lexicon.{same_bytes}

pub both_parts : (b c : Bool) → cond b c false ≡ true → (b ≡ true) × (c ≡ true)
both_parts true c h = (refl, h)
both_parts false c h = absurd (false≢true h)

pub same_equal : (k l : List ℕ) → same_bytes k l ≡ true → k ≡ l
unfolding same_bytes
same_equal [] [] h = refl
same_equal [] (b ∷ l) h = absurd (false≢true h)
same_equal (a ∷ k) [] h = absurd (false≢true h)
same_equal (a ∷ k) (b ∷ l) h =
    let p = both_parts (eqb a b) (same_bytes k l) h in
    let first : a ≡ b = eqb-true a b p.0 in
    let rest : k ≡ l = same_equal k l p.1 in
    cc

pub equal_same : (k : List ℕ) → same_bytes k k ≡ true
unfolding same_bytes
equal_same [] = refl
equal_same (a ∷ k) = rw (eq-eqb a a refl) (equal_same k)

and_same : (t p q : Bool) → p ≡ q → (t && p) ≡ cond t q false
and_same true p q e = e
and_same false p q e = refl

-- What `==` of slices says is the definitions' test.
pub pointwise_same : (k l : List ℕ) → pointwise eqb k l ≡ same_bytes k l
unfolding same_bytes
pointwise_same [] [] = refl
pointwise_same [] (b ∷ l) = refl
pointwise_same (a ∷ k) [] = refl
pointwise_same (a ∷ k) (b ∷ l) = and_same (eqb a b) (pointwise eqb k l) (same_bytes k l) (pointwise_same k l)
