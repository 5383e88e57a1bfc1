-- The table says what the lexicon says: tests that antt computes over all its places, and the law that turns such a test into a fact at each place.
use mathlib.Core.Path.{◌≡◌, subst, sym}
use mathlib.Core.Bool.{Bool, true, false, cond}
use Prim.Native.Nat.{ℕ, zero, suc, ◌+◌, ◌*◌, ◌<◌}
use native.Mathlib.Nat.{not-suc-le-zero}
use native.Mathlib.Decide.{ℕ_discrete}
use native.Mathlib.Omega.{arith}
use lib.Dec.{T, eqb, ltb, eqb→eq, ltb→lt, lt→ltb}
use lib.ListN.{get_or}
use Rattle.text.specs.Lexicon.{both, either, class, grown, kind}
use Rattle.text.specs.Table.{TABLE}

pub both_left : (a b : Bool) → T (both a b) → T a
both_left true b t = tt
both_left false b t = t

pub both_right : (a b : Bool) → T (both a b) → T b
both_right true b t = t
both_right false b t = absurd t

-- Where a holds, b does.
abbrev pub implies : Bool → Bool → Bool
implies a b = cond a b true

pub given : (a b : Bool) → T (implies a b) → T a → T b
given true b h t = h
given false b h t = absurd t

pub both_of : (a b : Bool) → T a → T b → T (both a b)
both_of true b s t = t
both_of false b s t = s

-- The test f passes at every number below n.
abbrev pub below : ℕ → (ℕ → Bool) → Bool
below zero f = true
below (suc n) f = both (f n) (below n f)

pub at : (n : ℕ) (f : ℕ → Bool) → T (below n f) → (k : ℕ) → k < n → T (f k)
at zero f t k h = absurd (not-suc-le-zero h)
at (suc n) f t k h = by_place (at n f (both_right (f n) (below n f) t) k) (ℕ_discrete k n)
  where
    by_place : (k < n → T (f k)) → Dec (k ≡ n) → T (f k)
    by_place less (yes e) = subst (λ (m : ℕ). T (f m)) (sym e) (both_left (f n) (below n f) t)
    by_place less (no apart) = less (omega arith)

class_right : ℕ → Bool
class_right b = eqb (get_or TABLE b 0) (class b)

pub class_is : (b : ℕ) → b < 256 → get_or TABLE b 0 ≡ class b
unfolding class_right TABLE
class_is b h = eqb→eq (get_or TABLE b 0) (class b) (at 256 class_right tt b h)

grown_right : ℕ → ℕ → Bool
grown_right p k = both (eqb (get_or TABLE (256 + 16 * p + k) 0) (grown p k)) (ltb (grown p k) 16)

grown_all : (p k : ℕ) → p < 16 → k < 16 → T (grown_right p k)
unfolding grown_right TABLE
grown_all p k h g = at 16 (grown_right p) (at 16 (λ (q : ℕ). below 16 (grown_right q)) tt p h) k g

pub grown_is : (p k : ℕ) → p < 16 → k < 16 → get_or TABLE (256 + 16 * p + k) 0 ≡ grown p k
unfolding grown_right
grown_is p k h g = eqb→eq (get_or TABLE (256 + 16 * p + k) 0) (grown p k) (both_left (eqb (get_or TABLE (256 + 16 * p + k) 0) (grown p k)) (ltb (grown p k) 16) (grown_all p k h g))

pub grown_small : (p k : ℕ) → p < 16 → k < 16 → grown p k < 16
unfolding grown_right
grown_small p k h g = ltb→lt (grown p k) 16 (both_right (eqb (get_or TABLE (256 + 16 * p + k) 0) (grown p k)) (ltb (grown p k) 16) (grown_all p k h g))

-- Where a or b holds and a does not, b does.
pub other : (a b : Bool) → T (either a b) → (T a → ⊥) → T b
other true b t d = absurd (d tt)
other false b t d = t

-- A class above lo, neither of # nor of the colon.
abbrev pub Unmarked : ℕ → ℕ → Type 0
Unmarked lo k = (lo < k) × (k ≡ 10 → ⊥) × (k ≡ 11 → ⊥)

pub below_marks : (lo k : ℕ) → lo < k → k < 10 → Unmarked lo k
below_marks lo k h g = (h, λ e. omega arith, λ e. omega arith)

pub of_letter : (lo k : ℕ) → lo < 12 → 11 < k → Unmarked lo k
of_letter lo k h g = (omega arith, λ e. omega arith, λ e. omega arith)

-- With a byte of such a class p is a symbol.
makes_symbol : ℕ → ℕ → ℕ → Bool
makes_symbol p lo k = implies (ltb lo k) (either (eqb k 10) (either (eqb k 11) (eqb (grown p k) 10)))

symbol_made : (p lo : ℕ) → T (below 16 (makes_symbol p lo)) → (k : ℕ) → k < 16 → Unmarked lo k → grown p k ≡ 10
unfolding makes_symbol
symbol_made p lo all k h u =
    eqb→eq (grown p k) 10
    (other (eqb k 11) (eqb (grown p k) 10)
    (other (eqb k 10) (either (eqb k 11) (eqb (grown p k) 10))
    (given (ltb lo k) (either (eqb k 10) (either (eqb k 11) (eqb (grown p k) 10))) (at 16 (makes_symbol p lo) all k h) (lt→ltb lo k u.0))
    (λ t. u.1 (eqb→eq k 10 t)))
    (λ t. u.2 (eqb→eq k 11 t)))

-- A symbol begins with a point or a letter, and goes on with these and digits.
pub symbol_begins : (k : ℕ) → k < 16 → Unmarked 8 k → grown 0 k ≡ 10
unfolding makes_symbol
symbol_begins = symbol_made 0 8 tt

pub symbol_stays : (k : ℕ) → k < 16 → Unmarked 5 k → grown 10 k ≡ 10
unfolding makes_symbol
symbol_stays = symbol_made 10 5 tt

kind_right : ℕ → Bool
kind_right p = eqb (get_or TABLE (512 + p) 0) (kind p)

pub kind_is : (p : ℕ) → p < 16 → get_or TABLE (512 + p) 0 ≡ kind p
unfolding kind_right TABLE
kind_is p h = eqb→eq (get_or TABLE (512 + p) 0) (kind p) (at 16 kind_right tt p h)
