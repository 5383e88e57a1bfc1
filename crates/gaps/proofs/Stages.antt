-- The stages of the slacks: after as many as there are steps the slacks of single rules are closed.
use Prim.Native.Nat.{ℕ, zero, suc, ◌+◌, ◌-◌, ◌*◌, ◌≤◌, ◌<◌, min}
use native.Mathlib.Omega.{arith}
use native.Mathlib.Decide.{ℕ_discrete, dec_le}
use mathlib.Core.Path.{◌≡◌, sym, subst}
use mathlib.Core.Logic.{◌⊎◌, inl, inr}
use lib.IntN.{pos}
use Rattle.meaning.specs.Bounds.{YARD_STEPS, LARGEST}
use Rattle.meaning.specs.Rules.{Rule, InBounds, Plan}
use Rattle.meaning.proofs.Whole.{le→}
use Rattle.gaps.specs.Gaps.{Says}
use Rattle.gaps.specs.Slacks.{NONE, Spares, Slacks, stages, cell_of, Near}
use Rattle.gaps.proofs.Closing.{parts_few, Holds, holds_over, holds_self, holds_rule, Closed, Tells, cell_tells, closed_says}

-- The slacks are closed under ways over the steps below k.
pub record Staged (n : ℕ) (R : ℕ → Rule) (H : ℕ → Type 0) (p : ℕ → ℕ) (none k most : ℕ) (W : ℕ → ℕ → ℕ) : Type 0 where
  pub self : (v : ℕ) → v < n → W v v ≡ 0
  pub under : (i w : ℕ) → H i → Spares R p i w → W (R i).first (R i).second ≤ w
  pub over : (x u y : ℕ) → x < n → u < k → y < n → W x y ≤ W x u + W u y
  pub holds : (x y : ℕ) → x < n → y < n → W x y < none → Holds R H p x y (W x y)
  pub small : (x y : ℕ) → x < n → y < n → W x y < none → W x y ≤ most

-- The slacks with the ways over the step k.
abbrev pub staged : ℕ → (ℕ → ℕ → ℕ) → ℕ → ℕ → ℕ
staged k W x y = min (W x y) (W x k + W k y)

-- The smaller of two numbers is the one or the other.
pub min_either : (a b : ℕ) → ((a ≤ b) × (min a b ≡ a)) ⊎ ((b ≤ a) × (min a b ≡ b))
min_either a b = tell (dec_le a b)
  where
    tell : Dec (a ≤ b) → ((a ≤ b) × (min a b ≡ a)) ⊎ ((b ≤ a) × (min a b ≡ b))
    tell (yes h) = inl (h, omega arith)
    tell (no h) = inr (omega arith, omega arith)

-- The arithmetic of a way over the step u, of which the ways over the step k are known: xy is the slack of the pair x, y, and so on.
way_over :
    (xy xu uy xk ku uk ky : ℕ) → xy ≤ xu + uy → xk ≤ xu + uk → ky ≤ ku + uy → min xy (xk + ky) ≤ min xu (xk + ku) + min uy (uk + ky)
way_over xy xu uy xk ku uk ky a b c = tell (min_either xu (xk + ku)) (min_either uy (uk + ky))
  where
    tell :
        ((xu ≤ xk + ku) × (min xu (xk + ku) ≡ xu)) ⊎ ((xk + ku ≤ xu) × (min xu (xk + ku) ≡ xk + ku)) →
        ((uy ≤ uk + ky) × (min uy (uk + ky) ≡ uy)) ⊎ ((uk + ky ≤ uy) × (min uy (uk + ky) ≡ uk + ky)) →
        min xy (xk + ky) ≤ min xu (xk + ku) + min uy (uk + ky)
    tell (inl (h, e)) (inl (g, f)) = rw (e, f) (omega arith)
    tell (inl (h, e)) (inr (g, f)) = rw (e, f) (omega arith)
    tell (inr (h, e)) (inl (g, f)) = rw (e, f) (omega arith)
    tell (inr (h, e)) (inr (g, f)) = rw (e, f) (omega arith)

-- One stage more.
pub staged_next :
    (n : ℕ) (R : ℕ → Rule) (H : ℕ → Type 0) (p : ℕ → ℕ) (none k most : ℕ) (W : ℕ → ℕ → ℕ) → k < n → Staged n R H p none k most W →
    Staged n R H p none (suc k) (most + most) (staged k W)
staged_next n R H p none k most W in-k s = record {
  self = λ v below. omega (arith, s.self v below);
  under = λ i w held spares. omega (arith, s.under i w held spares);
  over = over;
  holds = λ x y in-x in-y known. holds x y in-x in-y known (min_either (W x y) (W x k + W k y));
  small = λ x y in-x in-y known. small x y in-x in-y known (min_either (W x y) (W x k + W k y));
}
  where
    over : (x u y : ℕ) → x < n → u < suc k → y < n → staged k W x y ≤ staged k W x u + staged k W u y
    over x u y in-x in-u in-y = place (ℕ_discrete u k)
      where
        at-k : staged k W x y ≤ staged k W x k + staged k W k y
        at-k = omega (arith, s.self k in-k)

        place : Dec (u ≡ k) → staged k W x y ≤ staged k W x u + staged k W u y
        place (yes e) = subst (λ m. staged k W x y ≤ staged k W x m + staged k W m y) (sym e) at-k
        place (no e) =
            way_over (W x y) (W x u) (W u y) (W x k) (W k u) (W u k) (W k y) (s.over x u y in-x (omega arith) in-y)
            (s.over x u k in-x (omega arith) in-k) (s.over k u y in-k (omega arith) in-y)

    holds :
        (x y : ℕ) → x < n → y < n → staged k W x y < none →
        ((W x y ≤ W x k + W k y) × (staged k W x y ≡ W x y)) ⊎ ((W x k + W k y ≤ W x y) × (staged k W x y ≡ W x k + W k y)) →
        Holds R H p x y (staged k W x y)
    holds x y in-x in-y known (inl (h, e)) = subst (Holds R H p x y) (sym e) (s.holds x y in-x in-y (omega (arith, e)))
    holds x y in-x in-y known (inr (h, e)) =
        subst (Holds R H p x y) (sym e)
        (holds_over R H p x k y (W x k) (W k y) (s.holds x k in-x in-k (omega (arith, e))) (s.holds k y in-k in-y (omega (arith, e))))

    small :
        (x y : ℕ) → x < n → y < n → staged k W x y < none →
        ((W x y ≤ W x k + W k y) × (staged k W x y ≡ W x y)) ⊎ ((W x k + W k y ≤ W x y) × (staged k W x y ≡ W x k + W k y)) →
        staged k W x y ≤ most + most
    small x y in-x in-y known (inl (h, e)) = omega (arith, e, s.small x y in-x in-y (omega (arith, e)))
    small x y in-x in-y known (inr (h, e)) =
        omega (arith, e, s.small x k in-x in-k (omega (arith, e)), s.small k y in-k in-y (omega (arith, e)))

-- The bound of the slacks that are known, after k stages.
unfoldable pub bound : ℕ → ℕ
bound zero = 33554432
bound (suc k) = bound k + bound k

pub bound_grows : (k j : ℕ) → k ≤ j → bound k ≤ bound j
unfolding bound
bound_grows k zero h = rw (zero-only k h) (omega arith)
  where
    zero-only : (m : ℕ) → m ≤ 0 → m ≡ 0
    zero-only m g = omega arith
bound_grows k (suc j) h = place (ℕ_discrete k (suc j)) (λ lower. bound_grows k j lower)
  where
    place : Dec (k ≡ suc j) → (k ≤ j → bound k ≤ bound j) → bound k ≤ bound j + bound j
    place (yes e) rec = rw e (omega arith)
    place (no e) rec = omega (arith, rec (omega arith))

-- With the steps of one yard it stays below 2 to the 42nd less all days.
pub bound_most : (k : ℕ) → k ≤ YARD_STEPS → bound k ≤ 2199023255552
unfolding bound
bound_most k h = bound_grows k 16 h

-- Over n steps of one yard, with the slacks of single rules over days that keep them, none of which is past n - 1 times the largest amount.
module _ (n : ℕ) (R : ℕ → Rule) (H : ℕ → Type 0) (p : ℕ → ℕ) (W : ℕ → ℕ → ℕ) (slacks : Slacks n R H p W) (bounds : (i : ℕ) → H i → InBounds n (R i)) (yard : n ≤ YARD_STEPS) (days : (v : ℕ) → v < n → p v ≤ (n - 1) * LARGEST) where
  -- No day is past the fifteenth largest amount.
  day_few : (v : ℕ) → v < n → p v ≤ 15000000
  day_few v below = omega (arith, days v below)

  -- What a rule has to spare is below the first bound.
  spares_few : (i w : ℕ) → H i → Spares R p i w → w ≤ 33554432
  spares_few i w held spares =
      omega (arith, spares, day_few (R i).second (bounds i held).steps_in.second_in, le→ (R i).amount (pos LARGEST) (bounds i held).amount_in.not_above)

  -- No stage yet.
  staged_none : Staged n R H p NONE 0 33554432 W
  staged_none = record {
    self = slacks.self;
    under = slacks.under;
    over = λ x u y in-x in-u in-y. absurd (omega arith);
    holds = λ x y in-x in-y known. holds x y known (slacks.given x y in-x in-y);
    small = λ x y in-x in-y known. small x y known (slacks.given x y in-x in-y);
  }
    where
      holds :
          (x y : ℕ) → W x y < NONE →
          (W x y ≡ NONE) ⊎ ((x ≡ y) × (W x y ≡ 0)) ⊎ ((i : ℕ) × H i × ((R i).first ≡ x) × ((R i).second ≡ y) × Spares R p i (W x y)) →
          Holds R H p x y (W x y)
      holds x y known (inl e) = absurd (omega arith)
      holds x y known (inr (inl (e, z))) = subst (λ m. Holds R H p x m (W x y)) e (rw z (holds_self R H p x))
      holds x y known (inr (inr (i, held, e, f, spares))) =
          subst (λ m. Holds R H p x m (W x y)) f (subst (λ m. Holds R H p m (R i).second (W x y)) e (holds_rule R H p i (W x y) held spares))

      small :
          (x y : ℕ) → W x y < NONE →
          (W x y ≡ NONE) ⊎ ((x ≡ y) × (W x y ≡ 0)) ⊎ ((i : ℕ) × H i × ((R i).first ≡ x) × ((R i).second ≡ y) × Spares R p i (W x y)) →
          W x y ≤ 33554432
      small x y known (inl e) = absurd (omega arith)
      small x y known (inr (inl (e, z))) = omega arith
      small x y known (inr (inr (i, held, e, f, spares))) = spares_few i (W x y) held spares

  -- After k stages.
  pub staged_all : (k : ℕ) → k ≤ n → Staged n R H p NONE k (bound k) (stages k W)
  unfolding stages bound
  staged_all zero h = staged_none
  staged_all (suc k) h = staged_next n R H p NONE k (bound k) (stages k W) (omega arith) (staged_all k (omega arith))

  -- After n stages they are closed.
  pub slacks_closed : Closed n R H p NONE 2199023255552 (stages n W)
  slacks_closed = record {
    self = all.self;
    under = all.under;
    over = all.over;
    holds = all.holds;
    small = λ x y in-x in-y known. omega (arith, all.small x y in-x in-y known, bound_most n yard);
    few = λ i w held spares. omega (arith, spares_few i w held spares);
    some = omega arith;
  }
    where
      all : Staged n R H p NONE n (bound n) (stages n W)
      all = staged_all n (omega arith)

  -- So they say the limit of every pair.
  pub slacks_say : Plan R H p → (x y : ℕ) → x < n → y < n → Says R H x y (cell_of p x y (stages n W x y))
  slacks_say plan =
      closed_says n R H p 2199023255552 (stages n W) slacks_closed plan (λ i held. (bounds i held).steps_in) (λ v below. omega (arith, day_few v below))

  -- And every cell is near.
  pub slacks_near : (x y : ℕ) → x < n → y < n → Near (cell_of p x y (stages n W x y))
  slacks_near x y in-x in-y = tell (cell_tells p x y (stages n W x y) (λ known. omega (arith, slacks_closed.small x y in-x in-y known, day_few x in-x)))
    where
      tell : Tells NONE p x y (stages n W x y) (cell_of p x y (stages n W x y)) → Near (cell_of p x y (stages n W x y))
      tell (inl (e, unknown)) = inl e
      tell (inr (e, known, is)) =
          inr (omega (arith, parts_few (cell_of p x y (stages n W x y)) (stages n W x y + p x) (p y) is, slacks_closed.small x y in-x in-y known, day_few x in-x, day_few y in-y))
