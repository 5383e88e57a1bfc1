-- With the gap table too any two outcomes that a promise allows on the same input are equal: every cell that is kept is fixed, since a pair has one limit or none, and no other is written.
use Prim.Native.Nat.{ℕ, zero, suc, ◌≤◌}
use native.Mathlib.Omega.{arith}
use mathlib.Core.Path.{◌≡◌, refl, sym, ◌∙◌, ap, subst}
use mathlib.Core.List.{List}
use mathlib.Core.Logic.{◌⊎◌, inl, inr}
use lib.IntN.{ℤ, pos, neg_ℤ}
use Rattle.meaning.specs.Rules.{Rule}
use Rattle.meaning.specs.Reckoning.{up, dn}
use Rattle.meaning.specs.Tables.{Tables}
use Rattle.meaning.specs.Promise.{Given, Need, Meaning, Obeys}
use Rattle.meaning.specs.Calls.{WithList, WithLists, open_meaning, watch_meaning, add_meaning, mark_meaning, back_meaning, withdraw_meaning, trial_meaning, consequences_meaning, ring_check_meaning, last_day_meaning}
use Rattle.meaning.proofs.Determined.{Same, Fixed, FixedOnConflict, same_whole, determined, open_fixed, watch_fixed, add_fixed, mark_fixed, back_fixed, withdraw_fixed, trial_fixed, consequences_fixed, ring_check_fixed, last_day_fixed, add_conflict_fixed, trial_conflict_fixed}
use Rattle.gaps.specs.Gaps.{Gaps, Limit, NoLimit, Remade}
use Rattle.gaps.specs.Beside.{Beside, beside, with_gaps, asks_right, leaving, remaking, open_beside, watch_beside, add_beside, mark_beside, back_beside, withdraw_beside, trial_beside, consequences_beside, ring_check_beside, last_day_beside, gap_meaning, gap_beside}
use Rattle.gaps.proofs.Limits.{le_both}
use Rattle.gaps.proofs.Squares.{remade_same}

module _ {S : Type 0} (m : Meaning S) (asks : List Need) (a : Gaps) where
  -- Where the tables are fixed and the gap table is, all is.
  with_gaps_fixed : (left : S → Gaps → Type 0) → ((s : S) (b c : Gaps) → left s b → left s c → b ≡ c) → Fixed m → Fixed (with_gaps asks m left a)
  with_gaps_fixed left one fixed i j k l u w x y =
      let (first, second, same) = fixed i j k l u.lent w.lent x.0 y.0 in
      (first, second, λ n. beside (same n) (one w.lent u.gaps w.gaps (subst (λ (s : S). left s u.gaps) same x.1) y.1 n))

  on_conflict_fixed : (left : S → Gaps → Type 0) → FixedOnConflict m → FixedOnConflict (with_gaps asks m left a)
  on_conflict_fixed left fixed i k u w x y = let (first, same) = fixed i k u.lent w.lent x.0 y.0 in (first, λ n. beside (same n) ((x.1 ∙ sym y.1) n))

leaving_fixed : {S : Type 0} (m : Meaning S) (t : Tables) (a : Gaps) → Fixed m → Fixed (leaving m t a)
leaving_fixed m t a = with_gaps_fixed m (asks_right m t a) a (λ s after. after ≡ a) (λ s b c x y. x ∙ sym y)

remaking_fixed : {S : Type 0} (tables-of : S → Tables) (m : Meaning S) (t : Tables) (a : Gaps) → Fixed m → Fixed (remaking tables-of m t a)
remaking_fixed tables-of m t a = with_gaps_fixed m (asks_right m t a) a (λ s after. Remade (tables-of s) a after) (λ s b c x y. remade_same (tables-of s) a b c x y)

-- ---- each call

pub open_beside_determined : (n : ℕ) (s : Beside Tables) (g h : Given) (u w : Beside Tables) → Obeys (open_beside n s) s g u → Obeys (open_beside n s) s h w → Same g h u w
open_beside_determined n s g h u w x y =
    determined (open_beside n s) s g h u w x y
    (with_gaps_fixed (open_meaning n s.lent) (open_meaning n s.lent).asks s.gaps (λ t after. Remade t s.gaps after) (λ t b c x y. remade_same t s.gaps b c x y) (open_fixed n s.lent))
    (λ a v z. z.0)

pub add_beside_determined : (r : Rule) (s : Beside WithList) (g h : Given) (u w : Beside WithList) → Obeys (add_beside r s) s g u → Obeys (add_beside r s) s h w → Same g h u w
add_beside_determined r s g h u w x y =
    same_whole (add_beside r s) s g h u w x y
    (remaking_fixed (λ v. v.tables) (add_meaning r s.lent) s.lent.tables s.gaps (add_fixed r s.lent))
    (on_conflict_fixed (add_meaning r s.lent) (add_beside r s).asks s.gaps (λ v after. Remade v.tables s.gaps after) (add_conflict_fixed r s.lent))

pub back_beside_determined : (s : Beside Tables) (g h : Given) (u w : Beside Tables) → Obeys (back_beside s) s g u → Obeys (back_beside s) s h w → Same g h u w
back_beside_determined s g h u w x y = determined (back_beside s) s g h u w x y (remaking_fixed (λ v. v) (back_meaning s.lent) s.lent s.gaps (back_fixed s.lent)) (λ a v z. z.0)

pub withdraw_beside_determined : (i : ℕ) (s : Beside Tables) (g h : Given) (u w : Beside Tables) → Obeys (withdraw_beside i s) s g u → Obeys (withdraw_beside i s) s h w → Same g h u w
withdraw_beside_determined i s g h u w x y =
    determined (withdraw_beside i s) s g h u w x y (remaking_fixed (λ v. v) (withdraw_meaning i s.lent) s.lent s.gaps (withdraw_fixed i s.lent)) (λ a v z. z.0)

pub watch_beside_determined : (r : Rule) (s : Beside Tables) (g h : Given) (u w : Beside Tables) → Obeys (watch_beside r s) s g u → Obeys (watch_beside r s) s h w → Same g h u w
watch_beside_determined r s g h u w x y = determined (watch_beside r s) s g h u w x y (leaving_fixed (watch_meaning r s.lent) s.lent s.gaps (watch_fixed r s.lent)) (λ a v z. z.0)

pub mark_beside_determined : (s : Beside Tables) (g h : Given) (u w : Beside Tables) → Obeys (mark_beside s) s g u → Obeys (mark_beside s) s h w → Same g h u w
mark_beside_determined s g h u w x y = determined (mark_beside s) s g h u w x y (leaving_fixed (mark_meaning s.lent) s.lent s.gaps (mark_fixed s.lent)) (λ a v z. z.0)

pub trial_beside_determined : (r : Rule) (s : Beside WithLists) (g h : Given) (u w : Beside WithLists) → Obeys (trial_beside r s) s g u → Obeys (trial_beside r s) s h w → Same g h u w
trial_beside_determined r s g h u w x y =
    same_whole (trial_beside r s) s g h u w x y
    (leaving_fixed (trial_meaning r s.lent) s.lent.tables s.gaps (trial_fixed r s.lent))
    (on_conflict_fixed (trial_meaning r s.lent) (trial_beside r s).asks s.gaps (λ v after. after ≡ s.gaps) (trial_conflict_fixed r s.lent))

pub consequences_beside_determined : (s : Beside WithLists) (g h : Given) (u w : Beside WithLists) → Obeys (consequences_beside s) s g u → Obeys (consequences_beside s) s h w → Same g h u w
consequences_beside_determined s g h u w x y =
    determined (consequences_beside s) s g h u w x y (leaving_fixed (consequences_meaning s.lent) s.lent.tables s.gaps (consequences_fixed s.lent)) (λ a v z. z.0)

pub ring_check_beside_determined : (r : Rule) (s : Beside WithList) (g h : Given) (u w : Beside WithList) → Obeys (ring_check_beside r s) s g u → Obeys (ring_check_beside r s) s h w → Same g h u w
ring_check_beside_determined r s g h u w x y =
    determined (ring_check_beside r s) s g h u w x y (leaving_fixed (ring_check_meaning r s.lent) s.lent.tables s.gaps (ring_check_fixed r s.lent)) (λ a v z. z.0)

pub last_day_beside_determined : (s : Beside Tables) (g h : Given) (u w : Beside Tables) → Obeys (last_day_beside s) s g u → Obeys (last_day_beside s) s h w → Same g h u w
last_day_beside_determined s g h u w x y = determined (last_day_beside s) s g h u w x y (leaving_fixed (last_day_meaning s.lent) s.lent s.gaps (last_day_fixed s.lent)) (λ a v z. z.0)

-- ---- Gap

-- A pair has one limit.
one_limit : {R : ℕ → Rule} {H : ℕ → Type 0} {x y : ℕ} {a b : ℤ} → Limit R H x y a → Limit R H x y b → a ≡ b
one_limit {a = a} {b = b} p q = le_both a b (p.least b q.always) (q.least a p.always)

-- Its two values tell it apart.
up_neg : (b : ℕ) → up (neg_ℤ (pos b)) ≡ 0
up_neg zero = refl
up_neg (suc b) = refl

dn_neg : (b : ℕ) → dn (neg_ℤ (pos b)) ≡ b
dn_neg zero = refl
dn_neg (suc b) = refl

gap_fixed : (x y : ℕ) (t : Tables) → Fixed (gap_meaning x y t)
gap_fixed x y t a b c d u w p q = let both = values p.told q.told in (both.0, both.1, p.all_stays ∙ sym q.all_stays)
  where
    apart : {e f : ℕ} → 1 ≤ f → (pos e ≡ neg_ℤ (pos f)) → ⊥
    apart {e} {f} some is = omega (arith, ap up is, ap dn is, up_neg f, dn_neg f)

    values : {R : ℕ → Rule} {H : ℕ → Type 0} →
        ((a ≡ 0) × (b ≡ 0) × NoLimit R H x y) ⊎ ((a ≡ 1) × Limit R H x y (pos b)) ⊎ ((a ≡ 2) × (1 ≤ b) × Limit R H x y (neg_ℤ (pos b))) →
        ((c ≡ 0) × (d ≡ 0) × NoLimit R H x y) ⊎ ((c ≡ 1) × Limit R H x y (pos d)) ⊎ ((c ≡ 2) × (1 ≤ d) × Limit R H x y (neg_ℤ (pos d))) →
        (a ≡ c) × (b ≡ d)
    values (inl i) (inl j) = (i.0 ∙ sym j.0, i.1 ∙ sym j.1)
    values (inl i) (inr (inl j)) = absurd (i.2 (pos d) j.1.always)
    values (inl i) (inr (inr j)) = absurd (i.2 (neg_ℤ (pos d)) j.2.always)
    values (inr (inl i)) (inl j) = absurd (j.2 (pos b) i.1.always)
    values (inr (inr i)) (inl j) = absurd (j.2 (neg_ℤ (pos b)) i.2.always)
    values (inr (inl i)) (inr (inl j)) = (i.0 ∙ sym j.0, ap up (one_limit i.1 j.1))
    values (inr (inl i)) (inr (inr j)) = absurd (apart j.1 (one_limit i.1 j.2))
    values (inr (inr i)) (inr (inl j)) = absurd (apart i.1 (one_limit j.1 i.2))
    values (inr (inr i)) (inr (inr j)) = (i.0 ∙ sym j.0, sym (dn_neg b) ∙ ap dn (one_limit i.2 j.2) ∙ dn_neg d)

pub gap_beside_determined : (x y : ℕ) (s : Beside Tables) (g h : Given) (u w : Beside Tables) → Obeys (gap_beside x y s) s g u → Obeys (gap_beside x y s) s h w → Same g h u w
gap_beside_determined x y s g h u w p q = determined (gap_beside x y s) s g h u w p q (leaving_fixed (gap_meaning x y s.lent) s.lent s.gaps (gap_fixed x y s.lent)) (λ a v z. z.0)
