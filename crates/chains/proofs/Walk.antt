-- A walk along the chain of a step a: from the head, by the nexts, to 0. Its link always leads to a rule of a, and every rule of a at or
-- above the link has been met.
use Prim.Native.Nat.{ℕ, suc, ◌≤◌, ◌<◌}
use native.Mathlib.Omega.{arith}
use native.Mathlib.Decide.{ℕ_discrete, dec_lt}
use mathlib.Core.Path.{◌≡◌, subst, sym, ◌∙◌}
use mathlib.Core.List.{List}
use Rattle.meaning.specs.Tables.{at}
use Rattle.chains.specs.Chains.{top, ChainsOf}

-- The link leads to a rule of a that H holds of, or is 0.
pub record Link (H : ℕ → Type 0) (xs : List ℕ) (a link : ℕ) : Type 0 where
  pub held : (k : ℕ) → link ≡ suc k → H k
  pub own : (k : ℕ) → link ≡ suc k → at xs k ≡ a

-- Every rule of a that H holds of and that ranks at or above the link has P.
abbrev pub Met : (ℕ → Type 0) → (ℕ → Type 0) → (ℕ → ℕ) → List ℕ → ℕ → ℕ → Type 0
Met P H rank xs a link = (k : ℕ) → H k → top rank link ≤ rank k → at xs k ≡ a → P k

module _ (n : ℕ) (H : ℕ → Type 0) (rank : ℕ → ℕ) (xs heads nexts : List ℕ) (ch : ChainsOf n H rank xs heads nexts) where
  -- The walk begins at the head, with nothing to have met.
  pub link_head : (a : ℕ) → a < n → Link H xs a (at heads a)
  link_head a h = record { held = λ k e. ch.head_held a k h e; own = λ k e. ch.head_own a k h e }

  pub met_head : (P : ℕ → Type 0) (a : ℕ) → a < n → Met P H rank xs a (at heads a)
  met_head P a h k held above own = absurd (omega (arith, ch.head_newest a k h held own, above))

  -- From rule k it goes on at the next of k, and rule k has been met too.
  pub link_next : (a k : ℕ) → H k → at xs k ≡ a → Link H xs a (at nexts k)
  link_next a k h own = record { held = λ j e. ch.next_held k j h e; own = λ j e. ch.next_own k j h e ∙ own }

  -- A rule of the step that ranks at or above the next of k, and is not k, ranks above k.
  pub above_next : (k j : ℕ) → H k → H j → at xs j ≡ at xs k → (j ≡ k → ⊥) → top rank (at nexts k) ≤ rank j → top rank (suc k) ≤ rank j
  above_next k j h held own apart above = by_rank (dec_lt (rank j) (rank k)) (ℕ_discrete (rank j) (rank k))
    where
      by_rank : Dec (rank j < rank k) → Dec (rank j ≡ rank k) → suc (rank k) ≤ rank j
      by_rank (yes l) same? = absurd (omega (arith, ch.next_newest k j h held l own, above))
      by_rank (no l) (yes same) = absurd (apart (ch.ranks_differ j k held h same))
      by_rank (no l) (no other) = omega (arith, l, other)

  pub met_next : (P : ℕ → Type 0) (a k : ℕ) → H k → at xs k ≡ a → Met P H rank xs a (suc k) → P k → Met P H rank xs a (at nexts k)
  met_next P a k h own met here j held above of_a = by_place (ℕ_discrete j k)
    where
      by_place : Dec (j ≡ k) → P j
      by_place (yes e) = subst P (sym e) here
      by_place (no apart) = met j held (above_next k j h held (of_a ∙ sym own) apart above) of_a
