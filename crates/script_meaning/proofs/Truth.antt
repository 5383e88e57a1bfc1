-- A term holds exactly when the rules of its atoms are kept: an operator says what its rule says, a rule's negation is kept exactly when the rule is not, and since
-- keeping rules can be told, two negations cancel.
use Prim.Native.Nat.{ℕ, ◌+◌, ◌≤◌, ◌<◌}
use native.Mathlib.Omega.{arith}
use native.Mathlib.Decide.{dec_le}
use mathlib.Core.Path.{◌≡◌}
use mathlib.Core.Bool.{Bool, true, false, true≢false}
use mathlib.Core.List.{List, [], ◌∷◌, ◌++◌}
use mathlib.Core.Logic.Iff
use mathlib.Core.Logic.{◌↔◌}
use lib.IntN.{ℤ, pos, neg_ℤ, ◌-ℤ◌}
use lib.Signed.{◌≤ℤ◌, ◌<ℤ◌}
use Rattle.meaning.specs.Reckoning.{up, dn}
use Rattle.meaning.proofs.Whole.{le→, →le, lt→, →lt, minus_is, up_neg, dn_neg}
use Rattle.text.specs.Lexicon.{same_bytes}
use Rattle.words.specs.Words.{W_at_most, W_below, W_at_least}
use Rattle.reading.specs.Tree.{Term, amount_of, Named, named, negated, either_rule, said, rules_of_term, Supported}
use Rattle.script_meaning.specs.Terms.{either_type, Compared, Holds, KeptBy, AllKept}

-- A difference of x and y, and an amount c.
module _ (x y c : ℤ) where
  abbrev less : ℤ
  less = c -ℤ pos 1

  abbrev turned : ℤ → ℤ
  turned a = neg_ℤ a -ℤ pos 1

  below : ((x -ℤ y) ≤ℤ less) ↔ ((x -ℤ y) <ℤ c)
  below = (
    λ h. →lt (x -ℤ y) c (omega (arith, le→ (x -ℤ y) less h, minus_is c (pos 1))),
    λ h. →le (x -ℤ y) less (omega (arith, lt→ (x -ℤ y) c h, minus_is c (pos 1))),
  )

  above : ((y -ℤ x) ≤ℤ turned c) ↔ (c <ℤ (x -ℤ y))
  above = (
    λ h. →lt c (x -ℤ y) (omega (arith, le→ (y -ℤ x) (turned c) h, minus_is (neg_ℤ c) (pos 1), up_neg c, dn_neg c, minus_is x y, minus_is y x)),
    λ h. →le (y -ℤ x) (turned c) (omega (arith, lt→ c (x -ℤ y) h, minus_is (neg_ℤ c) (pos 1), up_neg c, dn_neg c, minus_is x y, minus_is y x)),
  )

  at_least : ((y -ℤ x) ≤ℤ turned less) ↔ (c ≤ℤ (x -ℤ y))
  at_least = (
    λ h. →le c (x -ℤ y) (omega (arith, le→ (y -ℤ x) (turned less) h, minus_is (neg_ℤ less) (pos 1), up_neg less, dn_neg less, minus_is c (pos 1), minus_is x y, minus_is y x)),
    λ h. →le (y -ℤ x) (turned less) (omega (arith, le→ c (x -ℤ y) h, minus_is (neg_ℤ less) (pos 1), up_neg less, dn_neg less, minus_is c (pos 1), minus_is x y, minus_is y x)),
  )

  -- Whether the difference is at most the amount can be told, and it is not exactly when the negation's is.
  tell : Dec ((x -ℤ y) ≤ℤ c)
  tell = by_order (dec_le _ _)
    where
      by_order : Dec (up (x -ℤ y) + dn c ≤ up c + dn (x -ℤ y)) → Dec ((x -ℤ y) ≤ℤ c)
      by_order (yes h) = yes (→le (x -ℤ y) c h)
      by_order (no n) = no (λ h. n (le→ (x -ℤ y) c h))

  not_at_most : ((y -ℤ x) ≤ℤ turned c) ↔ (((x -ℤ y) ≤ℤ c) → ⊥)
  not_at_most = (
    λ h k. omega (arith, lt→ c (x -ℤ y) (above.0 h), le→ (x -ℤ y) c k),
    λ n. above.1 (→lt c (x -ℤ y) (apart (dec_le _ _) n)),
  )
    where
      apart : Dec (up (x -ℤ y) + dn c ≤ up c + dn (x -ℤ y)) → (((x -ℤ y) ≤ℤ c) → ⊥) → up c + dn (x -ℤ y) < up (x -ℤ y) + dn c
      apart (yes h) n = absurd (n (→le (x -ℤ y) c h))
      apart (no m) n = omega arith

module _ (d : List ℕ → ℤ) where
  -- An operator says what its rule says.
  said_kept : (w x y : List ℕ) (c : ℤ) → KeptBy d (said w x y c) ↔ Compared w (d x -ℤ d y) c
  said_kept w x y c = by_word (same_bytes w W_at_most) (same_bytes w W_below) (same_bytes w W_at_least)
    where
      by_word :
          (m b l : Bool) →
          KeptBy d
          (either_rule m (named x y c)
          (either_rule b (named x y (c -ℤ pos 1)) (either_rule l (negated (named x y (c -ℤ pos 1))) (negated (named x y c)))))
          ↔ either_type m ((d x -ℤ d y) ≤ℤ c)
          (either_type b ((d x -ℤ d y) <ℤ c) (either_type l (c ≤ℤ (d x -ℤ d y)) (c <ℤ (d x -ℤ d y))))
      by_word true b l = (λ h. h, λ h. h)
      by_word false true l = below (d x) (d y) c
      by_word false false true = at_least (d x) (d y) c
      by_word false false false = above (d x) (d y) c

  -- A rule's negation is kept exactly when the rule is not.
  negated_kept : (r : Named) → KeptBy d (negated r) ↔ (KeptBy d r → ⊥)
  negated_kept r = not_at_most (d r.first) (d r.second) r.amount

  -- Rules one after the other.
  pub all_kept : (k l : List Named) → AllKept d (k ++ l) ↔ (AllKept d k × AllKept d l)
  all_kept [] l = (λ h. (tt, h), λ h. h.1)
  all_kept (r ∷ k) l =
      let rest = all_kept k l in
      (λ h. ((h.0, (rest.0 h.1).0), (rest.0 h.1).1), λ h. (h.0.0, rest.1 (h.0.1, h.1)))

  kept_told : (l : List Named) → Dec (AllKept d l)
  kept_told [] = yes tt
  kept_told (r ∷ l) = both_told (tell (d r.first) (d r.second) r.amount) (kept_told l)
    where
      both_told : Dec (KeptBy d r) → Dec (AllKept d l) → Dec (KeptBy d r × AllKept d l)
      both_told (yes h) (yes k) = yes (h, k)
      both_told (yes h) (no k) = no (λ b. k b.1)
      both_told (no h) k = no (λ b. h b.0)

  -- A under an odd number of `not` or not.
  abbrev Turned : Bool → Type 0 → Type 0
  Turned true A = A → ⊥
  Turned false A = A

  cancel : (l : List Named) (A : Type 0) → AllKept d l ↔ A → AllKept d l ↔ ((A → ⊥) → ⊥)
  cancel l A e = (λ h n. n (e.0 h), λ n. by-rules n (kept_told l))
    where
      by-rules : ((A → ⊥) → ⊥) → Dec (AllKept d l) → AllKept d l
      by-rules n (yes h) = h
      by-rules n (no m) = absurd (n (λ a. m (e.1 a)))

  -- Of two terms under an even number of `not`.
  both_hold :
      (t u : Term) (odd : Bool) → odd ≡ false → AllKept d (rules_of_term odd t) ↔ Turned odd (Holds t d) → AllKept d (rules_of_term odd u) ↔ Turned odd (Holds u d) →
      AllKept d (rules_of_term odd t ++ rules_of_term odd u) ↔ Turned odd (Holds t d × Holds u d)
  both_hold t u true even first second = absurd (true≢false even)
  both_hold t u false even first second = Iff.trans (all_kept (rules_of_term false t) (rules_of_term false u)) (Iff.and first second)

  turned_holds : (t : Term) (odd : Bool) → Supported odd t → AllKept d (rules_of_term odd t) ↔ Turned odd (Holds t d)
  turned_holds (Term.atom w x y c) true h =
      let is = said_kept w x.letters y.letters (amount_of c) in
      let opposite = negated_kept (said w x.letters y.letters (amount_of c)) in
      (λ k a. opposite.0 k.0 (is.1 a), λ n. (opposite.1 (λ k. n (is.0 k)), tt))
  turned_holds (Term.atom w x y c) false h = let is = said_kept w x.letters y.letters (amount_of c) in (λ k. is.0 k.0, λ a. (is.1 a, tt))
  turned_holds (Term.negation t) true h = cancel (rules_of_term false t) (Holds t d) (turned_holds t false h)
  turned_holds (Term.negation t) false h = turned_holds t true h
  turned_holds (Term.conjunction t u) odd h = both_hold t u odd h.0 (turned_holds t odd h.1.0) (turned_holds u odd h.1.1)
  turned_holds (Term.also t u) odd h = both_hold t u odd h.0 (turned_holds t odd h.1.0) (turned_holds u odd h.1.1)

-- The rules of a term are kept by d exactly when the term holds under d.
pub term_holds : (t : Term) (d : List ℕ → ℤ) → Supported false t → AllKept d (rules_of_term false t) ↔ Holds t d
term_holds t d h = turned_holds d t false h
