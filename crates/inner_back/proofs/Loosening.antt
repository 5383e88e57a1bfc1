-- A rule that has days to spare can go, and the earliest plan stays what it is: where another plan of the rest had some lower days, the days of the plan could be
-- lowered there, with every rule kept.
use Prim.Native.Nat.{ℕ, ◌+◌, ◌≤◌, ◌<◌}
use native.Mathlib.Omega.{arith}
use native.Mathlib.Decide.{dec_lt}
use mathlib.Core.Path.{◌≡◌}
use mathlib.Core.Bool.{Bool, true, false}
use mathlib.Core.Logic.{◌⊎◌, inl, inr}
use lib.Dec.{ltb}
use lib.IntN.{pos}
use borrow.Author.Tests.{lt-ltb, ltb-true, ltb-false}
use Rattle.meaning.specs.Rules.{Rule, Keeps, Plan, Earliest}
use Rattle.meaning.specs.Reckoning.{up, dn}
use Rattle.meaning.proofs.Whole.{plan→}
use Rattle.meaning.proofs.Lowering.{lowered_keeps, nothing_lowers}

-- The days p leave the rule something to spare.
abbrev pub Loose : (ℕ → ℕ) → Rule → Type 0
Loose p r = p r.first + dn r.amount < p r.second + up r.amount

-- The steps that have a lower day in q than in p.
abbrev lower : (ℕ → ℕ) → (ℕ → ℕ) → ℕ → Bool
lower p q v = ltb (q v) (p v)

lower_above : (p q : ℕ → ℕ) (v : ℕ) → lower p q v ≡ true → 1 ≤ p v
lower_above p q v is = omega (arith, ltb-true (q v) (p v) is)

-- A rule that q keeps has something to spare in p where only its second step has a lower day in q.
lower_spare :
    (p q : ℕ → ℕ) (r : Rule) → Keeps (λ v. pos (q v)) r → lower p q r.second ≡ true → lower p q r.first ≡ false → Loose p r
lower_spare p q r kept second first =
    omega (arith, plan→ q r kept, ltb-true (q r.second) (p r.second) second, ltb-false (q r.first) (p r.first) first)

-- Of the rules that H holds of, those stay that G holds of, and those that go have days to spare.
pub loose_go :
    (n : ℕ) (R : ℕ → Rule) (H G : ℕ → Type 0) (p : ℕ → ℕ) → Earliest n R H p → ((i : ℕ) → G i → H i) → ((i : ℕ) → H i → G i ⊎ Loose p (R i)) → Earliest n R G p
loose_go n R H G p earliest stay go = record { plan = λ i g. earliest.plan i (stay i g); no_later = no_later }
  where
    spare : (q : ℕ → ℕ) → Plan R G q → (i : ℕ) → G i ⊎ Loose p (R i) → lower p q (R i).second ≡ true → lower p q (R i).first ≡ false → Loose p (R i)
    spare q plan i (inl g) = lower_spare p q (R i) (plan i g)
    spare q plan i (inr loose) = λ second first. loose

    no_later : (q : ℕ → ℕ) → Plan R G q → (v : ℕ) → v < n → p v ≤ q v
    no_later q plan v below = tell (dec_lt (q v) (p v))
      where
        tell : Dec (q v < p v) → p v ≤ q v
        tell (no h) = omega arith
        tell (yes h) =
            absurd (nothing_lowers n R H p earliest (lower p q)
            (λ i held. lowered_keeps (lower p q) p (R i) (earliest.plan i held) (lower_above p q (R i).first) (spare q plan i (go i held)))
            (λ w w-in. lower_above p q w) v below (lt-ltb (q v) (p v) h))
