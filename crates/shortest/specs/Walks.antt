-- Walks of held rules to a step x, and what they spend. `R i` is the rule under number i, `H i` says that it is held, and `w i` is what it has to spare.
use Rattle.std.specs.Prelude.{ℕ, zero, suc, ◌+◌, ◌-◌, ◌<◌, ◌≡◌, List, [], ◌∷◌, ◌⊎◌, length}
use Rattle.meaning.specs.Rules.{Rule, Leads, All, Before}
use Rattle.meaning.specs.Reckoning.{up, dn}

-- How many days the rule under i, which the days p keep, has to spare.
abbrev pub spare : (ℕ → Rule) → (ℕ → ℕ) → ℕ → ℕ
spare R p i = p (R i).second + up (R i).amount - (p (R i).first + dn (R i).amount)

-- What the rules of the list have to spare, added up.
abbrev pub spent : (ℕ → ℕ) → List ℕ → ℕ
spent w [] = 0
spent w (i ∷ l) = w i + spent w l

-- The list leads over held rules from step v to step x, has h rules, and spends less than the bound.
pub record Way (R : ℕ → Rule) (H : ℕ → Type 0) (w : ℕ → ℕ) (x v h bound : ℕ) (l : List ℕ) : Type 0 where
  pub leads : Leads R l v x
  pub held : All H l
  pub long : length l ≡ h
  pub below : spent w l < bound

-- The list is such a way, and every other one is after it.
pub record Least (R : ℕ → Rule) (H : ℕ → Type 0) (w : ℕ → ℕ) (x v h bound : ℕ) (l : List ℕ) : Type 0 where
  pub way : Way R H w x v h bound l
  pub others_after : (o : List ℕ) → Way R H w x v h bound o → (o ≡ l) ⊎ Before l o

-- There is such a way.
abbrev pub Open : (ℕ → Rule) → (ℕ → Type 0) → (ℕ → ℕ) → ℕ → ℕ → ℕ → ℕ → Type 0
Open R H w x v h bound = (l : List ℕ) × Way R H w x v h bound l

-- The c numbers from place j on.
abbrev pub part : (ℕ → ℕ) → ℕ → ℕ → List ℕ
part f j zero = []
part f j (suc c) = f j ∷ part f (suc j) c
