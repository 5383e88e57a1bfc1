-- Layers: layer h has for each step the least that h held rules spend from it to x, as far as that is below t.
use Rattle.std.specs.Prelude.{ℕ, suc, ◌+◌, ◌≤◌, ◌<◌, ◌≡◌, List}
use Rattle.meaning.specs.Rules.{Rule}
use Rattle.shortest.specs.Walks.{spent, Way, Open}

-- Steps have depths d: a rule held that has less than t to spare leads to a step that lies no deeper than one below its first step.
abbrev pub Deep : (ℕ → Rule) → (ℕ → Type 0) → (ℕ → ℕ) → ℕ → (ℕ → ℕ) → Type 0
Deep R H w t d = (i : ℕ) → H i → w i < t → d (R i).second ≤ suc (d (R i).first)

-- f is layer h over n steps, for ways of at most g rules in all: a value below t is spent by a way of h rules from its step, and no way of h rules spends less from a
-- step that lies no deeper than leaves h of the g rules.
pub record Layer (n : ℕ) (R : ℕ → Rule) (H : ℕ → Type 0) (w d : ℕ → ℕ) (g x t h : ℕ) (f : ℕ → ℕ) : Type 0 where
  pub reached : (v : ℕ) → v < n → f v < t → Open R H w x v h (suc (f v))
  pub least : (v : ℕ) → v < n → d v + h ≤ g → (l : List ℕ) → Way R H w x v h t l → f v ≤ spent w l

-- f has 0 for x, and t for every other step below n.
pub record Begun (n x t : ℕ) (f : ℕ → ℕ) : Type 0 where
  pub here : f x ≡ 0
  pub elsewhere : (v : ℕ) → v < n → (v ≡ x → ⊥) → f v ≡ t

-- Rule i is held, leads from step v, and stays with what f has for its second step below the bound.
pub record Fitting (R : ℕ → Rule) (H : ℕ → Type 0) (w f : ℕ → ℕ) (v bound i : ℕ) : Type 0 where
  pub held : H i
  pub own : (R i).first ≡ v
  pub below : w i + f (R i).second < bound

-- g follows f: its values below t come by a rule each, and each rule that P holds of lowers the value of its first step.
pub record Follows (P : ℕ → Type 0) (n : ℕ) (R : ℕ → Rule) (H : ℕ → Type 0) (w : ℕ → ℕ) (t : ℕ) (f g : ℕ → ℕ) : Type 0 where
  pub comes : (v : ℕ) → v < n → g v < t → (i : ℕ) × Fitting R H w f v (suc (g v)) i
  pub lowered : (i : ℕ) → H i → P i → w i + f (R i).second < t → g (R i).first ≤ w i + f (R i).second

-- All rules held lower it whose first step lies no deeper than the limit.
abbrev pub Next : ℕ → (ℕ → Rule) → (ℕ → Type 0) → (ℕ → ℕ) → (ℕ → ℕ) → ℕ → ℕ → (ℕ → ℕ) → (ℕ → ℕ) → Type 0
Next n R H w d limit = Follows (λ i. d (R i).first ≤ limit) n R H w

-- Of the rules that do, i has the lowest number.
pub record Lowest (R : ℕ → Rule) (H : ℕ → Type 0) (w f : ℕ → ℕ) (v bound i : ℕ) : Type 0 where
  pub fits : Fitting R H w f v bound i
  pub lowest : (j : ℕ) → Fitting R H w f v bound j → i ≤ j
