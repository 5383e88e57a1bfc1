-- What a new rule needs to be held: the rules and days, their chains, and a place.
use Rattle.std.specs.Prelude.{ℕ, ◌<◌, List, ℤ}
use Rattle.meaning.specs.Bounds.{RULES}
use Rattle.meaning.specs.Rules.{InBounds, rule}
use Rattle.inner_add.specs.Planning.{Base}

-- The rule x, y, c is within bounds, and the number k is free for it. H says which numbers are held.
pub record Holdable (n : ℕ) (H : ℕ → Type 0) (order : ℕ → ℕ) (k : ℕ) (xs ys : List ℕ) (cs : List ℤ) (days heads nexts : List ℕ) (x y : ℕ) (c : ℤ) : Type 0 where
  pub base : Base n H order xs ys cs days heads nexts
  pub new_good : InBounds n (rule x y c)
  pub free : H k → ⊥
  pub not_full : k < RULES
