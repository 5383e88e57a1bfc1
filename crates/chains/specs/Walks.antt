-- What a walk along a chain gives, one rule after the other.
use Rattle.std.specs.Prelude.{ℕ, suc, ◌≡◌, Option}
use Rattle.std.specs.Option.{MatchOption}
use Rattle.meaning.specs.Tables.{at}
use Rattle.chains.specs.declared.Links.{Links}

-- At the chain's end it gives none; else the rule that the link leads to, and goes on at that rule's own link.
abbrev pub Follows : Links → Option ℕ → Links → Type 0
Follows s r t = (t.nexts ≡ s.nexts) × MatchOption r ((s.link ≡ 0) × (t.link ≡ 0)) (λ i. (s.link ≡ suc i) × (t.link ≡ at s.nexts.now i))
