-- What is said of the rules on chains and the days that go with them, where these are lent as one.
use Rattle.std.specs.Prelude.{ℕ, List, ℤ}
use Rattle.chains.specs.declared.Held.{Held}
use Rattle.chains.specs.Chains.{number, linked}

-- What P says of the rules on the chains, of their columns and of the days.
abbrev pub of_held : {A : Type 1} → ((ℕ → Type 0) → List ℕ → List ℕ → List ℤ → List ℕ → A) → Held → A
of_held P h = P (linked h.nexts.now) h.rules.xs.now h.rules.ys.now h.rules.cs.now h.days.now

-- The same of the chains too.
abbrev pub of_chains : {A : Type 1} → ((ℕ → Type 0) → (ℕ → ℕ) → List ℕ → List ℕ → List ℤ → List ℕ → List ℕ → List ℕ → A) → Held → A
of_chains P h = P (linked h.nexts.now) number h.rules.xs.now h.rules.ys.now h.rules.cs.now h.days.now h.heads.now h.nexts.now
