-- No text is given SHORT, DAMAGED or CONFLICT: none of its needs has one of these numbers.
use Prim.Native.Nat.{ℕ}
use native.Mathlib.Omega.{arith}
use mathlib.Core.Path.{◌≡◌, sym, ◌∙◌, subst}
use mathlib.Core.List.{List}
use mathlib.Core.Logic.{◌⊎◌, inl, inr}
use lib.Dec.{T}
use Rattle.meaning.specs.Bounds.{DONE, SHORT, DAMAGED, CONFLICT}
use Rattle.meaning.specs.Promise.{First}
use Rattle.reading.specs.Tree.{Command}
use Rattle.reading.specs.Reading.{Why, Read, reading}
use Rattle.script_meaning.specs.Record.{Lent}
use Rattle.script_meaning.specs.Commands.{read_needs, text_needs}
use Rattle.script_meaning.proofs.Needed.{refuses, all_refuse, first_refuses, command_refuse}

read_refuse : (r : Read Command) (l : Lent) → T (all_refuse (read_needs r l))
read_refuse (Read.got c e) l = command_refuse c l
read_refuse (Read.stop Why.other i) l = tt
read_refuse (Read.stop Why.wrong i) l = tt
read_refuse (Read.stop Why.size i) l = tt

module _ (text : List ℕ) (l : Lent) (g : ℕ) (first : First (text_needs text l) g) where
  -- The number is no k that is neither DONE nor the number of such a need.
  never : (k : ℕ) → (k ≡ DONE → ⊥) → (T (refuses k) → ⊥) → g ≡ k → ⊥
  never k some other is = tell (first_refuses (text_needs text l) g (read_refuse (reading text) l) first)
    where
      tell : (g ≡ DONE) ⊎ T (refuses g) → ⊥
      tell (inl done) = some (sym is ∙ done)
      tell (inr such) = other (subst (λ (n : ℕ). T (refuses n)) is such)

  pub never_short : g ≡ SHORT → ⊥
  never_short = never SHORT (λ e. omega arith) (λ h. h)

  pub never_damaged : g ≡ DAMAGED → ⊥
  never_damaged = never DAMAGED (λ e. omega arith) (λ h. h)

  pub never_conflict : g ≡ CONFLICT → ⊥
  never_conflict = never CONFLICT (λ e. omega arith) (λ h. h)
