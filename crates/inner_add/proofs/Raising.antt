-- Writing the days with their gains, step by step: what one more step adds to what is written and counted.
use Prim.Native.Nat.{ℕ, zero, suc, ◌+◌, ◌<◌}
use native.Mathlib.Omega.{arith}
use native.Mathlib.Numerals.{add-one}
use native.Mathlib.Decide.{ℕ_discrete}
use mathlib.Core.Path.{◌≡◌, refl, sym, ◌∙◌, ap, subst}
use mathlib.Core.List.{List}
use lib.ListN.{length, set, length-set}
use lib.Seq.{get_or-set_same, get_or-set_other}
use borrow.Author.Tests.{eq-eqb, ne_eqb}
use Rattle.meaning.specs.Tables.{at}
use Rattle.meaning.specs.Promise.{Past, moved}
use Rattle.meaning.proofs.Lists.{moved_same}
use Rattle.inner_add.specs.Planning.{Raised}

-- Nothing is written yet.
pub raised_none : (days gains list : List ℕ) → Raised 0 days gains list list 0
raised_none days gains list = record { each = λ v h. absurd (omega arith); past = record { same_length = refl; kept = λ i h. refl }; count = refl }

-- One step more differs, or it does not.
moved_one : (v : ℕ) (days list : List ℕ) (k : ℕ) → (at days v ≡ at list v → ⊥) → k ≡ moved v days list → k + 1 ≡ moved (v + 1) days list
moved_one v days list k differs e = rw (add-one v, ne_eqb (at days v) (at list v) differs) (ap (λ z. z + 1) e)

moved_none : (v : ℕ) (days list : List ℕ) (k : ℕ) → at days v ≡ at list v → k ≡ moved v days list → k ≡ moved (v + 1) days list
moved_none v days list k same e = rw (add-one v, eq-eqb (at days v) (at list v) same) (omega (arith, e))

-- No step differs from itself.
pub moved_self : (n : ℕ) (days : List ℕ) → 0 ≡ moved n days days
moved_self zero days = refl
moved_self (suc n) days = rw (eq-eqb (at days n) (at days n) refl) (omega (arith, moved_self n days))

module _ (days gains before list : List ℕ) (v count : ℕ) (place : v < length before) (r : Raised v days gains before list count) where
  -- Step v is written.
  written : List ℕ
  written = set list v (at days v + at gains v)

  there : at written v ≡ at days v + at gains v
  unfolding written
  there = get_or-set_same list v (at days v + at gains v) 0 (omega (arith, r.past.same_length))

  other : (i : ℕ) → (i ≡ v → ⊥) → at written i ≡ at list i
  unfolding written
  other i n = get_or-set_other list v i (at days v + at gains v) 0 n

  each_next : (i : ℕ) → i < v + 1 → at written i ≡ at days i + at gains i
  each_next i h = tell (ℕ_discrete i v)
    where
      tell : Dec (i ≡ v) → at written i ≡ at days i + at gains i
      tell (yes e) = subst (λ z. at written z ≡ at days z + at gains z) (sym e) there
      tell (no n) = other i n ∙ r.each i (omega arith)

  past_next : Past (v + 1) before written
  unfolding written
  past_next = record { same_length = length-set list v (at days v + at gains v) ∙ r.past.same_length; kept = λ i h. other i (λ e. omega arith) ∙ r.past.kept i (omega arith) }

  count_before : count ≡ moved v days written
  count_before = r.count ∙ moved_same v days days list written (λ i h. refl) (λ i h. sym (other i (λ e. omega arith)))

  pub raised_more : 0 < at gains v → Raised (v + 1) days gains before (set list v (at days v + at gains v)) (count + 1)
  unfolding written
  raised_more some = record { each = each_next; past = past_next; count = moved_one v days written count (λ e. omega (arith, there, e)) count_before }

  pub raised_same : at gains v ≡ 0 → Raised (v + 1) days gains before (set list v (at days v + at gains v)) count
  unfolding written
  raised_same none = record { each = each_next; past = past_next; count = moved_none v days written count (omega (arith, there)) count_before }
