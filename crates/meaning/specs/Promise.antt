-- The form that every promise has: what a call needs, in order, and what it leaves when it is done, on conflict, and refused.
use Rattle.std.specs.Prelude.{ℕ, zero, suc, ◌+◌, ◌≤◌, ◌<◌, ◌≡◌, List, [], ◌∷◌, Bool, cond, ◌⊎◌, eqb, length, take, Result, Ok, Err}
use Rattle.meaning.specs.declared.Refusal.{Refusal}
use Rattle.meaning.specs.declared.Lengths.{Lengths}
use Rattle.meaning.specs.declared.Counts.{Counts}
use Rattle.meaning.specs.declared.Added.{Added}
use Rattle.meaning.specs.Bounds.{DONE, CONFLICT}
use Rattle.meaning.specs.Refusals.{number_of, ring_of}
use Rattle.meaning.specs.Rules.{Rule, All, Earliest}
use Rattle.meaning.specs.Tables.{at}

-- What is given back: the answer's number and its two values.
pub record Given : Type 0 where
  pub number : ℕ
  pub one : ℕ
  pub two : ℕ

-- A number with no values.
abbrev pub bare : ℕ → Given
bare k = record { number = k; one = 0; two = 0 }

-- A number with two values.
abbrev pub gave : ℕ → ℕ → ℕ → Given
gave k a b = record { number = k; one = a; two = b }

-- The number of an answer: DONE where the call was carried out, else that of the refusal.
abbrev pub number_told : {A : Type 0} → Result A Refusal → ℕ
number_told (Ok a) = DONE
number_told (Err r) = number_of r

-- The value of an answer that tells one number: on a conflict the ring's length, and 0 on any other refusal.
abbrev pub value_told : Result ℕ Refusal → ℕ
value_told (Ok a) = a
value_told (Err r) = ring_of r

-- The value of an answer that tells yes or no: 1 is yes.
abbrev pub verdict_told : Result Bool Refusal → ℕ
verdict_told (Ok b) = cond b 1 0
verdict_told (Err r) = 0

-- The counts after a call: those that it gives back where it was carried out, else those before it.
abbrev pub counts_told : Counts → Result Counts Refusal → Counts
counts_told before (Ok after) = after
counts_told before (Err r) = before

abbrev pub counts_added : Counts → Result Added Refusal → Counts
counts_added before (Ok a) = a.counts
counts_added before (Err r) = before

-- What is given back by an answer that tells nothing, one that tells a number, that of Add, one that tells yes or no, and one that tells two lengths.
abbrev pub given : {A : Type 0} → Result A Refusal → Given
given r = bare (number_told r)

abbrev pub given_value : Result ℕ Refusal → Given
given_value r = gave (number_told r) (value_told r) 0

abbrev pub given_added : Result Added Refusal → Given
given_added (Ok a) = gave DONE a.moved 0
given_added (Err r) = gave (number_of r) (ring_of r) 0

abbrev pub given_verdict : Result Bool Refusal → Given
given_verdict r = gave (number_told r) (verdict_told r) 0

abbrev pub given_lengths : Result Lengths Refusal → Given
given_lengths (Ok l) = gave DONE l.held l.excluded
given_lengths (Err r) = bare (number_of r)

-- Something a call needs, and the number given where it is the first that is not met.
pub record Need : Type 1 where
  pub number : ℕ
  pub met : Type 0

abbrev pub needs : ℕ → Type 0 → Need
needs k P = record { number = k; met = P }

-- g is the number of the first need that is not met, and DONE where all are met.
abbrev pub First : List Need → ℕ → Type 0
First [] g = g ≡ DONE
First (n ∷ l) g = ((g ≡ n.number) × (n.met → ⊥)) ⊎ (n.met × First l g)

-- What a call means, on one input. S is all that is lent to it.
-- `done a b after`: carried out, it may give the values a and b and leave `after`. `conflict a after`: on CONFLICT, with the value a.
pub record Meaning (S : Type 0) : Type 1 where
  pub asks : List Need
  pub done : ℕ → ℕ → S → Type 0
  pub conflict : ℕ → S → Type 0

-- A promise is kept: the number is that of the first need not met; a call that is carried out, or meets a conflict, does what its meaning
-- says; every other refusal gives 0 and 0 and changes nothing that was lent.
pub record Obeys {S : Type 0} (m : Meaning S) (before : S) (g : Given) (after : S) : Type 0 where
  pub first_unmet : First m.asks g.number
  pub when_done : g.number ≡ DONE → m.done g.one g.two after
  pub on_conflict : g.number ≡ CONFLICT → m.conflict g.one after × (g.two ≡ 0)
  pub when_refused : (g.number ≡ DONE → ⊥) → (g.number ≡ CONFLICT → ⊥) → (g ≡ bare g.number) × (after ≡ before)

-- A call that knows no conflict.
abbrev pub no_conflict : {S : Type 0} → ℕ → S → Type 0
no_conflict a after = ⊥

-- From place k on the list is as before, and it is as long as before.
pub record Past (k : ℕ) (before after : List ℕ) : Type 0 where
  pub same_length : length after ≡ length before
  pub kept : (i : ℕ) → k ≤ i → at after i ≡ at before i

-- The list's first k places now hold a list that has P; k is within the list, and the places past k keep what they had.
pub record Filled (k : ℕ) (P : List ℕ → Type 0) (before after : List ℕ) : Type 0 where
  pub within : k ≤ length before
  pub holds : P (take k after)
  pub past : Past k before after

-- The list's first n places now hold the earliest plan; the places past n keep what they had.
pub record Planned (n : ℕ) (R : ℕ → Rule) (H : ℕ → Type 0) (before after : List ℕ) : Type 0 where
  pub earliest : Earliest n R H (at after)
  pub past : Past n before after

-- How many of the first n places differ.
abbrev pub moved : ℕ → List ℕ → List ℕ → ℕ
moved zero a b = 0
moved (suc n) a b = moved n a b + cond (eqb (at a n) (at b n)) 0 1

-- The number stands in the list.
abbrev pub In : ℕ → List ℕ → Type 0
In j [] = ⊥
In j (a ∷ l) = (j ≡ a) ⊎ In j l

-- Each number of the list is below every later one.
abbrev pub Rising : List ℕ → Type 0
Rising [] = Unit {0}
Rising (a ∷ l) = All (λ b. a < b) l × Rising l

-- The list holds exactly the numbers below n that have P, each once, rising.
pub record Exactly (P : ℕ → Type 0) (n : ℕ) (l : List ℕ) : Type 0 where
  pub rising : Rising l
  pub nothing_else : All (λ j. (j < n) × P j) l
  pub all_there : (j : ℕ) → j < n → P j → In j l
