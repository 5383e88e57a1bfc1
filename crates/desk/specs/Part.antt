-- The part of a list that is handed back after Trial.
use Rattle.std.specs.Prelude.{ℕ, ◌≡◌, List, [], length, take, Result, Ok, Err}
use Rattle.meaning.specs.declared.Refusal.{Refusal}
use Rattle.meaning.specs.declared.Added.{Added}
use Rattle.meaning.specs.Bounds.{DONE, CONFLICT}
use Rattle.meaning.specs.Rules.{Rule, Earliest, Reason}
use Rattle.meaning.specs.Tables.{Tables, at}
use Rattle.meaning.specs.Promise.{Given, number_told, given_added}
use Rattle.meaning.specs.Calls.{rules_of, held_in, next_in, rules_and, held_and}

-- The part starts where the list starts and holds its first k places; all of it where the list has no more.
pub record PartOf {P : Type 0} (list-start : P) (list : List ℕ) (k : ℕ) (start : P) (part : List ℕ) : Type 0 where
  pub same_start : start ≡ list-start
  pub holds : part ≡ take k list

-- How many steps the counts have that a Trial gave back; none where it was refused.
abbrev pub steps_told : Result Added Refusal → ℕ
steps_told (Ok tried) = tried.counts.steps
steps_told (Err refusal) = 0

-- The part handed back after a Trial that gave this answer and left these lists: where it was carried out, of list one a place for each step; else of list two as many
-- places as the value says.
pub record TrialPart {P : Type 0} (one-start two-start : P) (one two : List ℕ) (answer : Result Added Refusal) (start : P) (part : List ℕ) : Type 0 where
  pub days_part : number_told answer ≡ DONE → PartOf one-start one (steps_told answer) start part
  pub ring_part : (number_told answer ≡ DONE → ⊥) → PartOf two-start two (given_added answer).one start part

-- What a caller of Trial with the rule r then has in the part: the days of all steps, which are the earliest plan with r, at the start of list one; on
-- CONFLICT the ring, which is the reason, and on any other refusal nothing, at the start of list two.
pub record Handed (r : Rule) (t : Tables) (g : Given) {P : Type 0} (one-start two-start start : P) (part : List ℕ) : Type 0 where
  pub days_of_all : g.number ≡ DONE → (start ≡ one-start) × (length part ≡ t.counts.steps) × Earliest t.counts.steps (rules_and r t) (held_and t) (at part)
  pub the_ring : g.number ≡ CONFLICT → (start ≡ two-start) × (length part ≡ g.one) × Reason (rules_of t) (held_in t) (next_in t) r part
  pub nothing : (g.number ≡ DONE → ⊥) → (g.number ≡ CONFLICT → ⊥) → (start ≡ two-start) × (part ≡ [])
