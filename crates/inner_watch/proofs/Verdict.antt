-- What a rule's test says: where it passes, the rule is within bounds; else a call with the rule gives the same refusal, whatever it asks for behind.
use Prim.Native.Nat.{ℕ}
use native.Mathlib.Omega.{arith}
use mathlib.Core.Path.{◌≡◌, refl}
use mathlib.Core.List.{List, []}
use Rattle.meaning.specs.declared.Refusal.{Refusal}
use Rattle.meaning.specs.Bounds.{DONE, CONFLICT}
use Rattle.meaning.specs.Refusals.{number_of}
use Rattle.meaning.specs.Rules.{Rule, InSteps, InAmount}
use Rattle.meaning.specs.Promise.{Need, First}
use Rattle.meaning.specs.Calls.{rule_needs}
use Rattle.meaning.proofs.Needs.{done_met, first_stops, not_given, not_done}

module _ (n : ℕ) (r : Rule) (f : First (rule_needs n r []) DONE) where
  pub rule_steps : InSteps n r
  rule_steps = (done_met DONE DONE (rule_needs n r []) tt f refl).0

  pub rule_amount : InAmount r.amount
  rule_amount = (done_met DONE DONE (rule_needs n r []) tt f refl).1.0

module _ (n : ℕ) (r : Rule) (q : Refusal) (f : First (rule_needs n r []) (number_of q)) where
  pub rule_refused : (l : List Need) → First (rule_needs n r l) (number_of q)
  rule_refused l = first_stops (rule_needs n r []) l (number_of q) (not_done q) f

  pub rule_no_conflict : number_of q ≡ CONFLICT → ⊥
  rule_no_conflict = not_given CONFLICT (number_of q) (rule_needs n r []) tt (λ e. omega arith) f
