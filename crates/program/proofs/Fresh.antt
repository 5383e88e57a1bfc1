-- Fresh tables, with the counts and the record as their constructors give them, are those of a whole script, and sound.
use Prim.Native.Nat.{ℕ, ◌*◌}
use mathlib.Core.Path.{◌≡◌, sym, ◌∙◌, ap, subst}
use mathlib.Core.List.{List}
use lib.ListN.{replicate}
use lib.IntN.{pos}
use Rattle.meaning.specs.Bounds.{STEPS, RULES, NAME_BYTES}
use Rattle.meaning.specs.Tables.{steps_alone}
use Rattle.meaning.specs.declared.Counts.{Counts}
use Rattle.names.specs.Names.{BUCKETS}
use Rattle.script_meaning.specs.declared.Notes.{Notes}
use Rattle.script_meaning.specs.Record.{Lent, no_notes}
use Rattle.script_meaning.specs.Whole.{blank}
use Rattle.script_command.specs.Carrying.{in_hand, Maintained}
use Rattle.script_run.proofs.Fresh.{zeros, all_off, first_counts, first_hand, first_is, fresh_tables}
use Rattle.levels.specs.declared.Row.{Row}

abbrev pub hand : Counts → Notes → List ℕ → Lent
hand counts notes out = in_hand counts (zeros RULES) (zeros RULES) (replicate RULES (pos 0)) (zeros STEPS) (zeros RULES) notes (zeros (NAME_BYTES * STEPS)) (zeros STEPS) out

module _ (out : List ℕ) (counts : Counts) (notes : Notes) (few : counts ≡ steps_alone STEPS) (none : notes ≡ no_notes) where
  hand_is : hand counts notes out ≡ first_hand out
  hand_is = ap (λ (x : Counts). hand x notes out) few ∙ ap (λ (y : Notes). hand first_counts y out) none

  pub hand_blank : hand counts notes out ≡ blank out
  hand_blank = hand_is ∙ first_is out

  pub hand_kept : {kept : List Row} → Maintained notes.names (hand counts notes out) (zeros STEPS) all_off kept (zeros STEPS) (zeros BUCKETS) (zeros STEPS)
  hand_kept {kept} = subst (λ (l : Lent). Maintained l.notes.names l (zeros STEPS) all_off kept (zeros STEPS) (zeros BUCKETS) (zeros STEPS)) (sym hand_is) (fresh_tables out)
