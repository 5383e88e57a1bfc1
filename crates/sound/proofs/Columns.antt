-- The first places, all of which are held: what their columns tell together.
use Prim.Native.Nat.{ℕ, ◌≤◌}
use native.Mathlib.Omega.{arith}
use mathlib.Core.Path.{refl}
use mathlib.Core.Bool.{true, false}
use mathlib.Core.List.{List}
use Rattle.meaning.specs.Bounds.{RULES}
use Rattle.meaning.specs.Tables.{Tables}
use Rattle.meaning.proofs.Places.{taken_all_held, taken_past}
use Rattle.lent.specs.Decides.{decides_yes}
use Rattle.lent.specs.Lent.{first, AllHeld, NoneAbove, FreeFrom}
use Rattle.lent.proofs.Cells.{only_first}
use Rattle.chains.specs.Chains.{LentChains}
use Rattle.chains.proofs.Laws.{lent_held}
use Rattle.sound.specs.Parts.{AllIn, RulesTested}
use Rattle.sound.proofs.Settling.{too_many, rules_refused}

module _ {t : Tables} {heads nexts : List ℕ} (few : t.counts.rules ≤ RULES) (held : AllHeld t.counts.rules t.levels) where
  -- A rule behind them says no.
  pub one_behind : (FreeFrom t.counts.rules t.levels → ⊥) → RulesTested t false heads nexts
  one_behind some = rules_refused heads nexts (too_many t.counts.rules (taken_all_held t.counts.rules t.levels held) some)

  -- Where none does, the answer is yes, and their chains are those of the rules held.
  pub first_tested :
      FreeFrom t.counts.rules t.levels → NoneAbove t.counts.rules t.counts.marks t.levels → AllIn t.counts.steps t.counts.rules t.rules.firsts t.rules.seconds t.rules.amounts → LentChains t.counts.steps (first t.counts.rules) t.rules.firsts heads nexts →
      RulesTested t true heads nexts
  first_tested free low inside chains = record {
    decides = decides_yes refl (record {
      rules_good = λ i h. inside i (only_first t.counts.rules t.levels free i h);
      levels_open = λ i h. low i (only_first t.counts.rules t.levels free i h);
      rules_counted = omega (arith, taken_past RULES t.counts.rules t.levels few free, taken_all_held t.counts.rules t.levels held);
    });
    chained = λ e. lent_held t.counts.steps t.counts.rules t.levels t.rules.firsts heads nexts few held free chains;
  }
