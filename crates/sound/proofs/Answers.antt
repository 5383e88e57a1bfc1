-- The test as a whole: the answer that its parts give together.
use Prim.Native.Nat.{ℕ}
use mathlib.Core.Path.{refl}
use mathlib.Core.Bool.{Bool}
use mathlib.Core.List.{List}
use Rattle.meaning.specs.Tables.{InCounts}
use Rattle.meaning.proofs.Theory.{earliest_same}
use Rattle.lent.specs.Decides.{Decides}
use Rattle.sound.specs.Parts.{AllIn, DaysIn, HeldIn, Tested}
use Rattle.lent.specs.Lent.{held_by, tables_of}
use Rattle.lent.specs.declared.Tables.{Tables as Lists}
use Rattle.meaning.specs.declared.Counts.{Counts}
use Rattle.std.proofs.Common.{Bor, ℕ, List}
use Rattle.chains.specs.Chains.{LentChains}

-- Where every other part holds, the days are the answer.
pub tested_by_days :
    (counts : Counts) (t : Lists) (heads nexts : Bor (List ℕ)) → InCounts counts → HeldIn (tables_of counts t) →
    LentChains counts.steps (held_by t.levels.now) t.rules.xs.now heads.now nexts.now →
    AllIn counts.steps counts.watched t.watched.xs.now t.watched.ys.now t.watched.cs.now → (r : Bool) →
    Decides r (DaysIn counts (record { rules = t.rules; days = t.days; heads = heads; nexts = nexts })) → Tested (tables_of counts t) r heads.now nexts.now
tested_by_days counts t heads nexts counts-in rules chains watched r days = record {
  decides = record {
    so = λ e. record {
      counts_in = counts-in;
      rules_good = rules.rules_good;
      levels_open = rules.levels_open;
      rules_counted = rules.rules_counted;
      watched_good = watched;
      days_earliest = earliest_same chains.on chains.only (λ i h. refl) (days.so e).earliest;
      last_largest = (days.so e).last_largest;
    };
    not_so = λ e sound. days.not_so e (record { earliest = earliest_same chains.only chains.on (λ i h. refl) sound.days_earliest; last_largest = sound.last_largest });
  };
  chained = λ e. chains;
}
