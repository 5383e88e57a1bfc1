-- The rules on the chains are those held: what can be planned and what is told, over the ones and over the others.
use Prim.Native.Nat.{ℕ}
use mathlib.Core.List.{List}
use mathlib.Core.Path.{refl}
use lib.IntN.{ℤ}
use Rattle.meaning.specs.Rules.{Rule}
use Rattle.meaning.specs.Tables.{Columns}
use Rattle.meaning.proofs.Theory.{earliest_same}
use Rattle.chains.specs.Chains.{number, linked, LentChains}
use Rattle.chains.proofs.Holding.{plus_same, planned_same, unfit_same}
use Rattle.inner_add.specs.Lending.{Holdable}
use Rattle.inner_add.specs.Fit.{Taken, Left, Shown}

module _ {n : ℕ} {H : ℕ → Type 0} {xs heads nexts : List ℕ} (lent : LentChains n H xs heads nexts) where
  -- What can be held beside the rules held can be held beside those on the chains.
  pub ready_linked :
      {k : ℕ} {ys : List ℕ} {cs : List ℤ} {days : List ℕ} {x y : ℕ} {c : ℤ} → Holdable n H number k xs ys cs days heads nexts x y c →
      Holdable n (linked nexts) number k xs ys cs days heads nexts x y c
  ready_linked r =
      let ground = r.base.ground in
      record {
        base = record {
          ground = record {
            steps_in = ground.steps_in;
            number_in = λ i on. on.0;
            placed = λ i on. ground.placed i (lent.only i on);
            next_place = λ i on. ground.next_place i (lent.only i on);
            days_room = ground.days_room;
            heads_room = ground.heads_room;
            in_steps = λ i on. ground.in_steps i (lent.only i on);
            plan = λ i on. ground.plan i (lent.only i on);
            chained = lent.chained;
          };
          earliest = earliest_same lent.only lent.on (λ i h. refl) r.base.earliest;
          rules_good = λ i on. r.base.rules_good i (lent.only i on);
          columns_room = r.base.columns_room;
        };
        new_good = r.new_good;
        free = λ on. r.free (lent.only _ on);
        not_full = r.not_full;
      }

  -- What is told of the rules on the chains is told of those held.
  pub taken_held :
      {s k : ℕ} {r : Rule} {before : Columns} {days : List ℕ} {last moved : ℕ} {after : Columns} {days' : List ℕ} {last' : ℕ} →
      Taken s (linked nexts) k r before days last moved after days' last' → Taken s H k r before days last moved after days' last'
  taken_held {k} taken = record {
    written = taken.written;
    planned = planned_same (plus_same k lent.only) (plus_same k lent.on) taken.planned;
    count_moved = taken.count_moved;
    last_day = taken.last_day;
  }

  pub left_held : {r : Rule} {before : Columns} {days : List ℕ} {after : Columns} {days' : List ℕ} → Left (linked nexts) r before days after days' → Left H r before days after days'
  left_held left = record { unfit = unfit_same lent.only lent.on left.unfit; rules_stay = left.rules_stay; days_stay = left.days_stay }

  pub shown_held :
      {s k : ℕ} {r : Rule} {before : Columns} {days list : List ℕ} {moved : ℕ} {list' : List ℕ} →
      Shown s (linked nexts) k r before days list moved list' → Shown s H k r before days list moved list'
  shown_held {k} shown = record { planned = planned_same (plus_same k lent.only) (plus_same k lent.on) shown.planned; count_moved = shown.count_moved }
