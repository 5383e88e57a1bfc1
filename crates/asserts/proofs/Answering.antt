-- What trying a rule came to, told of the tables: where it fits it is held, and put on its chain; where it does not the tables are as before. Where the rules held were the
-- first ones, they are so after.
use Prim.Native.Nat.{ℕ, ◌+◌, ◌<◌}
use mathlib.Core.Path.{◌≡◌, refl, sym, ◌∙◌, ap, subst}
use mathlib.Core.Bool.{Bool, true}
use mathlib.Core.List.{List}
use lib.ListN.{length, set}
use lib.Seq.{get_or-set_same, get_or-set_other}
use lib.IntN.{ℤ, pos}
use native.Mathlib.Omega.{arith}
use native.Mathlib.Decide.{ℕ_discrete}
use Rattle.meaning.specs.declared.Counts.{Counts}
use Rattle.meaning.specs.Bounds.{RULES}
use Rattle.meaning.specs.Rules.{InBounds, Fits, more, plus, rule}
use Rattle.meaning.specs.Tables.{Tables, at, held, put, lowest_free}
use Rattle.meaning.specs.Promise.{Planned}
use Rattle.meaning.specs.Calls.{rules_of, held_in}
use Rattle.meaning.proofs.Places.{next_free, next_below}
use Rattle.meaning.proofs.Theory.{more_fits}
use Rattle.chains.specs.Chains.{number, linked, Amendable, ChainsNow, LentChains}
use Rattle.lent.specs.Lent.{columns, held_by, AllHeld}
use Rattle.lent.specs.Idle.{idle, unwatched}
use Rattle.lent.specs.Promises.{Border}
use Rattle.lent.proofs.Cells.{lowest_behind}
use Rattle.inner_watch.proofs.Equal.{tables_equal}
use Rattle.inner_add.specs.Lending.{Holdable}
use Rattle.inner_add.specs.Fit.{Taken, Left, one_more}
use Rattle.inner_add.proofs.Answers.{base}
use Rattle.inner_add.proofs.Linked.{ready_linked, taken_held, left_held}
use Rattle.inner_add.proofs.Extent.{ready_within, taken_beyond}
use Rattle.script_meaning.specs.Effect.{HeldNow}
use Rattle.asserts.specs.Within.{Within}
use Rattle.asserts.proofs.Reach.{wider}
use Rattle.asserts.proofs.Linking.{amendable, chains_inserted}

-- The rule x, y, c is tried under the number m, which is the next one.
module _
    (counts : Counts) (e : ℕ) (xs ys : List ℕ) (cs : List ℤ) (days levels heads nexts : List ℕ) (x y : ℕ) (c : ℤ) (packed : Bool)
    (asked :
    Border (unwatched counts xs ys cs days levels)
    × (LentChains counts.steps (held_by levels) xs heads nexts
    × (InBounds e (rule x y c) × ((counts.rules < RULES) × (Within e counts levels (columns xs ys cs) × (packed ≡ true → AllHeld counts.rules levels))))))
    (m : ℕ) (lowest : m ≡ lowest_free RULES levels) where
  abbrev before : Tables
  before = unwatched counts xs ys cs days levels

  good : InBounds counts.steps (rule x y c)
  good = wider e counts.steps asked.1.1.1.1.0.steps_there (rule x y c) asked.1.1.0

  -- The number has a place.
  pub number_in : m < RULES
  number_in = omega (arith, lowest, next_below before asked.0.sound asked.1.1.1.0)

  -- The rule can be tried on all steps, and so on those below e.
  whole : Holdable counts.steps (held_by levels) number m xs ys cs days heads nexts x y c
  whole = record {
    base = base counts xs ys cs days levels idle.firsts idle.seconds idle.amounts asked.0 heads nexts asked.1.0;
    new_good = good;
    free = λ h. next_free before (subst (held before) lowest h);
    not_full = number_in;
  }

  pub ready : Holdable e (linked nexts) number m xs ys cs days heads nexts x y c
  ready =
      ready_within counts.steps e asked.1.1.1.1.0.steps_there (linked nexts) number m xs ys cs days heads nexts x y c (ready_linked asked.1.0 whole)
      (λ i on. asked.1.1.1.1.0.rules_within i (asked.1.0.only i on)) asked.1.1.0.steps_in

  -- Where the rules held are the first ones, the number is the one behind them, and they are the first ones with it.
  one_behind : packed ≡ true → AllHeld (counts.rules + 1) (set levels m (counts.marks + 1))
  one_behind all i below = tell (ℕ_discrete i m)
    where
      behind : counts.rules ≡ lowest_free RULES levels
      behind = lowest_behind counts.rules levels (omega (arith, asked.1.1.1.0)) asked.0.sound.rules_counted (asked.1.1.1.1.1 all)

      tell : Dec (i ≡ m) → 0 < at (set levels m (counts.marks + 1)) i
      tell (yes same) =
          rw same (omega (arith, get_or-set_same levels m (counts.marks + 1) 0 (omega (arith, number_in, asked.0.room.levels_room))))
      tell (no other) =
          rw (get_or-set_other levels m i (counts.marks + 1) 0 other) (asked.1.1.1.1.1 all i (omega (arith, behind, lowest, below, other)))

  module _
      (moved last' : ℕ) (xs' ys' : List ℕ) (cs' : List ℤ) (days' : List ℕ)
      (tells : Taken e (linked nexts) m (rule x y c) (columns xs ys cs) days counts.last moved (columns xs' ys' cs') days' last') where
    taken : Taken counts.steps (held_by levels) m (rule x y c) (columns xs ys cs) days counts.last moved (columns xs' ys' cs') days' last'
    taken =
        taken_beyond counts.steps e asked.1.1.1.1.0.steps_there (held_by levels) number m xs ys cs days heads nexts x y c
        whole.base.earliest asked.1.1.1.1.0.rules_within whole.free counts.last moved (columns xs' ys' cs') days' last' (taken_held asked.1.0 tells)

    -- The tables with the rule held.
    abbrev with_it : Counts → Tables
    with_it after = unwatched after xs' ys' cs' days' (set levels m (counts.marks + 1))

    -- Where it fits, it is held with one more rule counted and the last day told.
    holds : (after : Counts) → after ≡ one_more last' counts → HeldNow (rule x y c) before (with_it after)
    holds after counted =
        record {
          fits = more_fits (rules_of before) (held_in before) m (rule x y c) whole.free (λ v. pos (at days' v)) taken.planned.earliest.plan;
          rule_held = tables_equal _ _ (counted ∙ ap (λ j. one_more j counts) (taken.last_day asked.0.sound.last_largest))
              (taken.written ∙ ap (λ (j : ℕ). put (columns xs ys cs) j (rule x y c)) lowest) refl (ap (λ (j : ℕ). set levels j (counts.marks + 1)) lowest) refl;
          planned = subst (λ (j : ℕ). Planned counts.steps (more (rules_of before) j (rule x y c)) (plus (held_in before) j) days days') lowest taken.planned;
        }

    -- Then it can be put on its chain, and with that it is added.
    pub new_amendable : Amendable counts.steps m xs' heads nexts × (linked nexts m → ⊥)
    new_amendable = (
      subst (λ (j : ℕ). Amendable counts.steps j xs' heads nexts) (sym lowest)
          (amendable (rule x y c) before (with_it (one_more last' counts)) (holds (one_more last' counts) refl) heads nexts asked.0 good asked.1.1.1.0 asked.1.0),
      λ on. whole.free (asked.1.0.only m on),
    )

    pub one_held :
        (after : Counts) → after ≡ one_more last' counts → (heads' nexts' : List ℕ) → length heads' ≡ length heads → length nexts' ≡ length nexts →
        ChainsNow counts.steps (plus (linked nexts) m) xs' heads' nexts' →
        HeldNow (rule x y c) before (with_it after)
        × (LentChains after.steps (held_by (set levels m (counts.marks + 1))) xs' heads' nexts'
        × (packed ≡ true → AllHeld after.rules (set levels m (counts.marks + 1))))
    one_held after counted heads' nexts' heads_long nexts_long now_on = (
      holds after counted,
      (
        chains_inserted (rule x y c) before (with_it after) (holds after counted) heads nexts asked.0 good asked.1.1.1.0 asked.1.0 heads' nexts' heads_long
            nexts_long (subst (λ (j : ℕ). ChainsNow counts.steps (plus (linked nexts) j) xs' heads' nexts') lowest now_on),
        λ all. subst (λ (j : Counts). AllHeld j.rules (set levels m (counts.marks + 1))) (sym counted) (one_behind all),
      ),
    )

  module _
      (xs' ys' : List ℕ) (cs' : List ℤ) (days' : List ℕ)
      (tells : Left (linked nexts) (rule x y c) (columns xs ys cs) days (columns xs' ys' cs') days') where
    -- Where it does not fit, nothing changed.
    pub one_clash :
        (Fits (rules_of before) (held_in before) (rule x y c) → ⊥) × (unwatched counts xs' ys' cs' days' levels ≡ before)
        × (LentChains counts.steps (held_by levels) xs' heads nexts × (packed ≡ true → AllHeld counts.rules levels))
    one_clash =
        let left = left_held asked.1.0 tells in
        let stays : unwatched counts xs' ys' cs' days' levels ≡ before = tables_equal _ _ refl left.rules_stay left.days_stay refl refl in (
          left.unfit,
          stays,
          (subst (λ (t : Tables). LentChains t.counts.steps (held t) t.rules.firsts heads nexts) (sym stays) asked.1.0, asked.1.1.1.1.1),
        )
