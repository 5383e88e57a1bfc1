-- Rules that are dropped: what sound tables tell of those that stay.
use Prim.Native.Nat.{ℕ, ◌≤◌, ◌<◌}
use native.Mathlib.Omega.{arith}
use native.Mathlib.Decide.{ℕ_discrete}
use mathlib.Core.Path.{◌≡◌, refl, sym, subst}
use mathlib.Core.List.{List}
use mathlib.Core.Logic.{◌⊎◌, inl, inr}
use lib.ListN.{length}
use Rattle.meaning.specs.Bounds.{RULES}
use Rattle.meaning.specs.Rules.{Earliest}
use Rattle.meaning.specs.Tables.{Tables, at, held, taken, freed_above, down_to, without_rule}
use Rattle.meaning.specs.Promise.{Planned}
use Rattle.meaning.specs.Calls.{rules_of}
use Rattle.meaning.proofs.Places.{down_to_held, without_rule_held}
use Rattle.meaning.proofs.Theory.{earliest_same}
use Rattle.lent.specs.Promises.{Border}
use Rattle.lent.specs.Lent.{held_by, Placed, Dated, KeptAt, Spare}
use Rattle.chains.specs.Chains.{linked, minus, LentChains, Amendable, ChainsNow}
use Rattle.chains.proofs.Amending.{lent_now}
use Rattle.chains.proofs.Holding.{planned_same}
use Rattle.inner_back.specs.Replan.{Plannable}
use Rattle.inner_back.specs.Freeing.{Freeable}
use Rattle.inner_back.proofs.Replanning.{plannable_fewer}
use Rattle.inner_back.proofs.Counting.{taken_all}
use Rattle.inner_back.proofs.Loosening.{Loose, loose_go}

module _ {t : Tables} (border : Border t) where
  -- A number below RULES has its place in each column.
  placed : (i : ℕ) → i < RULES → Placed t.rules.firsts t.rules.seconds t.rules.amounts i
  placed i below = record {
    first_place = omega (arith, below, border.room.rules_room.firsts_room);
    second_place = omega (arith, below, border.room.rules_room.seconds_room);
    amount_place = omega (arith, below, border.room.rules_room.amounts_room);
  }

  -- The rules held can be planned.
  pub plannable : Plannable t.counts.steps (held t) t.rules.firsts t.rules.seconds t.rules.amounts t.days
  plannable = record {
    steps_in = border.sound.counts_in.steps_in;
    number_in = λ i h. h.0;
    placed = λ i h. placed i h.0;
    days_room = omega (arith, border.sound.counts_in.steps_in, border.room.days_room);
    in_bounds = border.sound.rules_good;
    plan = border.sound.days_earliest.plan;
  }

  -- ---- every place above a level

  -- Where k marks can be left, the places of a level above k can be freed.
  pub freeable : (k : ℕ) → k ≤ t.counts.marks → Freeable t.counts.steps k t.counts.rules t.rules.firsts t.levels
  freeable k fewer = record {
    levels_room = border.room.levels_room;
    firsts_room = border.room.rules_room.firsts_room;
    counted = border.sound.rules_counted;
    firsts_in = λ i h. (border.sound.rules_good i h).steps_in.first_in;
    marks_in = omega (arith, fewer, border.sound.counts_in.marks_in);
  }

  -- They have been freed, and the chains of the rest made.
  module _
      (k : ℕ) {levels heads nexts : List ℕ} (freed : levels ≡ freed_above RULES k t.levels)
      (chains : LentChains t.counts.steps (held_by levels) t.rules.firsts heads nexts) where
    -- What is held still was held.
    was-held : (i : ℕ) → held_by levels i → held t i
    was-held i h = ((down_to_held k t i).0 (subst (λ (l : List ℕ). held_by l i) freed h)).0

    -- The rest can be planned.
    pub plannable_left : Plannable t.counts.steps (linked nexts) t.rules.firsts t.rules.seconds t.rules.amounts t.days
    plannable_left = plannable_fewer plannable (λ i on. was-held i (chains.only i on))

    -- Where as many are left as were held, the days are the earliest plan as they are.
    pub earliest_left : t.counts.rules ≤ taken RULES levels → Earliest t.counts.steps (rules_of t) (linked nexts) (at t.days)
    earliest_left all =
        earliest_same (λ i on. was-held i (chains.only i on))
        (λ i h. chains.on i (h.0, taken_all RULES t.levels levels (λ j below some. (was-held j (below, some)).1) (omega (arith, all, border.sound.rules_counted)) i h.0 h.1))
        (λ i on. refl) border.sound.days_earliest

    -- A plan of the rules on the chains is one of those left.
    pub planned_left :
        {days' : List ℕ} → Planned t.counts.steps (rules_of t) (linked nexts) t.days days' → Planned t.counts.steps (rules_of t) (held (down_to k t)) t.days days'
    planned_left = planned_same (λ i on. subst (λ (l : List ℕ). held_by l i) freed (chains.only i on)) (λ i h. chains.on i (subst (λ (l : List ℕ). held_by l i) (sym freed) h))

  -- ---- one rule

  module _ {i : ℕ} (is_held_lem : held t i) where
    -- Its days can be read, and keep it.
    pub dated : Dated t.rules.firsts t.rules.seconds t.rules.amounts t.days i
    dated =
        let steps = (border.sound.rules_good i is_held_lem).steps_in in
        record {
          placed = placed i is_held_lem.0;
          first_day = omega (arith, steps.first_in, border.sound.counts_in.steps_in, border.room.days_room);
          second_day = omega (arith, steps.second_in, border.sound.counts_in.steps_in, border.room.days_room);
        }

    pub kept : KeptAt t.rules.firsts t.rules.seconds t.rules.amounts t.days i
    kept = border.sound.days_earliest.plan i is_held_lem

    module _ {heads nexts : List ℕ} (chains : LentChains t.counts.steps (held t) t.rules.firsts heads nexts) where
      -- It can be taken off its chain.
      pub amendable : Amendable t.counts.steps i t.rules.firsts heads nexts
      amendable = record {
        chained = chains.chained;
        heads_room = chains.heads_room;
        nexts_room = chains.nexts_room;
        number_in = is_held_lem.0;
        first_place = (placed i is_held_lem.0).first_place;
        first_in = (border.sound.rules_good i is_held_lem).steps_in.first_in;
      }

      -- It has been taken off it.
      module _ {heads' nexts' : List ℕ} (now : ChainsNow t.counts.steps (minus (linked nexts) i) t.rules.firsts heads' nexts') where
        pub chains_without : length heads' ≡ length heads → length nexts' ≡ length nexts → LentChains t.counts.steps (linked nexts') t.rules.firsts heads' nexts'
        chains_without heads-kept nexts-kept =
            lent_now t.counts.steps (minus (linked nexts) i) (linked nexts') t.rules.firsts heads' nexts' now.on now.only
            (omega (arith, heads-kept, chains.heads_room)) (omega (arith, nexts-kept, chains.nexts_room)) now

        -- What is on a chain still was held.
        other-held : (j : ℕ) → linked nexts' j → held t j
        other-held j on = chains.only j (now.only j on).0

        -- The rest can be planned.
        pub plannable_without : Plannable t.counts.steps (linked nexts') t.rules.firsts t.rules.seconds t.rules.amounts t.days
        plannable_without = plannable_fewer plannable other-held

        -- Where the rule has days to spare, the days are the earliest plan as they are.
        pub earliest_without :
            (r : ℕ) → Spare t.rules.firsts t.rules.seconds t.rules.amounts t.days i r → 1 ≤ r → Earliest t.counts.steps (rules_of t) (linked nexts') (at t.days)
        earliest_without r spare some = loose_go t.counts.steps (rules_of t) (held t) (linked nexts') (at t.days) border.sound.days_earliest other-held stays
          where
            loose : Loose (at t.days) (rules_of t i)
            loose = omega (arith, spare, some)

            stays : (j : ℕ) → held t j → linked nexts' j ⊎ Loose (at t.days) (rules_of t j)
            stays j h = tell (ℕ_discrete j i)
              where
                tell : Dec (j ≡ i) → linked nexts' j ⊎ Loose (at t.days) (rules_of t j)
                tell (yes e) = inr (subst (λ (l : ℕ). Loose (at t.days) (rules_of t l)) (sym e) loose)
                tell (no d) = inl (now.on j (chains.on j h, d))

        -- A plan of the rules on the chains is one of those left.
        pub planned_without :
            {days' : List ℕ} → Planned t.counts.steps (rules_of t) (linked nexts') t.days days' →
            Planned t.counts.steps (rules_of t) (held (without_rule i t)) t.days days'
        planned_without =
            planned_same (λ j on. (without_rule_held i t j).1 ((now.only j on).1, other-held j on))
            (λ j h. let (d, was) = (without_rule_held i t j).0 h in now.on j (chains.on j was, d))
