-- The pass over the places: which rules are held among those passed, and their chains.
use Prim.Native.Nat.{ℕ, ◌+◌, ◌≤◌, ◌<◌}
use native.Mathlib.Omega.{arith}
use native.Mathlib.Decide.{ℕ_discrete, dec_lt}
use mathlib.Core.Path.{◌≡◌, refl, sym, ◌∙◌, ap, subst}
use mathlib.Core.Bool.{false, true, false≢true}
use mathlib.Core.List.{List}
use mathlib.Core.Logic.{◌⊎◌, inl, inr}
use lib.ListN.{length}
use lib.Seq.{get_or-set_same, get_or-set_other}
use Rattle.meaning.specs.Bounds.{RULES}
use Rattle.meaning.specs.Rules.{plus}
use Rattle.meaning.specs.Tables.{Tables, at, taken}
use Rattle.meaning.proofs.Places.{taken_of_none, taken_free, taken_held, free_or_held}
use Rattle.lent.specs.Decides.{decides_yes, decides_no}
use Rattle.lent.specs.Lent.{held_by, FreeFrom}
use Rattle.lent.proofs.Cells.{taken_rest_free, taken_past, only_first}
use Rattle.chains.specs.Chains.{ChainsOf, number, OFF, linked, Empty, OffFrom}
use Rattle.chains.proofs.Laws.{chained_none, chains_agree, chains_nexts, chains_more, next_lower, lent_chains}
use Rattle.sound.specs.Parts.{Good, FreeThere, GoodThere, HeldIn, RulesTested}

-- The rules held below number i.
abbrev pub passed : List ℕ → ℕ → ℕ → Type 0
passed levels i j = (j < i) × (0 < at levels j)

-- The first i places have been looked at: `seen` of them are held, their rules are good and on chains, and the rest is off.
pub record Passed (t : Tables) (i seen : ℕ) (heads nexts : List ℕ) : Type 0 where
  pub counted : seen ≡ taken i t.levels
  pub good : (j : ℕ) → passed t.levels i j → Good t j
  pub chained : ChainsOf t.counts.steps (passed t.levels i) number t.rules.firsts heads nexts
  pub off : (j : ℕ) → j < i → at t.levels j ≡ 0 → at nexts j ≡ OFF

module _ {t : Tables} where
  -- Before the first place.
  pub passed_none : (heads nexts : List ℕ) → Empty t.counts.steps heads → Passed t 0 0 heads nexts
  passed_none heads nexts empty = record {
    counted = sym (taken_of_none t.levels);
    good = λ j h. absurd (omega (arith, h.0));
    chained =
        chains_agree t.counts.steps (λ j. j < 0) (passed t.levels 0) number t.rules.firsts t.rules.firsts heads nexts (λ j h. absurd (omega arith)) (λ j h. h.0) (λ j h. refl) (chained_none t.counts.steps t.rules.firsts heads nexts empty);
    off = λ j h. absurd (omega arith);
  }

  module _ (i seen : ℕ) (heads nexts heads' nexts' : List ℕ) (place : i < length nexts) (p : Passed t i seen heads nexts) where
    -- With a free place.
    pub free_more : FreeThere t i heads nexts heads' nexts' → Passed t (i + 1) seen heads' nexts'
    free_more f = record {
      counted = omega (arith, p.counted, taken_free i t.levels f.free);
      good = λ j h. p.good j (was j h);
      chained =
          subst (λ (l : List ℕ). ChainsOf t.counts.steps (passed t.levels (i + 1)) number t.rules.firsts l nexts') (sym f.heads_are)
          (chains_agree t.counts.steps (passed t.levels i) (passed t.levels (i + 1)) number t.rules.firsts t.rules.firsts heads nexts' (λ j h. (omega (arith, h.0), h.1)) was (λ j h. refl)
          (chains_nexts t.counts.steps (passed t.levels i) number t.rules.firsts heads nexts nexts' (λ j h. other j (λ e. omega (arith, e, h.0))) p.chained));
      off = λ j h free. off j h free (ℕ_discrete j i);
    }
      where
        was : (j : ℕ) → passed t.levels (i + 1) j → passed t.levels i j
        was j h = by_place (ℕ_discrete j i)
          where
            by_place : Dec (j ≡ i) → passed t.levels i j
            by_place (yes e) = absurd (omega (arith, h.1, ap (at t.levels) e, f.free))
            by_place (no apart) = (omega (arith, apart, h.0), h.1)

        other : (j : ℕ) → (j ≡ i → ⊥) → at nexts' j ≡ at nexts j
        other j apart = ap (λ (l : List ℕ). at l j) f.nexts_are ∙ get_or-set_other nexts i j OFF 0 apart

        off : (j : ℕ) → j < i + 1 → at t.levels j ≡ 0 → Dec (j ≡ i) → at nexts' j ≡ OFF
        off j h free (yes e) = ap (at nexts') e ∙ ap (λ (l : List ℕ). at l i) f.nexts_are ∙ get_or-set_same nexts i OFF 0 place
        off j h free (no apart) = other j apart ∙ p.off j (omega (arith, apart, h)) free

    -- With a good rule.
    pub good_more : GoodThere t i heads nexts heads' nexts' → Passed t (i + 1) (seen + 1) heads' nexts'
    good_more g = record {
      counted = omega (arith, p.counted, taken_held i t.levels g.held);
      good = λ j h. good j (or_last j h);
      chained =
          chains_agree t.counts.steps (plus (passed t.levels i) i) (passed t.levels (i + 1)) number t.rules.firsts t.rules.firsts heads' nexts' one_more or_last (λ j h. refl)
          (rw (g.pushed.heads_are, g.pushed.nexts_are)
          (chains_more t.counts.steps (passed t.levels i) number i t.rules.firsts heads nexts g.good.in_bounds.steps_in.first_in (λ j h. h.0) g.pushed.head_place g.pushed.next_place p.chained));
      off = off;
    }
      where
        or_last : (j : ℕ) → passed t.levels (i + 1) j → plus (passed t.levels i) i j
        or_last j h = by_place (ℕ_discrete j i)
          where
            by_place : Dec (j ≡ i) → plus (passed t.levels i) i j
            by_place (yes e) = inl e
            by_place (no apart) = inr (omega (arith, apart, h.0), h.1)

        one_more : (j : ℕ) → plus (passed t.levels i) i j → passed t.levels (i + 1) j
        one_more j (inl e) = (omega (arith, e), omega (arith, ap (at t.levels) e, g.held))
        one_more j (inr h) = (omega (arith, h.0), h.1)

        good : (j : ℕ) → plus (passed t.levels i) i j → Good t j
        good j (inl e) = subst (Good t) (sym e) g.good
        good j (inr h) = p.good j h

        off : (j : ℕ) → j < i + 1 → at t.levels j ≡ 0 → at nexts' j ≡ OFF
        off j h free = by_place (ℕ_discrete j i)
          where
            by_place : Dec (j ≡ i) → at nexts' j ≡ OFF
            by_place (yes e) = absurd (omega (arith, free, ap (at t.levels) e, g.held))
            by_place (no apart) =
                ap (λ (l : List ℕ). at l j) g.pushed.nexts_are ∙ get_or-set_other nexts i j (at heads (at t.rules.firsts i)) 0 apart ∙ p.off j (omega (arith, apart, h)) free

  -- A rule behind the last of those counted says no.
  pub too_many : (i : ℕ) → taken i t.levels ≡ t.counts.rules → (FreeFrom i t.levels → ⊥) → HeldIn t → ⊥
  too_many i is_m some all = some (λ j h below. free j h below (free_or_held t.levels j))
    where
      free : (j : ℕ) → i ≤ j → j < RULES → (at t.levels j ≡ 0) ⊎ (0 < at t.levels j) → at t.levels j ≡ 0
      free j h below (inl e) = e
      free j h below (inr held) = absurd (omega (arith, all.rules_counted, is_m, taken_past i RULES j t.levels h below held))

  module _ (i seen : ℕ) (heads nexts : List ℕ) (p : Passed t i seen heads nexts) where
    -- Where there is none, and all that are counted are passed, the answer is yes, and the chains are those of the rules held.
    module _ (within : i ≤ RULES) (is_m : seen ≡ t.counts.rules) (free : FreeFrom i t.levels) where
      held-passed : (j : ℕ) → held_by t.levels j → passed t.levels i j
      held-passed j h = (only_first i t.levels free j h, h.1)

      all_in : HeldIn t
      all_in = record {
        rules_good = λ j h. (p.good j (held-passed j h)).in_bounds;
        levels_open = λ j h. (p.good j (held-passed j h)).level_open;
        rules_counted = omega (arith, p.counted, is_m, taken_rest_free i RULES t.levels within free);
      }

      module _ (nexts' : List ℕ) (heads_room : t.counts.steps ≤ length heads) (nexts_room : RULES ≤ length nexts) (same_length : length nexts' ≡ length nexts) (off : OffFrom i nexts nexts') where
        chains : ChainsOf t.counts.steps (held_by t.levels) number t.rules.firsts heads nexts'
        chains =
            chains_agree t.counts.steps (passed t.levels i) (held_by t.levels) number t.rules.firsts t.rules.firsts heads nexts' (λ j h. (omega (arith, h.0, within), h.1)) held-passed (λ j h. refl)
            (chains_nexts t.counts.steps (passed t.levels i) number t.rules.firsts heads nexts nexts' (λ j h. off.before j h.0) p.chained)

        on : (j : ℕ) → held_by t.levels j → linked nexts' j
        on j h = (h.0, omega (arith, h.0, next_lower t.counts.steps (held_by t.levels) t.rules.firsts heads nexts' chains j h))

        only : (j : ℕ) → linked nexts' j → held_by t.levels j
        only j on = by_place (dec_lt j i) (free_or_held t.levels j)
          where
            by_place : Dec (j < i) → (at t.levels j ≡ 0) ⊎ (0 < at t.levels j) → held_by t.levels j
            by_place d (inr some) = (on.0, some)
            by_place (yes l) (inl none) = absurd (omega (arith, on.1, off.before j l, p.off j l none))
            by_place (no past) (inl none) = absurd (omega (arith, on.1, off.off j (omega (arith, past)) (omega (arith, on.0, nexts_room))))

        pub rules_tested : RulesTested t true heads nexts'
        rules_tested = record {
          decides = decides_yes refl all_in;
          chained = λ e. lent_chains t.counts.steps (held_by t.levels) t.rules.firsts heads nexts' on only heads_room (omega (arith, nexts_room, same_length)) chains;
        }

  -- The answer no.
  pub rules_refused : (heads nexts : List ℕ) → (HeldIn t → ⊥) → RulesTested t false heads nexts
  rules_refused heads nexts no-good = record { decides = decides_no refl no-good; chained = λ e. absurd (false≢true e) }
