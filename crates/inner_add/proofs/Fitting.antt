-- Whether a new rule fits, from what the days lack for it and from the spread of that gain.
use Prim.Native.Nat.{ℕ, ◌+◌, ◌≤◌, ◌<◌}
use native.Mathlib.Omega.{arith}
use native.Mathlib.Decide.{ℕ_discrete}
use mathlib.Core.Path.{◌≡◌, refl, sym, subst}
use mathlib.Core.Bool.{Bool, true, false, true≢false}
use mathlib.Core.List.{List}
use lib.ListN.{length}
use lib.IntN.{ℤ, pos}
use Rattle.meaning.specs.Rules.{Keeps, InSteps, Earliest, Fits, more, plus, rule}
use Rattle.meaning.specs.Tables.{at}
use Rattle.meaning.specs.Reckoning.{up, dn}
use Rattle.meaning.proofs.More.{more_all}
use Rattle.meaning.proofs.Theory.{earliest_ext}
use Rattle.spread.specs.Ground.{rules}
use Rattle.spread.specs.Trace.{Traced}
use Rattle.spread.specs.Clauses.{alone, Spread}
use Rattle.spread.specs.Ring.{Reached}
use Rattle.spread.proofs.Collecting.{alone_there, alone_elsewhere}
use Rattle.spread.proofs.Uses.{gains_bounded, kept_earliest, added_earliest, reached_unfit}
use Rattle.inner_add.specs.Planning.{Plannable, RulePlanned}

module _ (n : ℕ) (H : ℕ → Type 0) (order : ℕ → ℕ) (k : ℕ) (xs ys : List ℕ) (cs : List ℤ) (days heads nexts gains by : List ℕ) (x y : ℕ) (c : ℤ) (p : Plannable n H order k xs ys cs days heads nexts gains by x y c) where
  -- The steps of the rules held, and of the new rule, are below n.
  all_in : (i : ℕ) → plus H k i → InSteps n (more (rules xs ys cs) k (rule x y c) i)
  all_in = more_all (InSteps n) (rules xs ys cs) H k (rule x y c) p.new_in p.base.ground.in_steps

  -- The days keep the rule: with no gain they are the earliest plan with it.
  pub fits_at_once : Keeps (λ v. pos (at days v)) (rule x y c) → (by' : List ℕ) → RulePlanned n H k xs ys cs days gains by' x y c true
  fits_at_once kept by' =
      record {
        earliest =
            λ e.
            earliest_ext
            n
            (more (rules xs ys cs) k (rule x y c))
            (plus H k)
            (at days)
            (λ v. at days v + at gains v)
            all_in
            (λ v h. omega (arith, p.no_gains.none_yet v h))
            (kept_earliest n (rules xs ys cs) H (at days) k (rule x y c) p.free p.base.earliest kept);
        unfit = λ e. absurd (true≢false e);
        reached = λ e. absurd (true≢false e);
        lacks = λ e. absurd (true≢false e);
      }

  module _ (gain : ℕ) (lack : at days x + dn c ≡ at days y + gain + up c) (before gains' by' : List ℕ) (by_room : n ≤ length by') (s : Spread n H xs ys cs days x (λ v. at days v + alone y gain v) before gains' by') where
    -- The gain of y stays what was asked.
    gain-stays : at gains' y ≡ gain
    gain-stays =
        omega (
          arith,
          s.forced.not_below y p.new_in.second_in,
          alone_there y gain y refl,
          gains_bounded n (rules xs ys cs) H (at days) (alone y gain) (at gains') gain p.base.ground.plan s.forced most y p.new_in.second_in,
        )
      where
        most : (v : ℕ) → v < n → alone y gain v ≤ gain
        most v h = tell (ℕ_discrete v y)
          where
            tell : Dec (v ≡ y) → alone y gain v ≤ gain
            tell (yes e) = omega (arith, alone_there y gain v e)
            tell (no e) = omega (arith, alone_elsewhere y gain v e)

    -- It has not reached x: the days with their gains are the earliest plan.
    earliest-where : at gains' x ≡ 0 → Earliest n (more (rules xs ys cs) k (rule x y c)) (plus H k) (λ v. at days v + at gains' v)
    earliest-where none =
        added_earliest
        n
        (rules xs ys cs)
        H
        (at days)
        (alone y gain)
        (at gains')
        k
        (rule x y c)
        p.free
        p.new_in
        p.base.earliest
        (omega (arith, lack, alone_there y gain y refl))
        (λ v h other. alone_elsewhere y gain v other)
        (record { plan = s.plan (λ h. none); forced = s.forced })
        none

    -- It has reached x: the rule does not fit.
    unfit-where : 0 < at gains' x → Fits (rules xs ys cs) H (rule x y c) → ⊥
    unfit-where some =
        reached_unfit n (rules xs ys cs) H (at days) (alone y gain) (at gains') (rule x y c) p.new_in p.base.ground.plan
        (omega (arith, lack, alone_there y gain y refl)) (λ v h other. alone_elsewhere y gain v other) s.forced some

    reached-where : 0 < at gains' x → Reached n H k xs ys cs days gains' by' x y
    reached-where some =
        record {
          first_in = p.new_in.first_in;
          second_in = p.new_in.second_in;
          number_in = p.base.ground.number_in;
          first_place = λ i h. (p.base.ground.placed i h).first_place;
          free = p.free;
          free_in = p.free_in;
          by_room = by_room;
          in_steps = p.base.ground.in_steps;
          plan = p.base.ground.plan;
          traced = subst (λ g. Traced n (rules xs ys cs) H (at days) (λ v. at days v + alone y g v) (at gains') (at by')) (sym gain-stays) s.traced;
          reached = some;
        }

    -- A test that tells whether it has reached x tells whether the rule fits.
    pub planned : (fits : Bool) → (fits ≡ true → at gains' x ≡ 0) → (fits ≡ false → 0 < at gains' x) → RulePlanned n H k xs ys cs days gains' by' x y c fits
    planned fits none some = record {
      earliest = λ e. earliest-where (none e);
      unfit = λ e. unfit-where (some e);
      reached = λ e. reached-where (some e);
      lacks = λ e. omega (arith, lack, gain-stays);
    }
