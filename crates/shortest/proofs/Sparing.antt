-- What a rule held has to spare, as the machine reckons it, and the cell that it lowers.
use Prim.Native.Nat.{ℕ, ◌+◌, ◌≤◌, ◌<◌}
use native.Mathlib.Omega.{arith}
use native.Mathlib.Decide.{ℕ_discrete, dec_lt}
use mathlib.Core.Path.{◌≡◌, refl, subst}
use mathlib.Core.List.{List}
use mathlib.Core.Bool.{Bool, true, false}
use mathlib.Core.Logic.{inl, inr}
use lib.ListN.{set}
use Rattle.meaning.specs.Bounds.{RULES}
use Rattle.meaning.specs.Tables.{at}
use Rattle.lent.specs.Decides.{Decides}
use Rattle.lent.specs.Lent.{Dated, Spare}
use Rattle.chains.specs.declared.Held.{Held}
use Rattle.shortest.specs.declared.Search.{Search}
use Rattle.shortest.specs.Clauses.{on, spares_of, KeptOn}
use Rattle.shortest.specs.Searching.{Lowered, Fits, Pickable, Picked}

module _ (n : ℕ) (held : Held) (kept : KeptOn n held) (i : ℕ) (on-it : on held i) where
  -- A rule held can be read.
  pub held_dated : Dated held.rules.xs.now held.rules.ys.now held.rules.cs.now held.days.now i
  held_dated = record {
    placed = kept.placed i on-it;
    first_day = omega (arith, (kept.in_steps i on-it).first_in, kept.days_room);
    second_day = omega (arith, (kept.in_steps i on-it).second_in, kept.days_room);
  }

-- What it has to spare is what is left.
pub spare_is : (held : Held) (i r : ℕ) → Spare held.rules.xs.now held.rules.ys.now held.rules.cs.now held.days.now i r → r ≡ spares_of held i
spare_is held i r spare = omega (arith, spare)

-- A cell that has more than the sum is lowered to it, and another is left.
pub lowered_more :
    (depth limit place place' sum sum' : ℕ) (cells : List ℕ) → place' ≡ place → sum' ≡ sum → sum' < at cells place' → Lowered depth limit place sum cells (set cells place' sum')
lowered_more depth limit place place' sum sum' cells place-is sum-is more =
    subst (λ (p : ℕ). Lowered depth limit p sum cells (set cells place' sum')) place-is
    (subst (λ (r : ℕ). Lowered depth limit place' r cells (set cells place' sum')) sum-is (inr (inl (more, refl))))

pub lowered_not : (depth limit place place' sum sum' : ℕ) (cells : List ℕ) → place' ≡ place → sum' ≡ sum → at cells place' ≤ sum' → Lowered depth limit place sum cells cells
lowered_not depth limit place place' sum sum' cells place-is sum-is enough =
    subst (λ (p : ℕ). Lowered depth limit p sum cells cells) place-is
    (subst (λ (r : ℕ). Lowered depth limit place' r cells cells) sum-is (inr (inr (enough, refl))))

-- ---- the lowest that fits

module _ (s : Search) (v bound : ℕ) (layer : List ℕ) where
  -- A rule held of the step fits where the test of its sum says so.
  pub fits_test :
      (i r rest : ℕ) → on s.held i → at s.held.rules.xs.now i ≡ v → r ≡ spares_of s.held i → rest ≡ at layer (at s.held.rules.ys.now i) →
      (b : Bool) → (b ≡ true → r + rest < bound) → (b ≡ false → bound ≤ r + rest) → Decides b (Fits s v bound layer i)
  fits_test i r rest held own r-is rest-is b below past = record {
    so = λ e. record { held = held; own = own; below = omega (arith, below e) };
    not_so = λ e fit. omega (arith, past e, fit.below);
  }

  -- No rule below i fits.
  abbrev pub NonePassed : ℕ → Type 0
  NonePassed i = (j : ℕ) → j < i → Fits s v bound layer j → ⊥

  -- Rules of other steps that are passed.
  pub passed_others : (i r : ℕ) → ((k : ℕ) → i ≤ k → k < r → at s.held.rules.xs.now k ≡ v → ⊥) → NonePassed i → NonePassed r
  passed_others i r others none j below fit = by_place (dec_lt j i)
    where
      by_place : Dec (j < i) → ⊥
      by_place (yes lower) = none j lower fit
      by_place (no not_lower) = others j (omega (arith, not_lower)) below fit.own

  -- One rule more that does not fit.
  pub passed_more : (i : ℕ) → (Fits s v bound layer i → ⊥) → NonePassed i → NonePassed (i + 1)
  passed_more i not-here none j below fit = by_place (ℕ_discrete j i)
    where
      by_place : Dec (j ≡ i) → ⊥
      by_place (yes e) = not-here (subst (Fits s v bound layer) e fit)
      by_place (no other) = none j (omega arith) fit

  -- A rule that fits is not below i.
  to_come : (i j : ℕ) → Fits s v bound layer j → NonePassed i → i ≤ j
  to_come i j fit none = by_place (dec_lt j i)
    where
      by_place : Dec (j < i) → i ≤ j
      by_place (yes below) = absurd (none j below fit)
      by_place (no not_below) = omega (arith, not_below)

  -- The first that fits is the lowest.
  pub passed_lowest : (i : ℕ) → Fits s v bound layer i → NonePassed i → Picked s v bound layer i
  passed_lowest i fit none = record { fits = fit; lowest = λ j other. to_come i j other none }

  -- While none has come, one is left.
  pub still_to_come : (i : ℕ) → Pickable s v bound layer → NonePassed i → (((k : ℕ) → i ≤ k → k < RULES → at s.held.rules.xs.now k ≡ v → ⊥) → ⊥)
  still_to_come i pickable none others =
      let (j, fit) = pickable.some in
      others j (to_come i j fit none) (s.chained.kept.number_in j fit.held) fit.own
