-- Listing the numbers whose verdict is yes.
use Prim.Native.Nat.{ℕ, ◌+◌, ◌≤◌, ◌<◌}
use native.Mathlib.Omega.{arith}
use native.Mathlib.Numerals.{add-one}
use mathlib.Core.Path.{◌≡◌, ◌∙◌, sym, subst}
use mathlib.Core.Logic.{◌⊎◌, inl, inr}
use mathlib.Core.List.{List}
use lib.ListN.{length, set, take, length-set}
use lib.Seq.{get_or-set_other, take-suc-set}
use Rattle.meaning.specs.Promise.{Filled, Exactly}
use Rattle.meaning.proofs.Theory.{all_implies}
use Rattle.meaning.proofs.Lists.{past_refl, exactly_none, exactly_take, exactly_leave}
use mathlib.Core.Bool.{Bool, true, false}
use Rattle.lent.specs.Decides.{Decides, yes_or_no}
use Rattle.std.proofs.lemmas.List.{get_or-take, length-take-le}
use Rattle.std.proofs.lemmas.Bool.{false≢true}
use Rattle.inner_split.specs.Verdicts.{verdict, Decided, Picked}

-- Where verdicts decide P, the numbers whose verdict is yes are those that have P.
exactly_decided : (P : ℕ → Type 0) (w : ℕ) (verdicts : List Bool) (l : List ℕ) → Decided P w verdicts → Exactly (λ j. verdict verdicts j ≡ true) w l → Exactly P w l
exactly_decided P w verdicts l decided e = record {
  rising = e.rising;
  nothing_else = all_implies (λ j h. (h.0, (decided j h.0).so h.1)) l e.nothing_else;
  all_there = λ j below has. e.all_there j below (yes-on j below has (yes_or_no (verdict verdicts j)));
}
  where
    yes-on : (j : ℕ) → j < w → P j → (verdict verdicts j ≡ true) ⊎ (verdict verdicts j ≡ false) → verdict verdicts j ≡ true
    yes-on j below has (inl h) = h
    yes-on j below has (inr h) = absurd ((decided j below).not_so h has)

-- So the list that was filled with them is filled with the numbers that have P.
pub picked_decided :
    (P : ℕ → Type 0) (w : ℕ) (verdicts : List Bool) (before after : List ℕ) (k : ℕ) → Decided P w verdicts → Picked w verdicts before after k →
    Filled k (Exactly P w) before after
picked_decided P w verdicts before after k decided picked = record {
  within = picked.filled.within;
  holds = exactly_decided P w verdicts (take k after) decided picked.filled.holds;
  past = picked.filled.past;
}

-- So it is where the verdicts on w numbers are the first of the list.
pub picked_front :
    (P : ℕ → Type 0) (w : ℕ) (verdicts : List Bool) (before after : List ℕ) (k : ℕ) → w ≤ length verdicts → Decided P w verdicts →
    Picked (length (take w verdicts)) (take w verdicts) before after k → Filled k (Exactly P w) before after
picked_front P w verdicts before after k room decided picked =
    subst (λ (n : ℕ). Filled k (Exactly P n) before after) long
    (picked_decided P (length (take w verdicts)) (take w verdicts) before after k
    (λ j j-in. subst (λ (b : Bool). Decides b (P j)) (sym (get_or-take w verdicts j false (omega (arith, j-in, long)))) (decided j (omega (arith, j-in, long)))) picked)
  where
    long : length (take w verdicts) ≡ w
    long = length-take-le w verdicts room

-- Before the first number nothing is listed.
pub picked_none : (verdicts : List Bool) (list : List ℕ) → Picked 0 verdicts list list 0
picked_none verdicts list = record {
  at_most = omega arith;
  filled = record { within = omega arith; holds = exactly_none (λ j. verdict verdicts j ≡ true); past = past_refl 0 list };
}

module _ (verdicts : List Bool) (before after : List ℕ) (k j : ℕ) (picked : Picked j verdicts before after k) where
  -- A number whose verdict is yes goes to the end.
  pub picked_take : verdict verdicts j ≡ true → k < length after → Picked (j + 1) verdicts before (set after k j) (k + 1)
  picked_take says-yes place = record {
    at_most = omega (arith, picked.at_most);
    filled = record {
      within = omega (arith, picked.filled.past.same_length);
      holds =
          rw (add-one, add-one, take-suc-set after k j place)
          (exactly_take (λ i. verdict verdicts i ≡ true) j (take k after) picked.filled.holds says-yes);
      past = record {
        same_length = length-set after k j ∙ picked.filled.past.same_length;
        kept = λ i past. get_or-set_other after k i j 0 (λ e. omega arith) ∙ picked.filled.past.kept i (omega arith);
      };
    };
  }

  -- One whose verdict is no is passed over.
  pub picked_leave : verdict verdicts j ≡ false → Picked (j + 1) verdicts before after k
  picked_leave says-no = record {
    at_most = omega (arith, picked.at_most);
    filled = record {
      within = picked.filled.within;
      holds = rw add-one (exactly_leave (λ i. verdict verdicts i ≡ true) j (take k after) picked.filled.holds (λ says-yes. false≢true (sym says-no ∙ says-yes)));
      past = picked.filled.past;
    };
  }
