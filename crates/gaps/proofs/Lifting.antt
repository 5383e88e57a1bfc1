-- A promise over the tables and the same promise with the gap table beside them: from the one to the other where the gap table is right, and back.
use Prim.Native.Nat.{ℕ}
use native.Mathlib.Omega.{arith}
use mathlib.Core.Path.{◌≡◌, refl}
use mathlib.Core.List.{List, [], ◌∷◌}
use mathlib.Core.Logic.{inl, inr}
use Rattle.meaning.specs.Bounds.{DONE, DAMAGED}
use Rattle.meaning.specs.Tables.{Tables}
use Rattle.meaning.specs.Promise.{Given, Need, needs, First, Meaning, Obeys}
use Rattle.gaps.specs.Gaps.{Gaps, Right, Remade}
use Rattle.gaps.specs.Beside.{beside, third, with_gaps, asks_right, leaving, remaking}

-- ---- the third need

-- Where it is met the first need not met is the same without it.
pub third_in : (n : Need) (l : List Need) (g : ℕ) → n.met → First l g → First (third n l) g
third_in n [] g met f = inr (met, f)
third_in n (a ∷ []) g met (inl f) = inl f
third_in n (a ∷ []) g met (inr f) = inr (f.0, inr (met, f.1))
third_in n (a ∷ b ∷ l) g met (inl f) = inl f
third_in n (a ∷ b ∷ l) g met (inr (x, inl f)) = inr (x, inl f)
third_in n (a ∷ b ∷ l) g met (inr (x, inr f)) = inr (x, inr (f.0, inr (met, f.1)))

pub third_out : (n : Need) (l : List Need) (g : ℕ) → n.met → First (third n l) g → First l g
third_out n [] g met (inl f) = absurd (f.1 met)
third_out n [] g met (inr f) = f.1
third_out n (a ∷ []) g met (inl f) = inl f
third_out n (a ∷ []) g met (inr (x, inl f)) = absurd (f.1 met)
third_out n (a ∷ []) g met (inr (x, inr f)) = inr (x, f.1)
third_out n (a ∷ b ∷ l) g met (inl f) = inl f
third_out n (a ∷ b ∷ l) g met (inr (x, inl f)) = inr (x, inl f)
third_out n (a ∷ b ∷ l) g met (inr (x, inr (y, inl f))) = absurd (f.1 met)
third_out n (a ∷ b ∷ l) g met (inr (x, inr (y, inr f))) = inr (x, inr (y, f.1))

-- ---- with the gap table

module _ {S : Type 0} (m : Meaning S) (asks : List Need) (left : S → Gaps → Type 0) (a b : Gaps) (s s' : S) (g : Given) where
  -- Whatever is asked besides: where the call is carried out what `left` says is left, and else the gap table is as before.
  pub lifted : First asks g.number → Obeys m s g s' → (g.number ≡ DONE → left s' b) → ((g.number ≡ DONE → ⊥) → b ≡ a) → Obeys (with_gaps asks m left a) (beside s a) g (beside s' b)
  lifted first x done not_done = record {
    first_unmet = first;
    when_done = λ e. (x.when_done e, done e);
    on_conflict = λ e. (((x.on_conflict e).0, not_done (λ z. absurd (omega (arith, e, z)))), (x.on_conflict e).1);
    when_refused = λ nd nc. let refused = x.when_refused nd nc in (refused.0, λ i. beside (refused.1 i) (not_done nd i));
  }

  pub dropped : First m.asks g.number → Obeys (with_gaps asks m left a) (beside s a) g (beside s' b) → Obeys m s g s'
  dropped first x = record {
    first_unmet = first;
    when_done = λ e. (x.when_done e).0;
    on_conflict = λ e. ((x.on_conflict e).0.0, (x.on_conflict e).1);
    when_refused = λ nd nc. let refused = x.when_refused nd nc in (refused.0, λ i. (refused.1 i).lent);
  }

module _ {S : Type 0} (m : Meaning S) (t : Tables) (a : Gaps) (right : Right t a) (s s' : S) (g : Given) where
  -- A call that leaves the gap table.
  pub lift_leaving : Obeys m s g s' → Obeys (leaving m t a) (beside s a) g (beside s' a)
  lift_leaving x = lifted m (asks_right m t a) (λ s after. after ≡ a) a a s s' g (third_in (needs DAMAGED (Right t a)) m.asks g.number right x.first_unmet) x (λ e. refl) (λ nd. refl)

  pub drop_leaving : (b : Gaps) → Obeys (leaving m t a) (beside s a) g (beside s' b) → Obeys m s g s'
  drop_leaving b x = dropped m (asks_right m t a) (λ s after. after ≡ a) a b s s' g (third_out (needs DAMAGED (Right t a)) m.asks g.number right x.first_unmet) x

  -- A call that brings it up to date.
  pub lift_remaking :
      (tables-of : S → Tables) (b : Gaps) → Obeys m s g s' → (g.number ≡ DONE → Remade (tables-of s') a b) → ((g.number ≡ DONE → ⊥) → b ≡ a) →
      Obeys (remaking tables-of m t a) (beside s a) g (beside s' b)
  lift_remaking tables-of b x =
      lifted m (asks_right m t a) (λ s after. Remade (tables-of s) a after) a b s s' g (third_in (needs DAMAGED (Right t a)) m.asks g.number right x.first_unmet) x

  pub drop_remaking : (tables-of : S → Tables) (b : Gaps) → Obeys (remaking tables-of m t a) (beside s a) g (beside s' b) → Obeys m s g s'
  drop_remaking tables-of b x =
      dropped m (asks_right m t a) (λ s after. Remade (tables-of s) a after) a b s s' g (third_out (needs DAMAGED (Right t a)) m.asks g.number right x.first_unmet) x
