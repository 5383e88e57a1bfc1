-- Lists that are made element by element.
use Prim.Native.Nat.{ℕ, ◌+◌, ◌-◌, ◌≤◌, ◌<◌}
use native.Mathlib.Omega.{arith}
use native.Mathlib.Decide.{ℕ_discrete}
use mathlib.Core.Path.{◌≡◌, sym, ◌∙◌, ap, subst}
use mathlib.Core.List.{List, ◌++◌}
use lib.ListN.{length, get_or, set, length-set, take, drop, get_or-append}
use lib.Seq.{get_or-set_same, get_or-set_other, get_or-append_right}
use Rattle.std.proofs.lemmas.List.{get_or-drop, length-take, length-drop, length-append}
use Rattle.yard.specs.Tables.{Made}

module _ {A : Type 0} {d : A} {P : ℕ → A → Type 0} where
  -- One element more is written.
  pub made_more : {n : ℕ} {before after : List A} → Made d P n before after → n < length before → (v : A) → P n v → Made d P (n + 1) before (set after n v)
  made_more {n} {before} {after} m inside v holds = record {
    made = λ i below. tell i below (ℕ_discrete i n);
    rest = λ i from. get_or-set_other after n i v d (λ e. omega (arith, e, from)) ∙ m.rest i (omega arith);
    long = simp length-set m.long;
  }
    where
      tell : (i : ℕ) → i < n + 1 → Dec (i ≡ n) → P i (get_or (set after n v) i d)
      tell i below (yes e) =
          subst (λ (j : ℕ). P j (get_or (set after n v) j d)) (sym e) (subst (P n) (sym (get_or-set_same after n v d (omega (arith, m.long)))) holds)
      tell i below (no e) = subst (P i) (sym (get_or-set_other after n i v d e)) (m.made i (omega arith))

-- What was made of the first n elements alone, in another way too, was made of the whole list.
pub made_front :
    {A : Type 0} {d : A} {P Q : ℕ → A → Type 0} {m n : ℕ} {before front : List A} → n ≤ length before → length (take n before) ≤ m →
    ((i : ℕ) → i < n → (a : A) → P i a → Q i a) → Made d P m (take n before) front → Made d Q n before (front ++ drop n before)
made_front {A} {d} {P} {Q} {m} {n} {before} {front} inside end so made = record {
  made = λ i below. so i below _ (subst (P i) (sym (get_or-append front (drop n before) d i (omega (arith, few)))) (made.made i (omega (arith, few, made.long, end))));
  rest =
      λ i from.
      get_or-append_right front (drop n before) i d (omega (arith, few)) ∙ get_or-drop n before (i - length front) d
      ∙ ap (λ (j : ℕ). get_or before j d) (omega (arith, few, from));
  long = length-append front (drop n before) ∙ omega (arith, few, length-drop n before);
}
  where
    few : length front ≡ n
    few = omega (arith, made.long, length-take n before)
