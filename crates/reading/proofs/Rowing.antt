-- Rules put into the rows after others are all of them put: the rows of the first stay, and the fault of the first is the first fault.
use mathlib.Core.Path.{◌≡◌, refl, sym, subst, ap, ◌∙◌}
use mathlib.Core.List.{List, [], ◌∷◌, ◌++◌, map}
use mathlib.Core.Logic.{inl, inr}
use Prim.Native.Nat.{ℕ, suc, ◌+◌, ◌≤◌, ◌<◌}
use native.Mathlib.Omega.{arith}
use native.Mathlib.Decide.{ℕ_discrete}
use lib.ListN.{length, length-append}
use Rattle.meaning.specs.Bounds.{DONE}
use Rattle.meaning.specs.Rules.{Rule}
use Rattle.meaning.specs.Tables.{Columns, rule_at}
use Rattle.meaning.specs.Promise.{First}
use Rattle.reading.specs.Tree.{Named}
use Rattle.reading.specs.Saying.{step_in, KnownIn, resolved, term_needs}
use Rattle.reading.specs.Heard.{Laid, Rowed}

map_append : {A B : Type 0} (f : A → B) (xs ys : List A) → map f (xs ++ ys) ≡ map f xs ++ map f ys
map_append f [] ys = refl
map_append f (x ∷ xs) ys = ap (λ (l : List _). f x ∷ l) (map_append f xs ys)

length_map : {A B : Type 0} (f : A → B) (xs : List A) → length (map f xs) ≡ length xs
length_map f [] = refl
length_map f (x ∷ xs) = ap suc (length_map f xs)

-- Rows that stay as they were have the same rules.
laid_stays : (before after : Columns) (k : ℕ) (rs : List Rule) → ((i : ℕ) → i < k + length rs → rule_at after i ≡ rule_at before i) → Laid before k rs → Laid after k rs
laid_stays before after k [] stays l = tt
laid_stays before after k (r ∷ rs) stays l =
    (stays k (omega arith) ∙ l.0, laid_stays before after (k + 1) rs (λ i h. stays i (omega (arith, h))) l.1)

laid_append : (rows : Columns) (k : ℕ) (rs ss : List Rule) → Laid rows k rs → Laid rows (k + length rs) ss → Laid rows k (rs ++ ss)
laid_append rows k [] ss l m = subst (λ (n : ℕ). Laid rows n ss) same m
  where
    same : k + 0 ≡ k
    same = omega arith
laid_append rows k (r ∷ rs) ss l m = (l.0, laid_append rows (k + 1) rs ss l.1 (subst (λ (n : ℕ). Laid rows n ss) (same (length rs)) m))
  where
    same : (n : ℕ) → k + suc n ≡ k + 1 + n
    same n = omega arith

module _ (K : List ℕ → Type 0) where
  -- The first fault of rules without one and others is that of the others; a fault of the first is that of all.
  first_later : (rs ss : List Named) (g h : ℕ) → g ≡ DONE → First (term_needs K rs) g → First (term_needs K ss) h → First (term_needs K (rs ++ ss)) h
  first_later [] ss g h z p q = q
  first_later (r ∷ rs) ss g h z (inl x) q = absurd (omega (arith, z, x.0))
  first_later (r ∷ rs) ss g h z (inr (a, inl x)) q = absurd (omega (arith, z, x.0))
  first_later (r ∷ rs) ss g h z (inr (a, inr (b, inl x))) q = absurd (omega (arith, z, x.0))
  first_later (r ∷ rs) ss g h z (inr (a, inr (b, inr (c, p)))) q = inr (a, inr (b, inr (c, first_later rs ss g h z p q)))

  first_stays : (rs ss : List Named) (g : ℕ) → (g ≡ DONE → ⊥) → First (term_needs K rs) g → First (term_needs K (rs ++ ss)) g
  first_stays [] ss g d p = absurd (d p)
  first_stays (r ∷ rs) ss g d (inl x) = inl x
  first_stays (r ∷ rs) ss g d (inr (a, inl x)) = inr (a, inl x)
  first_stays (r ∷ rs) ss g d (inr (a, inr (b, inl x))) = inr (a, inr (b, inl x))
  first_stays (r ∷ rs) ss g d (inr (a, inr (b, inr (c, p)))) = inr (a, inr (b, inr (c, first_stays rs ss g d p)))

module _ (n : ℕ) (names lens : List ℕ) where
  -- The fault before was none where the fault after is none.
  none_before : (rs : List Named) (k f : ℕ) (before : Columns) (k' f' : ℕ) (after : Columns) → Rowed n names lens rs k f before k' f' after → f' ≡ DONE → f ≡ DONE
  none_before rs k f before k' f' after p z = by-fault (ℕ_discrete f DONE)
    where
      by-fault : Dec (f ≡ DONE) → f ≡ DONE
      by-fault (yes e) = e
      by-fault (no d) = sym (p.fault_stays d) ∙ z

  -- Rules, and after them others.
  pub rowed_both :
      (rs ss : List Named) (k f : ℕ) (before : Columns) (k₁ f₁ : ℕ) (middle : Columns) (k₂ f₂ : ℕ) (after : Columns) →
      Rowed n names lens rs k f before k₁ f₁ middle → Rowed n names lens ss k₁ f₁ middle k₂ f₂ after → Rowed n names lens (rs ++ ss) k f before k₂ f₂ after
  rowed_both rs ss k f before k₁ f₁ middle k₂ f₂ after p q = record {
    counted = omega (arith, p.counted, q.counted, length-append rs ss);
    fault_stays = λ d. q.fault_stays (λ z. d (none_before rs k f before k₁ f₁ middle p z)) ∙ p.fault_stays d;
    fault_first = λ z. by-fault z (ℕ_discrete f₁ DONE);
    laid = λ z few. subst (Laid after k) (sym (map_append S rs ss)) (all_laid z few);
    as_many = q.as_many ∙ p.as_many;
    below_stays = λ i h. q.below_stays i (omega (arith, p.counted, h)) ∙ p.below_stays i h;
  }
    where
      S : Named → Rule
      S = resolved (step_in n names lens)

      K : List ℕ → Type 0
      K = KnownIn n names lens

      by-fault : f ≡ DONE → Dec (f₁ ≡ DONE) → First (term_needs K (rs ++ ss)) f₂
      by-fault z (yes e) = first_later K rs ss f₁ f₂ e (p.fault_first z) (q.fault_first e)
      by-fault z (no d) = subst (First (term_needs K (rs ++ ss))) (sym (q.fault_stays d)) (first_stays K rs ss f₁ d (p.fault_first z))

      all_laid : f₂ ≡ DONE → k₂ ≤ length after.firsts → Laid after k (map S rs ++ map S ss)
      all_laid z few =
          let clear = none_before ss k₁ f₁ middle k₂ f₂ after q z in
          let here : Laid middle k (map S rs) = p.laid clear (omega (arith, q.counted, few, q.as_many)) in
          let place : k₁ ≡ k + length (map S rs) = omega (arith, p.counted, length_map S rs) in
          laid_append after k (map S rs) (map S ss)
          (laid_stays middle after k (map S rs) (λ i h. q.below_stays i (omega (arith, place, h))) here)
          (subst (λ (m : ℕ). Laid after m (map S ss)) place (q.laid z few))
