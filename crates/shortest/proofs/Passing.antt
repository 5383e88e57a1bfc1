-- A test is tried at one cell after the other, or at a group of them, until it passes.
use Rattle.std.proofs.Common.{ℕ, ◌+◌, ◌-◌, ◌≤◌, ◌<◌, ◌≡◌, refl, Bool, true, false, List, length, get_or, take, drop, sym, ◌∙◌, subst, ap, arith, length-drop}
use Rattle.std.proofs.Common.{length-take}
use Rattle.std.specs.List.{slice_get}
use Rattle.std.specs.Prelude.{Option, Some, None, MatchOption, IsSome}
use Rattle.meaning.specs.Tables.{at}
use Rattle.std.proofs.lemmas.List.{get_or-take, get_or-drop}
use Rattle.std.proofs.lemmas.Option.{slice_get_read, slice_get-get_or, get_or_from_slice_get}
use native.Mathlib.Decide.{ℕ_discrete, dec_lt}
use Rattle.shortest.specs.Clauses.{Fails, PassesFirst}

module _ {A : Type 0} (P : A → Bool → Type 0) (list : List A) where
  -- One cell more at which it fails.
  pub fails_more : (i k : ℕ) (c : A) → c ≡ get_or list k c → P c false → Fails P list i k → Fails P list i (k + 1)
  fails_more i k c is fails before j from below x here = by_place (ℕ_discrete j k)
    where
      same : j ≡ k → c ≡ x
      same e = is ∙ get_or_from_slice_get list k x c (subst (λ (p : ℕ). slice_get list p ≡ Some x) e here)

      by_place : Dec (j ≡ k) → P x false
      by_place (yes e) = subst (λ (y : A). P y false) (same e) fails
      by_place (no other) = before j from (omega arith) x here

  -- A group more.
  pub fails_group :
      (i k m : ℕ) → k + m ≤ length list → Fails P (take (k + m - k) (drop k list)) 0 (length (take (k + m - k) (drop k list))) → Fails P list i k → Fails P list i (k + m)
  fails_group i k m room group before j from below x here = by_place (dec_lt j k)
    where
      long : length (take (k + m - k) (drop k list)) ≡ m
      long = omega (arith, length-take (k + m - k) (drop k list), length-drop k list)

      by_place : Dec (j < k) → P x false
      by_place (yes lower) = before j from lower x here
      by_place (no not_lower) =
          let place : j - k < m = omega (arith, not_lower) in
          let whole : k + (j - k) ≡ j = omega (arith, not_lower) in
          let read : x ≡ get_or (take (k + m - k) (drop k list)) (j - k) x =
          sym (get_or-take (k + m - k) (drop k list) (j - k) x (omega arith) ∙ get_or-drop k list (j - k) x ∙ ap (λ (p : ℕ). get_or list p x) whole ∙ get_or_from_slice_get list j x x here) in
          group (j - k) (omega arith) (omega (arith, long)) x
          (slice_get_read (take (k + m - k) (drop k list)) m (j - k) x (sym long) place read)

  -- The first at which it passes.
  pub passes_here : (i k : ℕ) (c : A) → i ≤ k → k < length list → c ≡ get_or list k c → P c true → Fails P list i k → PassesFirst P list i k
  passes_here i k c from k-in is passes before = record {
    onward = from;
    within = k-in;
    passes = λ x here. subst (λ (y : A). P y true) (is ∙ get_or_from_slice_get list k x c here) passes;
    fails = before;
  }

-- Where it cannot fail at all cells, there is one at which it passes.
pub some_there : (X : Type 0) (Y : ℕ → Type 0) (o : Option ℕ) → MatchOption o X Y → (X → ⊥) → IsSome o
some_there X Y None all none = absurd (none all)
some_there X Y (Some r) here none = refl

pub that_one : (X : Type 0) (Y : ℕ → Type 0) (o : Option ℕ) (r : ℕ) → MatchOption o X Y → o ≡ Some r → Y r
that_one X Y o r here is = let P : Option ℕ → Type 0 = λ p. MatchOption p X Y in subst P is here

-- A cell of the first n of a list.
pub front_cell : (n : ℕ) (list : List ℕ) (k : ℕ) → n ≤ length list → k < n → slice_get (take n list) k ≡ Some (at list k)
front_cell n list k room k-in =
    slice_get-get_or (take n list) k 0 (omega (arith, length-take n list)) ∙ ap (λ (c : ℕ). Some c) (get_or-take n list k 0 k-in)
