-- The step that a name stands for is the number under which it is found: seeking goes through the numbers in order and stops at the first that has the name.
use Prim.Native.Nat.{ℕ, zero, suc, ◌+◌, ◌*◌, ◌≤◌, ◌<◌}
use native.Mathlib.Omega.{arith}
use native.Mathlib.Decide.{ℕ_discrete}
use mathlib.Core.Path.{◌≡◌, refl, sym, ap, ◌∙◌}
use mathlib.Core.Bool.{Bool, true, false, cond, true≢false}
use mathlib.Core.List.{List}
use mathlib.Core.Logic.{◌⊎◌, inl, inr}
use lib.ListN.{length, drop, length-take}
use Rattle.meaning.specs.Bounds.{NAME_BYTES}
use Rattle.meaning.specs.Tables.{at}
use Rattle.text.specs.Lexicon.{same_bytes}
use Rattle.names.specs.Names.{name_at, Shelved, Unknown, Found, AllDifferent}
use Rattle.text.proofs.Equal.{same_equal, equal_same}
use Rattle.names.proofs.Unique.{found_unique}
use Rattle.reading.specs.Saying.{seek, step_in, KnownIn}

module _ (names lens w : List ℕ) where
  -- r is the number of a name w among the `left` names from number k on, or it is past them and none of them is w.
  abbrev FoundFrom : (left k r : ℕ) → Type 0
  FoundFrom left k r =
      ((r < k + left) × (name_at names lens r ≡ w)) ⊎ ((r ≡ k + left) × ((j : ℕ) → k ≤ j → j < k + left → name_at names lens j ≡ w → ⊥))

  seek_found : (left k : ℕ) → FoundFrom left k (seek left k names lens w)
  unfolding seek
  seek_found zero k = inr (omega arith, λ j h l e. omega arith)
  seek_found (suc left) k = by_name (same_bytes (name_at names lens k) w) refl (seek_found left (k + 1))
    where
      by_name :
          (b : Bool) → b ≡ same_bytes (name_at names lens k) w → FoundFrom left (k + 1) (seek left (k + 1) names lens w) →
          FoundFrom (suc left) k (cond b k (seek left (k + 1) names lens w))
      by_name true is rest = inl (omega arith, same_equal (name_at names lens k) w (sym is))
      by_name false is (inl found) = inl (omega (arith, found.0), found.1)
      by_name false is (inr none) = inr (omega (arith, none.0), λ j h l e. by_place j h l e (ℕ_discrete j k))
        where
          by_place : (j : ℕ) → k ≤ j → j < k + suc left → name_at names lens j ≡ w → Dec (j ≡ k) → ⊥
          by_place j h l e (yes here) =
              true≢false (sym (equal_same w) ∙ ap (λ (v : List ℕ). same_bytes v w) (sym e ∙ ap (name_at names lens) here) ∙ sym is)
          by_place j h l e (no other) = none.1 j (omega arith) (omega arith) e

  -- The step of w is a number under which it is found.
  step_found : (n : ℕ) → Found n names lens w (step_in n names lens w)
  step_found n = whole (seek_found n 0)
    where
      whole : FoundFrom n 0 (step_in n names lens w) → Found n names lens w (step_in n names lens w)
      whole (inl found) = inl (omega (arith, found.0), found.1)
      whole (inr none) = inr (omega (arith, none.0), λ j l e. none.1 j (omega arith) (omega arith) e)

  -- Where all names are different it is every such number, also where w is not declared.
  pub step_is : (n r : ℕ) → AllDifferent n names lens → Found n names lens w r → step_in n names lens w ≡ r
  step_is n r different found = found_unique n names lens different w (step_in n names lens w) r (step_found n) found

  -- The name under the step of a known name is that name.
  known_name : (n : ℕ) → KnownIn n names lens w → name_at names lens (step_in n names lens w) ≡ w
  known_name n known = name (step_found n)
    where
      name : Found n names lens w (step_in n names lens w) → name_at names lens (step_in n names lens w) ≡ w
      name (inl found) = found.1
      name (inr none) = absurd (omega (arith, none.0, known))

  -- So a known name is short where those declared are.
  pub known_short : (n : ℕ) → Shelved n names lens → KnownIn n names lens w → length w ≤ NAME_BYTES
  known_short n shelved known =
      let k = step_in n names lens w in
      omega (arith, ap length (known_name n known), length-take (at lens k) (drop (NAME_BYTES * k) names), shelved.short_names k known)

  -- A name under a number is known, and a name that is not known is under none.
  numbered_known : (n k : ℕ) → k < n → name_at names lens k ≡ w → KnownIn n names lens w
  numbered_known n k h e = known (step_found n)
    where
      known : Found n names lens w (step_in n names lens w) → KnownIn n names lens w
      known (inl found) = found.0
      known (inr none) = absurd (none.1 k h e)

  unknown_not : (n : ℕ) → Unknown n names lens w → KnownIn n names lens w → ⊥
  unknown_not n unknown known = unknown (step_in n names lens w) known (known_name n known)

  -- What the number that a name is found under says: below the count the name is declared, else it is not, and the number is the count.
  pub found_known : (n r : ℕ) → Found n names lens w r → r < n → KnownIn n names lens w
  found_known n r (inl found) h = numbered_known n r found.0 found.1
  found_known n r (inr none) h = absurd (omega (arith, none.0))

  pub found_name : (n r : ℕ) → Found n names lens w r → r < n → name_at names lens r ≡ w
  found_name n r (inl found) h = found.1
  found_name n r (inr none) h = absurd (omega (arith, none.0))

  pub found_unknown : (n r : ℕ) → Found n names lens w r → n ≤ r → KnownIn n names lens w → ⊥
  found_unknown n r (inl found) h = absurd (omega (arith, found.0))
  found_unknown n r (inr none) h = unknown_not n none.1

  pub found_last : (n r : ℕ) → Found n names lens w r → n ≤ r → r ≡ n
  found_last n r (inl found) h = absurd (omega (arith, found.0))
  found_last n r (inr none) h = none.0
