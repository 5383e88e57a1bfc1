-- A word is reserved exactly when it is one of the reserved words of its length: two tests that antt computes over the lists, and the law that turns them into this.
use Prim.Native.Nat.{ℕ}
use mathlib.Core.Path.{◌≡◌, refl, sym, subst}
use mathlib.Core.Bool.{Bool, true, false}
use mathlib.Core.List.{List, [], ◌∷◌}
use lib.Dec.{T}
use lib.ListN.{length}
use Rattle.text.specs.Lexicon.{either, both, same_bytes}
use Rattle.text.proofs.Equal.{same_equal}
use Rattle.text.proofs.Reading.{both_left, both_right, implies, given}
use Rattle.words.specs.Words.{among, GENERAL, COMMANDS_A_E, COMMANDS_G_S, reserved}

-- The test f passes at every word of the list.
abbrev pub every : (List ℕ → Bool) → List (List ℕ) → Bool
every f [] = true
every f (v ∷ l) = both (f v) (every f l)

-- A test that passes at every word of a list passes at a word that is among them.
passes : (f : List ℕ → Bool) (L : List (List ℕ)) → T (every f L) → (w : List ℕ) → T (among w L) → T (f w)
passes f [] all w in-it = absurd in-it
passes f (v ∷ l) all w in-it = by (passes f l (both_right (f v) (every f l) all) w) (same_bytes w v) refl in-it
  where
    by : (T (among w l) → T (f w)) → (b : Bool) → same_bytes w v ≡ b → T (either b (among w l)) → T (f w)
    by later true e h = subst (λ (x : List ℕ). T (f x)) (sym (same_equal w v e)) (both_left (f v) (every f l) all)
    by later false e h = later h

-- The test passes at every reserved word.
abbrev pub everywhere : (List ℕ → Bool) → Bool
everywhere f = both (every f GENERAL) (both (every f COMMANDS_A_E) (every f COMMANDS_G_S))

at_reserved : (f : List ℕ → Bool) → T (everywhere f) → (w : List ℕ) → T (reserved w) → T (f w)
at_reserved f all w is = by (among w GENERAL) refl (among w COMMANDS_A_E) refl is
  where
    by : (a : Bool) → among w GENERAL ≡ a → (b : Bool) → among w COMMANDS_A_E ≡ b → T (either a (either b (among w COMMANDS_G_S))) → T (f w)
    by true e b d h = passes f GENERAL (both_left (every f GENERAL) (both (every f COMMANDS_A_E) (every f COMMANDS_G_S)) all) w (subst T (sym e) tt)
    by false e true d h =
        passes f COMMANDS_A_E (both_left (every f COMMANDS_A_E) (every f COMMANDS_G_S) (both_right (every f GENERAL) (both (every f COMMANDS_A_E) (every f COMMANDS_G_S)) all)) w (subst T (sym d) tt)
    by false e false d h =
        passes f COMMANDS_G_S (both_right (every f COMMANDS_A_E) (every f COMMANDS_G_S) (both_right (every f GENERAL) (both (every f COMMANDS_A_E) (every f COMMANDS_G_S)) all)) w h

-- L has the reserved words whose length passes the test t, and no others but reserved words.
abbrev pub has_those : (ℕ → Bool) → List (List ℕ) → Bool
has_those t L = both (everywhere (λ v. implies (t (length v)) (among v L))) (every reserved L)

equal : (a b : Bool) → (T a → T b) → (T b → T a) → a ≡ b
equal true true f g = refl
equal true false f g = absurd (f tt)
equal false true f g = absurd (g tt)
equal false false f g = refl

pub by_length : (t : ℕ → Bool) (L : List (List ℕ)) → T (has_those t L) → (w : List ℕ) → T (t (length w)) → reserved w ≡ among w L
by_length t L has w fits =
    equal (reserved w) (among w L)
    (λ is. given (t (length w)) (among w L) (at_reserved (λ v. implies (t (length v)) (among v L)) (both_left (everywhere (λ v. implies (t (length v)) (among v L))) (every reserved L) has) w is) fits)
    (λ is. passes reserved L (both_right (everywhere (λ v. implies (t (length v)) (among v L))) (every reserved L) has) w is)
