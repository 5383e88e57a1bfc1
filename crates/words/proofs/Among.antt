-- A word among the words of a table.
use mathlib.Core.Path.{◌≡◌, refl, ◌∙◌, ap}
use mathlib.Core.Bool.{Bool, true, false, ◌||◌}
use mathlib.Core.List.{List, [], ◌∷◌, ◌++◌, map}
use Prim.Native.Nat.{ℕ}
use lib.Dec.{eqb}
use denote.Ref.{Bor}
use Rattle.std.specs.Cmp.Lexicographic.{pointwise}
use Rattle.std.specs.List.{list_any}
use Rattle.text.specs.Lexicon.{either, same_bytes}
use Rattle.text.proofs.Equal.{pointwise_same}
use Rattle.words.specs.Words.{among}

or_either : (a b : Bool) → (a || b) ≡ either a b
or_either true b = refl
or_either false b = refl

-- What the search through a table says.
pub found_among : (word : List ℕ) (words : List (Bor (List ℕ))) → list_any (λ w. pointwise eqb word w.now) words ≡ among word (map (λ w. w.now) words)
found_among word [] = refl
found_among word (w ∷ words) =
    or_either (pointwise eqb word w.now) (list_any (λ v. pointwise eqb word v.now) words)
    ∙ ap (λ (a : Bool). either a (list_any (λ v. pointwise eqb word v.now) words)) (pointwise_same word w.now)
    ∙ ap (either (same_bytes word w.now)) (found_among word words)

either_same : (a b c : Bool) → either (either a b) c ≡ either a (either b c)
either_same true b c = refl
either_same false b c = refl

-- Two tables are as one.
pub among_both : (word : List ℕ) (k l : List (List ℕ)) → either (among word k) (among word l) ≡ among word (k ++ l)
among_both word [] l = refl
among_both word (v ∷ k) l = either_same (same_bytes word v) (among word k) (among word l) ∙ ap (either (same_bytes word v)) (among_both word k l)
