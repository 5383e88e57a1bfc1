-- What was found in the first places of a list.
use Prim.Native.Nat.{ℕ, ◌≤◌, ◌<◌}
use native.Mathlib.Omega.{arith}
use native.Mathlib.Decide.{dec_lt}
use mathlib.Core.Path.{◌∙◌, sym, ap}
use mathlib.Core.List.{List}
use lib.ListN.{length, take}
use Rattle.std.proofs.lemmas.List.{get_or-take, get_or_past, length-take-le}
use Rattle.meaning.specs.Tables.{at}
use Rattle.waiting.specs.Places.{LargestOf, InGroup, Regrouped}

-- A step with a gain has a place among the gains.
pub gain_place : (gains : List ℕ) (v : ℕ) → 0 < at gains v → v < length gains
gain_place gains v has = tell (dec_lt v (length gains))
  where
    tell : Dec (v < length gains) → v < length gains
    tell (yes h) = h
    tell (no h) = absurd (omega (arith, get_or_past gains v 0 (omega arith)))

-- The largest of the first m places.
pub largest_part :
    (g : ℕ → ℕ) (list : List ℕ) (m x : ℕ) → m ≤ length list → LargestOf g (at (take m list)) (length (take m list)) x → LargestOf g (at list) m x
largest_part g list m x room found =
    let place_in : found.place < m = omega (arith, found.place_in, length-take-le m list room) in
    record {
      place = found.place;
      place_in = place_in;
      there = sym (get_or-take m list found.place 0 place_in) ∙ found.there;
      largest = λ j j-in. omega (arith, found.largest j (omega (arith, length-take-le m list room)), ap g (get_or-take m list j 0 j-in));
    }

-- The new leader of a group of the first m places.
pub regrouped_part :
    (g : ℕ → ℕ) (list : List ℕ) (m b : ℕ) (leaders leaders' : ℕ → ℕ) → m ≤ length list →
    Regrouped g (at (take m list)) (length (take m list)) b leaders leaders' → Regrouped g (at list) m b leaders leaders'
regrouped_part g list m b leaders leaders' room r = record {
  others = r.others;
  leader = λ some. whole (r.leader (omega (arith, length-take-le m list room)));
  most = λ j j-in own. omega (arith, r.most j (omega (arith, length-take-le m list room)) own, ap g (get_or-take m list j 0 j-in));
}
  where
    whole : InGroup (at (take m list)) (length (take m list)) b (leaders' b) → InGroup (at list) m b (leaders' b)
    whole p =
        let inside : p.place < m = omega (arith, p.place_in, length-take-le m list room) in
        record { place = p.place; place_in = inside; in_group = p.in_group; there = sym (get_or-take m list p.place 0 inside) ∙ p.there }
