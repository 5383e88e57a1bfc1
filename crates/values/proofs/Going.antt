-- Writing the values, between two names: what is left to write, over what is written, is the whole text, and there is room for it, since a declared name has at
-- most NAME-BYTES bytes and a day at most 10 digits.
use Prim.Native.Nat.{ℕ, zero, suc, ◌+◌, ◌-◌, ◌*◌, ◌≤◌, ◌<◌}
use native.Mathlib.Omega.{arith}
use mathlib.Core.Path.{◌≡◌, refl, ap, sym, subst, ◌∙◌}
use mathlib.Core.Bool.{Bool, true, false}
use mathlib.Core.List.{List, [], ◌∷◌, ◌++◌}
use lib.Dec.{ltb}
use lib.ListN.{length, take, drop, length-take}
use borrow.Author.Tests.{lt-ltb}
use Rattle.meaning.specs.Bounds.{NAME_BYTES, ASKED}
use Rattle.meaning.specs.Tables.{at}
use Rattle.text.specs.Lexicon.{bytes}
use Rattle.names.specs.Names.{name_at, Shelved}
use Rattle.write.specs.Written.{over}
use Rattle.script_meaning.specs.Effect.{pair}
use Rattle.script_meaning.proofs.Lengths.{pair_short}
use Rattle.values.specs.Pair.{gap, pair_at, pairs_from, row_values}
use Rattle.values.proofs.Wrote.{Wrote, wrote_both, wrote_rest}

gap_short : (b : Bool) → length (gap b) ≤ 1
gap_short true = omega arith
gap_short false = omega arith

-- A name with its day takes 46 bytes at most, and 2 close the text.
abbrev most : ℕ → ℕ
most k = 46 * k + 2

module _ (names lens days column : List ℕ) where
  -- What is left to write of n steps from place i of the column on, later than the first or from the first on.
  abbrev left : Bool → (i n : ℕ) → List ℕ
  left later i zero = 41 ∷ 10 ∷ []
  left later i (suc n) = gap later ++ (pair_at names lens days column i ++ pairs_from names lens days column (i + 1) n)

  all_left : (n : ℕ) → row_values names lens days column n ≡ 40 ∷ left false 0 n
  all_left zero = refl
  all_left (suc n) = refl

  later_left : (i n : ℕ) → pairs_from names lens days column i n ≡ left true i n
  unfolding pairs_from
  later_left i zero = refl
  later_left i (suc n) = refl

  module _ (k : ℕ) where
    -- The text behind its first bracket; m₀ is what it is written over, from place e₀ on.
    abbrev text : List ℕ
    text = left false 0 k

    -- With u written over m from place e on, the whole text is written.
    abbrev Finishes : (m₀ : List ℕ) (e₀ : ℕ) (m : List ℕ) (e : ℕ) (u : List ℕ) → Type 0
    Finishes m₀ e₀ m e u = Wrote m e u (over m₀ e₀ text) (e₀ + length text)

    -- The names before place i are written: m is written so far, up to place e.
    pub record Going (m₀ : List ℕ) (e₀ : ℕ) (m : List ℕ) (e i : ℕ) : Type 0 where
      pub rest : Finishes m₀ e₀ m e (left (ltb 0 i) i (k - i))
      pub long : length m ≡ length m₀
      pub room : e + most (k - i) ≤ length m

    pub going_first : (m₀ : List ℕ) (e₀ : ℕ) → k ≤ ASKED → e₀ + most ASKED ≤ length m₀ → Going m₀ e₀ m₀ e₀ 0
    going_first m₀ e₀ few room = record {
      rest =
          let whole : k ≡ k - 0 = omega arith in
          subst (λ (n : ℕ). Finishes m₀ e₀ m₀ e₀ (left false 0 n)) whole (refl, refl);
      long = refl;
      room = omega arith;
    }

-- The name of a declared step, within its places.
module _ {n : ℕ} {names lens : List ℕ} (shelved : Shelved n names lens) (step : ℕ) (declared : step < n) where
  pub name_within : 32 * step + at lens step ≤ length names
  name_within = omega (arith, shelved.names_room, shelved.names_in, shelved.short_names step declared)

  name_short : length (name_at names lens step) ≤ NAME_BYTES
  name_short = omega (arith, length-take (at lens step) (drop (NAME_BYTES * step) names), shelved.short_names step declared)

module _ {names lens days column : List ℕ} {k : ℕ} {m₀ : List ℕ} {e₀ : ℕ} {m : List ℕ} {e i : ℕ} (g : Going names lens days column k m₀ e₀ m e i) where
  -- Past the last the closing bracket and the line feed are left.
  pub going_last :
      (l : List ℕ) (i₀ : ℕ) (o : List ℕ) (f : ℕ) → (i < k → ⊥) → Wrote l i₀ (40 ∷ []) m₀ e₀ → Wrote m e (41 ∷ 10 ∷ []) o f →
      Wrote l i₀ (row_values names lens days column k) o f
  going_last l i₀ o f none first last =
      let past : k - i ≡ 0 = omega (arith, none) in
      let rest : Finishes names lens days column k m₀ e₀ m e (41 ∷ 10 ∷ []) =
      subst (λ (n : ℕ). Finishes names lens days column k m₀ e₀ m e (left names lens days column (ltb 0 i) i n)) past g.rest in
      rw (all_left names lens days column k)
      (wrote_both l i₀ (40 ∷ []) (text names lens days column k) first (last.0 ∙ sym rest.0, last.1 ∙ sym rest.1))

  -- One more name.
  module _ (more : i < k) where
    here : k - i ≡ suc (k - (i + 1))
    here = omega (arith, more)

    pub room_gap : e + length (gap (ltb 0 i)) ≤ length m
    room_gap = omega (arith, g.room, here, gap_short (ltb 0 i))

    module _ {n step day : ℕ} (shelved : Shelved n names lens) (step_is : step ≡ at column i) (declared : step < n) (day_is : day ≡ at days step) (small : at days step < 4294967296) {m' : List ℕ} {e' : ℕ} (gap-written : Wrote m e (gap (ltb 0 i)) m' e') (same : length m' ≡ length m) where
      abbrev w : List ℕ
      w = bytes names (NAME_BYTES * step) (NAME_BYTES * step + at lens step)

      name_is : w ≡ name_at names lens step
      name_is =
          let long : NAME_BYTES * step + at lens step - NAME_BYTES * step ≡ at lens step = omega arith in
          ap (λ (n : ℕ). take n (drop (NAME_BYTES * step) names)) long

      pair_is : pair w day ≡ pair_at names lens days column i
      pair_is = ap (λ (v : List ℕ). pair v day) name_is ∙ ap (pair (name_at names lens step)) day_is ∙ ap (λ (j : ℕ). pair (name_at names lens j) (at days j)) step_is

      longest : e' + length (pair w day) ≤ e + 46
      longest =
          omega (arith, gap-written.1, gap_short (ltb 0 i), pair_short w day (omega (arith, ap length name_is, name_short shelved step declared)) (omega (arith, day_is, small)))

      pub room_pair : e' + length (pair w day) ≤ length m'
      room_pair = omega (arith, longest, g.room, here, same)

      pub going_on : (o : List ℕ) (f : ℕ) → Wrote m' e' (pair w day) o f → length o ≡ length m' → Going names lens days column k m₀ e₀ o f (i + 1)
      going_on o f pair-written same' = record {
        rest =
            rw (lt-ltb 0 (i + 1) (omega arith), ← later_left names lens days column (i + 1) (k - (i + 1)))
            (wrote_rest m' e' (pair w day) (pairs_from names lens days column (i + 1) (k - (i + 1))) behind pair-written);
        long = same' ∙ same ∙ g.long;
        room = omega (arith, longest, g.room, here, pair-written.1, same', same);
      }
        where
          all : Finishes names lens days column k m₀ e₀ m e (gap (ltb 0 i) ++ (pair w day ++ pairs_from names lens days column (i + 1) (k - (i + 1))))
          all =
              subst (λ (v : List ℕ). Finishes names lens days column k m₀ e₀ m e (gap (ltb 0 i) ++ (v ++ pairs_from names lens days column (i + 1) (k - (i + 1))))) (sym pair_is)
              (subst (λ (n : ℕ). Finishes names lens days column k m₀ e₀ m e (left names lens days column (ltb 0 i) i n)) here g.rest)

          behind : Finishes names lens days column k m₀ e₀ m' e' (pair w day ++ pairs_from names lens days column (i + 1) (k - (i + 1)))
          behind = wrote_rest m e (gap (ltb 0 i)) (pair w day ++ pairs_from names lens days column (i + 1) (k - (i + 1))) all gap-written
