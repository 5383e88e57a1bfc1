-- A reading of the list for a window and the next: at place k, no step of the two windows is a first step twice exactly when what is left of the
-- first steps is fresh in both.
use Prim.Native.Nat.{ℕ, ◌+◌, ◌<◌}
use mathlib.Core.Path.{◌≡◌, refl}
use mathlib.Core.List.{List, ◌∷◌, map}
use mathlib.Core.Logic.{◌↔◌}
use lib.ListN.{length, drop}
use lib.Bits.{bit_and, bit_or}
use Rattle.meaning.specs.Rules.{All}
use Rattle.meaning.specs.Tables.{at}
use Rattle.ringcheck.specs.Closing.{OnceIn, FlagIn, first_steps}
use native.Mathlib.Numerals.{add-one}
use lib.Seq.{drop-cons}
use Rattle.ringcheck.proofs.Windows.{Fresh, next_unmet, next→, →next, first_met}

-- What is left of a list from place k on is the number i at place k, and what is left one place further.
left_is : (list : List ℕ) (k : ℕ) {i : ℕ} → k < length list → i ≡ at list k → drop k list ≡ i ∷ drop (k + 1) list
left_is list k here i-is = rw (add-one, i-is) (drop-cons list k 0 here)

-- What is left of the first steps from place k on is fresh in window w and in the next, where the steps met have their bits in met and in met_next.
pub record Left (xs list : List ℕ) (w met met_next k : ℕ) : Type 0 where
  pub here : Fresh w met (map (at xs) (drop k list))
  pub next : Fresh (w + 1) met_next (map (at xs) (drop k list))

-- What every number left from place k on has, the number there has, and every number left one place further.
pub all_left : (P : ℕ → Type 0) (list : List ℕ) (k : ℕ) → k < length list → All P (drop k list) → P (at list k) × All P (drop (k + 1) list)
all_left P list k here all = rw (left_is list k here refl) at all

-- At first step x alone is met.
pub at_first : (xs list : List ℕ) (w x : ℕ) {f f-next : ℕ} → FlagIn w x f → FlagIn (w + 1) x f-next → OnceIn w (first_steps xs x list) ↔ Left xs list w f f-next 0
at_first xs list w x flag flag-next = (
  λ once. record { here = (first_met flag (map (at xs) list)).0 once.here; next = (first_met flag-next (map (at xs) list)).0 once.next },
  λ left. record { here = (first_met flag (map (at xs) list)).1 left.here; next = (first_met flag-next (map (at xs) list)).1 left.next },
)

module _ {xs : List ℕ} {w met met_next : ℕ} {Sought : Type 0} (list : List ℕ) (k : ℕ) (as-left : Sought ↔ Left xs list w met met_next k) where
  module _ {s f f-next : ℕ} (here : k < length list) (s-is : s ≡ at xs (at list k)) (flag : FlagIn w s f) (flag-next : FlagIn (w + 1) s f-next) where
    -- What is left is the first step s of the number at place k, and what is left one place further.
    steps-are : map (at xs) (drop k list) ≡ s ∷ map (at xs) (drop (k + 1) list)
    steps-are = rw (left_is list k here refl, s-is)

    -- It must not be met in the window,
    pub sought_unmet : Sought → bit_and met f ≡ 0
    sought_unmet sought = next_unmet flag met (map (at xs) (drop (k + 1) list)) (rw steps-are at (as-left.0 sought).here)

    -- nor in the next.
    pub sought_unmet_next : Sought → bit_and met_next f-next ≡ 0
    sought_unmet_next sought = next_unmet flag-next met_next (map (at xs) (drop (k + 1) list)) (rw steps-are at (as-left.0 sought).next)

    -- Where it is not, the reading goes on one place further, with the step met.
    pub one_further : bit_and met f ≡ 0 → bit_and met_next f-next ≡ 0 → Sought ↔ Left xs list w (bit_or met f) (bit_or met_next f-next) (k + 1)
    one_further unmet unmet-next = (
      λ sought. record {
        here = next→ flag met (map (at xs) (drop (k + 1) list)) (rw steps-are at (as-left.0 sought).here);
        next = next→ flag-next met_next (map (at xs) (drop (k + 1) list)) (rw steps-are at (as-left.0 sought).next);
      },
      λ further. as-left.1 (record {
        here = rw steps-are (→next flag met (map (at xs) (drop (k + 1) list)) unmet further.here);
        next = rw steps-are (→next flag-next met_next (map (at xs) (drop (k + 1) list)) unmet-next further.next);
      }),
    )
