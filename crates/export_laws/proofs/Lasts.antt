-- What a thin call hands on: whatever it has of those parameters at exit is what its callee says of their last values. Laws of walks by hand, over any signature.
use mathlib.Core.List.{List, [], ◌∷◌}
use Prim.Native.Nat.{ℕ, zero, suc}
use seplogic.Ra.Ura.{Ura}
use base.Logic.{SProp, ent, sep, emp}
use types.Logic.{Logic}
use contract.Lifetimes.{Lfts}
use types.Kit.{raw, ◌$◌, ◌∵◌, !, qed, frame, done}
use denote.RattleType.{Denots}
use denote.Exit.{Kept, left}
use denote.Signature.{Slot, types_at}
use denote.Triple.End.{Kepts, Fins}
use denote.Triple.Walked.{Stay, Stays, fits_of, Goes, AllGo}

module _ {n : ℕ} where
  -- The parameters past the first k.
  abbrev pub past : ℕ → List (Slot n) → List (Slot n)
  past zero ss = ss
  past (suc k) [] = []
  past (suc k) (s ∷ ss) = past k ss

  -- Of a parameter that was handed on there is what is said of its last value, and of each of a list.
  abbrev pub stay_last : (s : Slot n) (k : Kept) → Stay s k
  stay_last s k = record { fit = λ κs x f. Unit {0}; has = λ κs x f vs. left ((s.row κs).exit k) x f }

  abbrev pub stay_lasts : (ss : List (Slot n)) (ks : Kepts ss) → Stays ss ks
  stay_lasts [] ks = tt
  stay_lasts (s ∷ ss) ks = (stay_last s ks.0, stay_lasts ss ks.1)

  -- What the parameters past the first k keep.
  abbrev pub kepts_past : (k : ℕ) (ss : List (Slot n)) → Kepts ss → Kepts (past k ss)
  kepts_past zero ss ks = ks
  kepts_past (suc k) [] ks = ks
  kepts_past (suc k) (s ∷ ss) ks = kepts_past k ss ks.1

  -- The first k were handed on, and of the others there is what is said.
  abbrev pub stay_first : (k : ℕ) (ss : List (Slot n)) (ks : Kepts ss) → Stays (past k ss) (kepts_past k ss ks) → Stays ss ks
  stay_first zero ss ks others = others
  stay_first (suc k) [] ks others = others
  stay_first (suc k) (s ∷ ss) ks others = (stay_last s ks.0, stay_first k ss ks.1 others)

  -- Nothing is owed of it.
  abbrev pub fit_lasts : (κs : Lfts n) (ss : List (Slot n)) (ks : Kepts ss) (a : Denots (types_at ss κs)) (ws : Fins κs ss ks a) → fits_of κs ss ks (stay_lasts ss ks) a ws
  fit_lasts κs [] ks a ws = tt
  fit_lasts κs (s ∷ ss) ks a ws = (tt, fit_lasts κs ss ks.1 a.1 ws.1)

module _ {M : Type 1} {𝓤 : Ura M} (𝓛 : Logic 𝓤) where
  module _ (n : ℕ) where
    -- It is what the contract says.
    pub goes_last : (s : Slot n) (k : Kept) → Goes 𝓛 n s k (stay_last s k)
    goes_last s k κs x f vs fits = 𝓛.laws.⇛_intro _

    pub go_lasts : (ss : List (Slot n)) (ks : Kepts ss) → AllGo 𝓛 n ss ks (stay_lasts ss ks)
    go_lasts [] ks = tt
    go_lasts (s ∷ ss) ks = (goes_last s ks.0, go_lasts ss ks.1)

    pub go_first :
        (k : ℕ) (ss : List (Slot n)) (ks : Kepts ss) (others : Stays (past k ss) (kepts_past k ss ks)) → AllGo 𝓛 n (past k ss) (kepts_past k ss ks) others →
        AllGo 𝓛 n ss ks (stay_first k ss ks others)
    go_first zero ss ks others go = go
    go_first (suc k) [] ks others go = go
    go_first (suc k) (s ∷ ss) ks others go = (goes_last s ks.0, go_first k ss ks.1 others go)

  -- A callee with no condition asks what its parameters' types own, and nothing beside.
  pub asked : (P : SProp 𝓤) → ent 𝓤 P (sep 𝓤 P (emp 𝓤))
  asked P = qed 𝓛 (raw P ∷ []) ∵ frame ! $ done !
