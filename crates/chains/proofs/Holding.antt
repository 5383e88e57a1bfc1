-- The rules that are held told by other words: what is said of them stays.
use Prim.Native.Nat.{ℕ}
use mathlib.Core.Path.{refl}
use mathlib.Core.List.{List, [], ◌∷◌}
use mathlib.Core.Logic.{inl, inr}
use Rattle.meaning.specs.Rules.{Rule, Fits, Refutes, Reason, plus}
use Rattle.meaning.specs.Promise.{Planned, Filled}
use Rattle.meaning.proofs.Theory.{earliest_same, all_implies}

pub plus_same : {H G : ℕ → Type 0} (k : ℕ) → ((i : ℕ) → H i → G i) → (i : ℕ) → plus H k i → plus G k i
plus_same k to i (inl is) = inl is
plus_same k to i (inr held) = inr (to i held)

module _ {R : ℕ → Rule} {H G : ℕ → Type 0} (to : (i : ℕ) → H i → G i) (from : (i : ℕ) → G i → H i) where
  pub planned_same : {n : ℕ} {before after : List ℕ} → Planned n R H before after → Planned n R G before after
  planned_same p = record { earliest = earliest_same from to (λ i h. refl) p.earliest; past = p.past }

  pub unfit_same : {r : Rule} → (Fits R H r → ⊥) → Fits R G r → ⊥
  unfit_same unfit f = unfit (record { days = f.days; arrangement = λ i h. f.arrangement i (to i h); kept = f.kept })

pub refutes_same :
    (R : ℕ → Rule) (H G : ℕ → Type 0) → ((i : ℕ) → H i → G i) → (k : ℕ) (r : Rule) (l : List ℕ) → Refutes R H k r l → Refutes R G k r l
refutes_same R H G to k r [] refutes = refutes
refutes_same R H G to k r (j ∷ l) (is, by) = (is, record { ring = by.ring; negative = by.negative; rest_held = all_implies to l by.rest_held })

module _ {R : ℕ → Rule} {H G : ℕ → Type 0} (to : (i : ℕ) → H i → G i) (from : (i : ℕ) → G i → H i) where
  pub reason_same : {k : ℕ} {r : Rule} {l : List ℕ} → Reason R H k r l → Reason R G k r l
  reason_same {k} {r} {l} reason = record {
    refutes = refutes_same R H G to k r l reason.refutes;
    fewest = λ o other. reason.fewest o (refutes_same R G H from k r o other);
    others_after = λ o other. reason.others_after o (refutes_same R G H from k r o other);
  }

  pub filled_same : {s k : ℕ} {r : Rule} {before after : List ℕ} → Filled s (Reason R H k r) before after → Filled s (Reason R G k r) before after
  filled_same f = record { within = f.within; holds = reason_same f.holds; past = f.past }
