-- Chains fall: where a walk along them can begin.
use Prim.Native.Nat.{ℕ, zero, suc, ◌-◌, ◌≤◌, ◌<◌}
use native.Mathlib.Omega.{arith}
use native.Mathlib.Numerals.{unary_clauses}
use mathlib.Core.Path.{◌≡◌, refl}
use mathlib.Core.List.{List}
use lib.ListN.{length}
use Rattle.meaning.specs.Tables.{at}
use Rattle.chains.specs.Chains.{ChainsOf, number}
use Rattle.chains.specs.Links.{Falls}
use Rattle.chains.proofs.Laws.{next_lower}
use Rattle.chains.proofs.Walk.{Link, link_head, link_next}

-- A link that falls in more steps falls in as many as it says.
pub falls_sooner : (most fewer : ℕ) (nexts : List ℕ) (link : ℕ) → link ≤ fewer → Falls most nexts link → Falls fewer nexts link
falls_sooner most fewer nexts zero within f = tt
falls_sooner zero fewer nexts (suc i) within f = absurd f
falls_sooner (suc most) zero nexts (suc i) within f = absurd (omega arith)
falls_sooner (suc most) (suc fewer) nexts (suc i) within f = (f.0, (f.1.0, falls_sooner most fewer nexts (at nexts i) (omega (arith, f.1.0)) f.1.1))

-- From a rule's link, the next one falls too.
pub falls_next : (nexts : List ℕ) (link : ℕ) → (link ≡ 0 → ⊥) → Falls link nexts link → Falls (at nexts (link - 1)) nexts (at nexts (link - 1))
falls_next nexts zero some f = absurd (some refl)
falls_next nexts (suc i) some f = simp unary_clauses (falls_sooner i (at nexts i) nexts (at nexts i) (omega arith) f.1.1)

-- In chains of rules, each with a place in nexts, every link falls that leads to a rule of them.
pub chain_falls :
    (n : ℕ) (H : ℕ → Type 0) (xs heads nexts : List ℕ) → ChainsOf n H number xs heads nexts → ((i : ℕ) → H i → i < length nexts) →
    (a most link : ℕ) → link ≤ most → Link H xs a link → Falls most nexts link
chain_falls n H xs heads nexts ch place a most zero within l = tt
chain_falls n H xs heads nexts ch place a zero (suc i) within l = absurd (omega arith)
chain_falls n H xs heads nexts ch place a (suc most) (suc i) within l =
    let held : H i = l.held i refl in
    let lower : at nexts i ≤ i = next_lower n H xs heads nexts ch i held in (
      place i held,
      (lower, chain_falls n H xs heads nexts ch place a most (at nexts i) (omega (arith, lower)) (link_next n H number xs heads nexts ch a i held (l.own i refl))),
    )

-- So does the link at a step's head.
pub head_falls :
    (n : ℕ) (H : ℕ → Type 0) (xs heads nexts : List ℕ) → ChainsOf n H number xs heads nexts → ((i : ℕ) → H i → i < length nexts) →
    (a : ℕ) → a < n → Falls (at heads a) nexts (at heads a)
head_falls n H xs heads nexts ch place a a-in =
    chain_falls n H xs heads nexts ch place a (at heads a) (at heads a) (omega arith) (link_head n H number xs heads nexts ch a a-in)
