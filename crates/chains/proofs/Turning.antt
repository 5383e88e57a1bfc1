-- The rules on the chains put on chains by other steps, place by place.
use Prim.Native.Nat.{ℕ, zero, suc, ◌+◌, ◌<◌}
use native.Mathlib.Omega.{arith}
use native.Mathlib.Decide.{ℕ_discrete}
use mathlib.Core.Path.{◌≡◌, refl, sym, ◌∙◌, ap, subst}
use mathlib.Core.List.{List}
use mathlib.Core.Logic.{inl, inr}
use lib.Seq.{get_or-set_same, get_or-set_other}
use Rattle.meaning.specs.Bounds.{RULES}
use Rattle.meaning.specs.Rules.{plus}
use Rattle.meaning.specs.Tables.{at}
use Rattle.chains.specs.Chains.{ChainsOf, number, OFF, linked, Empty, Pushed, ChainsNow}
use Rattle.chains.proofs.Laws.{chained_none, chains_agree, chains_more}

-- The rules that were on chains, below number k.
abbrev passed : ℕ → List ℕ → ℕ → Type 0
passed k before i = (i < k) × linked before i

-- Of the places below k the rules are on their chains by ys, and just the rules that were on chains have a link.
pub record Turned (n k : ℕ) (ys before heads nexts : List ℕ) : Type 0 where
  pub chained : ChainsOf n (passed k before) number ys heads nexts
  pub on : (i : ℕ) → linked before i → linked nexts i
  pub only : (i : ℕ) → linked nexts i → linked before i

-- None yet.
pub turned_none : (n : ℕ) (ys before heads : List ℕ) → Empty n heads → Turned n 0 ys before heads before
turned_none n ys before heads empty = record {
  chained = chains_agree n (λ i. i < 0) (passed 0 before) number ys ys heads before (λ i h. absurd (omega (arith, h))) (λ i h. h.0) (λ i h. refl) (chained_none n ys heads before empty);
  on = λ i h. h;
  only = λ i h. h;
}

module _ (n k : ℕ) (ys before heads nexts : List ℕ) (t : Turned n k ys before heads nexts) where
  -- Place k has no rule on a chain.
  pub turned_past : (linked nexts k → ⊥) → Turned n (k + 1) ys before heads nexts
  turned_past off = record {
    chained = chains_agree n (passed k before) (passed (k + 1) before) number ys ys heads nexts (λ i h. (omega (arith, h.0), h.1)) lower (λ i h. refl) t.chained;
    on = t.on;
    only = t.only;
  }
    where
      lower : (i : ℕ) → passed (k + 1) before i → passed k before i
      lower i (h, was) = by_place (ℕ_discrete i k)
        where
          by_place : Dec (i ≡ k) → passed k before i
          by_place (yes e) = absurd (off (subst (linked nexts) e (t.on i was)))
          by_place (no apart) = (omega (arith, h, apart), was)

  -- It has one, and that was put on its chain.
  pub turned_more :
      linked nexts k → at ys k < n → (heads' nexts' : List ℕ) → Pushed k ys heads nexts heads' nexts' → Turned n (k + 1) ys before heads' nexts'
  turned_more here step_in heads' nexts' p = record {
    chained =
        chains_agree n (plus (passed k before) k) (passed (k + 1) before) number ys ys heads' nexts' to from (λ i h. refl)
        (rw (p.heads_are, p.nexts_are) (chains_more n (passed k before) number k ys heads nexts step_in (λ i h. h.0) p.head_place p.next_place t.chained));
    on = λ i was. on i was (ℕ_discrete i k);
    only = λ i h. only i h (ℕ_discrete i k);
  }
    where
      to : (i : ℕ) → plus (passed k before) k i → passed (k + 1) before i
      to i (inl is) = (omega (arith, is), subst (linked before) (sym is) (t.only k here))
      to i (inr (h, was)) = (omega (arith, h), was)

      from : (i : ℕ) → passed (k + 1) before i → plus (passed k before) k i
      from i (h, was) = by_place (ℕ_discrete i k)
        where
          by_place : Dec (i ≡ k) → plus (passed k before) k i
          by_place (yes e) = inl e
          by_place (no apart) = inr (omega (arith, h, apart), was)

      new : at nexts' k ≡ at heads (at ys k)
      new = ap (λ (l : List ℕ). at l k) p.nexts_are ∙ get_or-set_same nexts k (at heads (at ys k)) 0 p.next_place

      other : (i : ℕ) → (i ≡ k → ⊥) → at nexts' i ≡ at nexts i
      other i apart = ap (λ (l : List ℕ). at l i) p.nexts_are ∙ get_or-set_other nexts k i (at heads (at ys k)) 0 apart

      -- A head leads to a rule that was on a chain, so it is a link.
      head-link : (l : ℕ) → at heads (at ys k) ≡ l → l < OFF
      head-link zero e = omega arith
      head-link (suc j) e = omega (arith, (t.chained.head_held (at ys k) j step_in e).1.0)

      on : (i : ℕ) → linked before i → Dec (i ≡ k) → linked nexts' i
      on i was (yes e) = (was.0, omega (arith, ap (at nexts') e, new, head-link (at heads (at ys k)) refl))
      on i was (no apart) = (was.0, omega (arith, other i apart, (t.on i was).1))

      only : (i : ℕ) → linked nexts' i → Dec (i ≡ k) → linked before i
      only i h (yes e) = subst (linked before) (sym e) (t.only k here)
      only i h (no apart) = t.only i (h.0, omega (arith, h.1, other i apart))

-- All places are passed.
pub turned_all : (n : ℕ) (ys before heads nexts : List ℕ) → Turned n RULES ys before heads nexts → ChainsNow n (linked before) ys heads nexts
turned_all n ys before heads nexts t = record {
  chained =
      chains_agree n (passed RULES before) (linked nexts) number ys ys heads nexts (λ i h. t.on i h.1) (λ i h. (h.0, t.only i h)) (λ i h. refl) t.chained;
  on = t.on;
  only = t.only;
}
