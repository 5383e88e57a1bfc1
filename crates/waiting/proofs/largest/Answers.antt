-- `largest` meets its contract: where the next step has a larger gain than all before, it is the best now.
use Rattle.std.proofs.Common.{ℕ, ◌+◌, ◌-◌, List, length, get_or, take, drop, ◌≡◌, ◌≤◌, ◌<◌, ◌⊎◌, inl, inr, ap, ◌∙◌, sym, arith}
use Rattle.std.proofs.lemmas.Grind.{get_or_after_one}
use Rattle.std.proofs.lemmas.List.{get_or-take}
use native.Mathlib.Decide.{ℕ_discrete}
use Rattle.meaning.specs.Tables.{at}
use Rattle.waiting.specs.Places.{LargestOf}
use Rattle.waiting.proofs.largest.Goals as goal
use Rattle.waiting.proofs.largest.Goals.{then-top-gain, else-top-gain}

-- The steps after the first.
after_first : (l : List ℕ) (i : ℕ) → i < length l - 1 → get_or (take (length l - 1) (drop 1 l)) i 0 ≡ at l (i + 1)
after_first l i inside =
    let e : 1 + i ≡ i + 1 = omega arith in
    get_or-take (length l - 1) (drop 1 l) i 0 inside ∙ get_or_after_one l i 0 ∙ ap (at l) e

-- One step more was looked at.
one_more :
    (g list : ℕ → ℕ) (k best best' : ℕ) → LargestOf g list k best → ((g best < g (list k)) × (best' ≡ list k)) ⊎ ((g (list k) ≤ g best) × (best' ≡ best)) →
    LargestOf g list (k + 1) best'
one_more g list k best best' l (inl (more, is)) = record {
  place = k;
  place_in = omega arith;
  there = sym is;
  largest = λ j j-in. new j j-in (ℕ_discrete j k);
}
  where
    new : (j : ℕ) → j < k + 1 → Dec (j ≡ k) → g (list j) ≤ g best'
    new j j-in (yes e) = omega (arith, ap (λ (i : ℕ). g (list i)) e, ap g is)
    new j j-in (no e) = omega (arith, more, l.largest j (omega arith), ap g is)
one_more g list k best best' l (inr (no_more, is)) = record {
  place = l.place;
  place_in = omega (arith, l.place_in);
  there = l.there ∙ sym is;
  largest = λ j j-in. old j j-in (ℕ_discrete j k);
}
  where
    old : (j : ℕ) → j < k + 1 → Dec (j ≡ k) → g (list j) ≤ g best'
    old j j-in (yes e) = omega (arith, no_more, ap (λ (i : ℕ). g (list i)) e, ap g is)
    old j j-in (no e) = omega (arith, l.largest j (omega arith), ap g is)

pub loop-step-preserved : goal.loop-step-preserved
loop-step-preserved c = let l = c.loop-step in
    let gains = c.args.gains.now in
    let steps = c.args.steps.now in
    let item = after_first steps l.step-index (omega (arith, c.loop-step-test.true)) in (
      one_more (at gains) (at steps) (l.step-index + 1) l.best c.if-top-gain.best l.invariant.0
          (elim c.if-top-gain.branch [ then-top-gain w ↦ inl (omega (arith, w.if-top-gain.true, l.invariant.1, ap (at gains) item), w.best-is ∙ item) | else-top-gain w ↦ inr (omega (arith, w.if-top-gain.false, l.invariant.1, ap (at gains) item), w.best-is) ]),
      elim c.if-top-gain.branch [ then-top-gain w ↦ w.top-is ∙ ap (at gains) (sym w.best-is) | else-top-gain w ↦ w.top-is ∙ l.invariant.1 ∙ ap (at gains) (sym w.best-is) ],
    )
