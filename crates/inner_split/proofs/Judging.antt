-- Passing verdicts along the chain of a step, and over all steps.
use Prim.Native.Nat.{ℕ, suc, ◌+◌, ◌-◌, ◌≤◌, ◌<◌}
use native.Mathlib.Omega.{arith}
use native.Mathlib.Decide.{ℕ_discrete}
use mathlib.Core.Path.{◌≡◌, refl, ◌∙◌, ap}
use mathlib.Core.List.{List}
use lib.IntN.{ℤ}
use lib.ListN.{length, set, length-set}
use lib.Seq.{get_or-set_same, get_or-set_other}
use Rattle.meaning.specs.Tables.{at}
use Rattle.lent.specs.Lent.{first}
use Rattle.chains.specs.Chains.{Chained, number}
use Rattle.chains.proofs.Walk.{Link, link_head, link_next, Met, met_head, met_next}
use mathlib.Core.Bool.{Bool, false}
use Rattle.lent.specs.Decides.{Decides, decides_same}
use Rattle.inner_split.specs.Verdicts.{verdict, Judged}
use Rattle.inner_split.specs.Clauses.{JudgedAll}

-- The chain of step a has been walked as far as the link: the verdicts on the rules met decide P, and no other verdict changed.
pub record Judging (P : ℕ → Bool → Type 0) (w : ℕ) (steps : List ℕ) (a link : ℕ) (before after : List Bool) : Type 0 where
  pub met : Met (λ j. P j (verdict after j)) (first w) number steps a link
  pub others : (j : ℕ) → (at steps j ≡ a → ⊥) → verdict after j ≡ verdict before j

module _ (P : ℕ → Bool → Type 0) (n w : ℕ) (steps heads nexts : List ℕ) (chained : Chained n w steps heads nexts) (a : ℕ) (before : List Bool) where
  -- The walk begins.
  pub judging_head : a < n → Judging P w steps a (at heads a) before before
  judging_head a_in = record { met = met_head n (first w) number steps heads nexts chained (λ j. P j (verdict before j)) a a_in; others = λ j other. refl }

  -- A verdict is passed on rule k.
  pub judging_next :
      (k : ℕ) (v : Bool) (after : List Bool) → k < w → k < length after → at steps k ≡ a → P k v → Judging P w steps a (suc k) before after →
      Judging P w steps a (at nexts k) before (set after k v)
  judging_next k v after k-in place own says judging = record {
    met = met_next n (first w) number steps heads nexts chained (λ j. P j (verdict (set after k v) j)) a k k-in own passed here;
    others = λ j other. get_or-set_other after k j v false (λ e. other (ap (at steps) e ∙ own)) ∙ judging.others j other;
  }
    where
      here : P k (verdict (set after k v) k)
      here = rw (get_or-set_same after k v false place) says

      passed : Met (λ j. P j (verdict (set after k v) j)) (first w) number steps a (suc k)
      passed j j-in above of_a = rw (get_or-set_other after k j v false (λ e. omega arith)) (judging.met j j-in above of_a)

-- The walk has come to its end.
pub judging_end : (P : ℕ → Bool → Type 0) (w : ℕ) (steps : List ℕ) (a : ℕ) (before after : List Bool) → Judging P w steps a 0 before after → Judged P w steps a before after
judging_end P w steps a before after judging = record { decided = λ j j-in of_a. judging.met j j-in (omega arith) of_a; others = judging.others }

-- The walk along the chain of step a that `judge_firsts` and `judge_seconds` make, each over its own column: it has come to the link, the list of verdicts is as long
-- as before, and verdicts are passed from the link on.
pub record Along (P : ℕ → Bool → Type 0) (w : ℕ) (steps : List ℕ) (a link : ℕ) (before after : List Bool) : Type 0 where
  pub long : length after ≡ length before
  pub linked : Link (first w) steps a link
  pub judging : Judging P w steps a link before after

module _ (P : ℕ → Bool → Type 0) (n w : ℕ) (steps heads nexts : List ℕ) (chained : Chained n w steps heads nexts) (a : ℕ) (before : List Bool) where
  -- It begins at the head of the chain.
  pub along_head : (link : ℕ) → link ≡ at heads a → a < n → Along P w steps a link before before
  along_head link is a_in = rw is (record {
    long = refl;
    linked = link_head n (first w) number steps heads nexts chained a a_in;
    judging = judging_head P n w steps heads nexts chained a before a_in;
  })

  -- A verdict is passed on the rule of the link, and the walk goes on at the next of that rule.
  pub along_next :
      (link next : ℕ) (v : Bool) (after : List Bool) → 0 < link → next ≡ at nexts (link - 1) → w ≤ length before → (at steps (link - 1) ≡ a → P (link - 1) v) →
      Along P w steps a link before after → Along P w steps a next before (set after (link - 1) v)
  along_next link next v after some is room says along =
      let k = link - 1 in
      let counted : link ≡ suc k = omega (arith, some) in
      let k-in : k < w = along.linked.held k counted in
      let own : at steps k ≡ a = along.linked.own k counted in
      rw is (record {
        long = length-set after k v ∙ along.long;
        linked = link_next n (first w) number steps heads nexts chained a k k-in own;
        judging = judging_next P n w steps heads nexts chained a before k v after k-in (omega (arith, k-in, room, along.long)) own (says own) (rw counted at along.judging);
      })

-- It has come to its end.
pub along_end :
    (P : ℕ → Bool → Type 0) (w : ℕ) (steps : List ℕ) (a link : ℕ) (before after : List Bool) → link ≡ 0 → Along P w steps a link before after → Judged P w steps a before after
along_end P w steps a link before after done along = judging_end P w steps a before after (rw done at along.judging)

-- On an empty chain there is nothing to judge.
pub judged_empty :
    (P : ℕ → Bool → Type 0) (n w : ℕ) (steps heads nexts : List ℕ) → Chained n w steps heads nexts → (a : ℕ) (before : List Bool) → a < n → at heads a ≡ 0 →
    Judged P w steps a before before
judged_empty P n w steps heads nexts chained a before a_in empty =
    judging_end P w steps a before before (rw empty at (judging_head P n w steps heads nexts chained a before a_in))

-- A verdict that P allows Q allows too, where that is so of the rules of the step.
pub judged_same :
    (P Q : ℕ → Bool → Type 0) (w : ℕ) (steps : List ℕ) (a : ℕ) (before after : List Bool) → ((j : ℕ) (says : Bool) → j < w → at steps j ≡ a → P j says → Q j says) →
    Judged P w steps a before after → Judged Q w steps a before after
judged_same P Q w steps a before after same judged =
    record { decided = λ j j-in of_a. same j (verdict after j) j-in of_a (judged.decided j j-in of_a); others = judged.others }

-- Verdicts decide P of every rule below w whose step is below a.
abbrev pub DecidedBelow : (ℕ → Type 0) → ℕ → List ℕ → ℕ → List Bool → Type 0
DecidedBelow P w steps a verdicts = (j : ℕ) → j < w → at steps j < a → Decides (verdict verdicts j) (P j)

-- With the verdicts on the rules of step a they decide it of one step more.
pub below_judged :
    (P : ℕ → Type 0) (w : ℕ) (steps : List ℕ) (a : ℕ) (before after : List Bool) → DecidedBelow P w steps a before → Judged (λ j says. Decides says (P j)) w steps a before after →
    DecidedBelow P w steps (a + 1) after
below_judged P w steps a before after below judged j j-in step_in = by_step (ℕ_discrete (at steps j) a)
  where
    by_step : Dec (at steps j ≡ a) → Decides (verdict after j) (P j)
    by_step (yes e) = judged.decided j j-in e
    by_step (no other) = rw (judged.others j other) (below j j-in (omega arith))

-- Verdicts on the watched rules are the same of rules held that are told by other words.
pub judged_held :
    (H G : ℕ → Type 0) (xs ys : List ℕ) (cs : List ℤ) (wxs wys : List ℕ) (wcs : List ℤ) (w : ℕ) (always never : List Bool) → ((i : ℕ) → H i → G i) → ((i : ℕ) → G i → H i) →
    JudgedAll G xs ys cs wxs wys wcs w always never → JudgedAll H xs ys cs wxs wys wcs w always never
judged_held H G xs ys cs wxs wys wcs w always never to from judged = record {
  in_all = λ j j-in. decides_same (λ all d a. all d (λ i g. a i (from i g))) (λ all d a. all d (λ i h. a i (to i h))) (judged.in_all j j-in);
  in_none = λ j j-in. decides_same (λ none d a. none d (λ i g. a i (from i g))) (λ none d a. none d (λ i h. a i (to i h))) (judged.in_none j j-in);
}
