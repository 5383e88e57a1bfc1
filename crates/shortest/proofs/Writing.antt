-- The list that is written holds the reason: the refused rule's number, then the least of the shortest ways from y to x.
use Prim.Native.Nat.{ℕ, zero, suc, ◌+◌, ◌-◌, ◌≤◌, ◌<◌}
use native.Mathlib.Omega.{arith}
use mathlib.Core.Path.{◌≡◌, refl, sym, ◌∙◌, ap, subst}
use mathlib.Core.List.{List, [], ◌∷◌}
use mathlib.Core.Logic.{inl, inr}
use lib.ListN.{length, set, take}
use lib.Seq.{get_or-set_same, get_or-set_other}
use lib.IntN.{ℤ}
use Rattle.meaning.specs.Tables.{at}
use Rattle.meaning.specs.Rules.{rule, Reason}
use Rattle.meaning.specs.Reckoning.{up, dn}
use Rattle.lent.specs.Lent.{Biased, BIAS}
use Rattle.chains.specs.Chains.{linked, ChainsNow}
use Rattle.chains.proofs.Holding.{refutes_same, filled_same}
use Rattle.shortest.specs.Walks.{Open, Least, part}
use Rattle.chains.specs.declared.Held.{Held}
use Rattle.shortest.specs.Layers.{Deep}
use Rattle.shortest.specs.Clauses.{rules, spares, rules_of, spares_of, on, Chained, Traced, Fewest, Refuted, ReasonIn}
use Rattle.shortest.proofs.Reasons.{some_way, least_reason}

-- The first numbers of a list, by their places.
part_behind : (a : ℕ) (l : List ℕ) (j k : ℕ) → part (at (a ∷ l)) (suc j) k ≡ part (at l) j k
part_behind a l j zero = refl
part_behind a l j (suc k) = ap (λ (o : List ℕ). at l j ∷ o) (part_behind a l (suc j) k)

take_part : (k : ℕ) (l : List ℕ) → k ≤ length l → take k l ≡ part (at l) 0 k
take_part zero l within = refl
take_part (suc k) [] within = absurd (omega arith)
take_part (suc k) (a ∷ l) within = ap (λ (o : List ℕ). a ∷ o) (take_part k l (omega (arith, within)) ∙ sym (part_behind a l 0 k))

module _ (n : ℕ) (H : ℕ → Type 0) (k : ℕ) (xs ys : List ℕ) (cs : List ℤ) (days heads nexts : List ℕ) (x y : ℕ) (c : ℤ) (list : List ℕ)
    (refuted : Refuted n H k xs ys cs days heads nexts x y c list) where
  -- What the days lack for the rule.
  abbrev pub short : ℕ
  short = at days x + dn c - (at days y + up c)

  -- A way of fewer rules than there are steps stays below it.
  some : (h : ℕ) × (h < n) × Open (rules xs ys cs) H (spares xs ys cs days) x y h short
  some =
      let (l, refutes) = refuted.refuted in
      some_way n (rules xs ys cs) H refuted.kept.in_steps (at days) refuted.kept.plan k refuted.free x y c refuted.first_in refuted.second_in l refutes

  -- So it is no 0, and the machine reckons it.
  pub lacks : at days y + up c < at days x + dn c
  lacks =
      let (h, few, way) = some in
      omega (arith, way.1.below)

  pub short_is : (dx dy b : ℕ) → dx ≡ at days x → dy ≡ at days y → Biased c b → (dy + b ≤ dx + BIAS) × (dx + BIAS - (dy + b) ≡ short)
  short_is dx dy b dx-is dy-is biased = (omega (arith, lacks, biased.is), omega (arith, lacks, biased.is))

  -- So a way can be looked for below what is equal to it.
  pub some_below : (t : ℕ) → t ≡ short → (h : ℕ) × (h < n) × Open (rules xs ys cs) H (spares xs ys cs days) x y h t
  some_below t is = subst (λ (r : ℕ). (h : ℕ) × (h < n) × Open (rules xs ys cs) H (spares xs ys cs days) x y h r) (sym is) some

  -- The shortest has fewer rules than there are steps.
  pub few_rules : (t h : ℕ) → t ≡ short → Fewest (rules xs ys cs) H (spares xs ys cs days) t x y h → h < n
  few_rules t h is few =
      let (j, below, way) = some in
      omega (arith, below, few.fewest j (subst (Open (rules xs ys cs) H (spares xs ys cs days) x y j) (sym is) way))

  -- The rule's number and the least of the shortest ways behind it are the reason.
  written :
      (t h : ℕ) (list' : List ℕ) → t ≡ short → Fewest (rules xs ys cs) H (spares xs ys cs days) t x y h → Least (rules xs ys cs) H (spares xs ys cs days) x y h t (part (at list') 1 h) →
      length list' ≡ length list → at list' 0 ≡ k → ((i : ℕ) → h + 1 ≤ i → at list' i ≡ at list i) → ReasonIn H k xs ys cs x y c (h + 1) list list'
  written t h list' is few least long named past = record {
    within = omega (arith, few_rules t h is few, refuted.list_room);
    holds = subst (Reason (rules xs ys cs) H k (rule x y c)) (sym whole)
        (least_reason n (rules xs ys cs) H refuted.kept.in_steps (at days) refuted.kept.plan k refuted.free x y c h (part (at list') 1 h)
        (subst (λ (s : ℕ). Least (rules xs ys cs) H (spares xs ys cs days) x y h s (part (at list') 1 h)) is least)
        (subst (λ (s : ℕ). Fewest (rules xs ys cs) H (spares xs ys cs days) s x y h) is few));
    past = record { same_length = long; kept = past };
  }
    where
      counted : h + 1 ≡ suc h
      counted = omega arith

      whole : take (h + 1) list' ≡ k ∷ part (at list') 1 h
      whole =
          ap (λ (j : ℕ). take j list') counted ∙ take_part (suc h) list' (omega (arith, few_rules t h is few, long, refuted.list_room))
          ∙ ap (λ (j : ℕ). j ∷ part (at list') 1 h) named

  -- So they are once the way is written.
  pub written_all :
      (t h : ℕ) (list' : List ℕ) → t ≡ short → Fewest (rules xs ys cs) H (spares xs ys cs days) t x y h → length list' ≡ length list →
      Traced (rules xs ys cs) H (spares xs ys cs days) t h x y (set list 0 k) list' → ReasonIn H k xs ys cs x y c (h + 1) list list'
  written_all t h list' is few long traced =
      written t h list' is few traced.least long
      (traced.others 0 (inl (omega arith)) ∙ get_or-set_same list 0 k 0 (omega (arith, refuted.first_in, refuted.list_room)))
      (λ i past. traced.others i (inr past) ∙ get_or-set_other list 0 i k 0 (λ e. omega arith))

-- ---- the chains

module _ (n m : ℕ) (xs ys : List ℕ) (cs : List ℤ) (days heads nexts : List ℕ) (x y : ℕ) (c : ℤ) (list : List ℕ) (refuted : Refuted n (linked nexts) m xs ys cs days heads nexts x y c list)
    (heads' nexts' : List ℕ) (heads_long : length heads' ≡ length heads) (nexts_long : length nexts' ≡ length nexts) (now : ChainsNow n (linked nexts) ys heads' nexts') where
  -- The rules that are on the chains by second steps are those that were on the chains by first steps, so the rule is refuted still.
  pub refuted_still : Refuted n (linked nexts') m xs ys cs days heads' nexts' x y c list
  refuted_still = record {
    kept = record {
      steps_in = refuted.kept.steps_in;
      number_in = λ i on. on.0;
      placed = λ i on. refuted.kept.placed i (now.only i on);
      days_room = refuted.kept.days_room;
      in_steps = λ i on. refuted.kept.in_steps i (now.only i on);
      plan = λ i on. refuted.kept.plan i (now.only i on);
    };
    heads_room = omega (arith, heads_long, refuted.heads_room);
    nexts_room = omega (arith, nexts_long, refuted.nexts_room);
    firsts_room = refuted.firsts_room;
    seconds_room = refuted.seconds_room;
    first_in = refuted.first_in;
    second_in = refuted.second_in;
    free = λ on. refuted.free (now.only m on);
    free_in = refuted.free_in;
    small = refuted.small;
    list_room = refuted.list_room;
    refuted = let (l, refutes) = refuted.refuted in (l, refutes_same (rules xs ys cs) (linked nexts) (linked nexts') now.on m (rule x y c) l refutes);
  }

  -- And what is the reason of the rules that are on them is that of those that were.
  pub reason_before : (r : ℕ) (before after : List ℕ) → ReasonIn (linked nexts') m xs ys cs x y c r before after → ReasonIn (linked nexts) m xs ys cs x y c r before after
  reason_before r before after = filled_same now.only now.on

-- With the depths, that go by the rules that were on chains.
pub turned :
    (n m : ℕ) (links : Held) (heads nexts : List ℕ) (x y : ℕ) (c : ℤ) (list : List ℕ) →
    Refuted n (linked nexts) m links.rules.xs.now links.rules.ys.now links.rules.cs.now links.days.now heads nexts x y c list →
    length links.heads.now ≡ length heads → length links.nexts.now ≡ length nexts → ChainsNow n (linked nexts) links.rules.ys.now links.heads.now links.nexts.now →
    (depths : List ℕ) (t : ℕ) → n ≤ length depths → Deep (rules_of links) (linked nexts) (spares_of links) t (at depths) → Chained n links depths t
turned n m links heads nexts x y c list refuted heads_long nexts_long now depths t room deep = record {
  kept = still.kept;
  heads_room = still.heads_room;
  firsts_room = still.firsts_room;
  nexts_room = still.nexts_room;
  chained = now.chained;
  depths_room = room;
  deep = λ i on. deep i (now.only i on);
}
  where
    still : Refuted n (on links) m links.rules.xs.now links.rules.ys.now links.rules.cs.now links.days.now links.heads.now links.nexts.now x y c list
    still = refuted_still n m links.rules.xs.now links.rules.ys.now links.rules.cs.now links.days.now heads nexts x y c list refuted links.heads.now links.nexts.now heads_long nexts_long now
