-- Places passed one by one: those of a level that is not above k are put on their chains, the others are freed.
use Prim.Native.Nat.{ℕ, zero, suc, ◌+◌, ◌≤◌, ◌<◌}
use native.Mathlib.Omega.{arith}
use native.Mathlib.Decide.{ℕ_discrete, dec_lt}
use mathlib.Core.Path.{◌≡◌, refl, sym, ◌∙◌, ap, subst}
use mathlib.Core.List.{List}
use mathlib.Core.Logic.{inl, inr}
use lib.ListN.{length, set}
use lib.Seq.{get_or-set_same, get_or-set_other}
use Rattle.meaning.specs.Bounds.{RULES}
use Rattle.meaning.specs.Rules.{plus}
use Rattle.meaning.specs.Tables.{at, taken, freed_above}
use Rattle.meaning.proofs.Places.{cell_freed, taken_of_none, taken_free, taken_held, taken_same, taken_past, freed_of_none, freed_leaves, freed_frees, freed_past}
use Rattle.lent.specs.Lent.{first, held_by}
use Rattle.chains.specs.Chains.{ChainsOf, number, OFF, linked, LentChains, Empty, Pushed}
use Rattle.chains.proofs.Laws.{chained_none, chains_agree, chains_nexts, chains_more, lent_chains}
use Rattle.inner_back.specs.Freeing.{Stays, Goes, Sifted}
use Rattle.inner_back.proofs.Counting.{taken_rest, freed_rest}

-- The places held below i.
abbrev pub passed : ℕ → List ℕ → ℕ → Type 0
passed i levels j = (j < i) × held_by levels j

-- The places below i have been passed: those above k are freed, the chains are those of the others, and seen and left say how many were held and are. Of every
-- place, passed or not, nexts says whether it is held.
pub record Sifting (n k i : ℕ) (xs before levels heads nexts : List ℕ) (seen left : ℕ) : Type 0 where
  pub within : i ≤ RULES
  pub levels_are : levels ≡ freed_above i k before
  pub chained : ChainsOf n (passed i levels) number xs heads nexts
  pub on : (j : ℕ) → held_by levels j → linked nexts j
  pub only : (j : ℕ) → linked nexts j → held_by levels j
  pub seen_are : seen ≡ taken i before
  pub left_are : left ≡ taken i levels

-- A place counts 1 at most.
pub sifted_one : {k i : ℕ} {xs levels heads nexts levels' heads' nexts' : List ℕ} {r : ℕ} → Sifted k i xs levels heads nexts levels' heads' nexts' r → r ≤ 1
sifted_one (inl stays) = omega (arith, stays.counts_one)
sifted_one (inr goes) = omega (arith, goes.counts_none)

-- Before the first place the chains are empty.
pub sifting_none :
    (n k : ℕ) (xs levels heads heads' nexts : List ℕ) → LentChains n (held_by levels) xs heads nexts → Empty n heads' → Sifting n k 0 xs levels levels heads' nexts 0 0
sifting_none n k xs levels heads heads' nexts lent empty = record {
  within = omega arith;
  levels_are = sym (freed_of_none k levels);
  chained =
      chains_agree n (first 0) (passed 0 levels) number xs xs heads' nexts (λ j h. absurd (omega (arith, h))) (λ j h. h.0) (λ j h. refl)
      (chained_none n xs heads' nexts empty);
  on = lent.on;
  only = lent.only;
  seen_are = sym (taken_of_none levels);
  left_are = sym (taken_of_none levels);
}

module _ {n k i : ℕ} {xs before levels heads nexts : List ℕ} {seen left : ℕ} (s : Sifting n k i xs before levels heads nexts seen left) where
  -- The next place is as it was.
  pub not_yet : (j : ℕ) → i ≤ j → at levels j ≡ at before j
  not_yet j from = ap (λ (l : List ℕ). at l j) s.levels_are ∙ freed_past i k before j from

  -- Where not all have been seen, a place is left.
  pub place_left : seen < taken RULES before → i < RULES
  place_left fewer = tell (dec_lt i RULES)
    where
      tell : Dec (i < RULES) → i < RULES
      tell (yes h) = h
      tell (no h) =
          let end : i ≡ RULES = omega (arith, s.within) in
          absurd (omega (arith, fewer, s.seen_are, ap (λ (j : ℕ). taken j before) end))

  -- A free place is passed.
  pub sifting_free : i < RULES → at levels i ≡ 0 → Sifting n k (i + 1) xs before levels heads nexts seen left
  sifting_free inside free = record {
    within = omega arith;
    levels_are = s.levels_are ∙ sym (freed_leaves i k before (omega (arith, free, not_yet i (omega arith))));
    chained = chains_agree n (passed i levels) (passed (i + 1) levels) number xs xs heads nexts (λ j h. (omega (arith, h.0), h.1)) fewer (λ j h. refl) s.chained;
    on = s.on;
    only = s.only;
    seen_are = s.seen_are ∙ sym (taken_free i before (sym (not_yet i (omega arith)) ∙ free));
    left_are = s.left_are ∙ sym (taken_free i levels free);
  }
    where
      fewer : (j : ℕ) → passed (i + 1) levels j → passed i levels j
      fewer j (below, h) = tell (ℕ_discrete j i)
        where
          tell : Dec (j ≡ i) → passed i levels j
          tell (yes e) = absurd (omega (arith, h.1, ap (at levels) e, free))
          tell (no d) = (omega (arith, below, d), h)

  -- A held place is passed.
  module _ (inside : i < RULES) (some : 0 < at levels i) where
    seen_one : seen + 1 ≡ taken (i + 1) before
    seen_one = omega (arith, s.seen_are, taken_held i before (omega (arith, some, not_yet i (omega arith))))

    -- It stays, and is put on its chain.
    sifting-stays :
        {levels' heads' nexts' : List ℕ} {r : ℕ} → at xs i < n → Stays k i xs levels heads nexts levels' heads' nexts' r →
        Sifting n k (i + 1) xs before levels' heads' nexts' (seen + 1) (left + r)
    sifting-stays {levels'} {heads'} {nexts'} {r} first_in stays =
        subst (λ (l : List ℕ). Sifting n k (i + 1) xs before l heads' nexts' (seen + 1) (left + r)) (sym stays.levels_are) (record {
          within = omega arith;
          levels_are = s.levels_are ∙ sym (freed_leaves i k before (omega (arith, stays.low, not_yet i (omega arith))));
          chained =
              chains_agree n (plus (passed i levels) i) (passed (i + 1) levels) number xs xs heads' nexts' and_i or-i (λ j h. refl)
              (rw (p.heads_are, p.nexts_are) (chains_more n (passed i levels) number i xs heads nexts first_in (λ j h. h.0) p.head_place p.next_place s.chained));
          on = λ j h. on j h (ℕ_discrete j i);
          only = λ j h. only j h (ℕ_discrete j i);
          seen_are = seen_one;
          left_are = omega (arith, s.left_are, stays.counts_one, taken_held i levels some);
        })
      where
        p : Pushed i xs heads nexts heads' nexts'
        p = stays.pushed

        and_i : (j : ℕ) → plus (passed i levels) i j → passed (i + 1) levels j
        and_i j (inl e) = (omega (arith, e), (omega (arith, e, inside), omega (arith, ap (at levels) e, some)))
        and_i j (inr h) = (omega (arith, h.0), h.1)

        or-i : (j : ℕ) → passed (i + 1) levels j → plus (passed i levels) i j
        or-i j (below, h) = tell (ℕ_discrete j i)
          where
            tell : Dec (j ≡ i) → plus (passed i levels) i j
            tell (yes e) = inl e
            tell (no d) = inr (omega (arith, below, d), h)

        here : at nexts' i ≡ at heads (at xs i)
        here = ap (λ (l : List ℕ). at l i) p.nexts_are ∙ get_or-set_same nexts i (at heads (at xs i)) 0 p.next_place

        other : (j : ℕ) → (j ≡ i → ⊥) → at nexts' j ≡ at nexts j
        other j apart = ap (λ (l : List ℕ). at l j) p.nexts_are ∙ get_or-set_other nexts i j (at heads (at xs i)) 0 apart

        -- A head leads to a place passed, so it is a link.
        head-link : (l : ℕ) → at heads (at xs i) ≡ l → l < OFF
        head-link zero e = omega arith
        head-link (suc j) e = omega (arith, (s.chained.head_held (at xs i) j first_in e).0, inside)

        on : (j : ℕ) → held_by levels j → Dec (j ≡ i) → linked nexts' j
        on j h (yes e) = (h.0, omega (arith, ap (at nexts') e, here, head-link (at heads (at xs i)) refl))
        on j h (no d) = (h.0, omega (arith, other j d, (s.on j h).1))

        only : (j : ℕ) → linked nexts' j → Dec (j ≡ i) → held_by levels j
        only j h (yes e) = (h.0, omega (arith, ap (at levels) e, some))
        only j h (no d) = s.only j (h.0, omega (arith, other j d, h.1))

    -- It goes.
    sifting-goes :
        {levels' heads' nexts' : List ℕ} {r : ℕ} → i < length nexts → Goes k i levels heads nexts levels' heads' nexts' r →
        Sifting n k (i + 1) xs before levels' heads' nexts' (seen + 1) (left + r)
    sifting-goes {levels'} {heads'} {nexts'} {r} place goes = record {
      within = omega arith;
      levels_are =
          goes.levels_are ∙ ap (λ (l : List ℕ). set l i 0) s.levels_are ∙ sym (freed_frees i k before (omega (arith, goes.high, not_yet i (omega arith))));
      chained =
          rw goes.heads_are
          (chains_agree n (passed i levels) (passed (i + 1) levels') number xs xs heads nexts' (λ j h. (omega (arith, h.0), (h.1.0, omega (arith, h.1.1, other j (λ e. omega (arith, e, h.0))))))
          fewer (λ j h. refl)
          (chains_nexts n (passed i levels) number xs heads nexts nexts' (λ j h. other-next j (λ e. omega (arith, e, h.0))) s.chained));
      on = λ j h. let d = (apart j h).0 in (h.0, omega (arith, other-next j d, (s.on j (apart j h).1).1));
      only = λ j h. only j h (ℕ_discrete j i);
      seen_are = seen_one;
      left_are = omega (arith, s.left_are, goes.counts_none, taken_free i levels' here, taken_same i levels' levels (λ j below. other j (λ e. omega (arith, e, below))));
    }
      where
        here : at levels' i ≡ 0
        here = ap (λ (l : List ℕ). at l i) goes.levels_are ∙ cell_freed levels i

        other : (j : ℕ) → (j ≡ i → ⊥) → at levels' j ≡ at levels j
        other j d = ap (λ (l : List ℕ). at l j) goes.levels_are ∙ get_or-set_other levels i j 0 0 d

        other-next : (j : ℕ) → (j ≡ i → ⊥) → at nexts' j ≡ at nexts j
        other-next j d = ap (λ (l : List ℕ). at l j) goes.nexts_are ∙ get_or-set_other nexts i j OFF 0 d

        off : at nexts' i ≡ OFF
        off = ap (λ (l : List ℕ). at l i) goes.nexts_are ∙ get_or-set_same nexts i OFF 0 place

        apart : (j : ℕ) → held_by levels' j → (j ≡ i → ⊥) × held_by levels j
        apart j h = (d, (h.0, omega (arith, h.1, other j d)))
          where
            d : j ≡ i → ⊥
            d e = omega (arith, h.1, ap (at levels') e, here)

        fewer : (j : ℕ) → passed (i + 1) levels' j → passed i levels j
        fewer j (below, h) = (omega (arith, below, (apart j h).0), (apart j h).1)

        only : (j : ℕ) → linked nexts' j → Dec (j ≡ i) → held_by levels' j
        only j h (yes e) = absurd (omega (arith, h.1, ap (at nexts') e, off))
        only j h (no d) = (h.0, omega (arith, other j d, (s.only j (h.0, omega (arith, other-next j d, h.1))).1))

    pub sifting_more :
        {levels' heads' nexts' : List ℕ} {r : ℕ} → at xs i < n → i < length nexts → Sifted k i xs levels heads nexts levels' heads' nexts' r →
        Sifting n k (i + 1) xs before levels' heads' nexts' (seen + 1) (left + r)
    sifting_more first_in place (inl stays) = sifting-stays first_in stays
    sifting_more first_in place (inr goes) = sifting-goes place goes

  -- All that were held have been seen: what is left.
  module _ (all : taken RULES before ≤ seen) where
    rest : (j : ℕ) → i ≤ j → j < RULES → at before j ≡ 0
    rest = taken_rest RULES i before (omega (arith, all, s.seen_are))

    pub sifted_levels : levels ≡ freed_above RULES k before
    sifted_levels = s.levels_are ∙ sym (freed_rest RULES i k before s.within rest)

    pub sifted_left : left ≡ taken RULES levels
    sifted_left = s.left_are ∙ sym (taken_past RULES i levels s.within (λ j from below. not_yet j from ∙ rest j from below))

    pub sifted_chains : n ≤ length heads → RULES ≤ length nexts → LentChains n (held_by levels) xs heads nexts
    sifted_chains heads_room nexts_room =
        lent_chains n (held_by levels) xs heads nexts s.on s.only heads_room nexts_room
        (chains_agree n (passed i levels) (held_by levels) number xs xs heads nexts (λ j h. h.1) (λ j h. (below j h (dec_lt j i), h)) (λ j h. refl) s.chained)
      where
        below : (j : ℕ) → held_by levels j → Dec (j < i) → j < i
        below j h (yes l) = l
        below j h (no l) = absurd (omega (arith, h.1, not_yet j (omega (arith, l)), rest j (omega (arith, l)) h.0))
