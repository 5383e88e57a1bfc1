-- The chains as rules come and go.
use Prim.Native.Nat.{ℕ, zero, suc, ◌+◌, ◌≤◌, ◌<◌}
use native.Mathlib.Omega.{arith}
use native.Mathlib.Decide.{ℕ_discrete, dec_lt}
use mathlib.Core.Path.{◌≡◌, refl, sym, ◌∙◌, ap, subst}
use mathlib.Core.List.{List}
use mathlib.Core.Logic.{inl, inr}
use lib.ListN.{length, set, length-set}
use lib.Seq.{get_or-set_same, get_or-set_other}
use Rattle.meaning.specs.Bounds.{RULES}
use Rattle.meaning.specs.Rules.{plus}
use Rattle.meaning.specs.Tables.{at}
use Rattle.lent.specs.Lent.{first, held_by, AllHeld, FreeFrom}
use Rattle.lent.proofs.Cells.{only_first}
use Rattle.chains.specs.Chains.{top, ChainsOf, number, Chained, OFF, linked, LentChains, Empty, Pushed, Dropped, OffFrom}

-- Where every chain is empty, they are the chains of no rules.
pub chained_none : (n : ℕ) (xs heads nexts : List ℕ) → Empty n heads → Chained n 0 xs heads nexts
chained_none n xs heads nexts empty = record {
  ranks_differ = λ j k held h e. e;
  head_held = λ a k h e. absurd (omega (arith, empty a h));
  head_own = λ a k h e. absurd (omega (arith, empty a h));
  head_newest = λ a k h l e. absurd (omega arith);
  next_held = λ k j h e. absurd (omega arith);
  next_own = λ k j h e. absurd (omega arith);
  next_older = λ k h. absurd (omega arith);
  next_newest = λ k j h held l e. absurd (omega arith);
}

-- Emptying the chain of a too, where those below a are empty.
pub empty_more : (a : ℕ) (heads : List ℕ) → a < length heads → Empty a heads → Empty (a + 1) (set heads a 0)
empty_more a heads h empty b l = by_place (ℕ_discrete b a)
  where
    by_place : Dec (b ≡ a) → at (set heads a 0) b ≡ 0
    by_place (yes e) = rw e (get_or-set_same heads a 0 0 h)
    by_place (no apart) = get_or-set_other heads a b 0 0 apart ∙ empty b (omega arith)

-- Chains speak of the first steps of their own rules only, and of which numbers these are.
pub chains_agree :
    (n : ℕ) (H G : ℕ → Type 0) (rank : ℕ → ℕ) (xs xs' heads nexts : List ℕ) → ((k : ℕ) → H k → G k) → ((k : ℕ) → G k → H k) → ((k : ℕ) → H k → at xs' k ≡ at xs k) →
    ChainsOf n H rank xs heads nexts → ChainsOf n G rank xs' heads nexts
chains_agree n H G rank xs xs' heads nexts to from same ch = record {
  ranks_differ = λ j k held h. ch.ranks_differ j k (from j held) (from k h);
  head_held = λ a k h e. to k (ch.head_held a k h e);
  head_own = λ a k h e. same k (ch.head_held a k h e) ∙ ch.head_own a k h e;
  head_newest = λ a k h held e. ch.head_newest a k h (from k held) (sym (same k (from k held)) ∙ e);
  next_held = λ k j h e. to j (ch.next_held k j (from k h) e);
  next_own = λ k j h e. same j (ch.next_held k j (from k h) e) ∙ ch.next_own k j (from k h) e ∙ sym (same k (from k h));
  next_older = λ k h. ch.next_older k (from k h);
  next_newest = λ k j h held l e. ch.next_newest k j (from k h) (from j held) l (sym (same j (from j held)) ∙ e ∙ same k (from k h));
}

-- And of the nexts of their own rules only.
pub chains_nexts :
    (n : ℕ) (H : ℕ → Type 0) (rank : ℕ → ℕ) (xs heads nexts nexts' : List ℕ) → ((k : ℕ) → H k → at nexts' k ≡ at nexts k) →
    ChainsOf n H rank xs heads nexts → ChainsOf n H rank xs heads nexts'
chains_nexts n H rank xs heads nexts nexts' same ch = record {
  ranks_differ = ch.ranks_differ;
  head_held = ch.head_held;
  head_own = ch.head_own;
  head_newest = ch.head_newest;
  next_held = λ k j h e. ch.next_held k j h (sym (same k h) ∙ e);
  next_own = λ k j h e. ch.next_own k j h (sym (same k h) ∙ e);
  next_older = λ k h. subst (λ (l : ℕ). top rank l ≤ rank k) (sym (same k h)) (ch.next_older k h);
  next_newest = λ k j h held l e. subst (λ (t : ℕ). rank j < top rank t) (sym (same k h)) (ch.next_newest k j h held l e);
}

pub chained_agree : (n m : ℕ) (xs xs' heads nexts : List ℕ) → ((k : ℕ) → k < m → at xs' k ≡ at xs k) → Chained n m xs heads nexts → Chained n m xs' heads nexts
chained_agree n m xs xs' heads nexts = chains_agree n (first m) (first m) number xs xs' heads nexts (λ k h. h) (λ k h. h)

-- The lists with rule m in front of its chain, and the heads without it.
abbrev linked_heads : ℕ → List ℕ → List ℕ → List ℕ
linked_heads m xs heads = set heads (at xs m) (m + 1)

abbrev linked_nexts : ℕ → List ℕ → List ℕ → List ℕ → List ℕ
linked_nexts m xs heads nexts = set nexts m (at heads (at xs m))

abbrev left_heads : ℕ → List ℕ → List ℕ → List ℕ → List ℕ
left_heads m xs heads nexts = set heads (at xs m) (at nexts m)

-- Every rule that H holds of is older than rule m.
module _ (n : ℕ) (H : ℕ → Type 0) (rank : ℕ → ℕ) (m : ℕ) (xs heads nexts : List ℕ) (first_in : at xs m < n) (older : (k : ℕ) → H k → rank k < rank m) where
  -- With rule m as the newest of its chain, chains of older rules are chains of these and of m.
  pub chains_more :
      at xs m < length heads → m < length nexts → ChainsOf n H rank xs heads nexts →
      ChainsOf n (plus H m) rank xs (linked_heads m xs heads) (linked_nexts m xs heads nexts)
  chains_more head_place next_place ch = record {
    ranks_differ = ranks_differ;
    head_held = λ a k h e. head_held a k h e (ℕ_discrete a (at xs m));
    head_own = λ a k h e. head_own a k h e (ℕ_discrete a (at xs m));
    head_newest = λ a k h held e. head_newest a k h held e (ℕ_discrete a (at xs m));
    next_held = next_held;
    next_own = next_own;
    next_older = next_older;
    next_newest = next_newest;
  }
    where
      apart_from : (k : ℕ) → H k → k ≡ m → ⊥
      apart_from k held e = omega (arith, older k held, ap rank e)

      here : at (linked_heads m xs heads) (at xs m) ≡ suc m
      here = get_or-set_same heads (at xs m) (m + 1) 0 head_place ∙ omega arith

      other : (a : ℕ) → (a ≡ at xs m → ⊥) → at (linked_heads m xs heads) a ≡ at heads a
      other a apart = get_or-set_other heads (at xs m) a (m + 1) 0 apart

      new-next : at (linked_nexts m xs heads nexts) m ≡ at heads (at xs m)
      new-next = get_or-set_same nexts m (at heads (at xs m)) 0 next_place

      old-next : (k : ℕ) → H k → at (linked_nexts m xs heads nexts) k ≡ at nexts k
      old-next k held = get_or-set_other nexts m k (at heads (at xs m)) 0 (apart_from k held)

      ranks_differ : (j k : ℕ) → plus H m j → plus H m k → rank j ≡ rank k → j ≡ k
      ranks_differ j k (inl is) (inl e) same = is ∙ sym e
      ranks_differ j k (inl is) (inr held) same = absurd (omega (arith, older k held, ap rank is))
      ranks_differ j k (inr held) (inl e) same = absurd (omega (arith, older j held, ap rank e))
      ranks_differ j k (inr held) (inr h) same = ch.ranks_differ j k held h same

      head_held : (a k : ℕ) → a < n → at (linked_heads m xs heads) a ≡ suc k → Dec (a ≡ at xs m) → plus H m k
      head_held a k h link (yes e) = inl (omega (arith, here, ap (at (linked_heads m xs heads)) e))
      head_held a k h link (no apart) = inr (ch.head_held a k h (sym (other a apart) ∙ link))

      head_own : (a k : ℕ) → a < n → at (linked_heads m xs heads) a ≡ suc k → Dec (a ≡ at xs m) → at xs k ≡ a
      head_own a k h link (yes e) = let k-is : k ≡ m = omega (arith, here, ap (at (linked_heads m xs heads)) e) in ap (at xs) k-is ∙ sym e
      head_own a k h link (no apart) = ch.head_own a k h (sym (other a apart) ∙ link)

      reaches : (k : ℕ) → plus H m k → rank k < suc (rank m)
      reaches k (inl is) = omega (arith, ap rank is)
      reaches k (inr held) = omega (arith, older k held)

      head_newest : (a k : ℕ) → a < n → plus H m k → at xs k ≡ a → Dec (a ≡ at xs m) → rank k < top rank (at (linked_heads m xs heads) a)
      head_newest a k h held own (yes e) = subst (λ (l : ℕ). rank k < top rank l) (sym (ap (at (linked_heads m xs heads)) e ∙ here)) (reaches k held)
      head_newest a k h (inl is) own (no apart) = absurd (apart (sym own ∙ ap (at xs) is))
      head_newest a k h (inr held) own (no apart) = subst (λ (l : ℕ). rank k < top rank l) (sym (other a apart)) (ch.head_newest a k h held own)

      next_held : (k j : ℕ) → plus H m k → at (linked_nexts m xs heads nexts) k ≡ suc j → plus H m j
      next_held k j (inl is) link = inr (ch.head_held (at xs m) j first_in (sym new-next ∙ ap (at (linked_nexts m xs heads nexts)) (sym is) ∙ link))
      next_held k j (inr held) link = inr (ch.next_held k j held (sym (old-next k held) ∙ link))

      next_own : (k j : ℕ) → plus H m k → at (linked_nexts m xs heads nexts) k ≡ suc j → at xs j ≡ at xs k
      next_own k j (inl is) link = ch.head_own (at xs m) j first_in (sym new-next ∙ ap (at (linked_nexts m xs heads nexts)) (sym is) ∙ link) ∙ ap (at xs) (sym is)
      next_own k j (inr held) link = ch.next_own k j held (sym (old-next k held) ∙ link)

      -- What the head of m's step led to is older than m.
      head-older : (l : ℕ) → at heads (at xs m) ≡ l → top rank l ≤ rank m
      head-older zero e = omega arith
      head-older (suc k) e = omega (arith, older k (ch.head_held (at xs m) k first_in e))

      next_older : (k : ℕ) → plus H m k → top rank (at (linked_nexts m xs heads nexts) k) ≤ rank k
      next_older k (inl is) = subst (λ (i : ℕ). top rank (at (linked_nexts m xs heads nexts) i) ≤ rank i) (sym is) (subst (λ (l : ℕ). top rank l ≤ rank m) (sym new-next) (head-older (at heads (at xs m)) refl))
      next_older k (inr held) = subst (λ (l : ℕ). top rank l ≤ rank k) (sym (old-next k held)) (ch.next_older k held)

      next_newest : (k j : ℕ) → plus H m k → plus H m j → rank j < rank k → at xs j ≡ at xs k → rank j < top rank (at (linked_nexts m xs heads nexts) k)
      next_newest k j (inl is) (inl e) l own = absurd (omega (arith, ap rank is, ap rank e))
      next_newest k j (inl is) (inr held) l own =
          subst (λ (link : ℕ). rank j < top rank link) (sym (ap (at (linked_nexts m xs heads nexts)) is ∙ new-next)) (ch.head_newest (at xs m) j first_in held (own ∙ ap (at xs) is))
      next_newest k j (inr held) (inl e) l own = absurd (omega (arith, older k held, ap rank e))
      next_newest k j (inr held) (inr h) l own = subst (λ (link : ℕ). rank j < top rank link) (sym (old-next k held)) (ch.next_newest k j held h l own)

  -- With rule m off its chain, chains of older rules and of m are chains of the older rules.
  pub chains_less : at xs m < length heads → ChainsOf n (plus H m) rank xs heads nexts → ChainsOf n H rank xs (left_heads m xs heads nexts) nexts
  chains_less head_place ch = record {
    ranks_differ = λ j k held h. ch.ranks_differ j k (inr held) (inr h);
    head_held = λ a k h e. head_held a k h e (ℕ_discrete a (at xs m));
    head_own = λ a k h e. head_own a k h e (ℕ_discrete a (at xs m));
    head_newest = λ a k h held e. head_newest a k h held e (ℕ_discrete a (at xs m));
    next_held = λ k j h e. below_next k j h e (ch.next_held k j (inr h) e);
    next_own = λ k j h e. ch.next_own k j (inr h) e;
    next_older = λ k h. ch.next_older k (inr h);
    next_newest = λ k j h held l e. ch.next_newest k j (inr h) (inr held) l e;
  }
    where
      here : at (left_heads m xs heads nexts) (at xs m) ≡ at nexts m
      here = get_or-set_same heads (at xs m) (at nexts m) 0 head_place

      other : (a : ℕ) → (a ≡ at xs m → ⊥) → at (left_heads m xs heads nexts) a ≡ at heads a
      other a apart = get_or-set_other heads (at xs m) a (at nexts m) 0 apart

      -- What a rule leads to ranks below it, and so is not m where the rule is not newer.
      lower : (k j : ℕ) → plus H m k → at nexts k ≡ suc j → rank j < rank k
      lower k j held link = omega (arith, subst (λ (l : ℕ). top rank l ≤ rank k) link (ch.next_older k held))

      below_next : (k j : ℕ) → H k → at nexts k ≡ suc j → plus H m j → H j
      below_next k j held link (inl is) = absurd (omega (arith, lower k j (inr held) link, older k held, ap rank is))
      below_next k j held link (inr h) = h

      below-m : (j : ℕ) → at nexts m ≡ suc j → plus H m j → H j
      below-m j link (inl is) = absurd (omega (arith, lower m j (inl refl) link, ap rank is))
      below-m j link (inr h) = h

      head_held : (a k : ℕ) → a < n → at (left_heads m xs heads nexts) a ≡ suc k → Dec (a ≡ at xs m) → H k
      head_held a k h link (yes e) = let led : at nexts m ≡ suc k = sym here ∙ ap (at (left_heads m xs heads nexts)) (sym e) ∙ link in below-m k led (ch.next_held m k (inl refl) led)
      head_held a k h link (no apart) = not-m (ch.head_held a k h led)
        where
          led : at heads a ≡ suc k
          led = sym (other a apart) ∙ link

          not-m : plus H m k → H k
          not-m (inl is) = absurd (apart (sym (ch.head_own a k h led) ∙ ap (at xs) is))
          not-m (inr held) = held

      head_own : (a k : ℕ) → a < n → at (left_heads m xs heads nexts) a ≡ suc k → Dec (a ≡ at xs m) → at xs k ≡ a
      head_own a k h link (yes e) = ch.next_own m k (inl refl) (sym here ∙ ap (at (left_heads m xs heads nexts)) (sym e) ∙ link) ∙ sym e
      head_own a k h link (no apart) = ch.head_own a k h (sym (other a apart) ∙ link)

      head_newest : (a k : ℕ) → a < n → H k → at xs k ≡ a → Dec (a ≡ at xs m) → rank k < top rank (at (left_heads m xs heads nexts) a)
      head_newest a k h held own (yes e) =
          subst (λ (l : ℕ). rank k < top rank l) (sym (ap (at (left_heads m xs heads nexts)) e ∙ here)) (ch.next_newest m k (inl refl) (inr held) (older k held) (own ∙ e))
      head_newest a k h held own (no apart) = subst (λ (l : ℕ). rank k < top rank l) (sym (other a apart)) (ch.head_newest a k h (inr held) own)

-- So rule m is put on its chain by any link that is m + 1.
pub pushed :
    (m link : ℕ) (xs heads nexts : List ℕ) → at xs m < length heads → m < length nexts → link ≡ m + 1 →
    Pushed m xs heads nexts (set heads (at xs m) link) (set nexts m (at heads (at xs m)))
pushed m link xs heads nexts head_place next_place is = rw is (record { head_place = head_place; next_place = next_place; heads_are = refl; nexts_are = refl })

-- ---- rules numbered in order of adding

-- The first m numbers and m are the first m + 1.
one_more : (m k : ℕ) → plus (first m) m k → k < m + 1
one_more m k (inl is) = omega arith
one_more m k (inr l) = omega arith

or_last : (m k : ℕ) → k < m + 1 → plus (first m) m k
or_last m k l = by_place (ℕ_discrete k m)
  where
    by_place : Dec (k ≡ m) → plus (first m) m k
    by_place (yes e) = inl e
    by_place (no apart) = inr (omega arith)

module _ (n m : ℕ) (xs : List ℕ) (first_in : at xs m < n) where
  -- Rule m on its chain.
  pub chained_more : (heads nexts heads' nexts' : List ℕ) → Pushed m xs heads nexts heads' nexts' → Chained n m xs heads nexts → Chained n (m + 1) xs heads' nexts'
  chained_more heads nexts heads' nexts' p ch =
      chains_agree n (plus (first m) m) (first (m + 1)) number xs xs heads' nexts' (one_more m) (or_last m) (λ k h. refl)
      (rw (p.heads_are, p.nexts_are) (chains_more n (first m) number m xs heads nexts first_in (λ k l. l) p.head_place p.next_place ch))

-- A link reaches up to itself, and leads to a rule held.
pub top_number : (l : ℕ) → top number l ≡ l
top_number zero = refl
top_number (suc k) = refl

pub next_lower : (n : ℕ) (H : ℕ → Type 0) (xs heads nexts : List ℕ) → ChainsOf n H number xs heads nexts → (k : ℕ) → H k → at nexts k ≤ k
next_lower n H xs heads nexts ch k h = subst (λ (t : ℕ). t ≤ k) (top_number (at nexts k)) (ch.next_older k h)

module _ (n m : ℕ) (xs heads nexts : List ℕ) (ch : Chained n m xs heads nexts) where
  pub head_in : (a : ℕ) → a < n → at heads a ≤ m
  head_in a h = by_link (at heads a) refl
    where
      by_link : (l : ℕ) → at heads a ≡ l → l ≤ m
      by_link zero e = omega arith
      by_link (suc k) e = ch.head_held a k h e

  pub head_newest : (a k : ℕ) → a < n → k < m → at xs k ≡ a → k < at heads a
  head_newest a k h l own = subst (λ (t : ℕ). k < t) (top_number (at heads a)) (ch.head_newest a k h l own)

  pub next_in : (k : ℕ) → k < m → at nexts k ≤ k
  next_in = next_lower n (first m) xs heads nexts ch

  pub next_newest : (k j : ℕ) → k < m → j < k → at xs j ≡ at xs k → j < at nexts k
  next_newest k j h l own = subst (λ (t : ℕ). j < t) (top_number (at nexts k)) (ch.next_newest k j h (omega arith) l own)

-- ---- chains that say which rules are on them

-- Chains of the rules that H holds of, where these and no others have a link.
pub lent_chains :
    (n : ℕ) (H : ℕ → Type 0) (xs heads nexts : List ℕ) → ((k : ℕ) → H k → linked nexts k) → ((k : ℕ) → linked nexts k → H k) → n ≤ length heads → RULES ≤ length nexts →
    ChainsOf n H number xs heads nexts → LentChains n H xs heads nexts
lent_chains n H xs heads nexts on only heads_room nexts_room ch = record {
  chained = chains_agree n H (linked nexts) number xs xs heads nexts on only (λ k h. refl) ch;
  on = on;
  only = only;
  heads_room = heads_room;
  nexts_room = nexts_room;
}

pub chains_lent : (n : ℕ) (H : ℕ → Type 0) (xs heads nexts : List ℕ) → LentChains n H xs heads nexts → ChainsOf n H number xs heads nexts
chains_lent n H xs heads nexts lent = chains_agree n (linked nexts) H number xs xs heads nexts lent.only lent.on (λ k h. refl) lent.chained

-- They speak of the first steps of their own rules only, and of which numbers these are.
pub lent_agree :
    (n : ℕ) (H G : ℕ → Type 0) (xs xs' heads nexts : List ℕ) → ((k : ℕ) → H k → G k) → ((k : ℕ) → G k → H k) → ((k : ℕ) → H k → at xs' k ≡ at xs k) →
    LentChains n H xs heads nexts → LentChains n G xs' heads nexts
lent_agree n H G xs xs' heads nexts to from same lent = record {
  chained = chains_agree n (linked nexts) (linked nexts) number xs xs' heads nexts (λ k h. h) (λ k h. h) (λ k h. same k (lent.only k h)) lent.chained;
  on = λ k h. lent.on k (from k h);
  only = λ k h. to k (lent.only k h);
  heads_room = lent.heads_room;
  nexts_room = lent.nexts_room;
}

-- So they are the chains of the rules on them.
pub lent_own : (n : ℕ) (H : ℕ → Type 0) (xs heads nexts : List ℕ) → LentChains n H xs heads nexts → LentChains n (linked nexts) xs heads nexts
lent_own n H xs heads nexts lent = lent_agree n H (linked nexts) xs xs heads nexts lent.on lent.only (λ k h. refl) lent

-- Of the first m rules, where every place from m on is off.
pub lent_first :
    (n m : ℕ) (xs heads nexts : List ℕ) → m ≤ RULES → n ≤ length heads → RULES ≤ length nexts → ((k : ℕ) → m ≤ k → k < RULES → at nexts k ≡ OFF) →
    Chained n m xs heads nexts → LentChains n (first m) xs heads nexts
lent_first n m xs heads nexts in-rules heads_room nexts_room off ch = lent_chains n (first m) xs heads nexts on only heads_room nexts_room ch
  where
    on : (k : ℕ) → k < m → linked nexts k
    on k h = (omega (arith, in-rules), omega (arith, next_in n m xs heads nexts ch k h, in-rules))

    only : (k : ℕ) → linked nexts k → k < m
    only k h = by_place (dec_lt k m)
      where
        by_place : Dec (k < m) → k < m
        by_place (yes l) = l
        by_place (no l) = absurd (omega (arith, h.1, off k (omega (arith, l)) h.0))

-- So they are when the places from m on were just made so.
pub lent_off :
    (n m : ℕ) (xs heads nexts nexts' : List ℕ) → m ≤ RULES → n ≤ length heads → RULES ≤ length nexts → length nexts' ≡ length nexts → OffFrom m nexts nexts' →
    Chained n m xs heads nexts → LentChains n (first m) xs heads nexts'
lent_off n m xs heads nexts nexts' in-rules heads_room nexts_room same_length off ch =
    lent_first n m xs heads nexts' in-rules heads_room (omega (arith, nexts_room, same_length)) (λ k h l. off.off k h (omega (arith, l, nexts_room)))
    (chains_nexts n (first m) number xs heads nexts nexts' off.before ch)

-- Where the first m places are held and no others, the chains of the first m rules are those of the rules held.
module _ (n m : ℕ) (levels xs heads nexts : List ℕ) (few : m ≤ RULES) (held : AllHeld m levels) (free : FreeFrom m levels) where
  first_held : (k : ℕ) → first m k → held_by levels k
  first_held k h = (omega (arith, h, few), held k h)

  pub lent_held : LentChains n (first m) xs heads nexts → LentChains n (held_by levels) xs heads nexts
  lent_held = lent_agree n (first m) (held_by levels) xs xs heads nexts first_held (only_first m levels free) (λ k h. refl)

  -- And back.
  pub held_lent : LentChains n (held_by levels) xs heads nexts → LentChains n (first m) xs heads nexts
  held_lent = lent_agree n (held_by levels) (first m) xs xs heads nexts (only_first m levels free) first_held (λ k h. refl)

-- Every rule that H holds of is older than rule m.
module _ (n : ℕ) (H : ℕ → Type 0) (m : ℕ) (xs : List ℕ) (first_in : at xs m < n) (older : (k : ℕ) → H k → k < m) (heads nexts heads' nexts' : List ℕ) where
  -- With rule m taken off its chain, chains of these and of m are the chains of these.
  pub lent_less : Dropped m xs heads nexts heads' nexts' → LentChains n (plus H m) xs heads nexts → LentChains n H xs heads' nexts'
  lent_less d lent =
      lent_chains n H xs heads' nexts' on only
      (omega (arith, lent.heads_room, ap length d.heads_are, length-set heads (at xs m) (at nexts m)))
      (omega (arith, lent.nexts_room, ap length d.nexts_are, length-set nexts m OFF))
      (chains_nexts n H number xs heads' nexts nexts' (λ k held. other k (apart_from k held))
      (rw d.heads_are (chains_less n H number m xs heads nexts first_in older d.head_place (chains_lent n (plus H m) xs heads nexts lent))))
    where
      here : at nexts' m ≡ OFF
      here = ap (λ (l : List ℕ). at l m) d.nexts_are ∙ get_or-set_same nexts m OFF 0 d.next_place

      other : (k : ℕ) → (k ≡ m → ⊥) → at nexts' k ≡ at nexts k
      other k apart = ap (λ (l : List ℕ). at l k) d.nexts_are ∙ get_or-set_other nexts m k OFF 0 apart

      apart_from : (k : ℕ) → H k → k ≡ m → ⊥
      apart_from k held e = omega (arith, e, older k held)

      on : (k : ℕ) → H k → linked nexts' k
      on k held = ((lent.on k (inr held)).0, omega (arith, other k (apart_from k held), (lent.on k (inr held)).1))

      only : (k : ℕ) → linked nexts' k → H k
      only k h = by-rule (lent.only k (h.0, omega (arith, h.1, other k apart)))
        where
          apart : k ≡ m → ⊥
          apart e = omega (arith, h.1, ap (at nexts') e, here)

          by-rule : plus H m k → H k
          by-rule (inl is) = absurd (apart is)
          by-rule (inr held) = held

module _ (n m : ℕ) (xs : List ℕ) (first_in : at xs m < n) (heads nexts heads' nexts' : List ℕ) where
  -- The same of the first m rules.
  pub first_less : Dropped m xs heads nexts heads' nexts' → LentChains n (first (m + 1)) xs heads nexts → LentChains n (first m) xs heads' nexts'
  first_less d lent =
      lent_less n (first m) m xs first_in (λ k l. l) heads nexts heads' nexts' d
      (lent_agree n (first (m + 1)) (plus (first m) m) xs xs heads nexts (or_last m) (one_more m) (λ k h. refl) lent)
