-- What putting a rule on its chain, or taking it off, comes to: which rules are on the chains then.
use Prim.Native.Nat.{ℕ, suc, ◌+◌, ◌-◌, ◌≤◌, ◌<◌}
use native.Mathlib.Omega.{arith}
use native.Mathlib.Decide.{ℕ_discrete}
use mathlib.Core.Path.{◌≡◌, refl, sym, ◌∙◌, ap, subst}
use mathlib.Core.List.{List}
use mathlib.Core.Logic.{inl, inr}
use lib.ListN.{length, set, length-set}
use lib.Seq.{get_or-set_same, get_or-set_other}
use Rattle.meaning.specs.Bounds.{RULES}
use Rattle.meaning.specs.Rules.{plus}
use Rattle.meaning.specs.Tables.{at}
use Rattle.chains.specs.Chains.{number, OFF, linked, minus, LentChains, Pushed, Dropped, Amendable, Descends, LastAbove, ChainsNow}
use Rattle.chains.proofs.Laws.{chains_agree}
use Rattle.chains.proofs.Amid.{Sorted, sorted, unsorted, sorted_front, sorted_behind, sorted_headless, sorted_without}

-- Chains by number of the rules that G holds of, which are just those with a link.
chains_now :
    (n : ℕ) (G : ℕ → Type 0) (xs heads nexts : List ℕ) → ((i : ℕ) → G i → linked nexts i) → ((i : ℕ) → linked nexts i → G i) → Sorted n G xs heads nexts →
    ChainsNow n G xs heads nexts
chains_now n G xs heads nexts on only s = record {
  chained = chains_agree n G (linked nexts) number xs xs heads nexts on only (λ k h. refl) (unsorted n G xs heads nexts s);
  on = on;
  only = only;
}

module _ (n m : ℕ) (xs heads nexts : List ℕ) (a : Amendable n m xs heads nexts) where
  in_order : Sorted n (linked nexts) xs heads nexts
  in_order = sorted n (linked nexts) xs heads nexts a.chained

  -- Every rule on a chain has its place, and links go down.
  pub descends : Descends xs nexts
  descends = record { next_held = in_order.next_held; next_own = in_order.next_own; next_down = in_order.next_down; next_place = λ k h. omega (arith, h.0, a.nexts_room) }

  -- A head above number m leads to a rule of the step of m, above m or m itself.
  pub head_rule : m < at heads (at xs m) → linked nexts (at heads (at xs m) - 1) × (at xs (at heads (at xs m) - 1) ≡ at xs m)
  head_rule above = (in_order.head_held (at xs m) (at heads (at xs m) - 1) a.first_in is, in_order.head_own (at xs m) (at heads (at xs m) - 1) a.first_in is)
    where
      is : at heads (at xs m) ≡ suc (at heads (at xs m) - 1)
      is = omega (arith, above)

  -- The last rule above m of the chain that the head leads to is that of the chain of m.
  pub last_own : (j : ℕ) → m < at heads (at xs m) → (r : ℕ) → j ≡ at heads (at xs m) → LastAbove xs nexts (at xs (j - 1)) m r → LastAbove xs nexts (at xs m) m r
  last_own j above r is = subst (λ a. LastAbove xs nexts a m r) (ap (λ h. at xs (h - 1)) is ∙ (head_rule above).1)

  -- ---- Rule m comes, which was on no chain.
  module _ (free : linked nexts m → ⊥) where
    -- With a link at m, and links elsewhere where there were links.
    on-now :
        (nexts' : List ℕ) → at nexts' m < OFF → ((k : ℕ) → (k ≡ m → ⊥) → linked nexts k → at nexts' k < OFF) → (i : ℕ) → plus (linked nexts) m i → linked nexts' i
    on-now nexts' here there i (inl is) = (omega (arith, is, a.number_in), omega (arith, ap (at nexts') is, here))
    on-now nexts' here there i (inr on) = (on.0, there i (λ e. free (subst (linked nexts) e on)) on)

    only_now : (nexts' : List ℕ) → ((k : ℕ) → (k ≡ m → ⊥) → linked nexts' k → linked nexts k) → (i : ℕ) → linked nexts' i → plus (linked nexts) m i
    only_now nexts' there i on = by_place (ℕ_discrete i m)
      where
        by_place : Dec (i ≡ m) → plus (linked nexts) m i
        by_place (yes e) = inl e
        by_place (no apart) = inr (there i apart on)

    -- In front.
    pub now_front : (heads' nexts' : List ℕ) → at heads (at xs m) ≤ m → Pushed m xs heads nexts heads' nexts' → ChainsNow n (plus (linked nexts) m) xs heads' nexts'
    now_front heads' nexts' below p =
        chains_now n (plus (linked nexts) m) xs heads' nexts'
        (on-now nexts' (omega (arith, here, below, a.number_in)) (λ k apart on. omega (arith, other k apart, on.1)))
        (only_now nexts' (λ k apart on. (on.0, omega (arith, other k apart, on.1))))
        (sorted_front n (linked nexts) m xs heads nexts a.first_in free in_order heads' nexts' below
        (ap (λ (l : List ℕ). at l (at xs m)) p.heads_are ∙ get_or-set_same heads (at xs m) (m + 1) 0 p.head_place ∙ omega arith)
        (λ b apart. ap (λ (l : List ℕ). at l b) p.heads_are ∙ get_or-set_other heads (at xs m) b (m + 1) 0 apart) here other)
      where
        here : at nexts' m ≡ at heads (at xs m)
        here = ap (λ (l : List ℕ). at l m) p.nexts_are ∙ get_or-set_same nexts m (at heads (at xs m)) 0 p.next_place

        other : (k : ℕ) → (k ≡ m → ⊥) → at nexts' k ≡ at nexts k
        other k apart = ap (λ (l : List ℕ). at l k) p.nexts_are ∙ get_or-set_other nexts m k (at heads (at xs m)) 0 apart

    -- Behind the last rule of its chain above it.
    pub now_behind :
        (j link : ℕ) → LastAbove xs nexts (at xs m) m j → link ≡ m + 1 → ChainsNow n (plus (linked nexts) m) xs heads (set (set nexts m (at nexts j)) j link)
    now_behind j link l is =
        chains_now n (plus (linked nexts) m) xs heads nexts'
        (on-now nexts' (omega (arith, here, l.last, a.number_in)) (λ k apart on. on-link k apart on (ℕ_discrete k j)))
        (only_now nexts' (λ k apart on. was-link k apart on (ℕ_discrete k j)))
        (sorted_behind n (linked nexts) m xs heads nexts a.first_in free in_order nexts' j l.on_chain l.own l.above l.last (at_j ∙ omega arith) here other)
      where
        nexts' : List ℕ
        nexts' = set (set nexts m (at nexts j)) j link

        apart-j : m ≡ j → ⊥
        apart-j e = omega (arith, l.above)

        at_j : at nexts' j ≡ link
        at_j = get_or-set_same (set nexts m (at nexts j)) j link 0 (omega (arith, length-set nexts m (at nexts j), l.on_chain.0, a.nexts_room))

        here : at nexts' m ≡ at nexts j
        here = get_or-set_other (set nexts m (at nexts j)) j m link 0 apart-j ∙ get_or-set_same nexts m (at nexts j) 0 (omega (arith, a.number_in, a.nexts_room))

        other : (k : ℕ) → (k ≡ j → ⊥) → (k ≡ m → ⊥) → at nexts' k ≡ at nexts k
        other k not-j not-m = get_or-set_other (set nexts m (at nexts j)) j k link 0 not-j ∙ get_or-set_other nexts m k (at nexts j) 0 not-m

        on-link : (k : ℕ) → (k ≡ m → ⊥) → linked nexts k → Dec (k ≡ j) → at nexts' k < OFF
        on-link k apart on (yes e) = omega (arith, ap (at nexts') e, at_j, a.number_in)
        on-link k apart on (no not-j) = omega (arith, other k not-j apart, on.1)

        was-link : (k : ℕ) → (k ≡ m → ⊥) → linked nexts' k → Dec (k ≡ j) → linked nexts k
        was-link k apart on (yes e) = subst (linked nexts) (sym e) l.on_chain
        was-link k apart on (no not-j) = (on.0, omega (arith, other k not-j apart, on.1))

  -- ---- Rule m goes, which was on a chain.
  module _ (on_chain : linked nexts m) where
    -- With OFF at m, and links elsewhere just where there were links.
    on-still : (nexts' : List ℕ) → ((k : ℕ) → (k ≡ m → ⊥) → linked nexts k → at nexts' k < OFF) → (i : ℕ) → minus (linked nexts) m i → linked nexts' i
    on-still nexts' there i (on, apart) = (on.0, there i apart on)

    only-still :
        (nexts' : List ℕ) → at nexts' m ≡ OFF → ((k : ℕ) → (k ≡ m → ⊥) → linked nexts' k → linked nexts k) → (i : ℕ) → linked nexts' i → minus (linked nexts) m i
    only-still nexts' off there i on = (there i apart on, apart)
      where
        apart : i ≡ m → ⊥
        apart e = omega (arith, on.1, ap (at nexts') e, off)

    -- A rule of its step is at or above it.
    pub head_above : m < at heads (at xs m)
    head_above = in_order.head_top (at xs m) m a.first_in on_chain refl

    -- From the front.
    pub now_headless : (heads' nexts' : List ℕ) → at heads (at xs m) ≡ m + 1 → Dropped m xs heads nexts heads' nexts' → ChainsNow n (minus (linked nexts) m) xs heads' nexts'
    now_headless heads' nexts' in_front d =
        chains_now n (minus (linked nexts) m) xs heads' nexts'
        (on-still nexts' (λ k apart on. omega (arith, other k apart, on.1)))
        (only-still nexts' (ap (λ (l : List ℕ). at l m) d.nexts_are ∙ get_or-set_same nexts m OFF 0 d.next_place) (λ k apart on. (on.0, omega (arith, other k apart, on.1))))
        (sorted_headless n (linked nexts) m xs heads nexts a.first_in on_chain in_order heads' nexts' (in_front ∙ omega arith)
        (ap (λ (l : List ℕ). at l (at xs m)) d.heads_are ∙ get_or-set_same heads (at xs m) (at nexts m) 0 d.head_place)
        (λ b apart. ap (λ (l : List ℕ). at l b) d.heads_are ∙ get_or-set_other heads (at xs m) b (at nexts m) 0 apart) other)
      where
        other : (k : ℕ) → (k ≡ m → ⊥) → at nexts' k ≡ at nexts k
        other k apart = ap (λ (l : List ℕ). at l k) d.nexts_are ∙ get_or-set_other nexts m k OFF 0 apart

    -- From behind the last rule of its chain above it.
    pub now_without : (j : ℕ) → LastAbove xs nexts (at xs m) m j → ChainsNow n (minus (linked nexts) m) xs heads (set (set nexts j (at nexts m)) m OFF)
    now_without j l =
        chains_now n (minus (linked nexts) m) xs heads nexts'
        (on-still nexts' (λ k apart on. on-link k apart on (ℕ_discrete k j)))
        (only-still nexts' (get_or-set_same (set nexts j (at nexts m)) m OFF 0 (omega (arith, length-set nexts j (at nexts m), a.number_in, a.nexts_room)))
        (λ k apart on. was-link k apart on (ℕ_discrete k j)))
        (sorted_without n (linked nexts) m xs heads nexts a.first_in on_chain in_order nexts' j l.on_chain l.own l.above next-is at_j other)
      where
        nexts' : List ℕ
        nexts' = set (set nexts j (at nexts m)) m OFF

        next-is : at nexts j ≡ suc m
        next-is = omega (arith, l.last, in_order.next_top j m l.on_chain on_chain l.above (sym l.own))

        at_j : at nexts' j ≡ at nexts m
        at_j =
            get_or-set_other (set nexts j (at nexts m)) m j OFF 0 (λ e. omega (arith, l.above))
            ∙ get_or-set_same nexts j (at nexts m) 0 (omega (arith, l.on_chain.0, a.nexts_room))

        other : (k : ℕ) → (k ≡ j → ⊥) → (k ≡ m → ⊥) → at nexts' k ≡ at nexts k
        other k not-j not-m = get_or-set_other (set nexts j (at nexts m)) m k OFF 0 not-m ∙ get_or-set_other nexts j k (at nexts m) 0 not-j

        on-link : (k : ℕ) → (k ≡ m → ⊥) → linked nexts k → Dec (k ≡ j) → at nexts' k < OFF
        on-link k apart on (yes e) = omega (arith, ap (at nexts') e, at_j, on_chain.1)
        on-link k apart on (no not-j) = omega (arith, other k not-j apart, on.1)

        was-link : (k : ℕ) → (k ≡ m → ⊥) → linked nexts' k → Dec (k ≡ j) → linked nexts k
        was-link k apart on (yes e) = subst (linked nexts) (sym e) l.on_chain
        was-link k apart on (no not-j) = (on.0, omega (arith, other k not-j apart, on.1))

-- Chains as they are now, of the rules that G holds of, where H holds of the same.
pub lent_now :
    (n : ℕ) (G H : ℕ → Type 0) (xs heads nexts : List ℕ) → ((i : ℕ) → G i → H i) → ((i : ℕ) → H i → G i) → n ≤ length heads → RULES ≤ length nexts → ChainsNow n G xs heads nexts →
    LentChains n H xs heads nexts
lent_now n G H xs heads nexts to from heads_room nexts_room now = record {
  chained = now.chained;
  on = λ i h. now.on i (from i h);
  only = λ i on. to i (now.only i on);
  heads_room = heads_room;
  nexts_room = nexts_room;
}
