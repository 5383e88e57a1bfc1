-- A rule put on its chain, or taken off it, wherever it stands there: chains go by number, so that a rule that takes a low free number stands amid newer ones.
use Prim.Native.Nat.{ℕ, zero, suc, ◌+◌, ◌≤◌, ◌<◌}
use native.Mathlib.Omega.{arith}
use native.Mathlib.Decide.{ℕ_discrete, dec_lt}
use mathlib.Core.Path.{◌≡◌, refl, sym, ◌∙◌, ap, subst}
use mathlib.Core.List.{List}
use mathlib.Core.Logic.{inl, inr}
use Rattle.meaning.specs.Rules.{plus}
use Rattle.meaning.specs.Tables.{at}
use Rattle.chains.specs.Chains.{ChainsOf, number, minus}
use Rattle.chains.proofs.Laws.{top_number}

-- Chains by number, with links told as they are.
pub record Sorted (n : ℕ) (H : ℕ → Type 0) (xs heads nexts : List ℕ) : Type 0 where
  pub head_held : (a k : ℕ) → a < n → at heads a ≡ suc k → H k
  pub head_own : (a k : ℕ) → a < n → at heads a ≡ suc k → at xs k ≡ a
  pub head_top : (a k : ℕ) → a < n → H k → at xs k ≡ a → k < at heads a
  pub next_held : (k j : ℕ) → H k → at nexts k ≡ suc j → H j
  pub next_own : (k j : ℕ) → H k → at nexts k ≡ suc j → at xs j ≡ at xs k
  pub next_down : (k : ℕ) → H k → at nexts k ≤ k
  pub next_top : (k j : ℕ) → H k → H j → j < k → at xs j ≡ at xs k → j < at nexts k

pub sorted : (n : ℕ) (H : ℕ → Type 0) (xs heads nexts : List ℕ) → ChainsOf n H number xs heads nexts → Sorted n H xs heads nexts
sorted n H xs heads nexts ch = record {
  head_held = ch.head_held;
  head_own = ch.head_own;
  head_top = λ a k h held own. subst (λ (t : ℕ). k < t) (top_number (at heads a)) (ch.head_newest a k h held own);
  next_held = ch.next_held;
  next_own = ch.next_own;
  next_down = λ k h. subst (λ (t : ℕ). t ≤ k) (top_number (at nexts k)) (ch.next_older k h);
  next_top = λ k j h held l own. subst (λ (t : ℕ). j < t) (top_number (at nexts k)) (ch.next_newest k j h held l own);
}

pub unsorted : (n : ℕ) (H : ℕ → Type 0) (xs heads nexts : List ℕ) → Sorted n H xs heads nexts → ChainsOf n H number xs heads nexts
unsorted n H xs heads nexts s = record {
  ranks_differ = λ j k held h e. e;
  head_held = s.head_held;
  head_own = s.head_own;
  head_newest = λ a k h held own. subst (λ (t : ℕ). k < t) (sym (top_number (at heads a))) (s.head_top a k h held own);
  next_held = s.next_held;
  next_own = s.next_own;
  next_older = λ k h. subst (λ (t : ℕ). t ≤ k) (sym (top_number (at nexts k))) (s.next_down k h);
  next_newest = λ k j h held l own. subst (λ (t : ℕ). j < t) (sym (top_number (at nexts k))) (s.next_top k j h held l own);
}

-- ---- Rule m, which H does not hold of, comes.
module _ (n : ℕ) (H : ℕ → Type 0) (m : ℕ) (xs heads nexts : List ℕ) (first_in : at xs m < n) (free : H m → ⊥) (s : Sorted n H xs heads nexts) where
  apart : (k : ℕ) → H k → k ≡ m → ⊥
  apart k held e = free (subst H e held)

  -- In front, where no rule of its step is above it.
  pub sorted_front :
      (heads' nexts' : List ℕ) → at heads (at xs m) ≤ m → at heads' (at xs m) ≡ suc m → ((a : ℕ) → (a ≡ at xs m → ⊥) → at heads' a ≡ at heads a) →
      at nexts' m ≡ at heads (at xs m) → ((k : ℕ) → (k ≡ m → ⊥) → at nexts' k ≡ at nexts k) → Sorted n (plus H m) xs heads' nexts'
  sorted_front heads' nexts' below here other new-next old-next = record {
    head_held = λ a k h e. head_held a k h e (ℕ_discrete a (at xs m));
    head_own = λ a k h e. head_own a k h e (ℕ_discrete a (at xs m));
    head_top = λ a k h held own. head_top a k h held own (ℕ_discrete a (at xs m));
    next_held = next_held;
    next_own = next_own;
    next_down = next_down;
    next_top = next_top;
  }
    where
      same : (k : ℕ) → H k → at nexts' k ≡ at nexts k
      same k held = old-next k (apart k held)

      new : (k : ℕ) → k ≡ m → at nexts' k ≡ at heads (at xs m)
      new k is = ap (at nexts') is ∙ new-next

      head_held : (a k : ℕ) → a < n → at heads' a ≡ suc k → Dec (a ≡ at xs m) → plus H m k
      head_held a k h link (yes e) = inl (omega (arith, here, ap (at heads') e))
      head_held a k h link (no other_step) = inr (s.head_held a k h (sym (other a other_step) ∙ link))

      head_own : (a k : ℕ) → a < n → at heads' a ≡ suc k → Dec (a ≡ at xs m) → at xs k ≡ a
      head_own a k h link (yes e) = let k-is : k ≡ m = omega (arith, here, ap (at heads') e) in ap (at xs) k-is ∙ sym e
      head_own a k h link (no other_step) = s.head_own a k h (sym (other a other_step) ∙ link)

      head_top : (a k : ℕ) → a < n → plus H m k → at xs k ≡ a → Dec (a ≡ at xs m) → k < at heads' a
      head_top a k h (inl is) own (yes e) = omega (arith, here, ap (at heads') e)
      head_top a k h (inr held) own (yes e) = omega (arith, here, ap (at heads') e, s.head_top a k h held own, ap (at heads) e)
      head_top a k h (inl is) own (no other_step) = absurd (other_step (sym own ∙ ap (at xs) is))
      head_top a k h (inr held) own (no other_step) = omega (arith, other a other_step, s.head_top a k h held own)

      next_held : (k j : ℕ) → plus H m k → at nexts' k ≡ suc j → plus H m j
      next_held k j (inl is) link = inr (s.head_held (at xs m) j first_in (sym (new k is) ∙ link))
      next_held k j (inr held) link = inr (s.next_held k j held (sym (same k held) ∙ link))

      next_own : (k j : ℕ) → plus H m k → at nexts' k ≡ suc j → at xs j ≡ at xs k
      next_own k j (inl is) link = s.head_own (at xs m) j first_in (sym (new k is) ∙ link) ∙ ap (at xs) (sym is)
      next_own k j (inr held) link = s.next_own k j held (sym (same k held) ∙ link)

      next_down : (k : ℕ) → plus H m k → at nexts' k ≤ k
      next_down k (inl is) = omega (arith, new k is, below)
      next_down k (inr held) = omega (arith, same k held, s.next_down k held)

      next_top : (k j : ℕ) → plus H m k → plus H m j → j < k → at xs j ≡ at xs k → j < at nexts' k
      next_top k j (inl is) (inl e) l own = absurd (omega arith)
      next_top k j (inl is) (inr held) l own = omega (arith, new k is, s.head_top (at xs m) j first_in held (own ∙ ap (at xs) is))
      next_top k j (inr held) (inl e) l own = absurd (omega (arith, below, s.head_top (at xs m) k first_in held (sym own ∙ ap (at xs) e)))
      next_top k j (inr held) (inr h) l own = omega (arith, same k held, s.next_top k j held h l own)

  -- Behind rule j of its step, which is above it, where the next of j is not.
  pub sorted_behind :
      (nexts' : List ℕ) (j : ℕ) → H j → at xs j ≡ at xs m → m < j → at nexts j ≤ m + 1 → at nexts' j ≡ suc m → at nexts' m ≡ at nexts j →
      ((k : ℕ) → (k ≡ j → ⊥) → (k ≡ m → ⊥) → at nexts' k ≡ at nexts k) → Sorted n (plus H m) xs heads nexts'
  sorted_behind nexts' j held-j own-j above next_in next-j next-m old-next = record {
    head_held = λ a k h link. inr (s.head_held a k h link);
    head_own = s.head_own;
    head_top = head_top;
    next_held = λ k i h link. next_held k i h link (ℕ_discrete k j);
    next_own = λ k i h link. next_own k i h link (ℕ_discrete k j);
    next_down = λ k h. next_down k h (ℕ_discrete k j);
    next_top = λ k i h held l own. next_top k i h held l own (ℕ_discrete k j) (dec_lt j k);
  }
    where
      -- The next of j does not lead to m, which is not held.
      lower : at nexts j ≤ m
      lower = by_link (at nexts j) refl
        where
          by_link : (l : ℕ) → at nexts j ≡ l → l ≤ m
          by_link zero e = omega arith
          by_link (suc k) e = below-m (ℕ_discrete k m)
            where
              below-m : Dec (k ≡ m) → suc k ≤ m
              below-m (yes is) = absurd (free (subst H is (s.next_held j k held-j e)))
              below-m (no other) = omega (arith, next_in, e, other)

      same : (k : ℕ) → H k → (k ≡ j → ⊥) → at nexts' k ≡ at nexts k
      same k held other = old-next k other (apart k held)

      not-j : (k : ℕ) → k ≡ m → k ≡ j → ⊥
      not-j k is e = omega arith

      new : (k : ℕ) → k ≡ m → at nexts' k ≡ at nexts j
      new k is = ap (at nexts') is ∙ next-m

      head_top : (a k : ℕ) → a < n → plus H m k → at xs k ≡ a → k < at heads a
      head_top a k h (inl is) own = omega (arith, s.head_top a j h held-j (own-j ∙ sym (ap (at xs) is) ∙ own))
      head_top a k h (inr held) own = s.head_top a k h held own

      next_held : (k i : ℕ) → plus H m k → at nexts' k ≡ suc i → Dec (k ≡ j) → plus H m i
      next_held k i h link (yes e) = inl (omega (arith, next-j, ap (at nexts') e))
      next_held k i (inl is) link (no other) = inr (s.next_held j i held-j (sym (new k is) ∙ link))
      next_held k i (inr held) link (no other) = inr (s.next_held k i held (sym (same k held other) ∙ link))

      next_own : (k i : ℕ) → plus H m k → at nexts' k ≡ suc i → Dec (k ≡ j) → at xs i ≡ at xs k
      next_own k i h link (yes e) = let i-is : i ≡ m = omega (arith, next-j, ap (at nexts') e) in ap (at xs) i-is ∙ sym own-j ∙ ap (at xs) (sym e)
      next_own k i (inl is) link (no other) = s.next_own j i held-j (sym (new k is) ∙ link) ∙ own-j ∙ ap (at xs) (sym is)
      next_own k i (inr held) link (no other) = s.next_own k i held (sym (same k held other) ∙ link)

      next_down : (k : ℕ) → plus H m k → Dec (k ≡ j) → at nexts' k ≤ k
      next_down k h (yes e) = omega (arith, next-j, ap (at nexts') e, above)
      next_down k (inl is) (no other) = omega (arith, new k is, lower)
      next_down k (inr held) (no other) = omega (arith, same k held other, s.next_down k held)

      next_top : (k i : ℕ) → plus H m k → plus H m i → i < k → at xs i ≡ at xs k → Dec (k ≡ j) → Dec (j < k) → i < at nexts' k
      next_top k i h (inl e) l own (yes is-j) d = omega (arith, next-j, ap (at nexts') is-j)
      next_top k i h (inr held) l own (yes is-j) d = omega (arith, next-j, ap (at nexts') is-j, lower, s.next_top j i held-j held (omega arith) (own ∙ ap (at xs) is-j))
      next_top k i (inl is) (inl e) l own (no other) d = absurd (omega arith)
      next_top k i (inl is) (inr held) l own (no other) d = omega (arith, new k is, s.next_top j i held-j held (omega (arith, above)) (own ∙ ap (at xs) is ∙ sym own-j))
      next_top k i (inr held) (inl e) l own (no other) (yes j-below) =
          omega (arith, same k held other, above, s.next_top k j held held-j j-below (own-j ∙ sym (ap (at xs) e) ∙ own))
      next_top k i (inr held) (inl e) l own (no other) (no j-not-below) =
          absurd (omega (arith, lower, s.next_top j k held-j held (omega (arith, other, j-not-below)) (sym own ∙ ap (at xs) e ∙ sym own-j)))
      next_top k i (inr held) (inr h) l own (no other) d = omega (arith, same k held other, s.next_top k i held h l own)

-- ---- Rule i, which H holds of, goes.
module _ (n : ℕ) (H : ℕ → Type 0) (i : ℕ) (xs heads nexts : List ℕ) (first_in : at xs i < n) (held-i : H i) (s : Sorted n H xs heads nexts) where
  -- What rule i leads to is below it.
  below_i : (l : ℕ) → at nexts i ≡ suc l → l ≡ i → ⊥
  below_i l link e = omega (arith, s.next_down i held-i)

  -- From the front.
  pub sorted_headless :
      (heads' nexts' : List ℕ) → at heads (at xs i) ≡ suc i → at heads' (at xs i) ≡ at nexts i → ((a : ℕ) → (a ≡ at xs i → ⊥) → at heads' a ≡ at heads a) →
      ((k : ℕ) → (k ≡ i → ⊥) → at nexts' k ≡ at nexts k) → Sorted n (minus H i) xs heads' nexts'
  sorted_headless heads' nexts' in_front here other same = record {
    head_held = λ a k h e. head_held a k h e (ℕ_discrete a (at xs i));
    head_own = λ a k h e. head_own a k h e (ℕ_discrete a (at xs i));
    head_top = λ a k h held own. head_top a k h held own (ℕ_discrete a (at xs i));
    next_held = λ k j h link. next_held k j h (sym (same k h.1) ∙ link);
    next_own = λ k j h link. s.next_own k j h.0 (sym (same k h.1) ∙ link);
    next_down = λ k h. omega (arith, same k h.1, s.next_down k h.0);
    next_top = λ k j h held l own. omega (arith, same k h.1, s.next_top k j h.0 held.0 l own);
  }
    where
      to-next : (a k : ℕ) → at heads' a ≡ suc k → a ≡ at xs i → at nexts i ≡ suc k
      to-next a k link e = sym here ∙ ap (at heads') (sym e) ∙ link

      head_held : (a k : ℕ) → a < n → at heads' a ≡ suc k → Dec (a ≡ at xs i) → minus H i k
      head_held a k h link (yes e) = (s.next_held i k held-i (to-next a k link e), below_i k (to-next a k link e))
      head_held a k h link (no other_step) = (s.head_held a k h led, λ e. other_step (sym (s.head_own a k h led) ∙ ap (at xs) e))
        where
          led : at heads a ≡ suc k
          led = sym (other a other_step) ∙ link

      head_own : (a k : ℕ) → a < n → at heads' a ≡ suc k → Dec (a ≡ at xs i) → at xs k ≡ a
      head_own a k h link (yes e) = s.next_own i k held-i (to-next a k link e) ∙ sym e
      head_own a k h link (no other_step) = s.head_own a k h (sym (other a other_step) ∙ link)

      head_top : (a k : ℕ) → a < n → minus H i k → at xs k ≡ a → Dec (a ≡ at xs i) → k < at heads' a
      head_top a k h (held, apart) own (yes e) =
          let lower : k < i = omega (arith, s.head_top a k h held own, ap (at heads) e, in_front, apart) in
          omega (arith, here, ap (at heads') e, s.next_top i k held-i held lower (own ∙ e))
      head_top a k h (held, apart) own (no other_step) = omega (arith, other a other_step, s.head_top a k h held own)

      next_held : (k j : ℕ) → minus H i k → at nexts k ≡ suc j → minus H i j
      next_held k j (held, apart) link = (s.next_held k j held link, not-i)
        where
          not-i : j ≡ i → ⊥
          not-i e =
              omega (arith, s.next_down k held, s.head_top (at xs i) k first_in held (sym (s.next_own k j held link) ∙ ap (at xs) e), in_front)

  -- From behind rule j, whose next it is.
  pub sorted_without :
      (nexts' : List ℕ) (j : ℕ) → H j → at xs j ≡ at xs i → i < j → at nexts j ≡ suc i → at nexts' j ≡ at nexts i →
      ((k : ℕ) → (k ≡ j → ⊥) → (k ≡ i → ⊥) → at nexts' k ≡ at nexts k) → Sorted n (minus H i) xs heads nexts'
  sorted_without nexts' j held-j own-j above next-j new-j same = record {
    head_held = λ a k h link. (s.head_held a k h link, λ e. head_apart a k h link e);
    head_own = s.head_own;
    head_top = λ a k h held own. s.head_top a k h held.0 own;
    next_held = λ k l h link. next_held k l h link (ℕ_discrete k j);
    next_own = λ k l h link. next_own k l h link (ℕ_discrete k j);
    next_down = λ k h. next_down k h (ℕ_discrete k j);
    next_top = λ k l h held lt own. next_top k l h held lt own (ℕ_discrete k j);
  }
    where
      head_apart : (a k : ℕ) → a < n → at heads a ≡ suc k → k ≡ i → ⊥
      head_apart a k h link e = omega (arith, s.head_top a j h held-j (own-j ∙ sym (ap (at xs) e) ∙ s.head_own a k h link), above)

      moved : (k l : ℕ) → at nexts' k ≡ suc l → k ≡ j → at nexts i ≡ suc l
      moved k l link e = sym new-j ∙ ap (at nexts') (sym e) ∙ link

      -- No other rule than j leads to i.
      next-apart : (k l : ℕ) → H k → (k ≡ j → ⊥) → at nexts k ≡ suc l → l ≡ i → ⊥
      next-apart k l held other link e = by_place (dec_lt k j)
        where
          own : at xs k ≡ at xs j
          own = sym (s.next_own k l held link) ∙ ap (at xs) e ∙ sym own-j

          by_place : Dec (k < j) → ⊥
          by_place (yes below) = omega (arith, s.next_down k held, s.next_top j k held-j held below own, next-j)
          by_place (no not_below) = omega (arith, s.next_top k j held held-j (omega (arith, other, not_below)) (sym own), above)

      next_held : (k l : ℕ) → minus H i k → at nexts' k ≡ suc l → Dec (k ≡ j) → minus H i l
      next_held k l h link (yes e) = (s.next_held i l held-i (moved k l link e), below_i l (moved k l link e))
      next_held k l (held, apart) link (no other) = let led = sym (same k other apart) ∙ link in (s.next_held k l held led, next-apart k l held other led)

      next_own : (k l : ℕ) → minus H i k → at nexts' k ≡ suc l → Dec (k ≡ j) → at xs l ≡ at xs k
      next_own k l h link (yes e) = s.next_own i l held-i (moved k l link e) ∙ sym own-j ∙ ap (at xs) (sym e)
      next_own k l (held, apart) link (no other) = s.next_own k l held (sym (same k other apart) ∙ link)

      next_down : (k : ℕ) → minus H i k → Dec (k ≡ j) → at nexts' k ≤ k
      next_down k h (yes e) = omega (arith, ap (at nexts') e, new-j, s.next_down i held-i, above)
      next_down k (held, apart) (no other) = omega (arith, same k other apart, s.next_down k held)

      next_top : (k l : ℕ) → minus H i k → minus H i l → l < k → at xs l ≡ at xs k → Dec (k ≡ j) → l < at nexts' k
      next_top k l h (held, apart) lt own (yes e) =
          let of-i : at xs l ≡ at xs i = own ∙ ap (at xs) e ∙ own-j in
          let lower : l < i = omega (arith, s.next_top j l held-j held (omega arith) (own ∙ ap (at xs) e), next-j, apart) in
          omega (arith, ap (at nexts') e, new-j, s.next_top i l held-i held lower of-i)
      next_top k l (h, apart-k) (held, apart) lt own (no other) = omega (arith, same k other apart-k, s.next_top k l h held lt own)
