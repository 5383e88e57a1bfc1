-- Lists that are lent: when two of them are equal, what a list written over another holds, and that a rising list is fixed by its members.
use Prim.Native.Nat.{ℕ, zero, suc, ◌+◌, ◌-◌, ◌≤◌, ◌<◌}
use native.Mathlib.Omega.{arith}
use native.Mathlib.Decide.{dec_lt}
use mathlib.Core.Path.{◌≡◌, refl, sym, ◌∙◌, ap, subst}
use mathlib.Core.List.{List, [], ◌∷◌, ◌++◌}
use mathlib.Core.Logic.{inl, inr}
use mathlib.Core.Bool.{cond}
use lib.Dec.{eqb}
use lib.ListN.{length, take, drop, length-append, length-drop, length-take, get_or-append}
use lib.Seq.{ext_get_or, get_or-take, get_or-drop, get_or-append-add, take-append_seam}
use Rattle.meaning.specs.Rules.{All}
use Rattle.meaning.specs.Tables.{at}
use Rattle.meaning.specs.Promise.{Past, Filled, moved, In, Rising, Exactly}

-- Two lists written from the same list, up to place k, are equal where they agree below k.
pub past_same : (k : ℕ) (before a b : List ℕ) → Past k before a → Past k before b → ((i : ℕ) → i < k → at a i ≡ at b i) → a ≡ b
past_same k before a b pa pb low = ext_get_or 0 a b (pa.same_length ∙ sym pb.same_length) (λ i h. tell i (dec_lt i k))
  where
    tell : (i : ℕ) → Dec (i < k) → at a i ≡ at b i
    tell i (yes h) = low i h
    tell i (no h) = pa.kept i (omega arith) ∙ sym (pb.kept i (omega arith))

-- A list lent is kept from any place on where nothing was written.
pub past_refl : (k : ℕ) (l : List ℕ) → Past k l l
past_refl k l = record { same_length = refl; kept = λ i h. refl }

-- And the one is kept of the other where the other is of the one.
pub past_back : {k : ℕ} {l m : List ℕ} → Past k l m → Past k m l
past_back p = record { same_length = sym p.same_length; kept = λ i h. sym (p.kept i h) }

-- The count of moved steps reads only the places below n.
pub moved_same : (n : ℕ) (a b c d : List ℕ) → ((v : ℕ) → v < n → at a v ≡ at b v) → ((v : ℕ) → v < n → at c v ≡ at d v) → moved n a c ≡ moved n b d
moved_same zero a b c d e f = refl
moved_same (suc n) a b c d e f =
    λ i. moved_same n a b c d (λ v h. e v (omega arith)) (λ v h. f v (omega arith)) i + cond (eqb (e n (omega arith) i) (f n (omega arith) i)) 0 1

-- ---- a list filled

-- The filled part is as long as it is said to be.
pub filled_length : {P : List ℕ → Type 0} (k : ℕ) (before after : List ℕ) → Filled k P before after → length (take k after) ≡ k
filled_length k before after f = length-take k after ∙ omega (arith, f.within, f.past.same_length)

-- Where what is filled in is fixed by P, the length and the whole list are.
pub filled_same : {P : List ℕ → Type 0} → ((l m : List ℕ) → P l → P m → l ≡ m) → (k j : ℕ) (before a b : List ℕ) → Filled k P before a → Filled j P before b → (k ≡ j) × (a ≡ b)
filled_same {P} only k j before a b fa fb = (same, past_same k before a b fa.past (subst (λ i. Past i before b) (sym same) fb.past) low)
  where
    part : take k a ≡ take j b
    part = only (take k a) (take j b) fa.holds fb.holds

    same : k ≡ j
    same = sym (filled_length k before a fa) ∙ ap length part ∙ filled_length j before b fb

    low : (i : ℕ) → i < k → at a i ≡ at b i
    low i h = sym (get_or-take k a i 0 h) ∙ ap (λ l. at l i) part ∙ get_or-take j b i 0 (subst (λ x. i < x) same h)

-- ---- a list written over the front of another

pub over : List ℕ → List ℕ → List ℕ
over l before = l ++ drop (length l) before

pub over_length : (l before : List ℕ) → length l ≤ length before → length (over l before) ≡ length before
unfolding over
over_length l before h = length-append l (drop (length l) before) ∙ omega (arith, length-drop (length l) before)

pub over_front : (l before : List ℕ) (i : ℕ) → i < length l → at (over l before) i ≡ at l i
unfolding over
over_front l before i h = get_or-append l (drop (length l) before) 0 i h

pub over_past : (l before : List ℕ) → length l ≤ length before → Past (length l) before (over l before)
unfolding over
over_past l before h = record { same_length = over_length l before h; kept = kept }
  where
    kept : (i : ℕ) → length l ≤ i → at (l ++ drop (length l) before) i ≡ at before i
    kept i g = subst (λ x. at (l ++ drop (length l) before) x ≡ at before x) whole (get_or-append-add l (drop (length l) before) (i - length l) 0 ∙ get_or-drop (length l) before (i - length l) 0)
      where
        whole : length l + (i - length l) ≡ i
        whole = omega arith

pub over_take : (l before : List ℕ) → take (length l) (over l before) ≡ l
unfolding over
over_take l before = take-append_seam l (drop (length l) before)

pub over_filled : {P : List ℕ → Type 0} (l before : List ℕ) → length l ≤ length before → P l → Filled (length l) P before (over l before)
over_filled {P} l before h p =
    record {
      within = omega arith;
      holds = subst P (sym (over_take l before)) p;
      past = over_past l before h;
    }

-- The first n values of a function, as a list.
pub values : ℕ → (ℕ → ℕ) → List ℕ
values zero p = []
values (suc n) p = p 0 ∷ values n (λ v. p (suc v))

pub values_length : (n : ℕ) (p : ℕ → ℕ) → length (values n p) ≡ n
unfolding values
values_length zero p = refl
values_length (suc n) p = ap suc (values_length n (λ v. p (suc v)))

pub values_at : (n : ℕ) (p : ℕ → ℕ) (v : ℕ) → v < n → at (values n p) v ≡ p v
unfolding values
values_at zero p v h = absurd (omega arith)
values_at (suc n) p zero h = refl
values_at (suc n) p (suc v) h = values_at n (λ w. p (suc w)) v (omega arith)

-- ---- rising lists

pub all_in : (P : ℕ → Type 0) (l : List ℕ) (j : ℕ) → All P l → In j l → P j
all_in P [] j h i = absurd i
all_in P (a ∷ l) j h (inl e) = subst P (sym e) h.0
all_in P (a ∷ l) j h (inr i) = all_in P l j h.1 i

-- A rising list is fixed by its members.
pub rising_same : (l m : List ℕ) → Rising l → Rising m → ((j : ℕ) → In j l → In j m) → ((j : ℕ) → In j m → In j l) → l ≡ m
rising_same [] [] rl rm to from = refl
rising_same [] (b ∷ m) rl rm to from = absurd (from b (inl refl))
rising_same (a ∷ l) [] rl rm to from = absurd (to a (inl refl))
rising_same (a ∷ l) (b ∷ m) rl rm to from = λ i. heads i ∷ rising_same l m rl.1 rm.1 down up' i
  where
    heads : a ≡ b
    heads = go (to a (inl refl)) (from b (inl refl))
      where
        go : In a (b ∷ m) → In b (a ∷ l) → a ≡ b
        go (inl e) y = e
        go (inr x) (inl e) = sym e
        go (inr x) (inr y) = absurd (omega (arith, all_in (b <◌) m a rm.0 x, all_in (a <◌) l b rl.0 y))

    down : (j : ℕ) → In j l → In j m
    down j x = go (to j (inr x))
      where
        go : In j (b ∷ m) → In j m
        go (inl e) = absurd (omega (arith, e, heads, all_in (a <◌) l j rl.0 x))
        go (inr y) = y

    up' : (j : ℕ) → In j m → In j l
    up' j x = go (from j (inr x))
      where
        go : In j (a ∷ l) → In j l
        go (inl e) = absurd (omega (arith, e, heads, all_in (b <◌) m j rm.0 x))
        go (inr y) = y

-- The list of exactly the numbers below n that have P is the only one.
pub exactly_same : (P : ℕ → Type 0) (n : ℕ) (l m : List ℕ) → Exactly P n l → Exactly P n m → l ≡ m
exactly_same P n l m a b = rising_same l m a.rising b.rising (into l m a b) (into m l b a)
  where
    into : (x y : List ℕ) → Exactly P n x → Exactly P n y → (j : ℕ) → In j x → In j y
    into x y ex ey j i = let h : (j < n) × P j = all_in (λ k. (k < n) × P k) x j ex.nothing_else i in ey.all_there j h.0 h.1

-- ---- the list of exactly the numbers below n that have P, made number by number

all_snoc : (P : ℕ → Type 0) (l : List ℕ) (a : ℕ) → All P l → P a → All P (l ++ (a ∷ []))
all_snoc P [] a h p = (p, tt)
all_snoc P (b ∷ l) a h p = (h.0, all_snoc P l a h.1 p)

all_both : (P Q : ℕ → Type 0) → ((j : ℕ) → P j → Q j) → (l : List ℕ) → All P l → All Q l
all_both P Q f [] h = tt
all_both P Q f (a ∷ l) h = (f a h.0, all_both P Q f l h.1)

rising_snoc : (l : List ℕ) (a : ℕ) → Rising l → All (λ j. j < a) l → Rising (l ++ (a ∷ []))
rising_snoc [] a r h = (tt, tt)
rising_snoc (b ∷ l) a r h = (all_snoc (b <◌) l a r.0 h.0, rising_snoc l a r.1 h.1)

in_front : (j : ℕ) (l m : List ℕ) → In j l → In j (l ++ m)
in_front j [] m h = absurd h
in_front j (a ∷ l) m (inl e) = inl e
in_front j (a ∷ l) m (inr h) = inr (in_front j l m h)

in_end : (l : List ℕ) (a : ℕ) → In a (l ++ (a ∷ []))
in_end [] a = inl refl
in_end (b ∷ l) a = inr (in_end l a)

-- Below 0 there is none.
pub exactly_none : (P : ℕ → Type 0) → Exactly P 0 []
exactly_none P = record { rising = tt; nothing_else = tt; all_there = λ j h p. absurd (omega arith) }

-- The next number has P: it goes to the end.
pub exactly_take : (P : ℕ → Type 0) (n : ℕ) (l : List ℕ) → Exactly P n l → P n → Exactly P (suc n) (l ++ (n ∷ []))
exactly_take P n l e p =
    record {
      rising = rising_snoc l n e.rising (all_both (λ j. (j < n) × P j) (◌< n) (λ j h. h.0) l e.nothing_else);
      nothing_else = all_snoc (λ j. (j < suc n) × P j) l n (all_both (λ j. (j < n) × P j) (λ j. (j < suc n) × P j) (λ j h. (omega (arith, h.0), h.1)) l e.nothing_else) (omega arith, p);
      all_there = λ j h q. tell j q (dec_lt j n) h;
    }
  where
    tell : (j : ℕ) → P j → Dec (j < n) → j < suc n → In j (l ++ (n ∷ []))
    tell j q (yes h) g = in_front j l (n ∷ []) (e.all_there j h q)
    tell j q (no h) g = subst (λ i. In i (l ++ (n ∷ []))) same (in_end l n)
      where
        same : n ≡ j
        same = omega arith

-- The next number has it not.
pub exactly_leave : (P : ℕ → Type 0) (n : ℕ) (l : List ℕ) → Exactly P n l → (P n → ⊥) → Exactly P (suc n) l
exactly_leave P n l e np =
    record {
      rising = e.rising;
      nothing_else = all_both (λ j. (j < n) × P j) (λ j. (j < suc n) × P j) (λ j h. (omega (arith, h.0), h.1)) l e.nothing_else;
      all_there = λ j h q. tell j q (dec_lt j n) h;
    }
  where
    tell : (j : ℕ) → P j → Dec (j < n) → j < suc n → In j l
    tell j q (yes h) g = e.all_there j h q
    tell j q (no h) g = absurd (np (subst P same q))
      where
        same : j ≡ n
        same = omega arith

-- Where it can be told of each number whether it has P, there is such a list.
pub exactly_some : (P : ℕ → Type 0) → ((j : ℕ) → Dec (P j)) → (n : ℕ) → (l : List ℕ) × Exactly P n l
exactly_some P tell zero = ([], exactly_none P)
exactly_some P tell (suc n) = next (tell n) (exactly_some P tell n)
  where
    next : Dec (P n) → (l : List ℕ) × Exactly P n l → (l : List ℕ) × Exactly P (suc n) l
    next (yes h) (l, e) = (l ++ (n ∷ []), exactly_take P n l e h)
    next (no h) (l, e) = (l, exactly_leave P n l e h)
