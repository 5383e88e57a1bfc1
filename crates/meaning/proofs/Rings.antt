-- Rings: what is said of one is said over any family with the same rules; a test that a list is one, and a search that it is the reason.
use Prim.Native.Nat.{ℕ, zero, suc, ◌≤◌, ◌<◌}
use native.Mathlib.Omega.{arith}
use mathlib.Core.Path.{◌≡◌, refl, sym, ◌∙◌, ap, subst}
use mathlib.Core.List.{List, [], ◌∷◌, map}
use mathlib.Core.Bool.{Bool, true, false, not, ◌&&◌, ◌||◌, cond}
use mathlib.Core.Logic.{◌⊎◌, inl, inr}
use lib.Dec.{T, ltb, eqb, ltb→lt, eqb→eq, eqb_refl, not_T, T_not}
use lib.IntN.{pos, ◌+ℤ◌}
use lib.Signed.{◌<ℤ◌, lt_z}
use lib.ListN.{length}
use Rattle.meaning.specs.Rules.{Rule, InSteps, Leads, All, Different, total, Ring, more, plus, Refutes, RefutesBy, Before, Reason}
use Rattle.meaning.proofs.Theory.{all_implies}
use Rattle.meaning.proofs.Counting.{ring_length}
use Rattle.meaning.proofs.Tests.{both, either, implies, apply, all_below, all_below→}

-- ---- another family with the same rules

module _ (F G : ℕ → Rule) where
  pub leads_same : (l : List ℕ) (a b : ℕ) → All (λ i. F i ≡ G i) l → Leads F l a b → Leads G l a b
  leads_same [] a b e h = h
  leads_same (i ∷ l) a b e h = (ap (λ r. r.first) (sym e.0) ∙ h.0, subst (λ s. Leads G l s b) (ap (λ r. r.second) e.0) (leads_same l (F i).second b e.1 h.1))

  pub total_same : (l : List ℕ) → All (λ i. F i ≡ G i) l → total F l ≡ total G l
  total_same [] e = refl
  total_same (i ∷ l) e = λ j. (e.0 j).amount +ℤ total_same l e.1 j

  pub firsts_same : (l : List ℕ) → All (λ i. F i ≡ G i) l → map (λ i. (F i).first) l ≡ map (λ i. (G i).first) l
  firsts_same [] e = refl
  firsts_same (i ∷ l) e = λ j. (e.0 j).first ∷ firsts_same l e.1 j

-- The larger families have the same rules where the smaller ones have.
pub more_same : (R S : ℕ → Rule) (H : ℕ → Type 0) (k : ℕ) (r : Rule) → ((i : ℕ) → H i → R i ≡ S i) → (i : ℕ) → plus H k i → more R k r i ≡ more S k r i
more_same R S H k r e i (inl p) = subst (λ j. more R k r j ≡ more S k r j) (sym p) (pick (eqb k k) (eqb_refl k))
  where
    pick : (t : Bool) → T t → cond t r (R k) ≡ cond t r (S k)
    pick true h = refl
    pick false h = absurd h
more_same R S H k r e i (inr h) = λ j. cond (eqb i k) r (e i h j)

pub refutes_same : (R S : ℕ → Rule) (H : ℕ → Type 0) (k : ℕ) (r : Rule) → ((i : ℕ) → H i → R i ≡ S i) → (l : List ℕ) → Refutes R H k r l → Refutes S H k r l
refutes_same R S H k r e [] h = h
refutes_same R S H k r e (j ∷ l) h = (h.0, record { ring = record { leads_back = back; no_step_twice = subst Different (firsts_same F G (k ∷ l) same) ring.no_step_twice }; negative = subst (λ s. s <ℤ pos 0) (total_same F G (k ∷ l) same) h.1.negative; rest_held = h.1.rest_held })
  where
    F : ℕ → Rule
    F = more R k r

    G : ℕ → Rule
    G = more S k r

    ring : Ring F k l
    ring = h.1.ring

    same : All (λ i. F i ≡ G i) (k ∷ l)
    same = (more_same R S H k r e k (inl refl), all_implies (λ i g. more_same R S H k r e i (inr g)) l h.1.rest_held)

    back : Leads G (k ∷ l) (G k).first (G k).first
    back = subst (λ s. Leads G (k ∷ l) s s) (ap (λ q. q.first) same.0) (leads_same F G (k ∷ l) (F k).first (F k).first same ring.leads_back)

-- ---- tests

join : (a b : Bool) → T a → T b → T (a && b)
join true b s t = t
join false b s t = absurd s

abbrev all_test : (ℕ → Bool) → List ℕ → Bool
all_test f [] = true
all_test f (a ∷ l) = f a && all_test f l

all_test→ : (P : ℕ → Type 0) (f : ℕ → Bool) → ((a : ℕ) → T (f a) → P a) → (l : List ℕ) → T (all_test f l) → All P l
all_test→ P f to [] h = tt
all_test→ P f to (a ∷ l) h = let p = both (f a) (all_test f l) h in (to a p.0, all_test→ P f to l p.1)

→all_test : (P : ℕ → Type 0) (f : ℕ → Bool) → ((a : ℕ) → P a → T (f a)) → (l : List ℕ) → All P l → T (all_test f l)
→all_test P f from [] h = tt
→all_test P f from (a ∷ l) h = join (f a) (all_test f l) (from a h.0) (→all_test P f from l h.1)

abbrev different_test : List ℕ → Bool
different_test [] = true
different_test (a ∷ l) = all_test (λ b. not (eqb a b)) l && different_test l

eqb_yes : (a b : ℕ) → a ≡ b → T (eqb a b)
eqb_yes a b e = subst (λ c. T (eqb a c)) e (eqb_refl a)

different_test→ : (l : List ℕ) → T (different_test l) → Different l
different_test→ [] h = tt
different_test→ (a ∷ l) h = (all_test→ (λ b. a ≡ b → ⊥) (λ b. not (eqb a b)) (λ b t e. T_not (eqb a b) t (eqb_yes a b e)) l p.0, different_test→ l p.1)
  where
    p : T (all_test (λ b. not (eqb a b)) l) × T (different_test l)
    p = both (all_test (λ b. not (eqb a b)) l) (different_test l) h

→different_test : (l : List ℕ) → Different l → T (different_test l)
→different_test [] h = tt
→different_test (a ∷ l) h = join (all_test (λ b. not (eqb a b)) l) (different_test l) (→all_test (λ b. a ≡ b → ⊥) (λ b. not (eqb a b)) (λ b n. not_T (eqb a b) (λ t. n (eqb→eq a b t))) l h.0) (→different_test l h.1)

abbrev leads_test : (ℕ → Rule) → List ℕ → ℕ → ℕ → Bool
leads_test F [] a b = eqb a b
leads_test F (i ∷ l) a b = eqb (F i).first a && leads_test F l (F i).second b

leads_test→ : (F : ℕ → Rule) (l : List ℕ) (a b : ℕ) → T (leads_test F l a b) → Leads F l a b
leads_test→ F [] a b h = eqb→eq a b h
leads_test→ F (i ∷ l) a b h = let p = both (eqb (F i).first a) (leads_test F l (F i).second b) h in (eqb→eq (F i).first a p.0, leads_test→ F l (F i).second b p.1)

-- The first steps of the list are different, and its sum is below 0.
abbrev bad_test : (ℕ → Rule) → List ℕ → Bool
bad_test F l = different_test (map (λ i. (F i).first) l) && lt_z (total F l) (pos 0)

-- The numbers that pass the test f are held.
abbrev pub Passes : (ℕ → Bool) → ℕ → Type 0
Passes f i = T (f i)

-- k and then l refute r, where the numbers that pass f are held.
abbrev pub ring_test : (ℕ → Rule) → (ℕ → Bool) → ℕ → Rule → List ℕ → Bool
ring_test R f k r l = (leads_test (more R k r) (k ∷ l) (more R k r k).first (more R k r k).first && all_test f l) && bad_test (more R k r) (k ∷ l)

pub ring_test→ : (R : ℕ → Rule) (f : ℕ → Bool) (k : ℕ) (r : Rule) (l : List ℕ) → T (ring_test R f k r l) → Refutes R (Passes f) k r (k ∷ l)
ring_test→ R f k r l h = (refl, record { ring = record { leads_back = leads_test→ F (k ∷ l) start start walk.0; no_step_twice = different_test→ (map (λ i. (F i).first) (k ∷ l)) bad.0 }; negative = record { lt = bad.1 }; rest_held = all_test→ (Passes f) f (λ i t. t) l walk.1 })
  where
    F : ℕ → Rule
    F = more R k r

    start : ℕ
    start = (F k).first

    parts : T (leads_test F (k ∷ l) start start && all_test f l) × T (bad_test F (k ∷ l))
    parts = both (leads_test F (k ∷ l) start start && all_test f l) (bad_test F (k ∷ l)) h

    walk : T (leads_test F (k ∷ l) start start) × T (all_test f l)
    walk = both (leads_test F (k ∷ l) start start) (all_test f l) parts.0

    bad : T (different_test (map (λ i. (F i).first) (k ∷ l))) × T (lt_z (total F (k ∷ l)) (pos 0))
    bad = both (different_test (map (λ i. (F i).first) (k ∷ l))) (lt_z (total F (k ∷ l)) (pos 0)) parts.1

-- ---- the reason

-- Every list of at most k numbers below m that pass f, leading from a to b, passes the test P.
abbrev walks_pass : (ℕ → Rule) → (ℕ → Bool) → ℕ → ℕ → (List ℕ → Bool) → ℕ → ℕ → Bool
walks_pass F f m zero P a b = implies (eqb a b) (P [])
walks_pass F f m (suc k) P a b =
    implies (eqb a b) (P []) && all_below (λ i. implies (f i && eqb (F i).first a) (walks_pass F f m k (λ l. P (i ∷ l)) (F i).second b)) m

walks_pass→ :
    (F : ℕ → Rule) (f : ℕ → Bool) (m k : ℕ) (P : List ℕ → Bool) (a b : ℕ) → T (walks_pass F f m k P a b) → (l : List ℕ) → Leads F l a b → All (λ i. (i < m) × T (f i)) l → length l ≤ k → T (P l)
walks_pass→ F f m zero P a b h [] e there short = apply (eqb a b) (P []) h (eqb_yes a b e)
walks_pass→ F f m zero P a b h (i ∷ l) e there short = absurd (omega arith)
walks_pass→ F f m (suc k) P a b h [] e there short =
    apply (eqb a b) (P []) (both (implies (eqb a b) (P [])) (all_below (λ i. implies (f i && eqb (F i).first a) (walks_pass F f m k (λ l. P (i ∷ l)) (F i).second b)) m) h).0 (eqb_yes a b e)
walks_pass→ F f m (suc k) P a b h (i ∷ l) e there short =
    walks_pass→
    F
    f
    m
    k
    (λ l'. P (i ∷ l'))
    (F i).second
    b
    (apply (f i && eqb (F i).first a) (walks_pass F f m k (λ l'. P (i ∷ l')) (F i).second b) (all_below→ step m (both (implies (eqb a b) (P [])) (all_below step m) h).1 i there.0.0) (join (f i) (eqb (F i).first a) there.0.1 (eqb_yes (F i).first a e.0)))
    l
    e.1
    there.1
    (omega arith)
  where
    step : ℕ → Bool
    step j = implies (f j && eqb (F j).first a) (walks_pass F f m k (λ l'. P (j ∷ l')) (F j).second b)

abbrev pub same_test : List ℕ → List ℕ → Bool
same_test [] [] = true
same_test [] (b ∷ m) = false
same_test (a ∷ l) [] = false
same_test (a ∷ l) (b ∷ m) = eqb a b && same_test l m

pub same-test→ : (l m : List ℕ) → T (same_test l m) → l ≡ m
same-test→ [] [] h = refl
same-test→ [] (b ∷ m) h = absurd h
same-test→ (a ∷ l) [] h = absurd h
same-test→ (a ∷ l) (b ∷ m) h = λ i. eqb→eq a b (both (eqb a b) (same_test l m) h).0 i ∷ same-test→ l m (both (eqb a b) (same_test l m) h).1 i

abbrev before_test : List ℕ → List ℕ → Bool
before_test [] m = false
before_test (a ∷ l) [] = false
before_test (a ∷ l) (b ∷ m) = ltb a b || (eqb a b && before_test l m)

before_test→ : (l m : List ℕ) → T (before_test l m) → Before l m
before_test→ [] m h = absurd h
before_test→ (a ∷ l) [] h = absurd h
before_test→ (a ∷ l) (b ∷ m) h = tell (either (ltb a b) (eqb a b && before_test l m) h) (before_test→ l m)
  where
    tell : T (ltb a b) ⊎ T (eqb a b && before_test l m) → (T (before_test l m) → Before l m) → Before (a ∷ l) (b ∷ m)
    tell (inl t) rest = inl (omega (arith, ltb→lt a b t))
    tell (inr t) rest = let p = both (eqb a b) (before_test l m) t in inr (eqb→eq a b p.0, rest p.1)

-- The list x is l, or it is longer, or it is as long and l is before it.
abbrev NoBetter : List ℕ → List ℕ → Type 0
NoBetter l x = (x ≡ l) ⊎ ((length l < length x) ⊎ ((length l ≡ length x) × Before l x))

abbrev no_better : List ℕ → List ℕ → Bool
no_better l x = same_test x l || (ltb (length l) (length x) || (eqb (length l) (length x) && before_test l x))

no_better→ : (l x : List ℕ) → T (no_better l x) → NoBetter l x
no_better→ l x h = tell (either (same_test x l) (longer || (as_long && before_test l x)) h)
  where
    longer : Bool
    longer = ltb (length l) (length x)

    as_long : Bool
    as_long = eqb (length l) (length x)

    size : T longer ⊎ T (as_long && before_test l x) → NoBetter l x
    size (inl t) = inr (inl (ltb→lt (length l) (length x) t))
    size (inr t) = let p = both as_long (before_test l x) t in inr (inr (eqb→eq (length l) (length x) p.0, before_test→ l x p.1))

    tell : T (same_test x l) ⊎ T (longer || (as_long && before_test l x)) → NoBetter l x
    tell (inl t) = inl (same-test→ x l t)
    tell (inr t) = size (either longer (as_long && before_test l x) t)

-- Of the lists of at most n numbers below m that pass f and lead from r's second step back to its first, none that makes a bad ring with k is better than l.
abbrev best_test : (ℕ → Rule) → (ℕ → Bool) → ℕ → ℕ → Rule → ℕ → List ℕ → Bool
best_test R f m k r n l = walks_pass (more R k r) f m n (λ x. implies (bad_test (more R k r) (k ∷ x)) (no_better l x)) (more R k r k).second (more R k r k).first

-- k and then l are the reason why r is refused, over n steps, where the numbers that pass f are held, all below m.
abbrev pub reason_test : (ℕ → Rule) → (ℕ → Bool) → ℕ → ℕ → Rule → ℕ → List ℕ → Bool
reason_test R f m k r n l = ring_test R f k r l && best_test R f m k r n l

module _
    (R : ℕ → Rule) (f : ℕ → Bool) (m k : ℕ) (r : Rule) (n : ℕ) (l : List ℕ) (below : (i : ℕ) → T (f i) → i < m) (held : (i : ℕ) → T (f i) → InSteps n (R i)) (new : InSteps n r)
  where
    best_test→ : T (best_test R f m k r n l) → (j : ℕ) (x : List ℕ) → Refutes R (Passes f) k r (j ∷ x) → NoBetter l x
    best_test→ h j x ring =
        no_better→ l x (apply (bad_test F (k ∷ x)) (no_better l x) (walks_pass→ F f m n (λ y. implies (bad_test F (k ∷ y)) (no_better l y)) (F k).second (F k).first h x by.ring.leads_back.1 (all_implies (λ i t. (below i t, t)) x by.rest_held) short) bad)
      where
        F : ℕ → Rule
        F = more R k r

        by : RefutesBy R (Passes f) k r x
        by = ring.1

        short : length x ≤ n
        short = omega (arith, ring_length n R (Passes f) k r (j ∷ x) held new ring)

        bad : T (bad_test F (k ∷ x))
        bad = join (different_test (map (λ i. (F i).first) (k ∷ x))) (lt_z (total F (k ∷ x)) (pos 0)) (→different_test (map (λ i. (F i).first) (k ∷ x)) by.ring.no_step_twice) by.negative.lt

    pub reason_test→ : T (reason_test R f m k r n l) → Reason R (Passes f) k r (k ∷ l)
    reason_test→ h = record { refutes = ring_test→ R f k r l parts.0; fewest = λ x ring. omega (arith, fewest x ring); others_after = others_after }
      where
        parts : T (ring_test R f k r l) × T (best_test R f m k r n l)
        parts = both (ring_test R f k r l) (best_test R f m k r n l) h

        no-shorter : (x : List ℕ) → NoBetter l x → length l ≤ length x
        no-shorter x (inl same) = omega (arith, ap length same)
        no-shorter x (inr (inl longer)) = omega (arith, longer)
        no-shorter x (inr (inr as_long)) = omega (arith, as_long.0)

        fewest : (x : List ℕ) → Refutes R (Passes f) k r x → suc (length l) ≤ length x
        fewest [] ring = absurd ring
        fewest (j ∷ x) ring = omega (arith, no-shorter x (best_test→ parts.1 j x ring))

        after : (j : ℕ) (x : List ℕ) → j ≡ k → length x ≡ length l → NoBetter l x → (j ∷ x ≡ k ∷ l) ⊎ Before (k ∷ l) (j ∷ x)
        after j x e long (inl same) = inl (λ i. e i ∷ same i)
        after j x e long (inr (inl longer)) = absurd (omega (arith, longer))
        after j x e long (inr (inr as_long)) = inr (inr (sym e, as_long.1))

        others_after : (x : List ℕ) → Refutes R (Passes f) k r x → length x ≡ suc (length l) → (x ≡ k ∷ l) ⊎ Before (k ∷ l) x
        others_after [] ring long = absurd ring
        others_after (j ∷ x) ring long = after j x ring.0 (omega (arith, long)) (best_test→ parts.1 j x ring)
