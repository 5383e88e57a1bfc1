-- Tests that the checker computes on small sets of rules, given as a list, and what each test shows.
use Prim.Native.Nat.{ℕ, zero, suc, ◌+◌, ◌-◌, ◌≤◌, ◌<◌, max}
use native.Mathlib.Omega.{arith}
use native.Mathlib.Decide.{dec_le}
use mathlib.Core.Path.{◌≡◌, ap, subst}
use mathlib.Core.List.{List, [], ◌∷◌, ◌++◌}
use mathlib.Core.Bool.{Bool, true, false, not, ◌&&◌, ◌||◌, cond}
use mathlib.Core.Logic.{◌⊎◌, inl, inr}
use lib.Dec.{T, leb, ltb, eqb, leb→le, ltb→lt, eqb→eq}
use lib.IntN.{ℤ, pos, neg_ℤ, ◌-ℤ◌}
use lib.Signed.{le_z}
use lib.ListN.{length, get_or, set}
use Rattle.meaning.specs.Bounds.{LARGEST}
use Rattle.meaning.specs.Rules.{Rule, Keeps, InBounds, Plan, Earliest, Always, Fits, Tight, Grounded}
use Rattle.meaning.specs.Tables.{at}
use Rattle.meaning.specs.Promise.{Exactly}
use Rattle.meaning.specs.Reckoning.{up, dn}
use Rattle.meaning.proofs.Whole.{le→, minus_is, keeps→, →keeps, →plan, →tight}
use Rattle.meaning.proofs.Lowering.{grounded_earliest}
use Rattle.meaning.proofs.Lists.{exactly_none, exactly_take, exactly_leave}

-- ---- Booleans

pub both : (a b : Bool) → T (a && b) → T a × T b
both true b h = (tt, h)
both false b h = absurd h

pub either : (a b : Bool) → T (a || b) → T a ⊎ T b
either true b h = inl tt
either false b h = inr h

abbrev pub implies : Bool → Bool → Bool
implies true b = b
implies false b = true

pub apply : (a b : Bool) → T (implies a b) → T a → T b
apply true b h t = h
apply false b h t = absurd t

-- ---- rules as a list

-- The rule under number i of the list.
abbrev pub nth : List Rule → ℕ → Rule
nth l i = get_or l i (record { first = 0; second = 0; amount = pos 0 })

-- Every rule passes; some rule passes; each with its number, counted from k.
abbrev pub every : (ℕ → Rule → Bool) → ℕ → List Rule → Bool
every f k [] = true
every f k (r ∷ l) = f k r && every f (suc k) l

abbrev pub some : (ℕ → Rule → Bool) → ℕ → List Rule → Bool
some f k [] = false
some f k (r ∷ l) = f k r || some f (suc k) l

pub every_at : (f : ℕ → Rule → Bool) (k : ℕ) (l : List Rule) → T (every f k l) → (i : ℕ) → i < length l → T (f (i + k) (nth l i))
every_at f k [] h i g = absurd (omega arith)
every_at f k (r ∷ l) h zero g = subst (λ j. T (f j r)) (omega arith) (both (f k r) (every f (suc k) l) h).0
every_at f k (r ∷ l) h (suc i) g = subst (λ j. T (f j (nth l i))) (omega arith) (every_at f (suc k) l (both (f k r) (every f (suc k) l) h).1 i (omega arith))

pub some_at : (f : ℕ → Rule → Bool) (k : ℕ) (l : List Rule) → T (some f k l) → (i : ℕ) × (i < length l) × T (f (i + k) (nth l i))
some_at f k [] h = absurd h
some_at f k (r ∷ l) h = tell (either (f k r) (some f (suc k) l) h) (some_at f (suc k) l)
  where
    tell : T (f k r) ⊎ T (some f (suc k) l) → (T (some f (suc k) l) → (i : ℕ) × (i < length l) × T (f (i + suc k) (nth l i))) → (i : ℕ) × (i < suc (length l)) × T (f (i + k) (nth (r ∷ l) i))
    tell (inl t) rec = (0, (omega arith), subst (λ j. T (f j r)) (omega arith) t)
    tell (inr t) rec = let w = rec t in (suc w.0, (omega (arith, w.1)), subst (λ j. T (f j (nth l w.0))) (omega arith) w.2)

-- Rules below k are held.
abbrev pub Below : List Rule → ℕ → Type 0
Below l i = i < length l

-- ---- bounds

abbrev pub in_bounds : ℕ → Rule → Bool
in_bounds n r = (ltb r.first n && ltb r.second n) && (le_z (neg_ℤ (pos LARGEST)) r.amount && le_z r.amount (pos LARGEST))

pub in-bounds→ : (n : ℕ) (r : Rule) → T (in_bounds n r) → InBounds n r
in-bounds→ n r h =
    record {
      steps_in = record { first_in = ltb→lt r.first n steps.0; second_in = ltb→lt r.second n steps.1 };
      amount_in = record { not_below = record { le = amount.0 }; not_above = record { le = amount.1 } };
    }
  where
    parts : T (ltb r.first n && ltb r.second n) × T (le_z (neg_ℤ (pos LARGEST)) r.amount && le_z r.amount (pos LARGEST))
    parts = both (ltb r.first n && ltb r.second n) (le_z (neg_ℤ (pos LARGEST)) r.amount && le_z r.amount (pos LARGEST)) h

    steps : T (ltb r.first n) × T (ltb r.second n)
    steps = both (ltb r.first n) (ltb r.second n) parts.0

    amount : T (le_z (neg_ℤ (pos LARGEST)) r.amount) × T (le_z r.amount (pos LARGEST))
    amount = both (le_z (neg_ℤ (pos LARGEST)) r.amount) (le_z r.amount (pos LARGEST)) parts.1

-- ---- plans

-- The days keep the rule; the rule is tight.
abbrev pub keeps_test : List ℕ → Rule → Bool
keeps_test days r = leb (at days r.first + dn r.amount) (at days r.second + up r.amount)

abbrev pub tight_test : List ℕ → Rule → Bool
tight_test days r = eqb (at days r.first + dn r.amount) (at days r.second + up r.amount)

pub keeps_test→ : (days : List ℕ) (r : Rule) → T (keeps_test days r) → Keeps (λ v. pos (at days v)) r
keeps_test→ days r h = →plan (at days) r (leb→le (at days r.first + dn r.amount) (at days r.second + up r.amount) h)

abbrev pub plan_test : List Rule → List ℕ → Bool
plan_test rules days = every (λ i r. keeps_test days r) 0 rules

pub plan_test→ : (rules : List Rule) (days : List ℕ) → T (plan_test rules days) → Plan (nth rules) (Below rules) (at days)
plan_test→ rules days h i g = keeps_test→ days (nth rules i) (every_at (λ i r. keeps_test days r) 0 rules h i g)

-- The step is grounded within so many rules.
abbrev pub ground_test : ℕ → List Rule → List ℕ → ℕ → Bool
ground_test zero rules days v = eqb (at days v) 0
ground_test (suc k) rules days v = ground_test k rules days v || some (λ i r. eqb r.second v && (tight_test days r && ground_test k rules days r.first)) 0 rules

pub ground_test→ : (k : ℕ) (rules : List Rule) (days : List ℕ) (v : ℕ) → T (ground_test k rules days v) → Grounded (nth rules) (Below rules) (at days) v
ground_test→ zero rules days v h = Grounded.on_day_0 v (eqb→eq (at days v) 0 h)
ground_test→ (suc k) rules days v h = tell (either (ground_test k rules days v) (some f 0 rules) h) (ground_test→ k rules days)
  where
    f : ℕ → Rule → Bool
    f i r = eqb r.second v && (tight_test days r && ground_test k rules days r.first)

    tell : T (ground_test k rules days v) ⊎ T (some f 0 rules) → ((w : ℕ) → T (ground_test k rules days w) → Grounded (nth rules) (Below rules) (at days) w) → Grounded (nth rules) (Below rules) (at days) v
    tell (inl t) rec = rec v t
    tell (inr t) rec = subst (Grounded (nth rules) (Below rules) (at days)) (eqb→eq r.second v first.0) (Grounded.forced i w.1 tight (rec r.first then'.1))
      where
        w : (i : ℕ) × (i < length rules) × T (f (i + 0) (nth rules i))
        w = some_at f 0 rules t

        i : ℕ
        i = w.0

        r : Rule
        r = nth rules i

        first : T (eqb r.second v) × T (tight_test days r && ground_test k rules days r.first)
        first = both (eqb r.second v) (tight_test days r && ground_test k rules days r.first) w.2

        then' : T (tight_test days r) × T (ground_test k rules days r.first)
        then' = both (tight_test days r) (ground_test k rules days r.first) first.1

        tight : Tight (at days) r
        tight = →tight (at days) r (eqb→eq (at days r.first + dn r.amount) (at days r.second + up r.amount) then'.0)

-- Every number below n passes.
abbrev pub all_below : (ℕ → Bool) → ℕ → Bool
all_below f zero = true
all_below f (suc n) = all_below f n && f n

pub all_below→ : (f : ℕ → Bool) (n : ℕ) → T (all_below f n) → (v : ℕ) → v < n → T (f v)
all_below→ f zero h v g = absurd (omega arith)
all_below→ f (suc n) h v g = tell (dec_le n v) (all_below→ f n (both (all_below f n) (f n) h).0 v)
  where
    tell : Dec (n ≤ v) → (v < n → T (f v)) → T (f v)
    tell (yes e) rec = subst (λ i. T (f i)) (omega arith) (both (all_below f n) (f n) h).1
    tell (no e) rec = rec (omega arith)

-- The days are the earliest plan over n steps, every step grounded within so many rules as there are.
abbrev pub earliest_test : ℕ → List Rule → List ℕ → Bool
earliest_test n rules days = plan_test rules days && all_below (ground_test (length rules) rules days) n

pub earliest_test→ : (n : ℕ) (rules : List Rule) (days : List ℕ) → T (earliest_test n rules days) → Earliest n (nth rules) (Below rules) (at days)
earliest_test→ n rules days h =
    grounded_earliest
    n
    (nth rules)
    (Below rules)
    (at days)
    (plan_test→ rules days parts.0)
    (λ v g. ground_test→ (length rules) rules days v (all_below→ (ground_test (length rules) rules days) n parts.1 v g))
  where
    parts : T (plan_test rules days) × T (all_below (ground_test (length rules) rules days) n)
    parts = both (plan_test rules days) (all_below (ground_test (length rules) rules days) n) h

-- ---- what holds in all arrangements, and what fits

-- Some list of at most k rules leads from a to b with a sum of at most c.
abbrev pub walk_test : ℕ → List Rule → ℕ → ℕ → ℤ → Bool
walk_test zero rules a b c = eqb a b && le_z (pos 0) c
walk_test (suc k) rules a b c = (eqb a b && le_z (pos 0) c) || some (λ i r. eqb r.first a && walk_test k rules r.second b (c -ℤ r.amount)) 0 rules

no_way : (a b : ℕ) (c : ℤ) → T (eqb a b && le_z (pos 0) c) → (d : ℕ → ℤ) → Keeps d (record { first = a; second = b; amount = c })
no_way a b c h d = →keeps d (record { first = a; second = b; amount = c }) (omega (arith, ap (λ v. up (d v)) same, ap (λ v. dn (d v)) same, le→ (pos 0) c (record { le = parts.1 })))
  where
    parts : T (eqb a b) × T (le_z (pos 0) c)
    parts = both (eqb a b) (le_z (pos 0) c) h

    same : a ≡ b
    same = eqb→eq a b parts.0

pub walk_test→ : (k : ℕ) (rules : List Rule) (a b : ℕ) (c : ℤ) → T (walk_test k rules a b c) → Always (nth rules) (Below rules) (record { first = a; second = b; amount = c })
walk_test→ zero rules a b c h d arr = no_way a b c h d
walk_test→ (suc k) rules a b c h d arr = tell (either (eqb a b && le_z (pos 0) c) (some f 0 rules) h) (walk_test→ k rules)
  where
    f : ℕ → Rule → Bool
    f i r = eqb r.first a && walk_test k rules r.second b (c -ℤ r.amount)

    tell :
        T (eqb a b && le_z (pos 0) c) ⊎ T (some f 0 rules)
        → ((x y : ℕ) (z : ℤ) → T (walk_test k rules x y z) → Always (nth rules) (Below rules) (record { first = x; second = y; amount = z }))
        → Keeps d (record { first = a; second = b; amount = c })
    tell (inl t) rec = no_way a b c t d
    tell (inr t) rec =
        →keeps
        d
        (record { first = a; second = b; amount = c })
        (omega (arith, minus_is c r.amount, keeps→ d r (arr w.0 w.1), keeps→ d (record { first = r.second; second = b; amount = c -ℤ r.amount }) (rec r.second b (c -ℤ r.amount) parts.1 d arr), ap (λ v. up (d v)) same, ap (λ v. dn (d v)) same))
      where
        w : (i : ℕ) × (i < length rules) × T (f (i + 0) (nth rules i))
        w = some_at f 0 rules t

        r : Rule
        r = nth rules w.0

        parts : T (eqb r.first a) × T (walk_test k rules r.second b (c -ℤ r.amount))
        parts = both (eqb r.first a) (walk_test k rules r.second b (c -ℤ r.amount)) w.2

        same : r.first ≡ a
        same = eqb→eq r.first a parts.0

-- The rule holds in all arrangements, by a list of at most as many rules as there are.
abbrev pub always_test : List Rule → Rule → Bool
always_test rules r = walk_test (length rules) rules r.first r.second r.amount

-- Days that keep the rules and the new one, if there are any: raised from 0 in so many rounds.
abbrev raise : List Rule → List ℕ → List ℕ
raise [] days = days
raise (r ∷ l) days = raise l (set days r.second (max (at days r.second) (at days r.first + dn r.amount - up r.amount)))

abbrev rounds : ℕ → List Rule → List ℕ → List ℕ
rounds zero rules days = days
rounds (suc k) rules days = rounds k rules (raise rules days)

-- The rule fits: such days pass the test.
abbrev pub fits_test : List ℕ → List Rule → Rule → Bool
fits_test fresh rules r = let days = rounds (length fresh) (r ∷ rules) fresh in plan_test rules days && keeps_test days r

pub fits_test→ : (fresh : List ℕ) (rules : List Rule) (r : Rule) → T (fits_test fresh rules r) → Fits (nth rules) (Below rules) r
fits_test→ fresh rules r h = record { days = λ v. pos (at days v); arrangement = plan_test→ rules days parts.0; kept = keeps_test→ days r parts.1 }
  where
    days : List ℕ
    days = rounds (length fresh) (r ∷ rules) fresh

    parts : T (plan_test rules days) × T (keeps_test days r)
    parts = both (plan_test rules days) (keeps_test days r) h

-- ---- the numbers that pass, rising

abbrev pub passing : (ℕ → Bool) → ℕ → List ℕ
passing f zero = []
passing f (suc n) = cond (f n) (passing f n ++ (n ∷ [])) (passing f n)

pub passing_exactly : (P : ℕ → Type 0) (f : ℕ → Bool) (n : ℕ) → ((j : ℕ) → j < n → T (f j) → P j) → ((j : ℕ) → j < n → T (not (f j)) → P j → ⊥) → Exactly P n (passing f n)
passing_exactly P f zero to from = exactly_none P
passing_exactly P f (suc n) to from = go (f n) (to n (omega arith)) (from n (omega arith)) (passing_exactly P f n (λ j h. to j (omega arith)) (λ j h. from j (omega arith)))
  where
    go : (t : Bool) → (T t → P n) → (T (not t) → P n → ⊥) → Exactly P n (passing f n) → Exactly P (suc n) (cond t (passing f n ++ (n ∷ [])) (passing f n))
    go true yes' no' e = exactly_take P n (passing f n) e (yes' tt)
    go false yes' no' e = exactly_leave P n (passing f n) e (no' tt)
