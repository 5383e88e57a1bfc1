-- The walk back from the first step of a refused rule to its second, and the ring that it gives.
use Prim.Native.Nat.{ℕ, zero, suc, ◌+◌, ◌-◌, ◌≤◌, ◌<◌}
use native.Mathlib.Omega.{arith}
use native.Mathlib.Decide.{ℕ_discrete}
use mathlib.Core.Path.{◌≡◌, refl, sym, ◌∙◌, ap, subst}
use mathlib.Core.List.{List, [], ◌∷◌, map}
use lib.ListN.{length}
use lib.IntN.{ℤ, pos}
use Rattle.meaning.specs.Rules.{Rule, Leads, All, Different, total, Refutes, more}
use Rattle.meaning.specs.Tables.{at}
use Rattle.meaning.specs.Reckoning.{up, dn}
use Rattle.meaning.proofs.Whole.{add_is, →lt, plan→}
use Rattle.meaning.proofs.More.{more_new, more_old}
use Rattle.spread.specs.Ground.{rules}
use Rattle.spread.specs.Trace.{CameBy}
use Rattle.spread.specs.Ring.{rule, Reached, Lacks, Arrives, Hops, RingIn}
use Rattle.waiting.specs.Places.{Put}
use Rattle.spread.proofs.Parts.{part, take_part, part_front}
use Rattle.spread.proofs.Collecting.{alone_elsewhere}

-- What every number of a list has, every number of it has that follows.
pub all_imply : (P Q : ℕ → Type 0) → ((a : ℕ) → P a → Q a) → (l : List ℕ) → All P l → All Q l
all_imply P Q then [] all = tt
all_imply P Q then (a ∷ l) all = (then a all.0, all_imply P Q then l all.1)

-- A walk that is at y is over.
pub arrives_end : (xs by : List ℕ) (y hops v : ℕ) → Arrives xs by y hops v → v ≡ y → hops ≡ 0
arrives_end xs by y zero v h e = refl
arrives_end xs by y (suc hops) v h e = absurd (h.0 e)

-- A walk that is elsewhere has a hop left.
pub arrives_on : (xs by : List ℕ) (y hops v : ℕ) → Arrives xs by y hops v → (v ≡ y → ⊥) → (0 < hops) × Arrives xs by y (hops - 1) (at xs (at by v - 1))
arrives_on xs by y zero v h e = absurd (e h)
arrives_on xs by y (suc hops) v h e =
    (omega arith, subst (λ (k : ℕ). Arrives xs by y k (at xs (at by v - 1))) (less hops) h.1)
  where
    less : (k : ℕ) → k ≡ suc k - 1
    less k = omega arith

module _ (n : ℕ) (H : ℕ → Type 0) (m : ℕ) (xs ys : List ℕ) (cs : List ℤ) (days gains by : List ℕ) (x y : ℕ) (h : Reached n H m xs ys cs days gains by x y) where
  -- A step with a gain that is not y came by a rule.
  pub record Hop (v : ℕ) : Type 0 where
    pub named : at by v ≡ suc (at by v - 1)
    pub came : CameBy (rules xs ys cs) H (λ w. at days w + at gains w) h.traced.rank v (at by v - 1)
    pub from_in : at xs (at by v - 1) < n
    pub from_gain : 0 < at gains (at xs (at by v - 1))

  -- There is such a hop.
  pub hop : (v : ℕ) → v < n → 0 < at gains v → (v ≡ y → ⊥) → Hop v
  hop v v-in has other = by_name (ℕ_discrete (at by v) 0)
    where
      step : (at by v ≡ suc (at by v - 1)) → CameBy (rules xs ys cs) H (λ w. at days w + at gains w) h.traced.rank v (at by v - 1) → Hop v
      step named came = record {
        named = named;
        came = came;
        from_in = (h.in_steps (at by v - 1) came.held).first_in;
        from_gain =
            omega (
              arith,
              came.tight,
              plan→ (at days) (rules xs ys cs (at by v - 1)) (h.plan (at by v - 1) came.held),
              ap (at days) came.leads_to,
            );
      }

      by_name : Dec (at by v ≡ 0) → Hop v
      by_name (yes none) = absurd (omega (arith, h.traced.not_raised v v-in has none, alone_elsewhere y (at gains y) v other))
      by_name (no some) =
          let named : at by v ≡ suc (at by v - 1) = omega (arith, some) in
          step named (h.traced.raised v v-in has (at by v - 1) named)

-- The rules of the list, all held, lead from v to x by different first steps, of rank from that of v on and below that of x; and their amounts
-- add up to the day of v less that of x.
pub record Tail (R : ℕ → Rule) (H : ℕ → Type 0) (p rank : ℕ → ℕ) (x v : ℕ) (l : List ℕ) : Type 0 where
  pub leads : Leads R l v x
  pub at_most : rank v ≤ rank x
  pub between : All (λ a. (rank v ≤ rank a) × (rank a < rank x)) (map (λ i. (R i).first) l)
  pub different : Different (map (λ i. (R i).first) l)
  pub sums : p v + dn (total R l) ≡ p x + up (total R l)
  pub all_held : All H l

-- No rule leads from x to x.
pub tail_none : (R : ℕ → Rule) (H : ℕ → Type 0) (p rank : ℕ → ℕ) (x : ℕ) → Tail R H p rank x x []
tail_none R H p rank x = record { leads = refl; at_most = omega arith; between = tt; different = tt; sums = refl; all_held = tt }

-- The rule that v came by stands in front. R' has it too.
pub tail_more :
    (R R' : ℕ → Rule) (H : ℕ → Type 0) (p rank : ℕ → ℕ) (x v : ℕ) (l : List ℕ) (i : ℕ) → R' i ≡ R i → CameBy R H p rank v i → Tail R' H p rank x v l →
    Tail R' H p rank x (R i).first (i ∷ l)
tail_more R R' H p rank x v l i same came t =
    let first_is : (R' i).first ≡ (R i).first = ap (λ (s : Rule). s.first) same in
    let second_is : (R' i).second ≡ (R i).second = ap (λ (s : Rule). s.second) same in
    let amount_up : up (R' i).amount ≡ up (R i).amount = ap (λ (s : Rule). up s.amount) same in
    let amount-dn : dn (R' i).amount ≡ dn (R i).amount = ap (λ (s : Rule). dn s.amount) same in
    record {
      leads = (first_is, subst (λ (a : ℕ). Leads R' l a x) (sym (second_is ∙ came.leads_to)) t.leads);
      at_most = omega (arith, came.before, t.at_most);
      between = (
        (omega (arith, ap rank first_is), omega (arith, ap rank first_is, came.before, t.at_most)),
        all_imply (λ a. (rank v ≤ rank a) × (rank a < rank x)) (λ a. (rank (R i).first ≤ rank a) × (rank a < rank x))
            (λ a h. (omega (arith, h.0, came.before), h.1)) (map (λ j. (R' j).first) l) t.between,
      );
      different = (
        all_imply (λ a. (rank v ≤ rank a) × (rank a < rank x)) (λ a. (R' i).first ≡ a → ⊥)
            (λ a h e. omega (arith, h.0, came.before, ap rank first_is, ap rank e)) (map (λ j. (R' j).first) l) t.between,
        t.different,
      );
      sums = omega (arith, t.sums, came.tight, add_is (R' i).amount (total R' l));
      all_held = (came.held, t.all_held);
    }

-- The rules from y to x, with the rule from x to y that the days lack in front, are a ring that refutes it.
pub tail_refutes :
    (R : ℕ → Rule) (H : ℕ → Type 0) (d g rank : ℕ → ℕ) (m x y : ℕ) (c : ℤ) (l : List ℕ) → d x + dn c ≡ d y + g y + up c → 0 < g x →
    Tail (more R m (rule x y c)) H (λ v. d v + g v) rank x y l → Refutes R H m (rule x y c) (m ∷ l)
tail_refutes R H d g rank m x y c l lacks reached t =
    let new : more R m (rule x y c) m ≡ rule x y c = more_new R m (rule x y c) in
    let first_is : (more R m (rule x y c) m).first ≡ x = ap (λ (s : Rule). s.first) new in
    let second_is : (more R m (rule x y c) m).second ≡ y = ap (λ (s : Rule). s.second) new in
    let amount_up : up (more R m (rule x y c) m).amount ≡ up c = ap (λ (s : Rule). up s.amount) new in
    let amount-dn : dn (more R m (rule x y c) m).amount ≡ dn c = ap (λ (s : Rule). dn s.amount) new in
    let R' : ℕ → Rule = more R m (rule x y c) in (
      refl,
      record {
        ring = record {
          leads_back = (refl, subst (λ (a : ℕ). Leads R' l (R' m).second a) (sym first_is) (subst (λ (a : ℕ). Leads R' l a x) (sym second_is) t.leads));
          no_step_twice = (
            all_imply (λ a. (rank y ≤ rank a) × (rank a < rank x)) (λ a. (R' m).first ≡ a → ⊥) (λ a h e. omega (arith, h.1, ap rank first_is, ap rank e))
                (map (λ j. (R' j).first) l) t.between,
            t.different,
          );
        };
        negative =
            →lt (total R' (m ∷ l)) (pos 0) (omega (arith, add_is (R' m).amount (total R' l), t.sums));
        rest_held = t.all_held;
      },
    )

module _ (n : ℕ) (H : ℕ → Type 0) (m : ℕ) (xs ys : List ℕ) (cs : List ℤ) (days gains by : List ℕ) (x y : ℕ) where
  -- The walk back from x has come to v in k hops.
  pub record WalkedBack (v k : ℕ) : Type 0 where
    pub step_in : v < n
    pub has : 0 < at gains v
    pub lower : (h : Reached n H m xs ys cs days gains by x y) → k + h.traced.rank v ≤ h.traced.rank x
    pub arrives : (hops : ℕ) → Arrives xs by y hops v → Arrives xs by y (k + hops) x

  -- Before the first hop it is at x.
  pub back_none : Reached n H m xs ys cs days gains by x y → WalkedBack x 0
  back_none h = record {
    step_in = h.first_in;
    has = h.reached;
    lower = λ h'. omega arith;
    arrives = λ hops a. subst (λ (k : ℕ). Arrives xs by y k x) (same hops) a;
  }
    where
      same : (k : ℕ) → k ≡ 0 + k
      same k = omega arith

  -- One hop further.
  pub back_more : Reached n H m xs ys cs days gains by x y → (v k : ℕ) → WalkedBack v k → (v ≡ y → ⊥) → WalkedBack (at xs (at by v - 1)) (k + 1)
  back_more h v k b other = record {
    step_in = (hop n H m xs ys cs days gains by x y h v b.step_in b.has other).from_in;
    has = (hop n H m xs ys cs days gains by x y h v b.step_in b.has other).from_gain;
    lower = λ h'. omega (arith, b.lower h', (hop n H m xs ys cs days gains by x y h' v b.step_in b.has other).came.before);
    arrives = λ hops a. subst (λ (c : ℕ). Arrives xs by y c x) (same hops) (b.arrives (suc hops) (other, a));
  }
    where
      same : (hops : ℕ) → k + suc hops ≡ k + 1 + hops
      same hops = omega arith

  -- It has made fewer hops than there are steps.
  pub back_few : Reached n H m xs ys cs days gains by x y → (v k : ℕ) → WalkedBack v k → k < n
  back_few h v k b = omega (arith, b.lower h, h.traced.rank_in x h.first_in h.reached)

  -- Once it has come to y, its hops are counted.
  pub back_done : Reached n H m xs ys cs days gains by x y → (v k : ℕ) → WalkedBack v k → v ≡ y → Hops n xs by x y k
  back_done h v k b e = record {
    few = back_few h v k b;
    arrives = subst (λ (c : ℕ). Arrives xs by y c x) (same k) (b.arrives 0 e);
  }
    where
      same : (c : ℕ) → c + 0 ≡ c
      same c = omega arith

  module _ (list₀ : List ℕ) (k : ℕ) where
    -- The ring of k rules, whatever the refused rule's amount, is written from its end as far as place j, where the walk back has come to v.
    pub record Written (v j : ℕ) (list : List ℕ) : Type 0 where
      pub step_in : v < n
      pub has : 0 < at gains v
      pub some : 1 ≤ j
      pub within : j ≤ k
      pub left : Arrives xs by y (j - 1) v
      pub tail :
          (c : ℤ) (h : Reached n H m xs ys cs days gains by x y) →
          Tail (more (rules xs ys cs) m (rule x y c)) H (λ w. at days w + at gains w) h.traced.rank x v (part (at list) j (k - j))
      pub past : (i : ℕ) → k ≤ i → at list i ≡ at list₀ i

    -- Before anything is written the walk is at x, and the place behind the ring's last.
    pub written_none : Reached n H m xs ys cs days gains by x y → (hops : ℕ) → hops + 1 ≡ k → Hops n xs by x y hops → Written x k list₀
    written_none h hops one_more back = record {
      step_in = h.first_in;
      has = h.reached;
      some = omega arith;
      within = omega arith;
      left = subst (λ (l : ℕ). Arrives xs by y l x) less back.arrives;
      tail = λ c h'.
          subst (λ (l : ℕ). Tail (more (rules xs ys cs) m (rule x y c)) H (λ w. at days w + at gains w) h'.traced.rank x x (part (at list₀) k l)) (none k)
          (tail_none (more (rules xs ys cs) m (rule x y c)) H (λ w. at days w + at gains w) h'.traced.rank x);
      past = λ i beyond. refl;
    }
      where
        less : hops ≡ k - 1
        less = omega arith

        none : (l : ℕ) → 0 ≡ l - l
        none l = omega arith

    -- The rule that v came by is written in front.
    pub written_more :
        Reached n H m xs ys cs days gains by x y → (v j : ℕ) (list list' : List ℕ) → Written v j list → (v ≡ y → ⊥) → Put (j - 1) (at by v - 1) (at list) (at list') →
        Written (at xs (at by v - 1)) (j - 1) list'
    written_more h v j list list' w other put = record {
      step_in = (hop n H m xs ys cs days gains by x y h v w.step_in w.has other).from_in;
      has = (hop n H m xs ys cs days gains by x y h v w.step_in w.has other).from_gain;
      some = omega (arith, on.0);
      within = omega (arith, w.within);
      left = on.1;
      tail = λ c h'.
          let came = (hop n H m xs ys cs days gains by x y h' v w.step_in w.has other).came in
          rw (part_front (at list) (at list') j k (at by v - 1) w.some w.within put)
          (tail_more (rules xs ys cs) (more (rules xs ys cs) m (rule x y c)) H (λ u. at days u + at gains u) h'.traced.rank x v (part (at list) j (k - j)) (at by v - 1)
          (more_old (rules xs ys cs) m (rule x y c) (at by v - 1) (λ e. h'.free (subst H e came.held)))
          came (w.tail c h'));
      past = λ i beyond. put.others i (λ e. omega (arith, w.within, w.some)) ∙ w.past i beyond;
    }
      where
        on : (0 < j - 1) × Arrives xs by y (j - 1 - 1) (at xs (at by v - 1))
        on = arrives_on xs by y (j - 1) v w.left other

    -- Once the walk has come to y, the refused rule's number is put in front, and the ring is complete.
    pub written_done :
        (c : ℤ) → Reached n H m xs ys cs days gains by x y → Lacks days gains x y c → (v j : ℕ) (list list' : List ℕ) → Written v j list → v ≡ y → k ≤ length list₀ → length list' ≡ length list₀ →
        Put 0 m (at list) (at list') → RingIn H m xs ys cs x y c k list₀ list'
    written_done c h lacks v j list list' w e room same_length put = record {
      within = room;
      holds = rw (take_part list' k (omega arith)) (rw whole ring);
      past = record { same_length = same_length; kept = λ i beyond. put.others i (λ z. omega (arith, w.some, w.within)) ∙ w.past i beyond };
    }
      where
        at_one : j ≡ 1
        at_one = omega (arith, arrives_end xs by y (j - 1) v w.left e, w.some)

        at_zero : j - 1 ≡ 0
        at_zero = omega (arith, at_one)

        all : k - (j - 1) ≡ k
        all = omega (arith, at_one)

        put_front : Put (j - 1) m (at list) (at list')
        put_front = subst (λ (i : ℕ). Put i m (at list) (at list')) (sym at_zero) put

        whole : part (at list') 0 k ≡ m ∷ part (at list) j (k - j)
        whole =
            subst (λ (i : ℕ). part (at list') i k ≡ m ∷ part (at list) j (k - j)) at_zero
            (subst (λ (l : ℕ). part (at list') (j - 1) l ≡ m ∷ part (at list) j (k - j)) all
            (part_front (at list) (at list') j k m w.some w.within put_front))

        ring : Refutes (rules xs ys cs) H m (rule x y c) (m ∷ part (at list) j (k - j))
        ring =
            tail_refutes (rules xs ys cs) H (at days) (at gains) h.traced.rank m x y c (part (at list) j (k - j)) lacks h.reached
            (subst (λ (u : ℕ). Tail (more (rules xs ys cs) m (rule x y c)) H (λ w. at days w + at gains w) h.traced.rank x u (part (at list) j (k - j))) e (w.tail c h))
