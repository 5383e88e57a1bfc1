-- One rule more: each limit is the smaller of what it was and the way over the new rule.
use Prim.Native.Nat.{ℕ, ◌+◌, ◌-◌, ◌*◌, ◌≤◌, ◌<◌, min}
use native.Mathlib.Omega.{arith}
use mathlib.Core.Path.{◌≡◌, sym, ◌∙◌, ap, subst}
use mathlib.Core.Logic.{◌⊎◌, inl, inr}
use lib.IntN.{ℤ, pos, ◌+ℤ◌, ℤ_discrete}
use lib.Signed.{◌≤ℤ◌, ◌<ℤ◌}
use Rattle.meaning.specs.Bounds.{NO_LIMIT, LARGEST}
use Rattle.meaning.specs.Rules.{Rule, rule, InSteps, InBounds, Arrangement, Plan, Always, more, plus}
use Rattle.meaning.specs.Reckoning.{up, dn}
use Rattle.meaning.proofs.Whole.{le→, lt→, add_is, keeps→, →keeps, plan→}
use Rattle.meaning.proofs.More.{more_all, arrangement_new, arrangement_old}
use Rattle.gaps.specs.Gaps.{Limit, NoLimit, Says}
use Rattle.gaps.specs.Slacks.{Spares, NEAR, Near, SmallerOf}
use Rattle.gaps.proofs.Closing.{picked, picked_yes, picked_no, parts_few, up_most, Holds, →holds, holds_over, Closed, Tells, tells_says}
use Rattle.gaps.proofs.Stages.{min_either}
use Rattle.gaps.proofs.Limits.{always_over}

-- The slack that the cell c stands for, between steps of the days a and b; `none` where it has no limit.
pub slack_of : ℕ → ℕ → ℕ → ℤ → ℕ
slack_of none a b c = picked none (b + up c - (a + dn c)) (ℤ_discrete c (pos NO_LIMIT))

slack_none : (none a b : ℕ) (c : ℤ) → c ≡ pos NO_LIMIT → slack_of none a b c ≡ none
unfolding slack_of
slack_none none a b c = picked_yes none (b + up c - (a + dn c)) (ℤ_discrete c (pos NO_LIMIT))

slack_some : (none a b : ℕ) (c : ℤ) → (c ≡ pos NO_LIMIT → ⊥) → slack_of none a b c ≡ b + up c - (a + dn c)
unfolding slack_of
slack_some none a b c = picked_no none (b + up c - (a + dn c)) (ℤ_discrete c (pos NO_LIMIT))

-- The arithmetic of a way over the step u, with the new rule's slack s: ij is the slack of the pair i, j, and so on; the rule leads from x to y.
way_over :
    (ij iu uj ix ux yj yu s : ℕ) → ij ≤ iu + uj → ix ≤ iu + ux → yj ≤ yu + uj →
    min ij (ix + s + yj) ≤ min iu (ix + s + yu) + min uj (ux + s + yj)
way_over ij iu uj ix ux yj yu s a b c = tell (min_either iu (ix + s + yu)) (min_either uj (ux + s + yj))
  where
    tell :
        ((iu ≤ ix + s + yu) × (min iu (ix + s + yu) ≡ iu)) ⊎ ((ix + s + yu ≤ iu) × (min iu (ix + s + yu) ≡ ix + s + yu)) →
        ((uj ≤ ux + s + yj) × (min uj (ux + s + yj) ≡ uj)) ⊎ ((ux + s + yj ≤ uj) × (min uj (ux + s + yj) ≡ ux + s + yj)) →
        min ij (ix + s + yj) ≤ min iu (ix + s + yu) + min uj (ux + s + yj)
    tell (inl (h, e)) (inl (g, f)) = rw (e, f) (omega arith)
    tell (inl (h, e)) (inr (g, f)) = rw (e, f) (omega arith)
    tell (inr (h, e)) (inl (g, f)) = rw (e, f) (omega arith)
    tell (inr (h, e)) (inr (g, f)) = rw (e, f) (omega arith)

-- Over n steps, with the rule r that fits the rules held, under the free number k; the days q keep all of them and none is past `last`. The cells C say what is so
-- of the rules held, and are near.
module _
    (n : ℕ) (R : ℕ → Rule) (H : ℕ → Type 0) (k : ℕ) (r : Rule) (q : ℕ → ℕ) (last : ℕ) (C : ℕ → ℕ → ℤ)
    (free : H k → ⊥) (bounds : (i : ℕ) → H i → InBounds n (R i)) (new : InBounds n r) (plan : Plan (more R k r) (plus H k) q) (days : (v : ℕ) → v < n → q v ≤ last)
    (says : (i j : ℕ) → i < n → j < n → Says R H i j (C i j)) (near : (i j : ℕ) → i < n → j < n → Near (C i j)) where
  -- The slack of what has no limit.
  abbrev none : ℕ
  none = (NEAR + last + LARGEST) * 4 + 1

  -- The slack that the cell of the pair i, j stands for.
  abbrev S : ℕ → ℕ → ℕ
  S i j = slack_of none (q i) (q j) (C i j)

  -- The days keep the rules held before, too.
  old_plan : Arrangement R H (λ v. pos (q v))
  old_plan = arrangement_old R H k r (λ v. pos (q v)) free plan

  -- What a cell and its slack are.
  abbrev Is : ℕ → ℕ → Type 0
  Is i j =
      ((C i j ≡ pos NO_LIMIT) × (S i j ≡ none) × NoLimit R H i j)
      ⊎ ((C i j ≡ pos NO_LIMIT → ⊥) × (S i j + q i + dn (C i j) ≡ q j + up (C i j)) × (S i j ≤ NEAR + last) × Limit R H i j (C i j))

  is : (i j : ℕ) → i < n → j < n → Is i j
  is i j in-i in-j = told (says i j in-i in-j) (near i j in-i in-j)
    where
      told : Says R H i j (C i j) → Near (C i j) → Is i j
      told (inl (e, no_limit)) any = inl (e, slack_none none (q i) (q j) (C i j) e, no_limit)
      told (inr (e, limit)) (inl f) = absurd (e f)
      told (inr (e, limit)) (inr close) =
          inr (e, omega (arith, slack_some none (q i) (q j) (C i j) e, keeps→ (λ v. pos (q v)) (rule i j (C i j)) (limit.always (λ v. pos (q v)) old_plan)), omega (arith, slack_some none (q i) (q j) (C i j) e, close, days j in-j), limit)

  -- The pair of a step with itself has no slack.
  self : (v : ℕ) → v < n → S v v ≡ 0
  self v below = told (is v v below below)
    where
      stays : Always R H (rule v v (pos 0))
      stays d kept = →keeps d (rule v v (pos 0)) (omega arith)

      told : Is v v → S v v ≡ 0
      told (inl (e, w, no_limit)) = absurd (no_limit (pos 0) stays)
      told (inr (e, w, few, limit)) = omega (arith, w, le→ (C v v) (pos 0) (limit.least (pos 0) stays))

  -- No slack is above none.
  at_most : (i j : ℕ) → i < n → j < n → S i j ≤ none
  at_most i j in-i in-j = told (is i j in-i in-j)
    where
      told : Is i j → S i j ≤ none
      told (inl (e, w, no_limit)) = omega (arith, w)
      told (inr (e, w, few, limit)) = omega (arith, few)

  -- One that is below none is small.
  small : (i j : ℕ) → i < n → j < n → S i j < none → S i j ≤ NEAR + last
  small i j in-i in-j known = told (is i j in-i in-j)
    where
      told : Is i j → S i j ≤ NEAR + last
      told (inl (e, w, no_limit)) = absurd (omega (arith, w))
      told (inr (e, w, few, limit)) = few

  -- No slack is above the way over a step.
  over : (i u j : ℕ) → i < n → u < n → j < n → S i j ≤ S i u + S u j
  over i u j in-i in-u in-j = told (is i u in-i in-u) (is u j in-u in-j) (is i j in-i in-j)
    where
      told : Is i u → Is u j → Is i j → S i j ≤ S i u + S u j
      told (inl (e, w, no_limit)) two three = omega (arith, w, at_most i j in-i in-j)
      told (inr one) (inl (e, w, no_limit)) three = omega (arith, w, at_most i j in-i in-j)
      told (inr (e, w, few, limit)) (inr (e', w', few', limit')) (inl (e'', w'', no_limit)) =
          absurd (no_limit (C i u +ℤ C u j) (always_over R H i u j (C i u) (C u j) limit.always limit'.always))
      told (inr (e, w, few, limit)) (inr (e', w', few', limit')) (inr (e'', w'', few'', limit'')) =
          omega (
            arith,
            w,
            w',
            w'',
            add_is (C i u) (C u j),
            le→ (C i j) (C i u +ℤ C u j) (limit''.least (C i u +ℤ C u j) (always_over R H i u j (C i u) (C u j) limit.always limit'.always)),
          )

  -- No slack is above that of a rule held before.
  under_old : (i : ℕ) → H i → (w : ℕ) → Spares R q i w → S (R i).first (R i).second ≤ w
  under_old i held w spares = told (is (R i).first (R i).second (bounds i held).steps_in.first_in (bounds i held).steps_in.second_in)
    where
      always : Always R H (rule (R i).first (R i).second (R i).amount)
      always d kept = kept i held

      told : Is (R i).first (R i).second → S (R i).first (R i).second ≤ w
      told (inl (e, w', no_limit)) = absurd (no_limit (R i).amount always)
      told (inr (e, w', few, limit)) = omega (arith, w', spares, le→ (C (R i).first (R i).second) (R i).amount (limit.least (R i).amount always))

  -- What a slack stands for holds in every arrangement of all rules.
  holds_old : (i j : ℕ) → i < n → j < n → S i j < none → Holds (more R k r) (plus H k) q i j (S i j)
  holds_old i j in-i in-j known = told (is i j in-i in-j)
    where
      told : Is i j → Holds (more R k r) (plus H k) q i j (S i j)
      told (inl (e, w, no_limit)) = absurd (omega (arith, w))
      told (inr (e, w, few, limit)) =
          →holds (more R k r) (plus H k) q i j (S i j)
          (λ d kept. omega (arith, w, keeps→ d (rule i j (C i j)) (limit.always d (arrangement_old R H k r d free kept))))

  -- What the new rule has to spare.
  abbrev spare : ℕ
  spare = q r.second + up r.amount - (q r.first + dn r.amount)

  spare_is : spare + q r.first + dn r.amount ≡ q r.second + up r.amount
  spare_is = omega (arith, plan→ q r (arrangement_new R H k r (λ v. pos (q v)) plan))

  spare_few : spare ≤ last + LARGEST
  spare_few = omega (arith, days r.second new.steps_in.second_in, le→ r.amount (pos LARGEST) new.amount_in.not_above)

  holds_new : Holds (more R k r) (plus H k) q r.first r.second spare
  holds_new =
      →holds (more R k r) (plus H k) q r.first r.second spare
      (λ d kept. omega (arith, spare_is, keeps→ d r (arrangement_new R H k r d kept)))

  -- The slacks with the ways over the new rule.
  abbrev W : ℕ → ℕ → ℕ
  W i j = min (S i j) (S i r.first + spare + S r.second j)

  -- They are closed.
  raised_closed : Closed n (more R k r) (plus H k) q none (NEAR + last + (last + LARGEST) + (NEAR + last)) W
  raised_closed = record {
    self = λ v below. omega (arith, self v below);
    under = λ i w held spares. more_all Under R H k r under-new (λ j there w' spares'. omega (arith, under_old j there w' spares')) i held w spares;
    over = λ i u j in-i in-u in-j. way_over (S i j) (S i u) (S u j) (S i x) (S u x) (S y j) (S y u) spare (over i u j in-i in-u in-j) (over i u x in-i in-u in-x) (over y u j in-y in-u in-j);
    holds = λ i j in-i in-j known. holds i j in-i in-j known (min_either (S i j) (S i x + spare + S y j));
    small = λ i j in-i in-j known. few i j in-i in-j known (min_either (S i j) (S i x + spare + S y j));
    few = λ i w held spares. more_all Few R H k r few-new few-old i held w spares;
    some = omega arith;
  }
    where
      x : ℕ
      x = r.first

      y : ℕ
      y = r.second

      in-x : x < n
      in-x = new.steps_in.first_in

      in-y : y < n
      in-y = new.steps_in.second_in

      Under : Rule → Type 0
      Under s = (w : ℕ) → w + q s.first + dn s.amount ≡ q s.second + up s.amount → W s.first s.second ≤ w

      under-new : Under r
      under-new w spares = omega (arith, spares, spare_is, self x in-x, self y in-y)

      Few : Rule → Type 0
      Few s = (w : ℕ) → w + q s.first + dn s.amount ≡ q s.second + up s.amount → NEAR + last + (last + LARGEST) + (NEAR + last) + w < none

      few-new : Few r
      few-new w spares = omega (arith, spares, spare_is, spare_few)

      few-old : (i : ℕ) → H i → Few (R i)
      few-old i held w spares = omega (arith, spares, days (R i).second (bounds i held).steps_in.second_in, le→ (R i).amount (pos LARGEST) (bounds i held).amount_in.not_above)

      holds :
          (i j : ℕ) → i < n → j < n → W i j < none →
          ((S i j ≤ S i x + spare + S y j) × (W i j ≡ S i j)) ⊎ ((S i x + spare + S y j ≤ S i j) × (W i j ≡ S i x + spare + S y j)) →
          Holds (more R k r) (plus H k) q i j (W i j)
      holds i j in-i in-j known (inl (h, e)) = subst (Holds (more R k r) (plus H k) q i j) (sym e) (holds_old i j in-i in-j (omega (arith, e)))
      holds i j in-i in-j known (inr (h, e)) =
          subst (Holds (more R k r) (plus H k) q i j) (sym e)
          (holds_over (more R k r) (plus H k) q i y j (S i x + spare) (S y j)
          (holds_over (more R k r) (plus H k) q i x y (S i x) spare (holds_old i x in-i in-x (omega (arith, e))) holds_new)
          (holds_old y j in-y in-j (omega (arith, e))))

      few :
          (i j : ℕ) → i < n → j < n → W i j < none →
          ((S i j ≤ S i x + spare + S y j) × (W i j ≡ S i j)) ⊎ ((S i x + spare + S y j ≤ S i j) × (W i j ≡ S i x + spare + S y j)) →
          W i j ≤ NEAR + last + (last + LARGEST) + (NEAR + last)
      few i j in-i in-j known (inl (h, e)) = omega (arith, e, small i j in-i in-j (omega (arith, e)))
      few i j in-i in-j known (inr (h, e)) =
          omega (arith, e, spare_few, small i x in-i in-x (omega (arith, e)), small y j in-y in-j (omega (arith, e)))

  -- A cell that has a limit is not far above 0.
  up_few : (i j : ℕ) → i < n → j < n → (C i j ≡ pos NO_LIMIT → ⊥) → up (C i j) ≤ NEAR
  up_few i j in-i in-j e = told (near i j in-i in-j)
    where
      told : Near (C i j) → up (C i j) ≤ NEAR
      told (inl f) = absurd (e f)
      told (inr close) = close.0

  -- And neither is a way over the new rule.
  way_few :
      (i x y j : ℕ) → i < n → j < n → x < n → y < n → (C i x ≡ pos NO_LIMIT → ⊥) → (C y j ≡ pos NO_LIMIT → ⊥) →
      up (C i x +ℤ r.amount +ℤ C y j) ≤ NEAR + LARGEST + NEAR
  way_few i x y j in-i in-j in-x in-y e f =
      omega (
        arith,
        (parts_few (C i x +ℤ r.amount +ℤ C y j) (up (C i x) + up r.amount + up (C y j)) (dn (C i x) + dn r.amount + dn (C y j))
            (omega (arith, add_is (C i x) r.amount, add_is (C i x +ℤ r.amount) (C y j)))).0,
        up_few i x in-i in-x e,
        up_few y j in-y in-j f,
        up_most LARGEST r.amount new.amount_in.not_above,
      )

  -- The smaller of a cell with the slack s and a way with the slack w stands for the smaller slack.
  way_tells :
      (s : ℕ) (a : ℤ) (w : ℕ) (z c : ℤ) (i j : ℕ) → w + q i + dn z ≡ q j + up z → w < none → up z < NO_LIMIT →
      ((a ≡ pos NO_LIMIT) × (s ≡ none)) ⊎ ((a ≡ pos NO_LIMIT → ⊥) × (s + q i + dn a ≡ q j + up a) × (s < none)) →
      ((z <ℤ a) × (c ≡ z)) ⊎ ((a ≤ℤ z) × (c ≡ a)) → Tells none q i j (min s w) c
  way_tells s a w z c i j way few low (inl (e, far)) (inl (less, same)) =
      inr (λ f. omega (arith, ap up same, ap up f), omega arith, omega (arith, way, ap up same, ap dn same))
  way_tells s a w z c i j way few low (inl (e, far)) (inr (less, same)) = absurd (omega (arith, le→ a z less, ap up e, ap dn e))
  way_tells s a w z c i j way few low (inr (e, here, known)) (inl (less, same)) =
      inr (λ f. omega (arith, ap up same, ap up f), omega arith, omega (arith, way, here, lt→ z a less, ap up same, ap dn same))
  way_tells s a w z c i j way few low (inr (e, here, known)) (inr (less, same)) =
      inr (λ f. e (sym same ∙ f), omega arith, omega (arith, way, here, le→ a z less, ap up same, ap dn same))

  -- The smaller of the cell and the way over the new rule stands for the smaller slack.
  raised_tells : (i j : ℕ) → i < n → j < n → (c : ℤ) → SmallerOf (C i j) (C i r.first) r.amount (C r.second j) c → Tells none q i j (W i j) c
  raised_tells i j in-i in-j c smaller = told smaller (is i j in-i in-j) (is i x in-i in-x) (is y j in-y in-j)
    where
      x : ℕ
      x = r.first

      y : ℕ
      y = r.second

      in-x : x < n
      in-x = new.steps_in.first_in

      in-y : y < n
      in-y = new.steps_in.second_in

      -- The cell stays.
      stays : none ≤ S i x + spare + S y j → c ≡ C i j → Is i j → Tells none q i j (W i j) c
      stays far same (inl (e, w, no_limit)) = inl (same ∙ e, omega (arith, w))
      stays far same (inr (e, w, few, limit)) = inr (λ f. e (sym same ∙ f), omega (arith, few), omega (arith, w, few, ap up same, ap dn same))

      told : SmallerOf (C i j) (C i x) r.amount (C y j) c → Is i j → Is i x → Is y j → Tells none q i j (W i j) c
      told (inl (inl e, same)) here (inl (f, w, no_limit)) there = stays (omega (arith, w)) same here
      told (inl (inl e, same)) here (inr one) there = absurd (one.0 e)
      told (inl (inr e, same)) here one (inl (f, w, no_limit)) = stays (omega (arith, w)) same here
      told (inl (inr e, same)) here one (inr two) = absurd (two.0 e)
      told (inr (e, f, which)) here (inl one) two = absurd (e one.0)
      told (inr (e, f, which)) here (inr one) (inl two) = absurd (f two.0)
      told (inr (e, f, which)) here (inr (e', w, few, limit)) (inr (f', w', few', limit')) =
          way_tells (S i j) (C i j) (S i x + spare + S y j) (C i x +ℤ r.amount +ℤ C y j) c i j
          (omega (arith, w, w', spare_is, add_is (C i x) r.amount, add_is (C i x +ℤ r.amount) (C y j)))
          (omega (arith, few, few', spare_few))
          (omega (arith, way_few i x y j in-i in-j in-x in-y e f))
          (here-is here)
          which
        where
          here-is : Is i j → ((C i j ≡ pos NO_LIMIT) × (S i j ≡ none)) ⊎ ((C i j ≡ pos NO_LIMIT → ⊥) × (S i j + q i + dn (C i j) ≡ q j + up (C i j)) × (S i j < none))
          here-is (inl (g, v, no_limit)) = inl (g, v)
          here-is (inr (g, v, few'', limit'')) = inr (g, v, omega (arith, few''))

  -- All cells with the rule r added say what is so of all rules.
  pub raised_says : (i j : ℕ) → i < n → j < n → (c : ℤ) → SmallerOf (C i j) (C i r.first) r.amount (C r.second j) c → Says (more R k r) (plus H k) i j c
  raised_says i j in-i in-j c smaller =
      tells_says n (more R k r) (plus H k) q none (NEAR + last + (last + LARGEST) + (NEAR + last)) W raised_closed plan
      (more_all (InSteps n) R H k r new.steps_in (λ v held. (bounds v held).steps_in)) i j in-i in-j c (raised_tells i j in-i in-j c smaller)
