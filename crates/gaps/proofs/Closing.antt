-- Slacks over days that keep every rule held, closed under ways over a step in the middle: what they say of a pair of steps is its limit.
use Prim.Native.Nat.{ℕ, ◌+◌, ◌-◌, ◌≤◌, ◌<◌}
use native.Mathlib.Omega.{arith}
use native.Mathlib.Decide.{dec_lt}
use mathlib.Core.Path.{◌≡◌, refl, ap, subst}
use mathlib.Core.Bool.{cond}
use mathlib.Core.Logic.{◌⊎◌, inl, inr}
use lib.Dec.{ltb}
use lib.IntN.{ℤ, pos, negsuc, ◌-ℤ◌}
use lib.Signed.{◌≤ℤ◌}
use borrow.Author.Tests.{lt-ltb, le-ltb, lt-leb, le-leb}
use Rattle.meaning.specs.Bounds.{NO_LIMIT}
use Rattle.meaning.specs.Rules.{Rule, rule, InSteps, Plan, Always, Arrangement}
use Rattle.meaning.specs.Reckoning.{up, dn}
use Rattle.meaning.proofs.Whole.{le→, →le, →eq, minus_is, keeps→, →keeps, plan→, →plan}
use Rattle.gaps.specs.Gaps.{Limit, NoLimit, Says}
use Rattle.gaps.specs.Slacks.{NONE, Spares, cell_of}

-- a where A holds, and else b.
pub picked : {A : Type 0} → ℕ → ℕ → Dec A → ℕ
picked a b (yes h) = a
picked a b (no h) = b

pub picked_yes : {A : Type 0} (a b : ℕ) (d : Dec A) → A → picked a b d ≡ a
unfolding picked
picked_yes a b (yes h) so = refl
picked_yes a b (no h) so = absurd (h so)

pub picked_no : {A : Type 0} (a b : ℕ) (d : Dec A) → (A → ⊥) → picked a b d ≡ b
unfolding picked
picked_no a b (yes h) not_so = absurd (not_so h)
picked_no a b (no h) not_so = refl

-- A difference of a and b is no further above 0 than a, and no further below it than b.
pub parts_few : (z : ℤ) (a b : ℕ) → a + dn z ≡ b + up z → (up z ≤ a) × (dn z ≤ b)
parts_few (pos z) a b e = omega arith
parts_few (negsuc z) a b e = omega arith

-- A whole number that is at most a lies no further above 0 than a.
pub up_most : (a : ℕ) (z : ℤ) → z ≤ℤ pos a → up z ≤ a
up_most a (pos z) h = omega (arith, le→ (pos z) (pos a) h)
up_most a (negsuc z) h = omega arith

-- The rule that the slack w of the pair x, y stands for holds in every arrangement.
abbrev pub Holds : (ℕ → Rule) → (ℕ → Type 0) → (ℕ → ℕ) → ℕ → ℕ → ℕ → Type 0
Holds R H p x y w = Always R H (rule x y (pos (w + p x) -ℤ pos (p y)))

-- The same of each arrangement, over natural numbers.
pub holds→ :
    (R : ℕ → Rule) (H : ℕ → Type 0) (p : ℕ → ℕ) (x y w : ℕ) → Holds R H p x y w → (d : ℕ → ℤ) → Arrangement R H d →
    up (d x) + dn (d y) + p y ≤ dn (d x) + up (d y) + w + p x
holds→ R H p x y w holds d kept =
    omega (arith, keeps→ d (rule x y (pos (w + p x) -ℤ pos (p y))) (holds d kept), minus_is (pos (w + p x)) (pos (p y)))

pub →holds :
    (R : ℕ → Rule) (H : ℕ → Type 0) (p : ℕ → ℕ) (x y w : ℕ) →
    ((d : ℕ → ℤ) → Arrangement R H d → up (d x) + dn (d y) + p y ≤ dn (d x) + up (d y) + w + p x) → Holds R H p x y w
→holds R H p x y w so d kept = →keeps d (rule x y (pos (w + p x) -ℤ pos (p y))) (omega (arith, so d kept, minus_is (pos (w + p x)) (pos (p y))))

-- Slacks of two pairs add up over the step in the middle.
pub holds_over : (R : ℕ → Rule) (H : ℕ → Type 0) (p : ℕ → ℕ) (x u y a b : ℕ) → Holds R H p x u a → Holds R H p u y b → Holds R H p x y (a + b)
holds_over R H p x u y a b one two =
    →holds R H p x y (a + b) (λ d kept. omega (arith, holds→ R H p x u a one d kept, holds→ R H p u y b two d kept))

-- A step is where it is.
pub holds_self : (R : ℕ → Rule) (H : ℕ → Type 0) (p : ℕ → ℕ) (x : ℕ) → Holds R H p x x 0
holds_self R H p x = →holds R H p x x 0 (λ d kept. omega arith)

-- A rule that is held holds with what it has to spare.
pub holds_rule : (R : ℕ → Rule) (H : ℕ → Type 0) (p : ℕ → ℕ) (i w : ℕ) → H i → Spares R p i w → Holds R H p (R i).first (R i).second w
holds_rule R H p i w held spares =
    →holds R H p (R i).first (R i).second w (λ d kept. omega (arith, spares, keeps→ d (R i) (kept i held)))

-- The slacks W over the days p are closed: over n steps, with the slack `none` where nothing is known and no other slack above `most`.
pub record Closed (n : ℕ) (R : ℕ → Rule) (H : ℕ → Type 0) (p : ℕ → ℕ) (none most : ℕ) (W : ℕ → ℕ → ℕ) : Type 0 where
  pub self : (v : ℕ) → v < n → W v v ≡ 0
  pub under : (i w : ℕ) → H i → Spares R p i w → W (R i).first (R i).second ≤ w
  pub over : (x u y : ℕ) → x < n → u < n → y < n → W x y ≤ W x u + W u y
  pub holds : (x y : ℕ) → x < n → y < n → W x y < none → Holds R H p x y (W x y)
  pub small : (x y : ℕ) → x < n → y < n → W x y < none → W x y ≤ most
  pub few : (i w : ℕ) → H i → Spares R p i w → most + w < none
  pub some : 1 ≤ none

-- A rule that the days keep has days to spare, or none.
pub spares_some : (R : ℕ → Rule) (H : ℕ → Type 0) (p : ℕ → ℕ) → Plan R H p → (i : ℕ) → H i → (w : ℕ) × Spares R p i w
spares_some R H p plan i held =
    (p (R i).second + up (R i).amount - (p (R i).first + dn (R i).amount), omega (arith, plan→ p (R i) (plan i held)))

-- The slack w, and far where nothing is known.
pub cut : ℕ → ℕ → ℕ → ℕ
cut none far w = cond (ltb w none) w far

pub cut_known : (none far w : ℕ) → w < none → cut none far w ≡ w
unfolding cut
cut_known none far w h = rw (lt-ltb w none h)

pub cut_none : (none far w : ℕ) → none ≤ w → cut none far w ≡ far
unfolding cut
cut_none none far w h = rw (le-ltb w none h)

-- Where a is at most s above b, it is so with far for what is not known.
cut_step : (none far a b s : ℕ) → none ≤ far → a ≤ s + b → (b < none → s + b < none) → cut none far a ≤ s + cut none far b
cut_step none far a b s h near known = tell (dec_lt b none) (dec_lt a none)
  where
    tell : Dec (b < none) → Dec (a < none) → cut none far a ≤ s + cut none far b
    tell (yes k) da = omega (arith, cut_known none far b k, cut_known none far a (omega (arith, known k)))
    tell (no k) (yes l) = omega (arith, cut_none none far b (omega arith), cut_known none far a l)
    tell (no k) (no l) = omega (arith, cut_none none far b (omega arith), cut_none none far a (omega arith))

-- The days with each put later by its slack towards the step y.
pub later_by : (ℕ → ℕ) → ℕ → ℕ → (ℕ → ℕ → ℕ) → ℕ → ℕ → ℕ
later_by p none far W y v = p v + cut none far (W v y)

-- The cell c of the pair x, y stands for the slack w over the days p.
abbrev pub Tells : ℕ → (ℕ → ℕ) → ℕ → ℕ → ℕ → ℤ → Type 0
Tells none p x y w c = ((c ≡ pos NO_LIMIT) × (none ≤ w)) ⊎ ((c ≡ pos NO_LIMIT → ⊥) × (w < none) × (w + p x + dn c ≡ p y + up c))

module _ (n : ℕ) (R : ℕ → Rule) (H : ℕ → Type 0) (p : ℕ → ℕ) (none most : ℕ) (W : ℕ → ℕ → ℕ) (closed : Closed n R H p none most W) (plan : Plan R H p) (steps : (i : ℕ) → H i → InSteps n (R i)) where
  -- These days are a plan too.
  pub later_plan : (y far : ℕ) → y < n → none ≤ far → Plan R H (later_by p none far W y)
  unfolding later_by
  later_plan y far below h i held = told (spares_some R H p plan i held)
    where
      told : (w : ℕ) × Spares R p i w → (pos (p (R i).first + cut none far (W (R i).first y)) -ℤ pos (p (R i).second + cut none far (W (R i).second y))) ≤ℤ (R i).amount
      told (w, spares) = →plan (later_by p none far W y) (R i) (omega (arith, spares, moved))
        where
          near : W (R i).first y ≤ w + W (R i).second y
          near =
              omega (
                arith,
                closed.under i w held spares,
                closed.over (R i).first (R i).second y (steps i held).first_in (steps i held).second_in below,
              )

          known : W (R i).second y < none → w + W (R i).second y < none
          known lower = omega (arith, closed.small (R i).second y (steps i held).second_in below lower, closed.few i w held spares)

          moved : cut none far (W (R i).first y) ≤ w + cut none far (W (R i).second y)
          moved = cut_step none far (W (R i).first y) (W (R i).second y) w h near known

  -- In them the step y keeps its day.
  later_self : (y far : ℕ) → y < n → later_by p none far W y y ≡ p y
  unfolding later_by
  later_self y far below = omega (arith, cut_known none far (W y y) (omega (arith, closed.some, closed.self y below)), closed.self y below)

  -- A rule that holds in every arrangement has an amount of at least the slack, where it is known.
  pub least_known : (x y : ℕ) → x < n → y < n → W x y < none → (e : ℤ) → Always R H (rule x y e) → W x y + p x + dn e ≤ p y + up e
  unfolding later_by
  least_known x y in-x in-y known e always =
      omega (
        arith,
        plan→ (later_by p none none W y) (rule x y e) (always (λ v. pos (later_by p none none W y v)) (later_plan y none in-y (omega arith))),
        later_self y none in-y,
        cut_known none none (W x y) known,
      )

  -- Where it is not known, no rule holds in every arrangement.
  pub no_limit : (x y : ℕ) → x < n → y < n → none ≤ W x y → NoLimit R H x y
  unfolding later_by
  no_limit x y in-x in-y unknown e always =
      omega (
        arith,
        plan→ (later_by p none (none + p y + up e + 1) W y) (rule x y e)
            (always (λ v. pos (later_by p none (none + p y + up e + 1) W y v)) (later_plan y (none + p y + up e + 1) in-y (omega arith))),
        later_self y (none + p y + up e + 1) in-y,
        cut_none none (none + p y + up e + 1) (W x y) unknown,
      )

  -- Where the slack is known, the limit is the amount that it stands for.
  pub limit_known : (x y : ℕ) → x < n → y < n → W x y < none → (c : ℤ) → W x y + p x + dn c ≡ p y + up c → Limit R H x y c
  limit_known x y in-x in-y known c is = record {
    always = subst (λ a. Always R H (rule x y a)) amount (closed.holds x y in-x in-y known);
    least = λ e always. →le c e (omega (arith, is, least_known x y in-x in-y known e always));
  }
    where
      amount : (pos (W x y + p x) -ℤ pos (p y)) ≡ c
      amount = →eq (pos (W x y + p x) -ℤ pos (p y)) c (omega (arith, is, minus_is (pos (W x y + p x)) (pos (p y))))

  -- A cell that stands for the slack says what is so.
  pub tells_says : (x y : ℕ) → x < n → y < n → (c : ℤ) → Tells none p x y (W x y) c → Says R H x y c
  tells_says x y in-x in-y c (inl (is, unknown)) = inl (is, no_limit x y in-x in-y unknown)
  tells_says x y in-x in-y c (inr (is_not, known, is)) = inr (is_not, limit_known x y in-x in-y known c is)

-- The cell that is made of a slack stands for it, where every slack that is known, with the day, is below NO-LIMIT.
pub cell_tells : (p : ℕ → ℕ) (x y w : ℕ) → (w < NONE → w + p x < NO_LIMIT) → Tells NONE p x y w (cell_of p x y w)
cell_tells p x y w near = tell (dec_lt w NONE)
  where
    tell : Dec (w < NONE) → Tells NONE p x y w (cell_of p x y w)
    tell (yes known) = rw (lt-leb NONE w known) (inr (λ e. omega (arith, near known, ap up e, ap dn e, minus_is (pos (w + p x)) (pos (p y))), known, omega (arith, minus_is (pos (w + p x)) (pos (p y)))))
    tell (no unknown) = rw (le-leb NONE w (omega arith)) (inl (refl, omega arith))

-- Closed slacks say the limit of every pair of steps below n.
pub closed_says :
    (n : ℕ) (R : ℕ → Rule) (H : ℕ → Type 0) (p : ℕ → ℕ) (most : ℕ) (W : ℕ → ℕ → ℕ) → Closed n R H p NONE most W → Plan R H p →
    ((i : ℕ) → H i → InSteps n (R i)) → ((v : ℕ) → v < n → most + p v < NO_LIMIT) → (x y : ℕ) → x < n → y < n → Says R H x y (cell_of p x y (W x y))
closed_says n R H p most W closed plan steps days x y in-x in-y =
    tells_says n R H p NONE most W closed plan steps x y in-x in-y (cell_of p x y (W x y))
    (cell_tells p x y (W x y) (λ known. omega (arith, days x in-x, closed.small x y in-x in-y known)))
