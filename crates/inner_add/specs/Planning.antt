-- Planning a new rule: what the days lack for it, the gains that it asks, and the days with their gains.
use Rattle.std.specs.Prelude.{ℕ, ◌+◌, ◌^◌, ◌≤◌, ◌<◌, ◌≡◌, Bool, true, false, List, length, ℤ, pos}
use Rattle.meaning.specs.Bounds.{STEPS, RULES}
use Rattle.meaning.specs.Rules.{Keeps, InSteps, InBounds, Earliest, Fits, more, plus, rule}
use Rattle.meaning.specs.Tables.{ColumnsRoom, at}
use Rattle.meaning.specs.Promise.{Past, moved}
use Rattle.meaning.specs.Reckoning.{up, dn}
use Rattle.lent.specs.Lent.{columns}
use Rattle.spread.specs.Ground.{rules, Ground}
use Rattle.spread.specs.Ring.{Reached, Lacks}

-- r is what the days lack for the rule x, y, c: 0 where they keep it.
pub record Lack (days : List ℕ) (x y : ℕ) (c : ℤ) (r : ℕ) : Type 0 where
  pub none : r ≡ 0 → Keeps (λ v. pos (at days v)) (rule x y c)
  pub some : 0 < r → at days x + dn c ≡ at days y + r + up c
  pub small : r < 2 ^ 62

-- What a new rule is planned on: the rules held are within bounds, the days are their earliest plan, the chains are theirs, and all have their places.
pub record Base (n : ℕ) (H : ℕ → Type 0) (order : ℕ → ℕ) (xs ys : List ℕ) (cs : List ℤ) (days heads nexts : List ℕ) : Type 0 where
  pub ground : Ground n H order xs ys cs days heads nexts
  pub earliest : Earliest n (rules xs ys cs) H (at days)
  pub rules_good : (i : ℕ) → H i → InBounds n (rules xs ys cs i)
  pub columns_room : ColumnsRoom RULES (columns xs ys cs)

-- Places for the gains of n steps and for the rules that they came by; no step has a gain yet.
pub record NoGains (n : ℕ) (gains by : List ℕ) : Type 0 where
  pub none_yet : (v : ℕ) → v < n → at gains v ≡ 0
  pub gains_room : n ≤ length gains
  pub by_room : n ≤ length by

-- The rule x, y, c can be planned under the number k: its steps are among the steps, the number is free, and no step has a gain yet.
pub record Plannable (n : ℕ) (H : ℕ → Type 0) (order : ℕ → ℕ) (k : ℕ) (xs ys : List ℕ) (cs : List ℤ) (days heads nexts gains by : List ℕ) (x y : ℕ) (c : ℤ) : Type 0 where
  pub base : Base n H order xs ys cs days heads nexts
  pub new_in : InSteps n (rule x y c)
  pub free : H k → ⊥
  pub free_in : k ≤ RULES
  pub no_gains : NoGains n gains by

-- The list has the days with their gains in its first n places, r of them other than the days, and from place n on what it had.
pub record Raised (n : ℕ) (days gains before after : List ℕ) (r : ℕ) : Type 0 where
  pub each : (v : ℕ) → v < n → at after v ≡ at days v + at gains v
  pub past : Past n before after
  pub count : r ≡ moved n days after

-- The days with their gains fit a u32, and there is a place for each.
pub record Raisable (n : ℕ) (days gains list : List ℕ) : Type 0 where
  pub days_room : n ≤ length days
  pub gains_room : n ≤ length gains
  pub list_room : n ≤ length list
  pub few : n ≤ STEPS
  pub fits : (v : ℕ) → v < n → at days v + at gains v < 2 ^ 32

-- The rule x, y, c was planned. It fits: the days with their gains are the earliest plan of the rules held and of it. Or it does not: the gain
-- that it asks of y has reached x.
pub record RulePlanned (n : ℕ) (H : ℕ → Type 0) (k : ℕ) (xs ys : List ℕ) (cs : List ℤ) (days gains by : List ℕ) (x y : ℕ) (c : ℤ) (fits : Bool) : Type 0 where
  pub earliest : fits ≡ true → Earliest n (more (rules xs ys cs) k (rule x y c)) (plus H k) (λ v. at days v + at gains v)
  pub unfit : fits ≡ false → Fits (rules xs ys cs) H (rule x y c) → ⊥
  pub reached : fits ≡ false → Reached n H k xs ys cs days gains by x y
  pub lacks : fits ≡ false → Lacks days gains x y c
