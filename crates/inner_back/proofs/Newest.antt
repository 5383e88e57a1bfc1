-- The rules that go are the newest: where they begin, and what is left when they are dropped.
use Prim.Native.Nat.{ℕ, ◌+◌, ◌≤◌, ◌<◌}
use native.Mathlib.Omega.{arith}
use native.Mathlib.Decide.{ℕ_discrete, dec_lt}
use mathlib.Core.Path.{◌≡◌, refl, sym, ◌∙◌, ap, subst}
use mathlib.Core.List.{List}
use lib.ListN.{length}
use Rattle.meaning.specs.Bounds.{RULES}
use Rattle.meaning.specs.Tables.{at, taken, freed_above}
use Rattle.meaning.proofs.Lists.{past_same}
use Rattle.meaning.proofs.Places.{taken_at_most, taken_all_held, taken_past, freed_length, freed_past, freed_stays, freed_gone}
use Rattle.lent.specs.Lent.{first, held_by, AllHeld, NoneAbove, FreeFrom}
use Rattle.chains.specs.Chains.{LentChains}
use Rattle.chains.proofs.Laws.{lent_held, held_lent}
use Rattle.inner_back.specs.Freeing.{Freeable, CutAt, FreedFrom}
use Rattle.inner_back.proofs.Counting.{taken_rest}

-- ---- where they begin

-- Behind a place that is not above k.
pub cut_here : {m k i : ℕ} (c : ℕ) {levels : List ℕ} → i ≡ c + 1 → i ≤ m → at levels c ≤ k + 1 → ((j : ℕ) → i ≤ j → j < m → k + 1 < at levels j) → CutAt m k levels i
cut_here {m} {k} {i} c {levels} is within low high = record { within = within; high = high; stops = λ j e. subst (λ (l : ℕ). at levels l ≤ k + 1) (same j e) low }
  where
    same : (j : ℕ) → i ≡ j + 1 → c ≡ j
    same j e = omega (arith, is, e)

-- At the first place, where all are above k.
pub cut_all : (m k i : ℕ) (levels : List ℕ) → i ≡ 0 → ((j : ℕ) → i ≤ j → j < m → k + 1 < at levels j) → CutAt m k levels 0
cut_all m k i levels none high = record { within = omega arith; high = λ j from h. high j (omega arith) h; stops = λ j e. absurd (omega (arith, e)) }

-- One more is above k.
pub high_more : (m k i c : ℕ) (levels : List ℕ) → i ≡ c + 1 → k + 1 < at levels c → ((j : ℕ) → i ≤ j → j < m → k + 1 < at levels j) → (j : ℕ) → c ≤ j → j < m → k + 1 < at levels j
high_more m k i c levels is here high j from h = tell (ℕ_discrete j c)
  where
    tell : Dec (j ≡ c) → k + 1 < at levels j
    tell (yes e) = omega (arith, here, ap (at levels) e)
    tell (no d) = high j (omega arith) h

-- ---- rules held in the first places

module _ {n k m : ℕ} {xs levels : List ℕ} (f : Freeable n k m xs levels) where
  pub few : m ≤ RULES
  few = omega (arith, f.counted, taken_at_most RULES levels)

  -- Where the first m places are held, m being all, there is no other.
  pub none_behind : AllHeld m levels → FreeFrom m levels
  none_behind held = taken_rest RULES m levels (omega (arith, f.counted, taken_all_held m levels held))

  -- The newest can be dropped then.
  pub droppable :
      {heads nexts : List ℕ} → AllHeld m levels → FreeFrom m levels → LentChains n (held_by levels) xs heads nexts →
      LentChains n (first m) xs heads nexts × (((i : ℕ) → i < m → at xs i < n) × ((m ≤ length xs) × (m ≤ length levels)))
  droppable {heads} {nexts} held free chains = (
    held_lent n m levels xs heads nexts few held free chains,
    (λ i h. f.firsts_in i (omega (arith, h, few), held i h), (omega (arith, few, f.firsts_room), omega (arith, few, f.levels_room))),
  )

-- ---- what is left

-- The first m places are held and no others, and those of a level above k begin at number c.
module _ {m k c : ℕ} {levels : List ℕ} (few : m ≤ RULES) (held : AllHeld m levels) (free : FreeFrom m levels) (cut : CutAt m k levels c) (low : NoneAbove c k levels) where
  pub left_cell : (i : ℕ) → i < c → at (freed_above RULES k levels) i ≡ at levels i
  left_cell i h = freed_stays RULES k levels i (low i h)

  -- Those before it stay, and no others do.
  pub left_held : AllHeld c (freed_above RULES k levels)
  left_held i h = omega (arith, left_cell i h, held i (omega (arith, h, cut.within)))

  pub left_free : FreeFrom c (freed_above RULES k levels)
  left_free i from below = tell (dec_lt i m)
    where
      tell : Dec (i < m) → at (freed_above RULES k levels) i ≡ 0
      tell (yes h) = freed_gone RULES k levels i below (cut.high i from h)
      tell (no h) = let none = free i (omega arith) below in freed_stays RULES k levels i (omega (arith, none)) ∙ none

  -- So many are left.
  pub left_taken : taken RULES (freed_above RULES k levels) ≡ c
  left_taken = taken_past RULES c (freed_above RULES k levels) (omega (arith, cut.within, few)) left_free ∙ taken_all_held c (freed_above RULES k levels) left_held

  -- What freeing the places from that number on leaves.
  freed_cells : {levels' : List ℕ} → FreedFrom c m levels levels' → levels' ≡ freed_above RULES k levels
  freed_cells {levels'} f =
      past_same RULES levels levels' (freed_above RULES k levels) (record { same_length = f.same_length; kept = λ i from. f.above i (omega (arith, from, few)) })
      (record { same_length = freed_length RULES k levels; kept = λ i from. freed_past RULES k levels i from }) same
    where
      same : (i : ℕ) → i < RULES → at levels' i ≡ at (freed_above RULES k levels) i
      same i below = tell (dec_lt i c) (dec_lt i m)
        where
          tell : Dec (i < c) → Dec (i < m) → at levels' i ≡ at (freed_above RULES k levels) i
          tell (yes h) d = f.below i h ∙ sym (left_cell i h)
          tell (no h) (yes g) = f.freed i (omega arith) g ∙ sym (left_free i (omega arith) below)
          tell (no h) (no g) = f.above i (omega arith) ∙ free i (omega arith) below ∙ sym (left_free i (omega arith) below)

  -- With the chains of the first c rules that is all that freeing the places above k leaves.
  pub newest_freed :
      {n : ℕ} {xs levels' heads nexts : List ℕ} → FreedFrom c m levels levels' → LentChains n (first c) xs heads nexts →
      (levels' ≡ freed_above RULES k levels) × ((c ≡ taken RULES levels') × LentChains n (held_by levels') xs heads nexts)
  newest_freed {n} {xs} {levels'} {heads} {nexts} f chains =
      let is = freed_cells f in
      rw is (refl, (sym left_taken, lent_held n c (freed_above RULES k levels) xs heads nexts (omega (arith, cut.within, few)) left_held left_free chains))
