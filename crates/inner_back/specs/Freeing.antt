-- What freeing every place above a level needs; where the rules that go are the newest; and what is done to one place that is held.
use Rattle.std.specs.Prelude.{ℕ, ◌+◌, ◌≤◌, ◌<◌, ◌≡◌, List, ◌⊎◌, length, set}
use Rattle.meaning.specs.Bounds.{RULES, MARKS}
use Rattle.meaning.specs.Tables.{at, taken}
use Rattle.lent.specs.Lent.{held_by}
use Rattle.chains.specs.Chains.{OFF, Pushed}

-- The levels and the first steps have their places, m rules are held, each first step of a rule held is below n, and k marks can be left.
pub record Freeable (n k m : ℕ) (xs levels : List ℕ) : Type 0 where
  pub levels_room : RULES ≤ length levels
  pub firsts_room : RULES ≤ length xs
  pub counted : m ≡ taken RULES levels
  pub firsts_in : (i : ℕ) → held_by levels i → at xs i < n
  pub marks_in : k ≤ MARKS

-- Of the first m places those from number c on have levels above k, and the one before them has not.
pub record CutAt (m k : ℕ) (levels : List ℕ) (c : ℕ) : Type 0 where
  pub within : c ≤ m
  pub high : (i : ℕ) → c ≤ i → i < m → k + 1 < at levels i
  pub stops : (i : ℕ) → c ≡ i + 1 → at levels i ≤ k + 1

-- The places from c up to m were freed; all others are as before.
pub record FreedFrom (c m : ℕ) (levels levels' : List ℕ) : Type 0 where
  pub same_length : length levels' ≡ length levels
  pub freed : (i : ℕ) → c ≤ i → i < m → at levels' i ≡ 0
  pub below : (i : ℕ) → i < c → at levels' i ≡ at levels i
  pub above : (i : ℕ) → m ≤ i → at levels' i ≡ at levels i

-- Place i, of a level that is not above k, was put on its chain; it counts 1.
pub record Stays (k i : ℕ) (xs levels heads nexts levels' heads' nexts' : List ℕ) (r : ℕ) : Type 0 where
  pub low : at levels i ≤ k + 1
  pub levels_are : levels' ≡ levels
  pub pushed : Pushed i xs heads nexts heads' nexts'
  pub counts_one : r ≡ 1

-- Place i, of a level above k, was freed, and is on no chain; it counts 0.
pub record Goes (k i : ℕ) (levels heads nexts levels' heads' nexts' : List ℕ) (r : ℕ) : Type 0 where
  pub high : k + 1 < at levels i
  pub levels_are : levels' ≡ set levels i 0
  pub heads_are : heads' ≡ heads
  pub nexts_are : nexts' ≡ set nexts i OFF
  pub counts_none : r ≡ 0

-- Place i, which is held, stays or goes, by its level.
abbrev pub Sifted : ℕ → ℕ → List ℕ → List ℕ → List ℕ → List ℕ → List ℕ → List ℕ → List ℕ → ℕ → Type 0
Sifted k i xs levels heads nexts levels' heads' nexts' r =
    Stays k i xs levels heads nexts levels' heads' nexts' r ⊎ Goes k i levels heads nexts levels' heads' nexts' r
