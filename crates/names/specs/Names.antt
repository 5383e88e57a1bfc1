-- The declared names of a script, in lent tables, and the index by which one is found: chains of the names with the same hash.
use Rattle.std.specs.Prelude.{ℕ, suc, ◌+◌, ◌*◌, ◌%◌, ◌≤◌, ◌<◌, ◌≡◌, List, [], ◌∷◌, ◌⊎◌, length, take, drop, set}
use Rattle.meaning.specs.Bounds.{STEPS, NAME_BYTES}
use Rattle.meaning.specs.Tables.{at}
use Rattle.chains.specs.Chains.{Chained}
use Rattle.write.specs.Written.{over}

-- The name under number k: its bytes stand from place NAME-BYTES times k on, and `lens` says how many they are.
abbrev pub name_at : List ℕ → List ℕ → ℕ → List ℕ
name_at names lens k = take (at lens k) (drop (NAME_BYTES * k) names)

-- How many chains the index has.
abbrev pub BUCKETS : ℕ
BUCKETS = 256

-- The hash of a name, which is below BUCKETS.
unfoldable pub hashed : ℕ → List ℕ → ℕ
hashed h [] = h
hashed h (b ∷ w) = hashed ((31 * h + b) % BUCKETS) w

abbrev pub hash : List ℕ → ℕ
hash w = hashed 0 w

-- The tables of names have room for a name for each step, and each of the first n names is short enough for its places.
pub record Shelved (n : ℕ) (names lens : List ℕ) : Type 0 where
  pub names_room : NAME_BYTES * STEPS ≤ length names
  pub lens_room : STEPS ≤ length lens
  pub names_in : n ≤ STEPS
  pub short_names : (k : ℕ) → k < n → at lens k ≤ NAME_BYTES

-- The index has room.
pub record IndexRoom (hashes heads nexts : List ℕ) : Type 0 where
  pub hashes_room : STEPS ≤ length hashes
  pub heads_room : BUCKETS ≤ length heads
  pub nexts_room : STEPS ≤ length nexts

-- The index of the first n names: their hashes, and the chains of names with the same hash.
pub record Indexed (n : ℕ) (names lens hashes heads nexts : List ℕ) : Type 0 where
  pub room : IndexRoom hashes heads nexts
  pub hashes_are : (k : ℕ) → k < n → at hashes k ≡ hash (name_at names lens k)
  pub chained : Chained BUCKETS n hashes heads nexts

-- The nexts lead from each of the first n names to the newest older one with the same hash.
pub record Linked (n : ℕ) (names lens nexts : List ℕ) : Type 0 where
  pub links_room : n ≤ length nexts
  pub next_in : (k : ℕ) → k < n → at nexts k ≤ k
  pub next_own : (k j : ℕ) → k < n → at nexts k ≡ suc j → hash (name_at names lens j) ≡ hash (name_at names lens k)
  pub next_newest : (k j : ℕ) → k < n → j < k → hash (name_at names lens j) ≡ hash (name_at names lens k) → j < at nexts k

-- The link leads to one of the first n names with the hash of w, or is 0.
pub record LinkOf (n : ℕ) (names lens w : List ℕ) (link : ℕ) : Type 0 where
  pub link_in : link ≤ n
  pub link_own : (k : ℕ) → link ≡ suc k → hash (name_at names lens k) ≡ hash w

-- None of the first n names is w.
abbrev pub Unknown : ℕ → List ℕ → List ℕ → List ℕ → Type 0
Unknown n names lens w = (k : ℕ) → k < n → name_at names lens k ≡ w → ⊥

-- r is the number of a name w among the first n, or it is n and none of them is w.
abbrev pub Found : ℕ → List ℕ → List ℕ → List ℕ → ℕ → Type 0
Found n names lens w r = ((r < n) × (name_at names lens r ≡ w)) ⊎ ((r ≡ n) × Unknown n names lens w)

-- r is the number of a name w among the first n.
abbrev pub Stands : ℕ → List ℕ → List ℕ → List ℕ → ℕ → Type 0
Stands n names lens w r = (r < n) × (name_at names lens r ≡ w)

-- The first n names are all different.
abbrev pub AllDifferent : ℕ → List ℕ → List ℕ → Type 0
AllDifferent n names lens = (j k : ℕ) → j < k → k < n → name_at names lens j ≡ name_at names lens k → ⊥

-- The name w was written under number n, the bytes past it in its places being left as they were, and put into the index.
pub record Declared (n : ℕ) (w names lens hashes heads nexts names' lens' hashes' heads' nexts' : List ℕ) : Type 0 where
  pub names_are : names' ≡ over names (NAME_BYTES * n) w
  pub lens_are : lens' ≡ set lens n (length w)
  pub name_is : name_at names' lens' n ≡ w
  pub others_stay : (k : ℕ) → k < n → name_at names' lens' k ≡ name_at names lens k
  pub indexed : Indexed n names lens hashes heads nexts → Indexed (n + 1) names' lens' hashes' heads' nexts'
