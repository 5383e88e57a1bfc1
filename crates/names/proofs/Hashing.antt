-- The hash, a byte at a time; and a name as bytes from a place to a place.
use Prim.Native.Nat.{ℕ, ◌+◌, ◌*◌, ◌-◌, ◌%◌, ◌≤◌, ◌<◌}
use native.Mathlib.Omega.{arith}
use mathlib.Core.Path.{◌≡◌, sym, ap}
use mathlib.Core.List.{List, [], ◌∷◌}
use lib.ListN.{length, get_or, take, drop, drop_of_length-le}
use Rattle.meaning.specs.Bounds.{NAME_BYTES}
use Rattle.meaning.specs.Tables.{at}
use Rattle.text.specs.Lexicon.{bytes}
use Rattle.text.proofs.Runs.{drop_more}
use Rattle.names.specs.Names.{BUCKETS, hash, hashed, name_at}

-- A hash has a chain.
hashed_small : (h : ℕ) (w : List ℕ) → h < BUCKETS → hashed h w < BUCKETS
unfolding hashed
hashed_small h [] small = small
hashed_small h (b ∷ w) small = hashed_small ((31 * h + b) % BUCKETS) w (omega arith)

pub hash_small : (w : List ℕ) → hash w < BUCKETS
hash_small w = hashed_small 0 w (omega arith)

-- What is left to hash.
pub hashed_first : (word : List ℕ) (h i : ℕ) → i < length word → hashed ((31 * h + get_or word i 0) % BUCKETS) (drop (i + 1) word) ≡ hashed h (drop i word)
unfolding hashed
hashed_first word h i l = sym (ap (hashed h) (drop_more word i l))

pub hashed_none : (word : List ℕ) (h i : ℕ) → length word ≤ i → hashed h (drop i word) ≡ h
unfolding hashed
hashed_none word h i past = ap (hashed h) (drop_of_length-le word past)

pub name_bytes : (names lens : List ℕ) (k : ℕ) → bytes names (NAME_BYTES * k) (NAME_BYTES * k + at lens k) ≡ name_at names lens k
name_bytes names lens k =
    let long : NAME_BYTES * k + at lens k - NAME_BYTES * k ≡ at lens k = omega arith in
    ap (λ (j : ℕ). take j (drop (NAME_BYTES * k) names)) long
