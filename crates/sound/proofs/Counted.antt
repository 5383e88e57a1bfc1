-- Exact counts of the numbers below n that pass a test.
use Prim.Native.Nat.{ℕ, zero, suc, ◌+◌, ◌<◌}
use native.Mathlib.Omega.{arith}
use native.Mathlib.Decide.{ℕ_discrete}
use mathlib.Core.Path.{◌≡◌, sym, ◌∙◌, ap, subst}
use mathlib.Core.Bool.{Bool, true, false, cond}
use Rattle.meaning.specs.Reckoning.{count}
use Rattle.meaning.proofs.Counting.{count_none, count_suc}

-- What a number adds to the count.
abbrev adds : Bool → ℕ
adds b = cond b 1 0

-- Tests that agree below n count the same.
count_same : (f g : ℕ → Bool) (n : ℕ) → ((v : ℕ) → v < n → g v ≡ f v) → count g n ≡ count f n
count_same f g zero same = count_none g ∙ sym (count_none f)
count_same f g (suc n) same =
    omega (arith, count_suc f n, count_suc g n, count_same f g n (λ v h. same v (omega arith)), ap adds (same n (omega arith)))

-- Where none passes, the count is 0.
pub count_nothing : (f : ℕ → Bool) (n : ℕ) → ((v : ℕ) → v < n → f v ≡ false) → count f n ≡ 0
count_nothing f zero fails = count_none f
count_nothing f (suc n) fails =
    omega (arith, count_suc f n, count_nothing f n (λ v h. fails v (omega arith)), ap adds (fails n (omega arith)))

-- Where all pass, the count is n.
pub count_everything : (f : ℕ → Bool) (n : ℕ) → ((v : ℕ) → v < n → f v ≡ true) → count f n ≡ n
count_everything f zero passes = count_none f
count_everything f (suc n) passes =
    omega (arith, count_suc f n, count_everything f n (λ v h. passes v (omega arith)), ap adds (passes n (omega arith)))

-- Where v alone passes anew, the count is one more.
pub count_one_more : (f g : ℕ → Bool) (v : ℕ) → f v ≡ false → g v ≡ true → ((w : ℕ) → (w ≡ v → ⊥) → g w ≡ f w) → (n : ℕ) → v < n → count g n ≡ count f n + 1
count_one_more f g v fails passes same zero h = absurd (omega arith)
count_one_more f g v fails passes same (suc n) h = by_place (ℕ_discrete n v) (λ l. count_one_more f g v fails passes same n l)
  where
    by_place : Dec (n ≡ v) → (v < n → count g n ≡ count f n + 1) → count g (suc n) ≡ count f (suc n) + 1
    by_place (yes e) below =
        omega (
          arith,
          count_suc f n,
          count_suc g n,
          count_same f g n (λ w l. same w (λ is. omega arith)),
          ap adds (subst (λ (w : ℕ). f w ≡ false) (sym e) fails),
          ap adds (subst (λ (w : ℕ). g w ≡ true) (sym e) passes),
        )
    by_place (no apart) below =
        omega (arith, count_suc f n, count_suc g n, below (omega arith), ap adds (same n apart))
