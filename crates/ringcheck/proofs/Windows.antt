-- No step twice, by windows: what one reading of the steps tells of a window, and what the windows together tell.
use Prim.Native.Nat.{ℕ, ◌+◌, ◌*◌, ◌/◌, ◌%◌, ◌≤◌, ◌<◌}
use native.Mathlib.Omega.{arith}
use native.Mathlib.Decide.{dec_lt}
use native.Mathlib.Nat.{div-lt_iff_lt-mul}
use mathlib.Core.Path.{◌≡◌, sym, ◌∙◌, ap, subst}
use mathlib.Core.List.{List, [], ◌∷◌}
use mathlib.Core.Logic.{◌⊎◌, inl, inr, ⊎_elim, ◌↔◌}
use lib.Bits.{bit_and, bit_or, or_zero_l}
use Rattle.meaning.specs.Rules.{All, Different}
use Rattle.meaning.proofs.Theory.{all_implies}
use Rattle.ringcheck.specs.Closing.{WINDOW, In, Once, OnceIn, FlagIn}
use Rattle.std.specs.Int.{bit_at}
use Rattle.std.proofs.lemmas.Nat.Bits.{bit_at-zero}
use Rattle.ringcheck.proofs.Flags.{unmet→, →unmet, is_met, others_kept}

-- What follows from P and Q, every number of a list has where every number has both.
all_both : {P Q S : ℕ → Type 0} → ((a : ℕ) → P a → Q a → S a) → (l : List ℕ) → All P l → All Q l → All S l
all_both f [] p q = tt
all_both f (a ∷ l) p q = (f a p.0 q.0, all_both f l p.1 q.1)

-- What every number has, every number of a list has.
all_of : {P : ℕ → Type 0} → ((a : ℕ) → P a) → (l : List ℕ) → All P l
all_of f [] = tt
all_of f (a ∷ l) = (f a, all_of f l)

-- Of different steps none stands in the list twice, whatever P.
pub different→once : (P : ℕ → Type 0) (l : List ℕ) → Different l → Once P l
different→once P [] different = tt
different→once P (a ∷ l) different = (all_implies (λ b apart p. apart) l different.0, different→once P l different.1)

-- Where P holds of all steps and none of them stands in the list twice, the steps are different.
pub once→different : (P : ℕ → Type 0) (l : List ℕ) → All P l → Once P l → Different l
once→different P [] all once = tt
once→different P (a ∷ l) all once = (all_both (λ b p apart. apart p) l all.1 once.0, once→different P l all.1 once.1)

-- Where S holds only of steps that P or Q holds of, none with S stands in the list twice where none with P and none with Q does.
pub once_joined : {P Q S : ℕ → Type 0} → ((a : ℕ) → S a → P a ⊎ Q a) → (l : List ℕ) → Once P l → Once Q l → Once S l
once_joined either [] p q = tt
once_joined either (a ∷ l) p q = (all_both (λ b apart-p apart-q s e. ⊎_elim (λ h. apart-p h e) (λ h. apart-q h e) (either b s)) l p.0 q.0, once_joined either l p.1 q.1)

-- Step a lies in a window before w.
abbrev pub Before : ℕ → ℕ → Type 0
Before w a = a / WINDOW < w

-- Before the first window lies no step.
pub none_before : (l : List ℕ) → Once (Before 0) l
none_before [] = tt
none_before (a ∷ l) = (all_of (λ b before same. omega (arith, before)) l, none_before l)

-- Before window w lie all steps below its first.
pub all_before : (n w : ℕ) → n ≤ w * WINDOW → (l : List ℕ) → All (λ a. a < n) l → All (Before w) l
all_before n w first = all_implies (λ a below. (div-lt_iff_lt-mul {k = WINDOW} (omega arith)).1 (omega (arith, below)))

-- The windows before w, window w and the next are the windows before w + 2.
pub windows_joined : (w : ℕ) (l : List ℕ) → Once (Before w) l → OnceIn w l → Once (Before (w + 2)) l
windows_joined w l before once = once_joined (λ a below. last-or-before (w + 1) a (omega (arith, below))) l (once_joined (last-or-before w) l before once.here) once.next
  where
    last-or-before : (v a : ℕ) → a / WINDOW < v + 1 → Before v a ⊎ In v a
    last-or-before v a below = by-window (dec_lt (a / WINDOW) v)
      where
        by-window : Dec (a / WINDOW < v) → Before v a ⊎ In v a
        by-window (yes h) = inl h
        by-window (no h) = inr (omega arith)

-- What is left of the steps has no step of window w twice, and none that was met, whose bit is 1.
pub record Fresh (w met : ℕ) (l : List ℕ) : Type 0 where
  pub once : Once (In w) l
  pub not_met : All (λ a. In w a → bit_at met (a % WINDOW) ≡ 0) l

-- The next step is not met.
pub next_unmet : {w a f : ℕ} → FlagIn w a f → (met : ℕ) (l : List ℕ) → Fresh w met (a ∷ l) → bit_and met f ≡ 0
next_unmet flag met l fresh = unmet→ flag met fresh.not_met.0

module _ {w a f : ℕ} (flag : FlagIn w a f) (met : ℕ) (l : List ℕ) where
  -- Where the next step is met, it comes no more, and the others are not met.
  pub next→ : Fresh w met (a ∷ l) → Fresh w (bit_or met f) l
  next→ fresh = record {
    once = fresh.once.1;
    not_met = all_both (λ b apart unmet here. others_kept flag met b here (apart here) ∙ unmet here) l fresh.once.0 fresh.not_met.1;
  }

  -- A step that is not met then is another.
  other : (b : ℕ) → (In w b → bit_at (bit_or met f) (b % WINDOW) ≡ 0) → In w b → a ≡ b → ⊥
  other b unmet here same = is_met flag met (subst (In w) (sym same) here) (ap (λ n. bit_at (bit_or met f) (n % WINDOW)) same ∙ unmet here)

  -- Where the next step was not met, and what is left is fresh once it is, all was.
  pub →next : bit_and met f ≡ 0 → Fresh w (bit_or met f) l → Fresh w met (a ∷ l)
  →next apart fresh = record {
    once = (all_implies other l fresh.not_met, fresh.once);
    not_met = (
      →unmet flag met apart,
      all_implies (λ b unmet here. sym (others_kept flag met b here (other b unmet here)) ∙ unmet here) l fresh.not_met,
    );
  }

-- Before any step is met, fresh is what has no step twice; the first step leaves its flag.
pub first_met : {w a f : ℕ} → FlagIn w a f → (l : List ℕ) → Once (In w) (a ∷ l) ↔ Fresh w f l
first_met {w} {a} {f} flag l = (
  λ once. subst (λ m. Fresh w m l) (or_zero_l f) (next→ flag 0 l (record { once = once; not_met = all_of (λ b here. bit_at-zero (b % WINDOW)) (a ∷ l) })),
  λ fresh. (→next flag 0 l (unmet→ flag 0 (λ here. bit_at-zero (a % WINDOW))) (subst (λ m. Fresh w m l) (sym (or_zero_l f)) fresh)).once,
)
