-- Limits: what a cell says is fixed, tells every rule of its pair, and speaks of the rules held alone.
use Prim.Native.Nat.{ℕ}
use native.Mathlib.Omega.{arith}
use mathlib.Core.Path.{◌≡◌, sym, ◌∙◌}
use mathlib.Core.Logic.{inl, inr, ◌↔◌}
use lib.IntN.{ℤ, pos, ◌+ℤ◌}
use lib.Signed.{◌≤ℤ◌}
use Rattle.meaning.specs.Bounds.{NO_LIMIT}
use Rattle.meaning.specs.Rules.{Rule, rule, Always}
use Rattle.meaning.proofs.Whole.{le→, →eq, add_is, keeps→, →keeps}
use Rattle.meaning.proofs.Theory.{arrangement_same}
use Rattle.gaps.specs.Gaps.{Says}

-- ---- the order of whole numbers

-- Two whole numbers neither of which is larger are one.
pub le_both : (a b : ℤ) → a ≤ℤ b → b ≤ℤ a → a ≡ b
le_both a b h g = →eq a b (omega (arith, le→ a b h, le→ b a g))

-- ---- a cell is fixed

-- Two cells of one pair that say what is so are equal.
pub says_unique : {R : ℕ → Rule} {H : ℕ → Type 0} {x y : ℕ} {a b : ℤ} → Says R H x y a → Says R H x y b → a ≡ b
says_unique (inl (e, none)) (inl (f, other)) = e ∙ sym f
says_unique (inl (e, none)) (inr (f, limit)) = absurd (none _ limit.always)
says_unique (inr (f, limit)) (inl (e, none)) = absurd (none _ limit.always)
says_unique {a} {b} (inr (e, one)) (inr (f, two)) = le_both a b (one.least b two.always) (two.least a one.always)

-- ---- what a cell tells

-- A rule that holds in every arrangement holds with a larger amount.
pub always_more : (R : ℕ → Rule) (H : ℕ → Type 0) (x y : ℕ) (a b : ℤ) → a ≤ℤ b → Always R H (rule x y a) → Always R H (rule x y b)
always_more R H x y a b h always d kept = →keeps d (rule x y b) (omega (arith, le→ a b h, keeps→ d (rule x y a) (always d kept)))

-- Two rules that hold in every arrangement, the second from where the first leads to, add up.
pub always_over : (R : ℕ → Rule) (H : ℕ → Type 0) (x u y : ℕ) (a b : ℤ) → Always R H (rule x u a) → Always R H (rule u y b) → Always R H (rule x y (a +ℤ b))
always_over R H x u y a b one two d kept =
    →keeps d (rule x y (a +ℤ b)) (omega (arith, add_is a b, keeps→ d (rule x u a) (one d kept), keeps→ d (rule u y b) (two d kept)))

-- A rule of the pair holds in every arrangement exactly when there is a limit, and it is at most the rule's amount.
pub always_limit :
    {R : ℕ → Rule} {H : ℕ → Type 0} {x y : ℕ} {z : ℤ} → Says R H x y z → (c : ℤ) → Always R H (rule x y c) ↔ ((z ≡ pos NO_LIMIT → ⊥) × (z ≤ℤ c))
always_limit (inl (e, none)) c = (λ always. absurd (none c always), λ h. absurd (h.0 e))
always_limit {R} {H} {x} {y} {z} (inr (e, limit)) c = (λ always. (e, limit.least c always), λ h. always_more R H x y z c h.1 limit.always)

-- ---- the same rules

-- A rule that holds in every arrangement does so of any family with the same rules under the numbers held.
pub always_same :
    {R S : ℕ → Rule} {H G : ℕ → Type 0} → ((i : ℕ) → H i → G i) → ((i : ℕ) → H i → S i ≡ R i) → (r : Rule) → Always R H r → Always S G r
always_same sub e r always d kept = always d (arrangement_same d sub e kept)

-- What a cell says is so of any family with the same rules under the numbers held.
pub says_same :
    (R S : ℕ → Rule) (H G : ℕ → Type 0) → ((i : ℕ) → H i → G i) → ((i : ℕ) → G i → H i) → ((i : ℕ) → H i → R i ≡ S i) →
    (x y : ℕ) (c : ℤ) → Says R H x y c → Says S G x y c
says_same R S H G to from e x y c (inl (is, none)) =
    inl (is, λ a always. none a (always_same {R = S} {S = R} {H = G} {G = H} from (λ i held. e i (from i held)) (rule x y a) always))
says_same R S H G to from e x y c (inr (is, limit)) =
    inr (
      is,
      record {
        always = always_same {R = R} {S = S} {H = H} {G = G} to (λ i held. sym (e i held)) (rule x y c) limit.always;
        least = λ a always. limit.least a (always_same {R = S} {S = R} {H = G} {G = H} from (λ i held. e i (from i held)) (rule x y a) always);
      },
    )
