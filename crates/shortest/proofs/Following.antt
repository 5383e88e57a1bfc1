-- A layer is lowered, one step after the other, by the rules that lead to the step.
use Prim.Native.Nat.{ℕ, suc, ◌+◌, ◌≤◌, ◌<◌}
use native.Mathlib.Omega.{arith}
use native.Mathlib.Decide.{ℕ_discrete, dec_lt}
use mathlib.Core.Path.{◌≡◌, sym, ◌∙◌, ap, subst}
use mathlib.Core.List.{List}
use mathlib.Core.Logic.{◌⊎◌, inl, inr}
use lib.ListN.{length, set}
use lib.Seq.{get_or-set_same, get_or-set_other}
use Rattle.meaning.specs.Tables.{at}
use Rattle.chains.specs.Chains.{top, number}
use Rattle.chains.proofs.Walk.{above_next}
use Rattle.shortest.specs.declared.Search.{Search}
use Rattle.shortest.specs.Layers.{Fitting}
use Rattle.shortest.specs.Clauses.{rules_of, on, spares_of}
use Rattle.shortest.specs.Searching.{LoweredBy, By, Passed, FollowedBy}

module _ (s : Search) (limit : ℕ) where
  -- The first and second step of each rule, how deep each step lies, what each rule has to spare, and which are held.
  abbrev xs : ℕ → ℕ
  xs = at s.held.rules.xs.now

  abbrev ys : ℕ → ℕ
  ys = at s.held.rules.ys.now

  abbrev d : ℕ → ℕ
  d = at s.depths.now

  abbrev w : ℕ → ℕ
  w = spares_of s.held

  abbrev H : ℕ → Type 0
  H = on s.held

  -- It is by fewer rules too.
  by_fewer : (P Q : ℕ → Type 0) (f g : List ℕ) → ((i : ℕ) → H i → w i + at f (ys i) < s.lack → Q i → P i) → By s limit P f g → By s limit Q f g
  by_fewer P Q f g fewer b = record { comes = b.comes; lowered = λ i held q small. b.lowered i held (fewer i held small q.0, q.1) small }

  -- Where no value is below the lack, no rule has lowered any yet.
  pub by_none : (f g : List ℕ) → ((v : ℕ) → v < s.steps → at g v ≡ s.lack) → By s limit (λ i. ys i < 0) f g
  by_none f g all = record { comes = λ v v-in small. absurd (omega (arith, all v v-in)); lowered = λ i held none. absurd (omega (arith, none.0)) }

  -- Once all steps are passed, all rules have.
  pub by_all : (f g : List ℕ) → By s limit (λ i. ys i < s.steps) f g → FollowedBy s limit f g
  by_all f g b = record { comes = b.comes; lowered = λ i held near small. b.lowered i held ((s.chained.kept.in_steps i held).second_in, near) small }

  -- Steps for which f has no value below the lack are passed as they are.
  pub by_past : (u r : ℕ) (f g : List ℕ) → ((k : ℕ) → u ≤ k → k < r → s.lack ≤ at f k) → By s limit (λ i. ys i < u) f g → By s limit (λ i. ys i < r) f g
  by_past u r f g none = by_fewer (λ i. ys i < u) (λ i. ys i < r) f g (λ i held small q. before i small q (dec_lt (ys i) u))
    where
      before : (i : ℕ) → w i + at f (ys i) < s.lack → ys i < r → Dec (ys i < u) → ys i < u
      before i small q (yes lower) = lower
      before i small q (no not_lower) = absurd (omega (arith, none (ys i) (omega (arith, not_lower)) q))

  -- One value is lowered by a rule.
  by_more :
      (P Q : ℕ → Type 0) (f : List ℕ) (i : ℕ) (g g' : List ℕ) → H i → s.steps ≤ length g → LoweredBy s limit i (at f (ys i)) g g' → ((j : ℕ) → H j → Q j → (j ≡ i) ⊎ P j) →
      By s limit P f g → By s limit Q f g'
  by_more P Q f i g g' held room (inl (far, same)) or by =
      subst (λ (l : List ℕ). By s limit Q f l) (sym same) (record { comes = by.comes; lowered = λ j h q small. tell j h q.1 small (or j h q.0) })
    where
      tell : (j : ℕ) → H j → d (xs j) ≤ limit → w j + at f (ys j) < s.lack → (j ≡ i) ⊎ P j → at g (xs j) ≤ w j + at f (ys j)
      tell j h near small (inl e) = absurd (omega (arith, near, far, ap (λ (k : ℕ). d (xs k)) e))
      tell j h near small (inr p) = by.lowered j h (p, near) small
  by_more P Q f i g g' held room (inr (inr (enough, same))) or by =
      subst (λ (l : List ℕ). By s limit Q f l) (sym same) (record { comes = by.comes; lowered = λ j h q small. tell j h q.1 small (or j h q.0) })
    where
      tell : (j : ℕ) → H j → d (xs j) ≤ limit → w j + at f (ys j) < s.lack → (j ≡ i) ⊎ P j → at g (xs j) ≤ w j + at f (ys j)
      tell j h near small (inl e) = subst (λ (k : ℕ). at g (xs k) ≤ w k + at f (ys k)) (sym e) enough
      tell j h near small (inr p) = by.lowered j h (p, near) small
  by_more P Q f i g g' held room (inr (inl (less, is))) or by =
      subst (λ (l : List ℕ). By s limit Q f l) (sym is)
      (record {
        comes = λ v v-in small. comes v v-in small (ℕ_discrete v (xs i));
        lowered = λ j h q small. lowered j h q.1 small (or j h q.0) (ℕ_discrete (xs j) (xs i));
      })
    where
      sum : ℕ
      sum = w i + at f (ys i)

      now : ℕ → ℕ
      now = at (set g (xs i) sum)

      there : now (xs i) ≡ sum
      there = get_or-set_same g (xs i) sum 0 (omega (arith, (s.chained.kept.in_steps i held).first_in))

      elsewhere : (v : ℕ) → (v ≡ xs i → ⊥) → now v ≡ at g v
      elsewhere v other = get_or-set_other g (xs i) v sum 0 other

      comes : (v : ℕ) → v < s.steps → now v < s.lack → Dec (v ≡ xs i) → (j : ℕ) × Fitting (rules_of s.held) H w (at f) v (suc (now v)) j
      comes v v-in small (yes e) = (i, record { held = held; own = sym e; below = omega (arith, ap now e, there) })
      comes v v-in small (no other) =
          subst (λ (k : ℕ). (j : ℕ) × Fitting (rules_of s.held) H w (at f) v (suc k) j) (sym (elsewhere v other)) (by.comes v v-in (omega (arith, elsewhere v other)))

      lowered : (j : ℕ) → H j → d (xs j) ≤ limit → w j + at f (ys j) < s.lack → (j ≡ i) ⊎ P j → Dec (xs j ≡ xs i) → now (xs j) ≤ w j + at f (ys j)
      lowered j h near small (inl e) own = subst (λ (k : ℕ). now (xs k) ≤ w k + at f (ys k)) (sym e) (omega (arith, there))
      lowered j h near small (inr p) (yes e) = omega (arith, ap now e, there, less, ap (at g) e, by.lowered j h (p, near) small)
      lowered j h near small (inr p) (no other) = omega (arith, elsewhere (xs j) other, by.lowered j h (p, near) small)

  -- ---- along the chain of a step

  -- The rules to lower steps, and those of the chain of u at or above the link.
  abbrev pub Above : ℕ → ℕ → ℕ → Type 0
  Above u link i = (ys i < u) ⊎ ((ys i ≡ u) × (top number link ≤ number i))

  -- Where the rules to steps below u lowered the layer, the rules of the chain of u from the link on now did too.
  abbrev pub Walked : ℕ → ℕ → List ℕ → List ℕ → List ℕ → Type 0
  Walked u link f before g = By s limit (λ i. ys i < u) f before → By s limit (Above u link) f g

  module _ (u : ℕ) (f before : List ℕ) where
    -- Before it is walked, no rule of it is at or above its head.
    pub walked_none : u < s.steps → Walked u (at s.held.heads.now u) f before before
    walked_none u-in = by_fewer (λ i. ys i < u) (Above u (at s.held.heads.now u)) f before (λ i held small q. lower i held q)
      where
        lower : (i : ℕ) → H i → Above u (at s.held.heads.now u) i → ys i < u
        lower i held (inl below) = below
        lower i held (inr (own, above)) = absurd (omega (arith, s.chained.chained.head_newest u i u-in held own, above))

    -- One rule of the chain more.
    pub walked_more :
        (i : ℕ) (g g' : List ℕ) → H i → ys i ≡ u → s.steps ≤ length g → LoweredBy s limit i (at f u) g g' → Walked u (suc i) f before g → Walked u (at s.held.nexts.now i) f before g'
    walked_more i g g' held own room lowered walked by =
        by_more (Above u (suc i)) (Above u (at s.held.nexts.now i)) f i g g' held room (subst (λ (v : ℕ). LoweredBy s limit i (at f v) g g') (sym own) lowered)
        (λ j h q. or j h q (ℕ_discrete j i)) (walked by)
      where
        or : (j : ℕ) → H j → Above u (at s.held.nexts.now i) j → Dec (j ≡ i) → (j ≡ i) ⊎ Above u (suc i) j
        or j h q (yes e) = inl e
        or j h (inl lower) (no other) = inr (inl lower)
        or j h (inr (of-u, above)) (no other) =
            inr (inr (of-u, above_next s.steps H number s.held.rules.ys.now s.held.heads.now s.held.nexts.now s.chained.chained i j held h (of-u ∙ sym own) other above))

    -- At the end of the chain all its rules are met.
    pub walked_end : (g : List ℕ) → Walked u 0 f before g → Passed s limit u f before g
    walked_end g walked by = by_fewer (Above u 0) (λ i. ys i < u + 1) f g (λ i held small q. met i q (ℕ_discrete (ys i) u)) (walked by)
      where
        met : (i : ℕ) → ys i < u + 1 → Dec (ys i ≡ u) → Above u 0 i
        met i q (yes e) = inr (e, omega arith)
        met i q (no other) = inl (omega arith)
