-- Rules in order: where none is withdrawn but by dropping marks, the next number is the rule count, and the rules that a pop drops are the newest.
use Prim.Native.Nat.{ℕ, zero, suc, ◌+◌, ◌-◌, ◌≤◌, ◌<◌}
use native.Mathlib.Omega.{arith}
use native.Mathlib.Decide.{ℕ_discrete, dec_le}
use native.Mathlib.Numerals.{add-one}
use mathlib.Core.Path.{◌≡◌, sym, ◌∙◌, ap, subst}
use mathlib.Core.List.{List}
use mathlib.Core.Logic.{◌⊎◌, inl, inr}
use lib.Seq.{get_or-set_other}
use Rattle.meaning.specs.Bounds.{RULES}
use Rattle.meaning.specs.Rules.{Rule}
use Rattle.meaning.specs.Tables.{Tables, at, lowest_free, next, with_rule, freed_above}
use Rattle.meaning.proofs.Places.{lowest_only, with_rule_level}
use Rattle.lent.specs.Lent.{NoneAbove}
use Rattle.lent.specs.Promises.{Border}
use Rattle.inner_back.specs.Freeing.{CutAt}
use Rattle.inner_back.proofs.Newest.{cut_here, left_cell, left_held, left_free, left_taken}
use Rattle.levels.specs.Levels.{InOrder, Popped}

-- Where every place is free the rules are in order, there being none.
pub in_order_none : {levels : List ℕ} → ((i : ℕ) → i < RULES → at levels i ≡ 0) → InOrder 0 levels
in_order_none free = record { all_held = λ i h. absurd (omega arith); no_other = λ i from below. free i below; never_fall = λ i j first h. absurd (omega arith) }

-- The next number is the rule count.
in_order_next : {m : ℕ} {levels : List ℕ} → InOrder m levels → m ≤ RULES → lowest_free RULES levels ≡ m
in_order_next {m} {levels} o few = lowest_only RULES m levels few o.all_held (last (ℕ_discrete m RULES))
  where
    last : Dec (m ≡ RULES) → (m ≡ RULES) ⊎ (at levels m ≡ 0)
    last (yes e) = inl e
    last (no d) = inr (o.no_other m (omega arith) (omega arith))

-- With one rule more they are in order.
pub in_order_rule : (r : Rule) {t : Tables} → Border t → t.counts.rules < RULES → InOrder t.counts.rules t.levels → InOrder (t.counts.rules + 1) (with_rule r t).levels
in_order_rule r {t} b few o = record { all_held = held_now; no_other = λ i from below. other i (λ e. omega (arith, e, is-next)) ∙ o.no_other i (omega arith) below; never_fall = rises }
  where
    is-next : next t ≡ t.counts.rules
    is-next = in_order_next o (omega arith)

    new : at (with_rule r t).levels (next t) ≡ t.counts.marks + 1
    new = with_rule_level r t b.room (omega (arith, is-next, few))

    newest : (i : ℕ) → i ≡ t.counts.rules → at (with_rule r t).levels i ≡ t.counts.marks + 1
    newest i e = ap (at (with_rule r t).levels) (e ∙ sym is-next) ∙ new

    other : (i : ℕ) → (i ≡ next t → ⊥) → at (with_rule r t).levels i ≡ at t.levels i
    other i d = get_or-set_other t.levels (next t) i (t.counts.marks + 1) 0 d

    older : (i : ℕ) → i < t.counts.rules → at (with_rule r t).levels i ≡ at t.levels i
    older i h = other i (λ e. omega (arith, e, is-next))

    held_now : (i : ℕ) → i < t.counts.rules + 1 → 0 < at (with_rule r t).levels i
    held_now i h = tell (ℕ_discrete i t.counts.rules)
      where
        tell : Dec (i ≡ t.counts.rules) → 0 < at (with_rule r t).levels i
        tell (yes e) = omega (arith, newest i e)
        tell (no d) = omega (arith, older i (omega arith), o.all_held i (omega arith))

    rises : (i j : ℕ) → i ≤ j → j < t.counts.rules + 1 → at (with_rule r t).levels i ≤ at (with_rule r t).levels j
    rises i j first h = tell (ℕ_discrete j t.counts.rules) (ℕ_discrete i t.counts.rules)
      where
        tell : Dec (j ≡ t.counts.rules) → Dec (i ≡ t.counts.rules) → at (with_rule r t).levels i ≤ at (with_rule r t).levels j
        tell (yes e) (yes f) = omega (arith, newest i f, newest j e)
        tell (yes e) (no d) =
            omega (arith, newest j e, older i (omega arith), b.sound.levels_open i (omega (arith, few), o.all_held i (omega arith)))
        tell (no d) (yes f) = absurd (omega arith)
        tell (no d) (no c) = omega (arith, older i (omega arith), older j (omega arith), o.never_fall i j first (omega arith))

-- ---- the newest rules dropped

-- Of rules in order none before the newest above k is above k.
pub in_order_low : {m k c : ℕ} {levels : List ℕ} → InOrder m levels → CutAt m k levels c → NoneAbove c k levels
in_order_low {c = zero} o cut i h = absurd (omega arith)
in_order_low {c = suc c} o cut i h = omega (arith, o.never_fall i c (omega arith) (omega (arith, cut.within)), cut.stops c (sym (add-one c)))

-- Some number cuts them so.
pub cut_found : (m k : ℕ) (levels : List ℕ) → (c : ℕ) × CutAt m k levels c
cut_found zero k levels = (0, record { within = omega arith; high = λ i from h. absurd (omega arith); stops = λ i e. absurd (omega (arith, e)) })
cut_found (suc m) k levels = tell (dec_le (at levels m) (k + 1)) (cut_found m k levels)
  where
    tell : Dec (at levels m ≤ k + 1) → (c : ℕ) × CutAt m k levels c → (c : ℕ) × CutAt (suc m) k levels c
    tell (yes low) rest = (suc m, cut_here m (sym (add-one m)) (omega arith) low (λ j from h. absurd (omega arith)))
    tell (no high) (c, cut) = (c, record { within = omega (arith, cut.within); high = λ i from h. above i from (ℕ_discrete i m) h; stops = cut.stops })
      where
        above : (i : ℕ) → c ≤ i → Dec (i ≡ m) → i < suc m → k + 1 < at levels i
        above i from (yes e) h = omega (arith, high, ap (at levels) e)
        above i from (no d) h = cut.high i from (omega arith)

-- Those that are left are in order.
in_order_cut : {m k c : ℕ} {levels : List ℕ} → m ≤ RULES → InOrder m levels → CutAt m k levels c → InOrder c (freed_above RULES k levels)
in_order_cut {m} {k} {c} {levels} few o cut = record {
  all_held = left_held few o.all_held o.no_other cut low;
  no_other = left_free few o.all_held o.no_other cut low;
  never_fall = λ i j first h. omega (arith, stays i (omega arith), stays j h, o.never_fall i j first (omega (arith, h, cut.within)));
}
  where
    low : NoneAbove c k levels
    low = in_order_low o cut

    stays : (i : ℕ) → i < c → at (freed_above RULES k levels) i ≡ at levels i
    stays = left_cell few o.all_held o.no_other cut low

-- So after a pop.
pub in_order_popped : (n : ℕ) {t u : Tables} → t.counts.rules ≤ RULES → Popped n t u → InOrder t.counts.rules t.levels → InOrder u.counts.rules u.levels
in_order_popped n {t} {u} few p o =
    let (c, cut) = cut_found t.counts.rules (t.counts.marks - n) t.levels in
    subst (λ (w : Tables). InOrder w.counts.rules w.levels) (sym p.dropped)
    (subst (λ (x : ℕ). InOrder x (freed_above RULES (t.counts.marks - n) t.levels)) (sym (left_taken few o.all_held o.no_other cut (in_order_low o cut))) (in_order_cut few o cut))
