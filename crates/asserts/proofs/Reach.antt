-- Which steps the rules speak of, as rules are added.
use Prim.Native.Nat.{ℕ, ◌+◌, ◌≤◌, ◌<◌}
use native.Mathlib.Omega.{arith}
use mathlib.Core.Path.{sym, ap, subst}
use mathlib.Core.Bool.{Bool}
use mathlib.Core.List.{List, [], ◌∷◌}
use mathlib.Core.Logic.{inl, inr}
use lib.ListN.{length}
use Rattle.meaning.specs.Bounds.{RULES}
use Rattle.meaning.specs.Rules.{Rule, InSteps, InBounds, plus}
use Rattle.meaning.specs.Tables.{Tables, rule_at, held, next, put}
use Rattle.meaning.proofs.Places.{next_free, next_below, with_rule_held}
use Rattle.meaning.proofs.Put.{put_new, put_old}
use Rattle.meaning.proofs.Sequences.{Kept}
use Rattle.script_meaning.specs.Effect.{HeldNow, AddsAll}
use Rattle.script_meaning.proofs.Adding.{Each, holds_kept}
use Rattle.asserts.specs.Within.{Within}

-- What is within bounds over e steps is so over more.
pub wider : (e n : ℕ) → e ≤ n → (r : Rule) → InBounds e r → InBounds n r
wider e n fewer r good = record {
  steps_in = record { first_in = omega (arith, fewer, good.steps_in.first_in); second_in = omega (arith, fewer, good.steps_in.second_in) };
  amount_in = good.amount_in;
}

-- The rules held of these tables speak of steps below e alone.
abbrev pub AllWithin : ℕ → Tables → Type 0
AllWithin e t = Within e t.counts t.levels t.rules

-- One rule more, which speaks of such steps alone.
pub held_within : (e : ℕ) (r : Rule) (t u : Tables) → Kept t → t.counts.rules < RULES → InSteps e r → AllWithin e t → HeldNow r t u → AllWithin e u
held_within e r t u kept room new w h =
    subst (AllWithin e) (sym h.rule_held) (record { steps_there = w.steps_there; rules_within = λ i there. tell i ((with_rule_held r t i kept.room below).0 there) })
  where
    below : next t < RULES
    below = next_below t kept.sound room

    tell : (i : ℕ) → plus (held t) (next t) i → InSteps e (rule_at (put t.rules (next t) r) i)
    tell i (inl same) =
        subst (λ (j : ℕ). InSteps e (rule_at (put t.rules (next t) r) j)) (sym same)
        (subst (InSteps e) (sym (put_new t.rules (next t) RULES r kept.room.rules_room below)) new)
    tell i (inr older) = subst (InSteps e) (sym (put_old t.rules (next t) r i (λ same. next_free t (subst (held t) same older)))) (w.rules_within i older)

-- Rules added one after the other.
pub added_within :
    (e : ℕ) (l : List Rule) (t u : Tables) (clash : Bool) → Kept t → Each (InBounds e) l → t.counts.rules + length l ≤ RULES → AllWithin e t → AddsAll l t clash u → AllWithin e u
added_within e [] t u clash k good room w (is, fine) = subst (AllWithin e) (sym is) w
added_within e (r ∷ l) t u clash k good room w (inl (unfit, (is, clashes))) = subst (AllWithin e) (sym is) w
added_within e (r ∷ l) t u clash k (here, there) room w (inr (v, (h, rest))) =
    added_within e l v u clash (holds_kept r t v k (wider e t.counts.steps w.steps_there r here) (omega arith) h) there
    (omega (arith, ap (λ (x : Tables). x.counts.rules) h.rule_held)) (held_within e r t v k (omega arith) here.steps_in w h) rest
