-- The chains after a rule was added: the new rule's first step stands under its number, and the rules before it are as they were.
use Prim.Native.Nat.{ℕ, ◌<◌}
use native.Mathlib.Omega.{arith}
use mathlib.Core.Path.{◌≡◌, sym, ap, ◌∙◌, subst}
use mathlib.Core.List.{List}
use lib.ListN.{length, set, length-set}
use lib.Seq.{get_or-set_same, get_or-set_other}
use Rattle.meaning.specs.Bounds.{RULES}
use Rattle.meaning.specs.Rules.{Rule, InBounds, plus}
use Rattle.meaning.specs.Tables.{Tables, at, held, next, with_rule}
use Rattle.meaning.proofs.Places.{next_free, next_below, with_rule_held}
use Rattle.chains.specs.Chains.{linked, Amendable, ChainsNow, LentChains}
use Rattle.chains.proofs.Laws.{lent_agree}
use Rattle.chains.proofs.Amending.{lent_now}
use Rattle.chains.proofs.Holding.{plus_same}
use Rattle.lent.specs.Lent.{held_by}
use Rattle.lent.specs.Promises.{Border}
use Rattle.script_meaning.specs.Effect.{HeldNow}

-- The tables t before the rule r was added, and u after it.
module _
    (r : Rule) (t u : Tables) (now-held : HeldNow r t u) (heads nexts : List ℕ) (border : Border t) (good : InBounds t.counts.steps r) (room : t.counts.rules < RULES)
    (chains : LentChains t.counts.steps (held t) t.rules.firsts heads nexts) where
  firsts_are : u.rules.firsts ≡ set t.rules.firsts (next t) r.first
  firsts_are = ap (λ (v : Tables). v.rules.firsts) now-held.rule_held

  levels_are : u.levels ≡ (with_rule r t).levels
  levels_are = ap (λ (v : Tables). v.levels) now-held.rule_held

  below : next t < RULES
  below = next_below t border.sound room

  new_first : at u.rules.firsts (next t) ≡ r.first
  new_first =
      ap (λ (l : List ℕ). at l (next t)) firsts_are
      ∙ get_or-set_same t.rules.firsts (next t) r.first 0 (omega (arith, below, border.room.rules_room.firsts_room))

  older_same : (k : ℕ) → held t k → at u.rules.firsts k ≡ at t.rules.firsts k
  older_same k there =
      ap (λ (l : List ℕ). at l k) firsts_are
      ∙ get_or-set_other t.rules.firsts (next t) k r.first 0 (λ e. next_free t (subst (held t) e there))

  -- The new rule can be put on its chain.
  pub amendable : Amendable t.counts.steps (next t) u.rules.firsts heads nexts
  amendable = record {
    chained = (lent_agree t.counts.steps (held t) (held t) t.rules.firsts u.rules.firsts heads nexts (λ k h. h) (λ k h. h) older_same chains).chained;
    heads_room = chains.heads_room;
    nexts_room = chains.nexts_room;
    number_in = below;
    first_place = omega (arith, below, border.room.rules_room.firsts_room, ap length firsts_are, length-set t.rules.firsts (next t) r.first);
    first_in = omega (arith, new_first, good.steps_in.first_in);
  }

  -- With the rule on its chain there are chains of all rules held now.
  pub chains_inserted :
      (heads' nexts' : List ℕ) → length heads' ≡ length heads → length nexts' ≡ length nexts →
      ChainsNow t.counts.steps (plus (linked nexts) (next t)) u.rules.firsts heads' nexts' →
      LentChains u.counts.steps (held_by u.levels) u.rules.firsts heads' nexts'
  chains_inserted heads' nexts' heads_long nexts_long now_on =
      rw (ap (λ (v : Tables). v.counts.steps) now-held.rule_held)
      (lent_now t.counts.steps (plus (linked nexts) (next t)) (held_by u.levels) u.rules.firsts heads' nexts'
      (λ i on. subst (λ (l : List ℕ). held_by l i) (sym levels_are) ((with_rule_held r t i border.room below).1 (plus_same (next t) chains.only i on)))
      (λ i there. plus_same (next t) chains.on i ((with_rule_held r t i border.room below).0 (subst (λ (l : List ℕ). held_by l i) levels_are there)))
      (omega (arith, heads_long, chains.heads_room)) (omega (arith, nexts_long, chains.nexts_room)) now_on)
