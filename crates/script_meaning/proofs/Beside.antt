-- No command reads or writes a watched rule: what it does, it does whatever is watched.
use Prim.Native.Nat.{ℕ}
use mathlib.Core.Path.{◌≡◌, refl, sym, ◌∙◌, ap}
use mathlib.Core.Bool.{Bool, false}
use mathlib.Core.List.{List, [], ◌∷◌, map}
use mathlib.Core.Logic.{inl, inr}
use lib.ListN.{length}
use Rattle.meaning.specs.Rules.{Rule}
use Rattle.meaning.specs.Tables.{Columns, Tables}
use Rattle.lent.specs.Idle.{watching}
use Rattle.reading.specs.Tree.{said_by, Named, rules_of_term, Command}
use Rattle.reading.specs.Reading.{Why, Read}
use Rattle.reading.specs.Saying.{resolved}
use Rattle.levels.specs.Levels.{Popped}
use Rattle.script_meaning.specs.Record.{Lent, step_of}
use Rattle.script_meaning.specs.Effect.{HeldNow, AddsAll, Asserts, with_printed, prints, Changes, Does}
use Rattle.script_meaning.specs.Mixed.{on_tables}

-- What is lent, with other watched rules.
abbrev pub lent_watching : Columns → Lent → Lent
lent_watching w l = on_tables (watching w l.tables) l

module _ (w : Columns) where
  pub holds_watching : {r : Rule} {t u : Tables} → HeldNow r t u → HeldNow r (watching w t) (watching w u)
  holds_watching h = record { fits = h.fits; rule_held = ap (watching w) h.rule_held; planned = h.planned }

  pub adds_watching : (rs : List Rule) (t : Tables) (clash : Bool) (u : Tables) → AddsAll rs t clash u → AddsAll rs (watching w t) clash (watching w u)
  adds_watching [] t clash u (same, none) = (ap (watching w) same, none)
  adds_watching (r ∷ rs) t clash u (inl (unfit, (same, is))) = inl (unfit, (ap (watching w) same, is))
  adds_watching (r ∷ rs) t clash u (inr (v, (held, rest))) = inr (watching w v, (holds_watching held, adds_watching rs v clash u rest))

  pub popped_watching : (n : ℕ) {t u : Tables} → Popped n t u → Popped n (watching w t) (watching w u)
  popped_watching n p = record { dropped = ap (watching w) p.dropped; planned = p.planned }

  asserts_watching : (rs : List Named) (before after : Lent) → Asserts rs before after → Asserts rs (lent_watching w before) (lent_watching w after)
  asserts_watching rs before after (inl (some, is)) = inl (some, ap (lent_watching w) is)
  asserts_watching rs before after (inr (none, (t, (clash, (adds, is))))) =
      inr (none, (watching w t, (clash, (adds_watching (map (resolved (step_of before)) rs) before.tables clash t adds, ap (lent_watching w) is))))

  changes_watching : (r : Read Command) (before after : Lent) → Changes r before after → Changes r (lent_watching w before) (lent_watching w after)
  changes_watching (Read.got Command.set_logic e) before after is = ap (lent_watching w) is
  changes_watching (Read.got Command.check_sat e) before after is = ap (lent_watching w) is
  changes_watching (Read.got Command.exit e) before after is = ap (lent_watching w) is
  changes_watching (Read.got (Command.declare x) e) before after is = ap (lent_watching w) is
  changes_watching (Read.got (Command.assert t) e) before after adds = asserts_watching (rules_of_term false t) before after adds
  changes_watching (Read.got (Command.push j) e) before after is = ap (lent_watching w) is
  changes_watching (Read.got (Command.pop j) e) before after (t, (dropped, is)) = (watching w t, (popped_watching (said_by j) dropped, ap (lent_watching w) is))
  changes_watching (Read.got (Command.get_value ws) e) before after is = ap (lent_watching w) is
  changes_watching (Read.stop Why.other i) before after is = ap (lent_watching w) is
  changes_watching (Read.stop Why.wrong i) before after none = none
  changes_watching (Read.stop Why.size i) before after none = none

  prints_watching : (r : Read Command) (l : Lent) → prints r (lent_watching w l) ≡ prints r l
  prints_watching (Read.got Command.set_logic e) l = refl
  prints_watching (Read.got Command.check_sat e) l = refl
  prints_watching (Read.got Command.exit e) l = refl
  prints_watching (Read.got (Command.declare x) e) l = refl
  prints_watching (Read.got (Command.assert t) e) l = refl
  prints_watching (Read.got (Command.push j) e) l = refl
  prints_watching (Read.got (Command.pop j) e) l = refl
  prints_watching (Read.got (Command.get_value ws) e) l = refl
  prints_watching (Read.stop why i) l = refl

  -- **A command does with any watched rules what it does with some.**
  pub does_watching : (r : Read Command) (k : ℕ) (before : Lent) (n : ℕ) (after : Lent) → Does r k before n after → Does r k (lent_watching w before) n (lent_watching w after)
  does_watching r k before n after (mid, (changes, (count, is))) =
      let same = prints_watching r before in (
        lent_watching w mid,
        (
          changes_watching r before mid changes,
          (count ∙ ap length (sym same), ap (lent_watching w) is ∙ ap (λ (b : List ℕ). with_printed k b (lent_watching w mid)) (sym same)),
        ),
      )
