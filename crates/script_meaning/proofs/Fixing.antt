-- Any two outcomes that the promise of a script call allows on the same input are equal.
use Prim.Native.Nat.{ℕ}
use mathlib.Core.Path.{◌≡◌, refl, sym, ◌∙◌, ap, subst}
use mathlib.Core.Bool.{Bool, false}
use mathlib.Core.List.{List, [], ◌∷◌, map}
use mathlib.Core.Logic.{inl, inr}
use Rattle.meaning.specs.Bounds.{STEPS, RULES}
use Rattle.meaning.specs.Rules.{Rule}
use Rattle.meaning.specs.Tables.{Tables, opened, with_rule, with_days}
use Rattle.meaning.specs.Promise.{Given, Obeys}
use Rattle.meaning.proofs.Theory.{earliest_unique}
use Rattle.meaning.proofs.Lists.{past_same}
use Rattle.meaning.proofs.Determined.{Same, Fixed, determined}
use Rattle.reading.specs.Tree.{said_by, rules_of_term, Command}
use Rattle.reading.specs.Reading.{Why, Read, reading}
use Rattle.reading.specs.Saying.{resolved}
use Rattle.levels.proofs.Laws.{popped_same}
use Rattle.script_meaning.specs.Record.{Lent, step_of}
use Rattle.script_meaning.specs.Effect.{Does, Changes, prints, HeldNow, AddsAll, with_tables, with_printed, broken_after, broken_left}
use Rattle.script_meaning.specs.Commands.{command_meaning, start_meaning}

-- A rule that fits leaves one thing only.
holds_same : (r : Rule) (t u v : Tables) → HeldNow r t u → HeldNow r t v → u ≡ v
holds_same r t u v a b = a.rule_held ∙ ap (λ (days : List ℕ). with_days days (with_rule r t)) days ∙ sym b.rule_held
  where
    days : u.days ≡ v.days
    days =
        past_same t.counts.steps t.days u.days v.days a.planned.past b.planned.past
        (λ w w-in. earliest_unique a.planned.earliest b.planned.earliest w w-in)

-- Rules added one after the other leave one thing only.
adds_same : (l : List Rule) (t u v : Tables) (x y : Bool) → AddsAll l t x u → AddsAll l t y v → (u ≡ v) × (x ≡ y)
adds_same [] t u v x y (u-is, x-is) (v-is, y-is) = (u-is ∙ sym v-is, x-is ∙ sym y-is)
adds_same (r ∷ l) t u v x y (inl (unfit, (u-is, x-is))) (inl (unfit', (v-is, y-is))) = (u-is ∙ sym v-is, x-is ∙ sym y-is)
adds_same (r ∷ l) t u v x y (inl (unfit, is)) (inr (t', (held, rest))) = absurd (unfit held.fits)
adds_same (r ∷ l) t u v x y (inr (t', (held, rest))) (inl (unfit, is)) = absurd (unfit held.fits)
adds_same (r ∷ l) t u v x y (inr (a, (held, rest))) (inr (b, (held', rest'))) =
    adds_same l b u v x y (subst (λ (z : Tables). AddsAll l z x u) (holds_same r t a b held held') rest) rest'

-- Every command changes one thing only, and does one thing only.
changes_same : (r : Read Command) (l a b : Lent) → Changes r l a → Changes r l b → a ≡ b
changes_same (Read.got Command.set_logic e) l a b a-is b-is = a-is ∙ sym b-is
changes_same (Read.got Command.check_sat e) l a b a-is b-is = a-is ∙ sym b-is
changes_same (Read.got Command.exit e) l a b a-is b-is = a-is ∙ sym b-is
changes_same (Read.got (Command.declare w) e) l a b a-is b-is = a-is ∙ sym b-is
changes_same (Read.got (Command.assert t) e) l a b (inl (some, a-is)) (inl (some', b-is)) = a-is ∙ sym b-is
changes_same (Read.got (Command.assert t) e) l a b (inl (some, a-is)) (inr (none, rest)) = absurd (some none)
changes_same (Read.got (Command.assert t) e) l a b (inr (none, rest)) (inl (some, b-is)) = absurd (some none)
changes_same (Read.got (Command.assert t) e) l a b (inr (none, (u, (x, (adds, a-is))))) (inr (none', (v, (y, (adds', b-is))))) =
    let same = adds_same (map (resolved (step_of l)) (rules_of_term false t)) l.tables u v x y adds adds' in
    a-is ∙ ap (λ (z : Tables). with_tables z (broken_after x z) l) same.0 ∙ ap (λ (z : Bool). with_tables v (broken_after z v) l) same.1 ∙ sym b-is
changes_same (Read.got (Command.push n) e) l a b a-is b-is = a-is ∙ sym b-is
changes_same (Read.got (Command.pop n) e) l a b (t, (p, a-is)) (u, (q, b-is)) =
    a-is ∙ ap (λ (z : Tables). with_tables z (broken_left l.notes.broken z) l) (popped_same (said_by n) p q) ∙ sym b-is
changes_same (Read.got (Command.get_value ws) e) l a b a-is b-is = a-is ∙ sym b-is
changes_same (Read.stop Why.other i) l a b a-is b-is = a-is ∙ sym b-is
changes_same (Read.stop Why.wrong i) l a b impossible other = absurd impossible
changes_same (Read.stop Why.size i) l a b impossible other = absurd impossible

pub does_same : (r : Read Command) (k : ℕ) (before : Lent) (w v : ℕ) (after other : Lent) → Does r k before w after → Does r k before v other → (w ≡ v) × (after ≡ other)
does_same r k l w v a b (x, (changes, (w-is, a-is))) (y, (changes', (v-is, b-is))) =
    (w-is ∙ sym v-is, a-is ∙ ap (with_printed k (prints r l)) (changes_same r l x y changes changes') ∙ sym b-is)

pub command_fixed : (text : List ℕ) (l : Lent) → Fixed (command_meaning text l)
command_fixed text l a b c d after other x y =
    let same = does_same (reading text) 0 l b d after other x.done y.done in
    (x.bytes_read ∙ sym y.bytes_read, same.0, same.1)

-- **Determined**: the answer of a command and all that is lent after it.
pub command_determined :
    (text : List ℕ) (l : Lent) (g h : Given) (after other : Lent) → Obeys (command_meaning text l) l g after → Obeys (command_meaning text l) l h other → Same g h after other
command_determined text l g h after other x y = determined (command_meaning text l) l g h after other x y (command_fixed text l) (λ a s none. none)

pub start_fixed : (l : Lent) → Fixed (start_meaning l)
start_fixed l a b c d after other x y = (
  x.opened.no_values.0 ∙ sym y.opened.no_values.0,
  x.opened.no_values.1 ∙ sym y.opened.no_values.1,
  rw (tables_same, x.emptied ∙ sym y.emptied, x.names_stay ∙ sym y.names_stay, x.lens_stay ∙ sym y.lens_stay, x.out_stays ∙ sym y.out_stays) refl,
)
  where
    days : after.tables.days ≡ other.tables.days
    days = past_same STEPS l.tables.days after.tables.days other.tables.days x.opened.past y.opened.past (λ v h. x.opened.day_0 v h ∙ sym (y.opened.day_0 v h))

    levels : after.tables.levels ≡ other.tables.levels
    levels =
        past_same RULES l.tables.levels after.tables.levels other.tables.levels x.opened.past_levels y.opened.past_levels
        (λ i h. x.opened.all_free i h ∙ sym (y.opened.all_free i h))

    tables_same : after.tables ≡ other.tables
    tables_same = x.opened.emptied ∙ (λ i. with_days (days i) (opened STEPS (levels i) l.tables)) ∙ sym y.opened.emptied

-- **Determined**: the answer of a start and all that is lent after it.
pub start_determined : (l : Lent) (g h : Given) (after other : Lent) → Obeys (start_meaning l) l g after → Obeys (start_meaning l) l h other → Same g h after other
start_determined l g h after other x y = determined (start_meaning l) l g h after other x y (start_fixed l) (λ a s none. none)
