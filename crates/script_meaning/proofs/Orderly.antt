-- Rules in order: where they were so before a command that is carried out, they are so after it. A whole script begins with no rule, so its rules are always in order.
use Prim.Native.Nat.{ℕ, ◌+◌, ◌≤◌}
use native.Mathlib.Omega.{arith}
use mathlib.Core.Path.{◌≡◌, sym, ap, subst}
use mathlib.Core.Bool.{Bool, false}
use mathlib.Core.List.{List, [], ◌∷◌, map}
use mathlib.Core.Logic.{inl, inr}
use lib.ListN.{length}
use Rattle.meaning.specs.Bounds.{RULES, DONE}
use Rattle.meaning.specs.Rules.{Rule, InBounds}
use Rattle.meaning.specs.Tables.{Tables}
use Rattle.meaning.specs.Promise.{First}
use Rattle.meaning.proofs.Sequences.{Kept}
use Rattle.reading.specs.Tree.{said_by, rules_of_term, Command}
use Rattle.reading.specs.Reading.{Why, Read}
use Rattle.reading.specs.Saying.{resolved}
use Rattle.levels.specs.Levels.{InOrder}
use Rattle.levels.proofs.Ordering.{in_order_none, in_order_rule, in_order_popped}
use Rattle.script_meaning.specs.Record.{Lent, step_of}
use Rattle.script_meaning.specs.Effect.{Does, Changes, HeldNow, AddsAll}
use Rattle.script_meaning.specs.Commands.{read_needs}
use Rattle.script_meaning.specs.Whole.{Fresh}
use Rattle.script_meaning.proofs.Granted.{assert_met}
use Rattle.script_meaning.proofs.Adding.{Each, holds_kept}
use Rattle.script_meaning.proofs.Keeping.{Fine, tables_kept, rules_in, map_length}

-- The rules of the tables are in order.
abbrev pub Orderly : Tables → Type 0
Orderly t = InOrder t.counts.rules t.levels

-- At the start there is none.
pub fresh_orderly : (l : Lent) → Fresh l → Orderly l.tables
fresh_orderly l f = subst (λ (n : ℕ). InOrder n l.tables.levels) (sym (ap (λ c. c.rules) f.counts_are)) (in_order_none f.all_free)

-- With one rule more.
pub holds_orderly : (r : Rule) (t u : Tables) → Kept t → t.counts.rules + 1 ≤ RULES → HeldNow r t u → Orderly t → Orderly u
holds_orderly r t u k few h o = subst Orderly (sym h.rule_held) (in_order_rule r (record { room = k.room; sound = k.sound }) (omega arith) o)

-- With rules added one after the other.
pub adds_orderly :
    (l : List Rule) (t u : Tables) (clash : Bool) → Kept t → Each (InBounds t.counts.steps) l → t.counts.rules + length l ≤ RULES → AddsAll l t clash u → Orderly t → Orderly u
adds_orderly [] t u clash k good room (is, fine) o = subst Orderly (sym is) o
adds_orderly (r ∷ l) t u clash k good room (inl (unfit, (is, clashes))) o = subst Orderly (sym is) o
adds_orderly (r ∷ l) t u clash k (here, there) room (inr (v, (h, rest))) o =
    let steps : v.counts.steps ≡ t.counts.steps = ap (λ (z : Tables). z.counts.steps) h.rule_held in
    let rules : v.counts.rules ≡ t.counts.rules + 1 = ap (λ (z : Tables). z.counts.rules) h.rule_held in
    adds_orderly l v u clash (holds_kept r t v k here (omega arith) h) (subst (λ (n : ℕ). Each (InBounds n) l) (sym steps) there) (omega (arith, rules)) rest
    (holds_orderly r t v k (omega arith) h o)

-- **Every command** that is carried out leaves the rules in order: so does every change that is made.
changes_orderly : (r : Read Command) (l m : Lent) → Fine l → First (read_needs r l) DONE → Changes r l m → Orderly l.tables → Orderly m.tables
changes_orderly (Read.got Command.set_logic e) l m f met is o = subst (λ (x : Lent). Orderly x.tables) (sym is) o
changes_orderly (Read.got Command.check_sat e) l m f met is o = subst (λ (x : Lent). Orderly x.tables) (sym is) o
changes_orderly (Read.got Command.exit e) l m f met is o = subst (λ (x : Lent). Orderly x.tables) (sym is) o
changes_orderly (Read.got (Command.declare w) e) l m f met is o = subst (λ (x : Lent). Orderly x.tables) (sym is) o
changes_orderly (Read.got (Command.assert t) e) l m f met (inl (some, is)) o = subst (λ (x : Lent). Orderly x.tables) (sym is) o
changes_orderly (Read.got (Command.assert t) e) l m f met (inr (none, (u, (clash, (adds, is))))) o =
    let rs = rules_of_term false t in
    let granted = assert_met t l met in
    subst (λ (x : Lent). Orderly x.tables) (sym is)
    (adds_orderly (map (resolved (step_of l)) rs) l.tables u clash (tables_kept f) (rules_in l f rs granted.0)
    (omega (arith, granted.1 none, map_length (step_of l) rs)) adds o)
changes_orderly (Read.got (Command.push n) e) l m f met is o = subst (λ (x : Lent). Orderly x.tables) (sym is) o
changes_orderly (Read.got (Command.pop n) e) l m f met (t, (p, is)) o =
    subst (λ (x : Lent). Orderly x.tables) (sym is) (in_order_popped (said_by n) f.sound.tables_sound.counts_in.rules_in p o)
changes_orderly (Read.got (Command.get_value ws) e) l m f met is o = subst (λ (x : Lent). Orderly x.tables) (sym is) o
changes_orderly (Read.stop Why.other i) l m f met is o = subst (λ (x : Lent). Orderly x.tables) (sym is) o
changes_orderly (Read.stop Why.wrong i) l m f met impossible o = absurd impossible
changes_orderly (Read.stop Why.size i) l m f met impossible o = absurd impossible

pub does_orderly :
    (r : Read Command) (k w : ℕ) (l m : Lent) → Fine l → First (read_needs r l) DONE → Does r k l w m → Orderly l.tables → Orderly m.tables
does_orderly r k w l m f met (mid, (changes, (w-is, is))) o = subst (λ (x : Lent). Orderly x.tables) (sym is) (changes_orderly r l mid f met changes o)
