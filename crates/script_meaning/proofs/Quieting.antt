-- Quiet calls keep the link between the asserted terms and the rules held: they leave the rules, the marks and the steps as they were.
use native.Mathlib.Omega.{arith}
use native.Mathlib.Decide.{ℕ_discrete}
use mathlib.Core.Path.{◌≡◌, refl, sym, ◌∙◌, ap, subst}
use mathlib.Core.Logic.{◌⊎◌, inl, inr}
use Rattle.meaning.specs.Bounds.{DONE, CONFLICT}
use Rattle.meaning.specs.Rules.{Rule}
use Rattle.meaning.specs.Tables.{Tables, with_watched}
use Rattle.meaning.specs.Promise.{Given}
use Rattle.meaning.specs.Runs.{Call, Made}
use Rattle.meaning.proofs.Sequences.{Kept}
use Rattle.script_meaning.specs.Record.{Lent}
use Rattle.script_meaning.specs.Mixed.{on_tables}
use Rattle.script_meaning.specs.Traces.{History, Quiet}
use Rattle.script_meaning.proofs.Keeping.{Fine}
use Rattle.script_meaning.proofs.InForce.{InForce}

-- A quiet call leaves the tables as they were, but for a rule that is watched.
abbrev pub Quietly : Tables → Tables → Type 0
Quietly t u = (u ≡ t) ⊎ ((r : Rule) × (u ≡ with_watched r t))

-- By its number a call was carried out, met a conflict, or was refused.
by_number : (g : Given) (P : Type 0) → (g.number ≡ DONE → P) → (g.number ≡ CONFLICT → P) → ((g.number ≡ DONE → ⊥) → (g.number ≡ CONFLICT → ⊥) → P) → P
by_number g P done conflict refused = tell (ℕ_discrete g.number DONE) (ℕ_discrete g.number CONFLICT)
  where
    tell : Dec (g.number ≡ DONE) → Dec (g.number ≡ CONFLICT) → P
    tell (yes e) c = done e
    tell (no d) (yes e) = conflict e
    tell (no d) (no c) = refused d c

-- So of every quiet call, by its promise.
pub quietly : (c : Call) (t u : Tables) (g : Given) → Made c t g u → Quiet c g → Quietly t u
quietly (Call.opens n) t u g x q = by_number g (Quietly t u) (λ e. absurd (q e)) (λ e. absurd (x.on_conflict e).0) (λ d c. inl (x.when_refused d c).1)
quietly (Call.watches r) t u g x q = by_number g (Quietly t u) (λ e. inr (r, (x.when_done e).watched)) (λ e. absurd (x.on_conflict e).0) (λ d c. inl (x.when_refused d c).1)
quietly (Call.adds r l m) t u g x q =
    by_number g (Quietly t u) (λ e. absurd (q e)) (λ e. inl (x.on_conflict e).0.tables_stay) (λ d c. inl (ap (λ z. z.tables) (x.when_refused d c).1))
quietly Call.marks t u g x q = by_number g (Quietly t u) (λ e. absurd (q e)) (λ e. absurd (x.on_conflict e).0) (λ d c. inl (x.when_refused d c).1)
quietly Call.goes_back t u g x q = by_number g (Quietly t u) (λ e. absurd (q e)) (λ e. absurd (x.on_conflict e).0) (λ d c. inl (x.when_refused d c).1)
quietly (Call.withdraws i) t u g x q = by_number g (Quietly t u) (λ e. absurd (q e)) (λ e. absurd (x.on_conflict e).0) (λ d c. inl (x.when_refused d c).1)
quietly (Call.tries r l m n o) t u g x q =
    by_number g (Quietly t u) (λ e. inl (x.when_done e).tables_stay) (λ e. inl (x.on_conflict e).0.tables_stay) (λ d c. inl (ap (λ z. z.tables) (x.when_refused d c).1))
quietly (Call.asks_consequences l m n o) t u g x q =
    by_number g (Quietly t u) (λ e. inl (x.when_done e).tables_stay) (λ e. absurd (x.on_conflict e).0) (λ d c. inl (ap (λ z. z.tables) (x.when_refused d c).1))
quietly (Call.checks_ring r l m) t u g x q =
    by_number g (Quietly t u) (λ e. inl (ap (λ z. z.tables) (x.when_done e).all_stays)) (λ e. absurd (x.on_conflict e).0) (λ d c. inl (ap (λ z. z.tables) (x.when_refused d c).1))
quietly Call.asks_last_day t u g x q = by_number g (Quietly t u) (λ e. inl (x.when_done e).all_stays) (λ e. absurd (x.on_conflict e).0) (λ d c. inl (x.when_refused d c).1)

-- Sound tables with as many steps and marks leave sound what is lent.
on_tables_fine : (t : Tables) (l : Lent) → Fine l → Kept t → t.counts.steps ≡ l.tables.counts.steps → t.counts.marks ≡ l.tables.counts.marks → Fine (on_tables t l)
on_tables_fine t l f k steps marks = record {
  room = record { tables_room = k.room; names_room = f.room.names_room; lens_room = f.room.lens_room };
  sound = record {
    tables_sound = k.sound;
    all_steps = steps ∙ f.sound.all_steps;
    names_in = f.sound.names_in;
    names_short = f.sound.names_short;
    names_in_form = f.sound.names_in_form;
    names_different = f.sound.names_different;
    level_open = omega (arith, f.sound.level_open, marks);
    no_sat = f.sound.no_sat;
  };
}

-- **A quiet call** keeps the link.
pub quiet_in_force : (l : Lent) (h : History) (t : Tables) → InForce l h → Kept t → Quietly l.tables t → InForce (on_tables t l) h
quiet_in_force l h t i k (inl is) = subst (λ (x : Tables). InForce (on_tables x l) h) (sym is) i
quiet_in_force l h t i k (inr (r, is)) = subst (λ (x : Tables). InForce (on_tables x l) h) (sym is) watched
  where
    watched : InForce (on_tables (with_watched r l.tables) l) h
    watched = record {
      fine = on_tables_fine (with_watched r l.tables) l i.fine (subst Kept is k) refl refl;
      as_many = i.as_many;
      declared = i.declared;
      exact = i.exact;
      none = i.none;
    }
