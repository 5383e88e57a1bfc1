-- What follows from the link: under a contradictory level what is asserted holds under no days, and without one the days of the steps are its earliest plan.
use Prim.Native.Nat.{ℕ, zero, suc, ◌-◌, ◌≤◌, ◌<◌}
use native.Mathlib.Omega.{arith}
use native.Mathlib.Decide.{dec_lt}
use mathlib.Core.Path.{◌≡◌, refl, sym, ap}
use mathlib.Core.Bool.{cond}
use mathlib.Core.List.{List}
use lib.Dec.{ltb}
use lib.IntN.{ℤ, pos}
use borrow.Author.Tests.{lt-ltb, le-ltb}
use Rattle.meaning.specs.Tables.{at}
use Rattle.reading.specs.Tree.{Piece}
use Rattle.script_meaning.specs.Record.{Lent, name_of, Known, step_of}
use Rattle.script_meaning.specs.Effect.{shown, day_of, values}
use Rattle.script_meaning.specs.Traces.{History, Agrees, Satisfiable, Soonest}
use Rattle.script_meaning.proofs.Seeking.{known_name}
use Rattle.script_meaning.proofs.Needed.{EachName}
use Rattle.script_meaning.proofs.Printing.{shown_same}
use Rattle.script_meaning.proofs.Named.{agrees_too, agrees_drop}
use Rattle.script_meaning.proofs.InForce.{InForce, by_name, all_exact}

-- The day of each name in the plan: that of its step. A name that is not declared has day 0.
abbrev pub plan_of : Lent → List ℕ → ℕ
plan_of l w = cond (ltb (step_of l w) l.notes.names) (at l.tables.days (step_of l w)) 0

-- A declared name has the day of its step.
pub plan_known : (l : Lent) (w : List ℕ) → Known l w → plan_of l w ≡ at l.tables.days (step_of l w)
plan_known l w known = rw (lt-ltb (step_of l w) l.notes.names known) refl

-- So the values of declared names, as `get_value` prints them, are their days in the plan.
pub values_shown : (l : Lent) (ws : List Piece) → EachName (Known l) ws → values (step_of l) l.tables.days ws ≡ shown (plan_of l) ws
values_shown l = shown_same (day_of (step_of l) l.tables.days) (plan_of l) (Known l) (λ w known. sym (plan_known l w known))

module _ (l : Lent) (h : History) (i : InForce l h) where
  -- The days d, step by step: each step has the day of the name that stands for it.
  by_step : (List ℕ → ℤ) → ℕ → ℤ
  by_step d v = d (name_of l v)

  -- Days under which all that is asserted holds, step by step.
  agrees_by_step : (d : List ℕ → ℤ) → Agrees d h → Agrees (by_name l (by_step d)) h
  unfolding by_step
  agrees_by_step d = agrees_too (Known l) d (by_name l (by_step d)) (λ w known. ap d (sym (known_name l.names l.lens w l.notes.names known))) h i.declared

  -- **Never under a contradictory level**: what is asserted then holds under no days.
  pub clean_if : Satisfiable h → l.notes.broken ≡ 0
  clean_if sat = tell l.notes.broken refl
    where
      tell : (b : ℕ) → l.notes.broken ≡ b → l.notes.broken ≡ 0
      tell zero is = is
      tell (suc b) is =
          let k = l.tables.counts.marks - b in
          let deep = i.fine.sound.level_open in
          absurd
          (i.none k b (omega (arith, deep, is)) (omega (arith, is)) (by_step sat.days)
          (agrees_drop (by_name l (by_step sat.days)) k h (agrees_by_step sat.days sat.agrees)))

  -- **The earliest plan**: where no level counts as contradictory, the days of the steps are the earliest plan of what is asserted.
  pub soonest_if : l.notes.broken ≡ 0 → Soonest h (plan_of l)
  unfolding by_step
  soonest_if clean = record {
    agrees =
        agrees_too (Known l) (by_name l (λ v. pos (at l.tables.days v))) (λ w. pos (plan_of l w)) (λ w known. ap pos (sym (plan_known l w known))) h i.declared
        ((all_exact l h i clean (λ v. pos (at l.tables.days v))).0 i.fine.sound.tables_sound.days_earliest.plan);
    no_later = λ q agrees w. tell q agrees w (dec_lt (step_of l w) l.notes.names);
  }
    where
      tell : (q : List ℕ → ℕ) → Agrees (λ w. pos (q w)) h → (w : List ℕ) → Dec (step_of l w < l.notes.names) → plan_of l w ≤ q w
      tell q agrees w (yes known) =
          let kept = (all_exact l h i clean (λ v. pos (q (name_of l v)))).1 (agrees_by_step (λ x. pos (q x)) agrees) in
          omega (
            arith,
            plan_known l w known,
            i.fine.sound.tables_sound.days_earliest.no_later (λ v. q (name_of l v)) kept (step_of l w) (omega (arith, known, i.fine.sound.names_in, i.fine.sound.all_steps)),
            ap q (known_name l.names l.lens w l.notes.names known),
          )
      tell q agrees w (no unknown) = rw (le-ltb (step_of l w) l.notes.names (omega arith)) (omega arith)

  -- So it is satisfiable then.
  pub satisfiable_if : l.notes.broken ≡ 0 → Satisfiable h
  satisfiable_if clean = record { days = λ w. pos (plan_of l w); agrees = (soonest_if clean).agrees }
