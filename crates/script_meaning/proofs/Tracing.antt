-- **Whole sequences of commands**: what is asserted is satisfiable exactly when no level counts as contradictory, and then the days are its earliest plan.
use mathlib.Core.Path.{◌≡◌}
use mathlib.Core.Logic.{◌↔◌}
use Rattle.meaning.proofs.Sequences.{call_keeps}
use Rattle.script_meaning.specs.Record.{Lent}
use Rattle.script_meaning.specs.Traces.{History, Satisfiable, Soonest, Traced}
use Rattle.script_meaning.proofs.Keeping.{tables_kept}
use Rattle.script_meaning.proofs.InForce.{InForce, fresh_in_force}
use Rattle.script_meaning.proofs.Commanding.{bytes_in_force, command_in_force}
use Rattle.script_meaning.proofs.Quieting.{quietly, quiet_in_force}
use Rattle.script_meaning.proofs.Planning.{plan_of, clean_if, soonest_if, satisfiable_if}

-- After any sequence of commands the rules held are those of the asserted terms, level by level.
pub traced_in_force : (l : Lent) (h : History) → Traced l h → InForce l h
traced_in_force l h (Traced.fresh _ f) = fresh_in_force l f
traced_in_force m j (Traced.carried_out l h t text k w _ met does) = command_in_force text k w l m h (traced_in_force l h t) met does
traced_in_force m h (Traced.quiet_call l _ t c g u made quiet) =
    let i = traced_in_force l h t in
    quiet_in_force l h u i (call_keeps c l.tables u g made (tables_kept i.fine)) (quietly c l.tables u g made quiet)
traced_in_force m h (Traced.other_bytes l _ t out) = bytes_in_force l h out (traced_in_force l h t)

-- **Satisfiable exactly when no level counts as contradictory**, after any sequence of commands.
pub traced_satisfiable : (l : Lent) (h : History) → Traced l h → (l.notes.broken ≡ 0) ↔ Satisfiable h
traced_satisfiable l h t = let i = traced_in_force l h t in (satisfiable_if l h i, clean_if l h i)

-- **The days are the earliest plan** of what is asserted, where that is satisfiable.
pub traced_soonest : (l : Lent) (h : History) → Traced l h → Satisfiable h → Soonest h (plan_of l)
traced_soonest l h t sat = let i = traced_in_force l h t in soonest_if l h i (clean_if l h i sat)
