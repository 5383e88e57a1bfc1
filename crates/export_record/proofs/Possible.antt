-- Every input of start and of command over C's record has an outcome that its promise allows: the one over what is seen of the record, told as a record again; and where a flag does
-- not fit, a refusal.
use Prim.Native.Nat.{ℕ}
use native.Mathlib.Omega.{arith}
use native.Mathlib.Decide.{ℕ_discrete}
use mathlib.Core.Path.{◌≡◌, refl, sym, subst}
use mathlib.Core.Bool.{cond}
use mathlib.Core.List.{List}
use mathlib.Core.Logic.{inl, inr}
use Rattle.meaning.specs.Bounds.{DONE, SHORT, DAMAGED}
use Rattle.meaning.specs.Promise.{Meaning, First}
use Rattle.meaning.proofs.Possible.{Outcome, allowed_outcome, refusal_met}
use Rattle.script_meaning.specs.declared.Notes.{Notes}
use Rattle.script_meaning.specs.Record.{Lent, ScriptRoom}
use Rattle.script_meaning.specs.Commands.{start_meaning, command_meaning}
use Rattle.script_meaning.proofs.Decided.{script_room?}
use Rattle.script_meaning.proofs.Possible.{start_possible, command_possible}
use Rattle.export_record.specs.declared.Record.{Record}
use Rattle.export_record.specs.Records.{FlagsFit, LentByC, seen, Fitting, start_by_c, command_by_c}
use Rattle.export_record.proofs.Keeping.{told_fits, told_says, fitting}
use Rattle.export_record.proofs.Mixing.{flags_fit?}

-- What is lent, with a record that says the notes.
recorded : Notes → Record
recorded n = record { names = n.names; logic = cond n.logic 1 0; broken = n.broken; sat = cond n.sat 1 0 }

by_c : Lent → LentByC
by_c l = record { tables = l.tables; kept = recorded l.notes; names = l.names; lens = l.lens; out = l.out }

by_c_fits : (l : Lent) → FlagsFit (by_c l).kept
unfolding by_c recorded
by_c_fits l = told_fits l.notes (cond l.notes.logic 1 0) (cond l.notes.sat 1 0) refl refl

by_c_seen : (l : Lent) → seen (by_c l) ≡ l
unfolding by_c recorded
by_c_seen l i = record { tables = l.tables; notes = told_says l.notes (cond l.notes.logic 1 0) (cond l.notes.sat 1 0) refl refl i; names = l.names; lens = l.lens; out = l.out }

-- A call that needs no more over the record than over what is seen of it has an outcome where that one has.
over_record :
    (l : LentByC) (m : Meaning Lent) (n : Meaning LentByC) → ((g : ℕ) → First m.asks g → First n.asks g) → ((a b : ℕ) (s : LentByC) → Fitting m.done a b s → n.done a b s) →
    ((a : ℕ) (s : Lent) → m.conflict a s → ⊥) → Outcome m (seen l) → Outcome n l
over_record l m n first carried never x = tell (ℕ_discrete x.answer.number DONE)
  where
    tell : Dec (x.answer.number ≡ DONE) → Outcome n l
    tell (yes done) = record {
      answer = x.answer;
      after = by_c x.after;
      keeps = record {
        first_unmet = first x.answer.number x.keeps.first_unmet;
        when_done = λ e. carried x.answer.one x.answer.two (by_c x.after) (record {
          as_meant = subst (m.done x.answer.one x.answer.two) (sym (by_c_seen x.after)) (x.keeps.when_done e);
          flags_fit = by_c_fits x.after;
        });
        on_conflict = λ e. absurd (never _ _ (x.keeps.on_conflict e).0);
        when_refused = λ u v. absurd (u done);
      };
    }
    tell (no refuses) = record {
      answer = x.answer;
      after = l;
      keeps = record {
        first_unmet = first x.answer.number x.keeps.first_unmet;
        when_done = λ e. absurd (refuses e);
        on_conflict = λ e. absurd (never _ _ (x.keeps.on_conflict e).0);
        when_refused = λ u v. ((x.keeps.when_refused u v).0, refl);
      };
    }

-- **Every input of start** over C's record.
pub start_by_c_possible : (l : LentByC) → Outcome (start_by_c l) l
start_by_c_possible l = over_record l (start_meaning (seen l)) (start_by_c l) (λ g f. f) (λ a b s d. d) (λ a s never. never) (start_possible (seen l))

-- **Every input of command** over C's record.
pub command_by_c_possible : (text : List ℕ) (l : LentByC) → Outcome (command_by_c text l) l
command_by_c_possible text l = tell (flags_fit? l.kept) (script_room? 0 (seen l))
  where
    tell : Dec (FlagsFit l.kept) → Dec (ScriptRoom 0 (seen l)) → Outcome (command_by_c text l) l
    tell (yes fits) room =
        over_record l (command_meaning text (seen l)) (command_by_c text l) (λ g f. fitting fits f) (λ a b s d. d) (λ a s never. never) (command_possible text (seen l))
    tell (no unfit) (yes room) =
        allowed_outcome (refusal_met (command_by_c text l) l DAMAGED (λ e. omega (arith, e)) (λ e. omega (arith, e)) (inr (room, inl (refl, λ p. unfit p.0))))
    tell (no unfit) (no short) = allowed_outcome (refusal_met (command_by_c text l) l SHORT (λ e. omega (arith, e)) (λ e. omega (arith, e)) (inl (refl, short)))
