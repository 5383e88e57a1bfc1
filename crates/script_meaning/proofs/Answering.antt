-- A command that is carried out is answered as the asserted terms ask for: `check-sat` prints `sat` exactly when they are satisfiable, `get_value` their earliest plan.
use Prim.Native.Nat.{ℕ, ◌+◌, ◌≤◌}
use native.Mathlib.Omega.{arith}
use native.Mathlib.Decide.{ℕ_discrete}
use mathlib.Core.Path.{◌≡◌, sym, ◌∙◌, ap}
use mathlib.Core.Bool.{Bool, true, true≢false}
use mathlib.Core.List.{List, [], ◌∷◌}
use mathlib.Core.Logic.{◌↔◌}
use lib.Dec.{eqb}
use lib.ListN.{length}
use borrow.Author.Tests.{eq-eqb, ne_eqb}
use Rattle.meaning.specs.Bounds.{ROOM, DONE, MODE}
use Rattle.meaning.specs.Promise.{First, needs}
use Rattle.reading.specs.Tree.{Piece, Command}
use Rattle.reading.specs.Reading.{Read, reading}
use Rattle.script_meaning.specs.Record.{Lent}
use Rattle.script_meaning.specs.Effect.{Does, SAT, UNSAT, either_answer, prints}
use Rattle.script_meaning.specs.Commands.{command_needs, read_needs, text_needs}
use Rattle.script_meaning.specs.Traces.{History, Satisfiable}
use Rattle.script_meaning.specs.Told.{part, Answered}
use Rattle.script_meaning.proofs.Needed.{done_first, last_met, command_met}
use Rattle.script_meaning.proofs.Granted.{value_met, text_met}
use Rattle.script_meaning.proofs.InForce.{InForce}
use Rattle.script_meaning.proofs.Printing.{does_printed, printed_room, written_part}
use Rattle.script_meaning.proofs.Planning.{clean_if, satisfiable_if, soonest_if, plan_of, values_shown}

-- `sat` is not `unsat`.
sat_unsat : SAT ≡ UNSAT → ⊥
sat_unsat e = omega (arith, ap length e)

-- A get_value is carried out only where the last check-sat printed `sat`.
value_sat : (ws : List Piece) (l : Lent) → First (command_needs (Command.get_value ws) l) DONE → l.notes.sat ≡ true
value_sat ws l met =
    let logic = done_first MODE (l.notes.logic ≡ true) (needs MODE (l.notes.sat ≡ true) ∷ []) (λ e. omega arith) (command_met (Command.get_value ws) l met).0 in
    last_met MODE (l.notes.sat ≡ true) (λ e. omega arith) logic.1

module _ (l : Lent) (h : History) (i : InForce l h) where
  checked_answer :
      (k n : ℕ) (out : List ℕ) → part k n out ≡ either_answer (eqb l.notes.broken 0) SAT UNSAT →
      ((part k n out ≡ SAT) ↔ Satisfiable h) × ((part k n out ≡ UNSAT) ↔ (Satisfiable h → ⊥))
  checked_answer k n out is = tell (ℕ_discrete l.notes.broken 0)
    where
      tell : Dec (l.notes.broken ≡ 0) → ((part k n out ≡ SAT) ↔ Satisfiable h) × ((part k n out ≡ UNSAT) ↔ (Satisfiable h → ⊥))
      tell (yes clean) =
          let sat = satisfiable_if l h i clean in
          let prints : part k n out ≡ SAT = is ∙ ap (λ (b : Bool). either_answer b SAT UNSAT) (eq-eqb l.notes.broken 0 clean) in
          (((λ e. sat), (λ some. prints)), ((λ e. absurd (sat_unsat (sym prints ∙ e))), (λ none. absurd (none sat))))
      tell (no some) =
          let prints : part k n out ≡ UNSAT = is ∙ ap (λ (b : Bool). either_answer b SAT UNSAT) (ne_eqb l.notes.broken 0 some) in
          (((λ e. absurd (sat_unsat (sym e ∙ prints))), (λ sat. absurd (some (clean_if l h i sat)))), ((λ e sat. some (clean_if l h i sat)), (λ none. prints)))

  -- No level counts as contradictory where a get_value is carried out.
  value_clean : (ws : List Piece) → First (command_needs (Command.get_value ws) l) DONE → l.notes.broken ≡ 0
  value_clean ws met = tell (ℕ_discrete l.notes.broken 0)
    where
      tell : Dec (l.notes.broken ≡ 0) → l.notes.broken ≡ 0
      tell (yes clean) = clean
      tell (no some) = absurd (true≢false (sym (value_sat ws l met) ∙ i.fine.sound.no_sat some))

  -- What was printed answers a command that is carried out, where those n bytes are left.
  answered : (r : Read Command) (k n : ℕ) (out : List ℕ) → First (read_needs r l) DONE → n ≡ length (prints r l) → part k n out ≡ prints r l → Answered r h k n out
  answered (Read.got Command.set_logic e) k n out met long is = long
  answered (Read.got Command.check_sat e) k n out met long is = checked_answer k n out is
  answered (Read.got Command.exit e) k n out met long is = long
  answered (Read.got (Command.declare w) e) k n out met long is = long
  answered (Read.got (Command.assert t) e) k n out met long is = long
  answered (Read.got (Command.push m) e) k n out met long is = long
  answered (Read.got (Command.pop m) e) k n out met long is = long
  answered (Read.got (Command.get_value ws) e) k n out met long is = (plan_of l, (soonest_if l h i (value_clean ws met), is ∙ values_shown l ws (value_met ws l met)))
  answered (Read.stop w j) k n out met long is = is

  -- **Answered**: a command that is carried out, with room for what it prints.
  pub command_answered :
      (text : List ℕ) (k n : ℕ) (m : Lent) (out : List ℕ) → First (text_needs text l) DONE → Does (reading text) k l n m → k + ROOM ≤ length l.out →
      part k n out ≡ part k n m.out → Answered (reading text) h k n out
  command_answered text k n m out met does room left =
      let wrote = does_printed (reading text) k n l m does in
      answered (reading text) k n out (text_met text l met).1 wrote.as_many
      (left ∙ written_part k n (prints (reading text) l) l.out m.out wrote (omega (arith, room, printed_room text l i.fine met)))
