-- What is known of a command whose needs are all met.
use Prim.Native.Nat.{ℕ, ◌+◌, ◌≤◌, ◌<◌}
use native.Mathlib.Omega.{arith}
use mathlib.Core.Path.{◌≡◌}
use mathlib.Core.Bool.{false}
use mathlib.Core.List.{List, ◌∷◌}
use lib.ListN.{length}
use Rattle.meaning.specs.Bounds.{STEPS, RULES, MARKS, DONE, SHORT, DAMAGED, NAME, FULL, NOMARK, SYNTAX}
use Rattle.meaning.specs.Promise.{First, needs}
use Rattle.span.specs.Span.{span}
use Rattle.reading.specs.Tree.{Piece, said_by, Term, rules_of_term, Command}
use Rattle.reading.specs.Reading.{reading}
use Rattle.script_meaning.specs.Record.{Lent, StartRoom, ScriptRoom, ScriptSound, Known}
use Rattle.script_meaning.specs.Commands.{command_needs, read_needs, text_needs, start_meaning, command_meaning}
use Rattle.script_meaning.proofs.Needed.{EachRule, EachName, done_first, last_met, rules_met, names_met, command_met}

pub declare_met : (w : Piece) (l : Lent) → First (command_needs (Command.declare w) l) DONE → (Known l w.letters → ⊥) × (l.notes.names < STEPS)
declare_met w l met =
    let rest = (command_met (Command.declare w) l met).1 in
    (last_met NAME (Known l w.letters → ⊥) (λ e. omega arith) rest.0, last_met FULL (l.notes.names < STEPS) (λ e. omega arith) rest.1)

-- A term's rules have their places, while no level counts as contradictory.
abbrev pub Places : Term → Lent → Type 0
Places t l = l.notes.broken ≡ 0 → l.tables.counts.rules + length (rules_of_term false t) ≤ RULES

pub assert_met : (t : Term) (l : Lent) → First (command_needs (Command.assert t) l) DONE → EachRule (Known l) (rules_of_term false t) × Places t l
assert_met t l met =
    let rest = (command_met (Command.assert t) l met).1 in
    (rules_met (Known l) (rules_of_term false t) rest.0, last_met FULL (Places t l) (λ e. omega arith) rest.1)

pub push_met : (n : Piece) (l : Lent) → First (command_needs (Command.push n) l) DONE → l.tables.counts.marks + said_by n ≤ MARKS
push_met n l met = last_met FULL (l.tables.counts.marks + said_by n ≤ MARKS) (λ e. omega arith) (command_met (Command.push n) l met).1.1

pub pop_met : (n : Piece) (l : Lent) → First (command_needs (Command.pop n) l) DONE → said_by n ≤ l.tables.counts.marks
pop_met n l met = last_met NOMARK (said_by n ≤ l.tables.counts.marks) (λ e. omega arith) (command_met (Command.pop n) l met).1.1

pub value_met : (ws : List Piece) (l : Lent) → First (command_needs (Command.get_value ws) l) DONE → EachName (Known l) ws
value_met ws l met = names_met (Known l) ws (command_met (Command.get_value ws) l met).1.0

-- What a text that is carried out needs.
pub text_met : (text : List ℕ) (l : Lent) → First (text_needs text l) DONE → (1 ≤ span text) × First (read_needs (reading text) l) DONE
text_met text l met = done_first SYNTAX (1 ≤ span text) (read_needs (reading text) l) (λ e. omega arith) met

-- What a start that is carried out needs.
pub start_granted : (l : Lent) → First (start_meaning l).asks DONE → StartRoom l
start_granted l asks = last_met SHORT (StartRoom l) (λ e. omega arith) asks

-- What a command call that is carried out needs.
pub record Granted (text : List ℕ) (l : Lent) : Type 0 where
  pub room : ScriptRoom 0 l
  pub sound : ScriptSound l
  pub met : First (text_needs text l) DONE

pub granted : (text : List ℕ) (l : Lent) → First (command_meaning text l).asks DONE → Granted text l
granted text l asks =
    let room = done_first SHORT (ScriptRoom 0 l) (needs DAMAGED (ScriptSound l) ∷ text_needs text l) (λ e. omega arith) asks in
    let sound = done_first DAMAGED (ScriptSound l) (text_needs text l) (λ e. omega arith) room.1 in
    record { room = room.0; sound = sound.0; met = sound.1 }
