-- What a command needs where it stands, and the room that it needs, depend on its kind alone, on the counts and on the record: judging a kind is judging every command of
-- that kind. Levels are told cut, far above what may be open.
use Prim.Native.Nat.{ℕ, ◌+◌, ◌≤◌, ◌<◌}
use native.Mathlib.Omega.{arith}
use native.Mathlib.Decide.{dec_le}
use mathlib.Core.Path.{◌≡◌, refl, sym, ◌∙◌, subst, subst₂, subst₃}
use mathlib.Core.Bool.{Bool, true, false, true≢false}
use mathlib.Core.List.{List, [], ◌∷◌}
use mathlib.Core.Logic.{inl, inr}
use borrow.Author.Tests.{lt-leb}
use Rattle.meaning.specs.declared.Counts.{Counts}
use Rattle.meaning.specs.Bounds.{STEPS, RULES, MARKS, DONE, FULL, NOMARK, MODE}
use Rattle.meaning.specs.Promise.{Need, needs, First}
use Rattle.text.specs.Lexicon.{cut}
use Rattle.text.proofs.Numbers.{cut_small}
use Rattle.reading.specs.declared.Kind.{Kind}
use Rattle.reading.specs.Tree.{said_by, Command}
use Rattle.reading.specs.Heard.{kind_of}
use Rattle.script_meaning.specs.declared.Notes.{Notes}
use Rattle.script_meaning.specs.Record.{Lent}
use Rattle.script_meaning.specs.Commands.{mode_needs, room_needs}
use Rattle.judging.specs.Judged.{Judges}

-- ---- needs of a kind

-- The logic is set.
abbrev logic_need : Notes → List Need
logic_need n = needs MODE (n.logic ≡ true) ∷ []

abbrev kind_mode : Kind → Notes → List Need
kind_mode Kind.SetLogic n = needs MODE (n.logic ≡ false) ∷ []
kind_mode (Kind.Declare a b) n = logic_need n
kind_mode (Kind.Assert k) n = logic_need n
kind_mode (Kind.Push k) n = logic_need n
kind_mode (Kind.Pop k) n = logic_need n
kind_mode Kind.CheckSat n = logic_need n
kind_mode (Kind.GetValue k) n = needs MODE (n.logic ≡ true) ∷ needs MODE (n.sat ≡ true) ∷ []
kind_mode Kind.Exit n = []

abbrev kind_room : Kind → Counts → Notes → List Need
kind_room Kind.SetLogic m n = []
kind_room (Kind.Declare a b) m n = needs FULL (n.names < STEPS) ∷ []
kind_room (Kind.Assert k) m n = needs FULL (n.broken ≡ 0 → m.rules + k ≤ RULES) ∷ []
kind_room (Kind.Push k) m n = needs FULL (m.marks + k ≤ MARKS) ∷ []
kind_room (Kind.Pop k) m n = needs NOMARK (k ≤ m.marks) ∷ []
kind_room Kind.CheckSat m n = []
kind_room (Kind.GetValue k) m n = []
kind_room Kind.Exit m n = []

-- They are those of the command.
mode_of_kind : (c : Command) (l : Lent) (g : ℕ) → First (kind_mode (kind_of c) l.notes) g → First (mode_needs c l) g
mode_of_kind Command.set_logic l g h = h
mode_of_kind Command.check_sat l g h = h
mode_of_kind Command.exit l g h = h
mode_of_kind (Command.declare w) l g h = h
mode_of_kind (Command.assert t) l g h = h
mode_of_kind (Command.push n) l g h = h
mode_of_kind (Command.pop n) l g h = h
mode_of_kind (Command.get_value ws) l g h = h

-- One need for another, where each gives the other.
instead : (k : ℕ) {P Q : Type 0} (g : ℕ) → (P → Q) → (Q → P) → First (needs k P ∷ []) g → First (needs k Q ∷ []) g
instead k g to back (inl (is, unmet)) = inl (is, λ q. unmet (back q))
instead k g to back (inr (met, done)) = inr (to met, done)

-- A number that is small when cut is the number itself.
uncut : (n most : ℕ) → most < 10000000 → cut n ≤ most → cut n ≡ n
uncut n most small h = by_size (dec_le n 10000000)
  where
    by_size : Dec (n ≤ 10000000) → cut n ≡ n
    by_size (yes within) = cut_small n within
    by_size (no past) =
        let large : 10000000 ≤ most = rw (lt-leb n 10000000 (omega arith)) at h in
        absurd (omega arith)

room_of_kind : (c : Command) (l : Lent) (g : ℕ) → l.tables.counts.marks ≤ MARKS → First (kind_room (kind_of c) l.tables.counts l.notes) g → First (room_needs c l) g
room_of_kind Command.set_logic l g few h = h
room_of_kind Command.check_sat l g few h = h
room_of_kind Command.exit l g few h = h
room_of_kind (Command.declare w) l g few h = h
room_of_kind (Command.assert t) l g few h = h
room_of_kind (Command.push n) l g few h =
    instead FULL g
    (λ fits. omega (arith, fits, uncut (said_by n) MARKS (omega arith) (omega (arith, fits))))
    (λ fits. omega (arith, fits, cut_small (said_by n) (omega (arith, fits))))
    h
room_of_kind (Command.pop n) l g few h =
    instead NOMARK g
    (λ fits. omega (arith, fits, uncut (said_by n) MARKS (omega arith) (omega (arith, fits, few))))
    (λ fits. omega (arith, fits, cut_small (said_by n) (omega (arith, fits, few))))
    h
room_of_kind (Command.get_value ws) l g few h = h

-- ---- judging a kind

pub judges_mode : {kind : Kind} (k : Kind) (notes : Notes) (g : ℕ) → kind ≡ k → First (kind_mode k notes) g → (counts : Counts) → Judges mode_needs kind counts notes g
judges_mode {kind} k notes g known first counts c l is same_counts same_notes =
    mode_of_kind c l g (subst₂ (λ (k : Kind) (n : Notes). First (kind_mode k n) g) (sym known ∙ is) (sym same_notes) first)

pub judges_room :
    {kind : Kind} (k : Kind) (counts : Counts) (notes : Notes) (g : ℕ) → counts.marks ≤ MARKS → kind ≡ k → First (kind_room k counts notes) g → Judges room_needs kind counts notes g
judges_room {kind} k counts notes g few known first c l is same_counts same_notes =
    let few-there : l.tables.counts.marks ≤ MARKS = subst (λ (m : Counts). m.marks ≤ MARKS) (sym same_counts) few in
    room_of_kind c l g few-there (subst₃ (λ (k : Kind) (m : Counts) (n : Notes). First (kind_room k m n) g) (sym known ∙ is) (sym same_counts) (sym same_notes) first)

-- The logic is set, or it is not.
pub logic_first : (notes : Notes) {g : ℕ} → (notes.logic ≡ true → g ≡ DONE) × (notes.logic ≡ false → g ≡ MODE) → First (needs MODE (notes.logic ≡ true) ∷ []) g
logic_first notes {g} told = by_logic notes.logic told.0 told.1
  where
    by_logic : (b : Bool) → (b ≡ true → g ≡ DONE) → (b ≡ false → g ≡ MODE) → First (needs MODE (b ≡ true) ∷ []) g
    by_logic true set unset = inr (refl, set refl)
    by_logic false set unset = inl (unset refl, λ h. true≢false (sym h))

pub no_sat : (notes : Notes) → (notes.sat ≡ true → ⊥) → First (needs MODE (notes.logic ≡ true) ∷ needs MODE (notes.sat ≡ true) ∷ []) MODE
no_sat notes unsat = by_logic notes.logic
  where
    by_logic : (b : Bool) → First (needs MODE (b ≡ true) ∷ needs MODE (notes.sat ≡ true) ∷ []) MODE
    by_logic true = inr (refl, inl (refl, unsat))
    by_logic false = inl (refl, λ h. true≢false (sym h))

-- After a `sat` the logic alone is asked for.
pub values_first :
    (notes : Notes) {g : ℕ} → notes.sat ≡ true → (notes.logic ≡ true → g ≡ DONE) × (notes.logic ≡ false → g ≡ MODE) →
    First (needs MODE (notes.logic ≡ true) ∷ needs MODE (notes.sat ≡ true) ∷ []) g
values_first notes {g} sat told = behind (logic_first notes told)
  where
    behind : First (needs MODE (notes.logic ≡ true) ∷ []) g → First (needs MODE (notes.logic ≡ true) ∷ needs MODE (notes.sat ≡ true) ∷ []) g
    behind (inl unmet) = inl unmet
    behind (inr (set, done)) = inr (set, inr (sat, done))
