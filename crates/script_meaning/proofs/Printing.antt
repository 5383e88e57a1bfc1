-- The bytes that a command prints, and that they have room: at most ROOM.
use Prim.Native.Nat.{ℕ, ◌+◌, ◌*◌, ◌-◌, ◌≤◌, ◌<◌}
use native.Mathlib.Omega.{arith}
use mathlib.Core.Path.{◌≡◌, refl, ◌∙◌, ap, subst}
use mathlib.Core.Bool.{Bool, true, false}
use mathlib.Core.List.{List, [], ◌∷◌, ◌++◌}
use mathlib.Core.Logic.{inl, inr}
use lib.Dec.{eqb}
use lib.ListN.{length}
use Rattle.meaning.specs.Bounds.{LARGEST, ROOM, ASKED, DONE, STEPS}
use Rattle.meaning.specs.Tables.{at}
use Rattle.meaning.specs.Calls.{rules_of, held_in}
use Rattle.meaning.specs.Promise.{First}
use Rattle.meaning.proofs.DayBound.{day_bound}
use Rattle.reading.specs.Tree.{Piece, Command}
use Rattle.reading.specs.Reading.{Why, Read, reading}
use Rattle.write.specs.Written.{over}
use Rattle.write.proofs.Laws.{part_written, part_before}
use Rattle.script_meaning.specs.Record.{Lent, Known, step_of}
use Rattle.script_meaning.specs.Effect.{Does, Changes, prints, either_answer, SAT, UNSAT, pair, shown_pairs, shown, day_of}
use Rattle.script_meaning.specs.Commands.{read_needs, text_needs}
use Rattle.script_meaning.specs.Told.{part}
use Rattle.script_meaning.proofs.Seeking.{known_short}
use Rattle.script_meaning.proofs.Needed.{EachName}
use Rattle.script_meaning.proofs.Granted.{value_met, text_met}
use Rattle.reading.proofs.Begun.{few_asked}
use Rattle.script_meaning.proofs.Keeping.{Fine, shelved_of}
use Rattle.script_meaning.proofs.Lengths.{shown_short}

-- What is left was there, with those bytes written over it from place k on.
pub record Written (k n : ℕ) (w : List ℕ) (before after : List ℕ) : Type 0 where
  pub as_many : n ≡ length w
  pub left : after ≡ over before k w

-- No change is made in the bytes for the answer.
pub changes_out : (r : Read Command) (l m : Lent) → Changes r l m → m.out ≡ l.out
changes_out (Read.got Command.set_logic e) l m is = ap (λ (x : Lent). x.out) is
changes_out (Read.got Command.check_sat e) l m is = ap (λ (x : Lent). x.out) is
changes_out (Read.got Command.exit e) l m is = ap (λ (x : Lent). x.out) is
changes_out (Read.got (Command.declare w) e) l m is = ap (λ (x : Lent). x.out) is
changes_out (Read.got (Command.assert t) e) l m (inl (some, is)) = ap (λ (x : Lent). x.out) is
changes_out (Read.got (Command.assert t) e) l m (inr (none, (u, (clash, (adds, is))))) = ap (λ (x : Lent). x.out) is
changes_out (Read.got (Command.push n) e) l m is = ap (λ (x : Lent). x.out) is
changes_out (Read.got (Command.pop n) e) l m (t, (popped, is)) = ap (λ (x : Lent). x.out) is
changes_out (Read.got (Command.get_value ws) e) l m is = ap (λ (x : Lent). x.out) is
changes_out (Read.stop Why.other i) l m is = ap (λ (x : Lent). x.out) is
changes_out (Read.stop Why.wrong i) l m impossible = absurd impossible
changes_out (Read.stop Why.size i) l m impossible = absurd impossible

-- Every command writes the bytes that it prints and no others.
pub does_printed : (r : Read Command) (k n : ℕ) (l m : Lent) → Does r k l n m → Written k n (prints r l) l.out m.out
does_printed r k n l m (mid, (changes, (n-is, is))) = record {
  as_many = n-is;
  left = ap (λ (x : Lent). x.out) is ∙ ap (λ (b : List ℕ). over b k (prints r l)) (changes_out r l mid changes);
}

-- The day of a declared name fits 32 bits.
day_small : (l : Lent) → Fine l → (w : List ℕ) → Known l w → day_of (step_of l) l.tables.days w < 4294967296
day_small l f w known =
    let t = f.sound.tables_sound in
    small l.tables.counts.steps f.sound.all_steps
    (day_bound l.tables.counts.steps (rules_of l.tables) (held_in l.tables) (at l.tables.days) t.rules_good t.days_earliest (step_of l w)
    (omega (arith, known, f.sound.names_in, f.sound.all_steps)))
  where
    small : (n : ℕ) → n ≡ STEPS → at l.tables.days (step_of l w) ≤ (n - 1) * LARGEST → at l.tables.days (step_of l w) < 4294967296
    small n steps day =
        let bound : at l.tables.days (step_of l w) ≤ (STEPS - 1) * LARGEST = subst (λ (x : ℕ). at l.tables.days (step_of l w) ≤ (x - 1) * LARGEST) steps day in
        omega arith

answer_room : (b : Bool) → length (either_answer b SAT UNSAT) ≤ ROOM
answer_room true = omega arith
answer_room false = omega arith

-- What was read asks for at most ASKED names.
abbrev pub FewAsked : Read Command → Type 0
FewAsked r = (ws : List Piece) (e : ℕ) → r ≡ Read.got (Command.get_value ws) e → length ws ≤ ASKED

-- Every command has room for what it prints.
pub prints_room : (r : Read Command) (l : Lent) → Fine l → FewAsked r → First (read_needs r l) DONE → length (prints r l) ≤ ROOM
prints_room (Read.got Command.set_logic e) l f few met = omega arith
prints_room (Read.got Command.check_sat e) l f few met = answer_room (eqb l.notes.broken 0)
prints_room (Read.got Command.exit e) l f few met = omega arith
prints_room (Read.got (Command.declare w) e) l f few met = omega arith
prints_room (Read.got (Command.assert t) e) l f few met = omega arith
prints_room (Read.got (Command.push n) e) l f few met = omega arith
prints_room (Read.got (Command.pop n) e) l f few met = omega arith
prints_room (Read.got (Command.get_value ws) e) l f few met =
    let short = shown_short (day_of (step_of l) l.tables.days) (Known l) (λ w known. known_short l.names l.lens w l.notes.names (shelved_of f) known) (day_small l f) in
    omega (arith, short ws (value_met ws l met), few ws e refl)
prints_room (Read.stop why i) l f few met = omega arith

pub printed_room : (text : List ℕ) (l : Lent) → Fine l → First (text_needs text l) DONE → length (prints (reading text) l) ≤ ROOM
printed_room text l f met = prints_room (reading text) l f (λ ws e is. (few_asked text ws e is).1) (text_met text l met).1

-- Names with the same days are shown alike.
module _ (p q : List ℕ → ℕ) (K : List ℕ → Type 0) (same : (w : List ℕ) → K w → p w ≡ q w) where
  pairs_same : (ws : List Piece) → EachName K ws → shown_pairs p ws ≡ shown_pairs q ws
  pairs_same [] each = refl
  pairs_same (w ∷ ws) each = λ i. 32 ∷ (pair w.letters (same w.letters each.0 i) ++ pairs_same ws each.1 i)

  pub shown_same : (ws : List Piece) → EachName K ws → shown p ws ≡ shown q ws
  shown_same [] each = refl
  shown_same (w ∷ ws) each = λ i. 40 ∷ (pair w.letters (same w.letters each.0 i) ++ pairs_same ws each.1 i)

-- What was written stands there; what stood before it still does.
pub written_part : (k n : ℕ) (w before after : List ℕ) → Written k n w before after → k + length w ≤ length before → part k n after ≡ w
written_part k n w before after x room =
    ap (λ (m : ℕ). part k m after) x.as_many ∙ ap (part k (length w)) x.left ∙ part_written before k w room

pub written_before : (k n : ℕ) (w before after : List ℕ) → Written k n w before after → (a m : ℕ) → a + m ≤ k → part a m after ≡ part a m before
written_before k n w before after x a m lower = ap (part a m) x.left ∙ part_before before k w a m lower
