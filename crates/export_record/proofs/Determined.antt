-- Any two outcomes that the promise of a script call over a lent record allows on the same input are equal, the record included.
use Prim.Native.Nat.{ℕ, ◌≤◌}
use native.Mathlib.Omega.{arith}
use native.Mathlib.Decide.{ℕ_discrete}
use mathlib.Core.Path.{◌≡◌, refl, sym, ◌∙◌, ap}
use mathlib.Core.List.{List}
use lib.Dec.{eqb}
use borrow.Author.Tests.{eqb-true, eq-eqb}
use Rattle.meaning.specs.Promise.{Given, Obeys}
use Rattle.meaning.proofs.Determined.{Same, Fixed, determined}
use Rattle.script_meaning.specs.declared.Notes.{Notes}
use Rattle.script_meaning.specs.Record.{Lent}
use Rattle.script_meaning.proofs.Fixing.{start_fixed, command_fixed}
use Rattle.export_record.specs.declared.Record.{Record}
use Rattle.export_record.specs.Records.{FlagsFit, notes_of, LentByC, seen, start_by_c, command_by_c}

-- A flag that is 0 or 1 is told by whether it is 1.
flag_told : (j k : ℕ) → j ≤ 1 → k ≤ 1 → eqb j 1 ≡ eqb k 1 → j ≡ k
flag_told j k j-in k-in same = by (ℕ_discrete j 1) (ℕ_discrete k 1)
  where
    by : Dec (j ≡ 1) → Dec (k ≡ 1) → j ≡ k
    by (yes j-is) (yes k-is) = j-is ∙ sym k-is
    by (yes j-is) (no k-not) = absurd (k-not (eqb-true k 1 (sym same ∙ eq-eqb j 1 j-is)))
    by (no j-not) (yes k-is) = absurd (j-not (eqb-true j 1 (same ∙ eq-eqb k 1 k-is)))
    by (no j-not) (no k-not) = omega (arith, j-not, k-not)

-- Records whose flags fit and that say the same are the same.
record_told : (r s : Record) → FlagsFit r → FlagsFit s → notes_of r ≡ notes_of s → r ≡ s
record_told r s r-fits s-fits same =
    let names : r.names ≡ s.names = ap (λ (n : Notes). n.names) same in
    let broken : r.broken ≡ s.broken = ap (λ (n : Notes). n.broken) same in
    let logic : r.logic ≡ s.logic = flag_told r.logic s.logic r-fits.logic_fits s-fits.logic_fits (ap (λ (n : Notes). n.logic) same) in
    let sat : r.sat ≡ s.sat = flag_told r.sat s.sat r-fits.sat_fits s-fits.sat_fits (ap (λ (n : Notes). n.sat) same) in
    rw (names, broken, logic, sat) refl

-- What is seen of all that C lends, with flags that fit, tells it.
lent_told : (a b : LentByC) → FlagsFit a.kept → FlagsFit b.kept → seen a ≡ seen b → a ≡ b
lent_told a b a-fits b-fits same =
    let tables : a.tables ≡ b.tables = ap (λ (l : Lent). l.tables) same in
    let names : a.names ≡ b.names = ap (λ (l : Lent). l.names) same in
    let lens : a.lens ≡ b.lens = ap (λ (l : Lent). l.lens) same in
    let out : a.out ≡ b.out = ap (λ (l : Lent). l.out) same in
    let kept : a.kept ≡ b.kept = record_told a.kept b.kept a-fits b-fits (ap (λ (l : Lent). l.notes) same) in
    rw (tables, names, lens, out, kept) refl

-- **Determined**: the answer of a start and all that is lent after it.
pub start_by_c_determined :
    (l : LentByC) (g h : Given) (after other : LentByC) → Obeys (start_by_c l) l g after → Obeys (start_by_c l) l h other → Same g h after other
start_by_c_determined l g h after other x y = determined (start_by_c l) l g h after other x y fixed (λ a s none. none)
  where
    fixed : Fixed (start_by_c l)
    fixed a b c d m n p q =
        let same = start_fixed (seen l) a b c d (seen m) (seen n) p.as_meant q.as_meant in
        (same.0, same.1, lent_told m n p.flags_fit q.flags_fit same.2)

-- **Determined**: the answer of a command and all that is lent after it.
pub command_by_c_determined :
    (text : List ℕ) (l : LentByC) (g h : Given) (after other : LentByC) → Obeys (command_by_c text l) l g after → Obeys (command_by_c text l) l h other → Same g h after other
command_by_c_determined text l g h after other x y = determined (command_by_c text l) l g h after other x y fixed (λ a s none. none)
  where
    fixed : Fixed (command_by_c text l)
    fixed a b c d m n p q =
        let same = command_fixed text (seen l) a b c d (seen m) (seen n) p.as_meant q.as_meant in
        (same.0, same.1, lent_told m n p.flags_fit q.flags_fit same.2)
