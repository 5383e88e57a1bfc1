-- A text whose reading stopped: which need of it is not met, by why it stopped.
use Prim.Native.Nat.{ℕ, ◌<◌}
use native.Mathlib.Omega.{arith}
use mathlib.Core.Path.{◌≡◌, refl, sym, subst}
use mathlib.Core.List.{List}
use mathlib.Core.Logic.{inl, inr}
use Rattle.meaning.specs.declared.Counts.{Counts}
use Rattle.meaning.specs.Bounds.{DONE, SYNTAX, SIZE}
use Rattle.meaning.specs.Promise.{First}
use Rattle.span.specs.Span.{span}
use Rattle.reading.specs.Tree.{Command}
use Rattle.reading.specs.Reading.{Why, Read, reading}
use Rattle.script_meaning.specs.declared.Notes.{Notes}
use Rattle.script_meaning.specs.Record.{Lent}
use Rattle.script_meaning.specs.Commands.{read_needs, text_needs}
use Rattle.script_command.specs.declared.Carried.{Carried}
use Rattle.script_command.specs.Carrying.{Unread}

-- Where the text begins with no command, or departs from the form, SYNTAX stands against it.
pub no_command : (s : List ℕ) (l : Lent) → span s ≡ 0 → First (text_needs s l) SYNTAX
no_command s l none = inl (refl, λ some. omega (arith, none, some))

-- What a text that begins with a command needs, by how the reading of it stopped.
needed : (s : List ℕ) (l : Lent) (r : Read Command) (g : ℕ) → 0 < span s → reading s ≡ r → First (read_needs r l) g → First (text_needs s l) g
needed s l r g some is first = inr (omega (arith, some), subst (λ (x : Read Command). First (read_needs x l) g) (sym is) first)

pub no_form : (s : List ℕ) (l : Lent) (i : ℕ) → 0 < span s → reading s ≡ Read.stop Why.wrong i → First (text_needs s l) SYNTAX
no_form s l i some is = needed s l (Read.stop Why.wrong i) SYNTAX some is (inl (refl, λ never. never))

-- Where it has a size fault, SIZE.
pub too_large : (s : List ℕ) (l : Lent) (i : ℕ) → 0 < span s → reading s ≡ Read.stop Why.size i → First (text_needs s l) SIZE
too_large s l i some is = needed s l (Read.stop Why.size i) SIZE some is (inl (refl, λ never. never))

-- Where it is unsupported, nothing.
pub unsupported_else : (s : List ℕ) (l : Lent) (i : ℕ) → 0 < span s → reading s ≡ Read.stop Why.other i → First (text_needs s l) DONE
unsupported_else s l i some is = needed s l (Read.stop Why.other i) DONE some is refl

-- A refusal of it.
pub unread_refused :
    (s : List ℕ) (k : ℕ) (counts : Counts) (notes : Notes) (out : List ℕ) (r : Carried) (g : ℕ) → (g ≡ DONE → ⊥) → ((l : Lent) → First (text_needs s l) g) →
    (r.number ≡ g) × ((r.counts ≡ counts) × ((r.notes ≡ notes) × ((r.read ≡ 0) × (r.written ≡ 0)))) → Unread s k counts notes out r out
unread_refused s k counts notes out r g some first (number_is, (counts_are, (notes_are, (read_is, written_is)))) = record {
  first_unmet = λ l. subst (First (text_needs s l)) (sym number_is) (first l);
  unsupported = λ done. absurd (some (rw number_is at done));
  printed = λ done. absurd (some (rw number_is at done));
  nothing = λ refused. (refl, (written_is, read_is));
  stays = (counts_are, notes_are);
}
