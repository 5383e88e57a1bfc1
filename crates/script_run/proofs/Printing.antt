-- What a command prints does not hang on the bytes that it prints into: into any others it prints the same, and does the same besides.
use Prim.Native.Nat.{ℕ, ◌+◌}
use mathlib.Core.Path.{◌≡◌, refl, sym, ◌∙◌, ap}
use mathlib.Core.List.{List, ◌++◌}
use mathlib.Core.Logic.{inl, inr}
use lib.ListN.{length}
use Rattle.meaning.specs.Promise.{First}
use Rattle.reading.specs.Tree.{Command}
use Rattle.reading.specs.Reading.{Why, Read}
use Rattle.write.specs.Written.{over}
use Rattle.write.proofs.Laws.{over_append}
use Rattle.script_meaning.specs.Record.{Lent}
use Rattle.script_meaning.specs.Effect.{prints, Changes, Does}
use Rattle.script_meaning.specs.Commands.{text_needs}
use Rattle.script_meaning.specs.Traces.{with_out}
use Rattle.script_meaning.proofs.Alike.{needs_alike}
use Rattle.script_meaning.proofs.Printing.{does_printed}

-- A text's needs do not ask for the bytes for the answers.
pub first_same : (s : List ℕ) (l : Lent) (o : List ℕ) (g : ℕ) → First (text_needs s l) g → First (text_needs s (with_out o l)) g
first_same s l o g =
    needs_alike s g l (with_out o l)
    (record { tables_alike = record { same_counts = refl; same_levels = λ i i-in. refl; same_rules = λ i held. refl }; same_notes = refl; same_names = λ j j-in. refl })

-- What was read prints the same, whatever bytes are lent, and changes the same.
prints_same : (r : Read Command) (l : Lent) (o : List ℕ) → prints r l ≡ prints r (with_out o l)
prints_same (Read.got Command.set_logic e) l o = refl
prints_same (Read.got Command.check_sat e) l o = refl
prints_same (Read.got Command.exit e) l o = refl
prints_same (Read.got (Command.declare w) e) l o = refl
prints_same (Read.got (Command.assert t) e) l o = refl
prints_same (Read.got (Command.push n) e) l o = refl
prints_same (Read.got (Command.pop n) e) l o = refl
prints_same (Read.got (Command.get_value ws) e) l o = refl
prints_same (Read.stop w i) l o = refl

changes_same : (r : Read Command) (l m : Lent) (o : List ℕ) → Changes r l m → Changes r (with_out o l) (with_out o m)
changes_same (Read.got Command.set_logic e) l m o is = ap (with_out o) is
changes_same (Read.got Command.check_sat e) l m o is = ap (with_out o) is
changes_same (Read.got Command.exit e) l m o is = ap (with_out o) is
changes_same (Read.got (Command.declare w) e) l m o is = ap (with_out o) is
changes_same (Read.got (Command.assert t) e) l m o (inl (some, is)) = inl (some, ap (with_out o) is)
changes_same (Read.got (Command.assert t) e) l m o (inr (none, (u, (clash, (adds, is))))) = inr (none, (u, (clash, (adds, ap (with_out o) is))))
changes_same (Read.got (Command.push n) e) l m o is = ap (with_out o) is
changes_same (Read.got (Command.pop n) e) l m o (t, (popped, is)) = (t, (popped, ap (with_out o) is))
changes_same (Read.got (Command.get_value ws) e) l m o is = ap (with_out o) is
changes_same (Read.stop Why.other i) l m o is = ap (with_out o) is
changes_same (Read.stop Why.wrong i) l m o impossible = absurd impossible
changes_same (Read.stop Why.size i) l m o impossible = absurd impossible

-- A command prints the bytes p, w of them; into any other bytes, from any other place on, it prints the same and does the same besides.
pub record Prints (r : Read Command) (k : ℕ) (l : Lent) (w : ℕ) (l' : Lent) : Type 0 where
  pub printed : List ℕ
  pub long : length printed ≡ w
  pub there : l'.out ≡ over l.out k printed
  pub elsewhere : (o : List ℕ) (h : ℕ) → Does r h (with_out o l) w (with_out (over o h printed) l')

pub prints_there : (r : Read Command) (k : ℕ) (l : Lent) (w : ℕ) (l' : Lent) → Does r k l w l' → Prints r k l w l'
prints_there r k l w l' does = record {
  printed = prints r l;
  long = sym (does_printed r k w l l' does).as_many;
  there = (does_printed r k w l l' does).left;
  elsewhere = elsewhere does;
}
  where
    elsewhere : Does r k l w l' → (o : List ℕ) (h : ℕ) → Does r h (with_out o l) w (with_out (over o h (prints r l)) l')
    elsewhere (mid, (changes, (w-is, is))) o h = (
      with_out o mid,
      (
        changes_same r l mid o changes,
        (
          w-is ∙ ap length (prints_same r l o),
          ap (with_out (over o h (prints r l))) is ∙ ap (λ (p : List ℕ). with_out (over o h p) mid) (prints_same r l o),
        ),
      ),
    )

-- Two words written one after the other, at any place: the first p, w bytes, then b.
pub after_both : (o : List ℕ) (h w : ℕ) (p b : List ℕ) → length p ≡ w → over (over o h p) (h + w) b ≡ over o h (p ++ b)
after_both o h w p b long = ap (λ (x : ℕ). over (over o h p) (h + x) b) (sym long) ∙ over_append o h p b
