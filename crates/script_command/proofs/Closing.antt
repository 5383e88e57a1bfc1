-- A text carried out, from its parts: one whose reading stopped, one refused, one performed.
use Prim.Native.Nat.{ℕ}
use native.Mathlib.Omega.{arith}
use mathlib.Core.Path.{◌≡◌, refl, sym, ◌∙◌, ap, subst}
use mathlib.Core.List.{List}
use mathlib.Core.Logic.{inr}
use Rattle.meaning.specs.Bounds.{DONE}
use Rattle.meaning.specs.Promise.{First}
use Rattle.reading.specs.declared.Kind.{Kind}
use Rattle.reading.specs.Tree.{Command}
use Rattle.reading.specs.Reading.{Read, reading}
use Rattle.reading.specs.Heard.{Came, kind_of}
use Rattle.reading.proofs.Begun.{read_spans, read_within}
use Rattle.script_meaning.specs.declared.Notes.{Notes}
use Rattle.meaning.specs.declared.Counts.{Counts}
use Rattle.script_meaning.specs.Record.{Lent}
use Rattle.script_meaning.specs.Effect.{Does}
use Rattle.script_meaning.specs.Commands.{command_needs, read_needs, text_needs}
use Rattle.script_meaning.specs.Whole.{exits}
use Rattle.script_meaning.specs.Traces.{with_out}
use Rattle.script_meaning.proofs.Keeping.{other_fine}
use Rattle.script_telling.specs.Telling.{is_exit}
use Rattle.script_command.specs.declared.Carried.{Carried}
use Rattle.script_command.specs.Carrying.{Maintained, Unread, Carries}
use Rattle.levels.specs.declared.Row.{Row}

-- What is lent after a text whose reading stopped or that was refused: the counts and the record that are given, and other bytes for the answer.
abbrev pub given_back : Lent → Counts → Notes → List ℕ → Lent
given_back l counts notes out = record {
  tables = record { counts = counts; rules = l.tables.rules; days = l.tables.days; levels = l.tables.levels; watched = l.tables.watched };
  notes = notes;
  names = l.names;
  lens = l.lens;
  out = out;
}

given_same :
    (l : Lent) (counts : Counts) (notes : Notes) (out : List ℕ) → counts ≡ l.tables.counts → notes ≡ l.notes → given_back l counts notes out ≡ with_out out l
given_same l counts notes out counts_are notes_are = rw (counts_are, notes_are) refl

-- What holds between commands, with other bytes for the answer.
out_maintained :
    (e : ℕ) (l : Lent) (out heads nexts : List ℕ) (kept : List Row) (hashes name-heads name-nexts : List ℕ) → Maintained e l heads nexts kept hashes name-heads name-nexts →
    Maintained e (with_out out l) heads nexts kept hashes name-heads name-nexts
out_maintained e l out heads nexts kept hashes name-heads name-nexts m =
    let fine = other_fine out l (record { room = m.room; sound = m.sound }) in
    record {
      room = fine.room;
      sound = fine.sound;
      chained = m.chained;
      days_kept = m.days_kept;
      ordered = m.ordered;
      indexed = m.indexed;
      within = m.within;
    }

-- A text whose reading stopped.
module _ (s : List ℕ) (k : ℕ) (l : Lent) (r : Carried) (out : List ℕ) (u : Unread s k l.tables.counts l.notes l.out r out) where
  abbrev after : Lent
  after = given_back l r.counts r.notes out

  same : after ≡ with_out out l
  same = given_same l r.counts r.notes out u.stays.0 u.stays.1

  pub unread_carries : Carries s k l r after
  unread_carries = record {
    first_unmet = u.first_unmet l;
    when_done = λ done.
        let other = u.unsupported done in
        let printed = u.printed done in
        subst (λ (x : Read Command). Does x k l r.written after) (sym other.1)
        (l, (refl, (printed.1.0, same ∙ ap (λ (w : List ℕ). with_out w l) printed.0)));
    when_refused = λ refused.
        let nothing = u.nothing refused in
        (same ∙ ap (λ (w : List ℕ). with_out w l) nothing.0, nothing.1);
    ends = λ done. (u.printed done).1.1.1 ∙ sym (ap exits (u.unsupported done).1);
    bytes_read = λ done. (u.printed done).1.1.0;
  }

  pub unread_maintained :
      (e : ℕ) (heads nexts : List ℕ) (kept : List Row) (hashes name-heads name-nexts : List ℕ) → Maintained e l heads nexts kept hashes name-heads name-nexts →
      Maintained e after heads nexts kept hashes name-heads name-nexts
  unread_maintained e heads nexts kept hashes name-heads name-nexts m =
      subst (λ (x : Lent). Maintained e x heads nexts kept hashes name-heads name-nexts) (sym same) (out_maintained e l out heads nexts kept hashes name-heads name-nexts m)

-- What was read of a text that a command was told of.
pub command_read : (r : Read Command) (P : Command → ℕ → Type 0) → Came r P → (d : Command) × ((i : ℕ) × ((r ≡ Read.got d i) × P d i))
command_read (Read.got d i) P p = (d, (i, (refl, p)))
command_read (Read.stop w i) P p = absurd p

-- The kind of exit is that of exit alone.
exit_kind : (d : Command) (i : ℕ) → is_exit (kind_of d) ≡ exits (Read.got d i)
exit_kind Command.set_logic i = refl
exit_kind Command.check_sat i = refl
exit_kind Command.exit i = refl
exit_kind (Command.declare w) i = refl
exit_kind (Command.assert t) i = refl
exit_kind (Command.push n) i = refl
exit_kind (Command.pop n) i = refl
exit_kind (Command.get_value ws) i = refl

-- A text that was read as the command d, which ends at place i.
module _ (s : List ℕ) (k : ℕ) (l : Lent) (d : Command) (i : ℕ) (is : reading s ≡ Read.got d i) where
  -- The needs of the text are those of the command.
  first_of : (g : ℕ) → First (command_needs d l) g → First (text_needs s l) g
  first_of g first =
      inr (omega (arith, read_spans s d i is, (read_within s d i is).0), subst (λ (x : Read Command). First (read_needs x l) g) (sym is) first)

  -- Something stands against it.
  pub refused_carries :
      (r : Carried) (g : ℕ) → (g ≡ DONE → ⊥) → First (command_needs d l) g →
      (r.number ≡ g) × ((r.counts ≡ l.tables.counts) × ((r.notes ≡ l.notes) × ((r.read ≡ 0) × (r.written ≡ 0)))) →
      Carries s k l r (given_back l r.counts r.notes l.out)
  refused_carries r g some first (number_is, (counts_are, (notes_are, (read_is, written_is)))) = record {
    first_unmet = subst (First (text_needs s l)) (sym number_is) (first_of g first);
    when_done = λ done. absurd (some (rw number_is at done));
    when_refused = λ refused. (given_same l r.counts r.notes l.out counts_are notes_are, (written_is, read_is));
    ends = λ done. absurd (some (rw number_is at done));
    bytes_read = λ done. absurd (some (rw number_is at done));
  }

  pub refused_maintained :
      (r : Carried) → r.counts ≡ l.tables.counts → r.notes ≡ l.notes → (e : ℕ) (heads nexts : List ℕ) (kept : List Row) (hashes name-heads name-nexts : List ℕ) →
      Maintained e l heads nexts kept hashes name-heads name-nexts → Maintained e (given_back l r.counts r.notes l.out) heads nexts kept hashes name-heads name-nexts
  refused_maintained r counts_are notes_are e heads nexts kept hashes name-heads name-nexts m =
      subst (λ (x : Lent). Maintained e x heads nexts kept hashes name-heads name-nexts) (sym (given_same l r.counts r.notes l.out counts_are notes_are)) m

  -- It was performed.
  pub performed_carries :
      (r : Carried) (c : Kind) (past : ℕ) (after : Lent) → c ≡ kind_of d → past ≡ i → First (command_needs d l) DONE → (r.number ≡ 0) × ((r.read ≡ past) × (r.ended ≡ is_exit c)) →
      Does (Read.got d i) k l r.written after → Carries s k l r after
  performed_carries r c past after kind_is past_is met (number_is, (read_is, ended_is)) done = record {
    first_unmet = subst (First (text_needs s l)) (sym number_is) (first_of DONE met);
    when_done = λ none. subst (λ (x : Read Command). Does x k l r.written after) (sym is) done;
    when_refused = λ refused. absurd (refused number_is);
    ends = λ none. ended_is ∙ ap is_exit kind_is ∙ exit_kind d i ∙ sym (ap exits is);
    bytes_read = λ none. read_is ∙ past_is ∙ sym (read_spans s d i is);
  }
