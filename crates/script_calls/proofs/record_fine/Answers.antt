-- `script_calls::record_fine` meets its contract: the notes, then each name, then the index says whether all names are different.
use mathlib.Core.Path.{refl}
use mathlib.Core.Bool.{false≢true}
use Rattle.lent.specs.Decides.{decides_no, decides_same}
use Rattle.script_calls.proofs.Answers.{shelved}
use Rattle.script_calls.proofs.record_fine.Goals as goal

pub returns-then-not-notes_fine : goal.returns-then-not-notes_fine
returns-then-not-notes_fine c = record { decides = decides_no refl (λ h. c.notes_fine.ensures.not_so c.if-not-notes_fine.true h.notes_fine); indexed = λ e. absurd (false≢true e) }

pub names_fine-requires : goal.names_fine-requires
names_fine-requires c = record {
  tab_value = c.requires.tab_value;
  names_room = c.requires.names_room;
  n_bound = (c.notes_fine.ensures.so c.if-not-notes_fine.false).names_in;
}

pub returns-then-not-names_fine : goal.returns-then-not-names_fine
returns-then-not-names_fine c = record { decides = decides_no refl (λ h. c.names_fine.ensures.not_so c.if-not-names_fine.true h.names_fine); indexed = λ e. absurd (false≢true e) }

pub index-requires : goal.index-requires
index-requires c = let notes_fine = c.notes_fine in record {
  shelved = shelved _ _ _ c.requires.names_room (notes_fine.ensures.so c.if-not-notes_fine.false).names_in (c.names_fine.ensures.so c.if-not-names_fine.false);
  index_room = c.requires.index_room;
}

pub invariant_of-declared : goal.invariant_of-declared
invariant_of-declared c = let names_fine = c.names_fine in
    let notes_fine = c.notes_fine in record {
      shelved = shelved _ _ _ c.requires.names_room (notes_fine.ensures.so c.if-not-notes_fine.false).names_in (names_fine.ensures.so c.if-not-names_fine.false);
      indexed = c.index.ensures;
    }

pub returns : goal.returns
returns c = let names-fine-there = c.names_fine in
    let notes-fine-there = c.notes_fine in
    record {
      decides = decides_same (λ d. record { notes_fine = notes-fine-there.ensures.so c.if-not-notes_fine.false; names_fine = names-fine-there.ensures.so c.if-not-names_fine.false; different = d }) (λ h. h.different) c.different.ensures;
      indexed = λ e. c.index.ensures;
    }
