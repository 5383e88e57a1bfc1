-- `script_calls::stands` meets its contract: the test of the tables, then that of the record.
use mathlib.Core.Path.{refl}
use mathlib.Core.Bool.{false≢true}
use Rattle.lent.specs.Decides.{decides_no, decides_same}
use Rattle.script_calls.proofs.Answers.{script_sound, record_fine_of}
use Rattle.script_calls.proofs.stands.Goals as goal

pub returns-then-not-is_sound : goal.returns-then-not-is_sound
returns-then-not-is_sound c = let is-sound = c.is_sound in
    λ out. record { decides = decides_no refl (λ h. is-sound.ensures.decides.not_so c.if-not-is_sound.true h.tables_sound); stands = λ e. absurd (false≢true e) }

pub record_fine-requires : goal.record_fine-requires
record_fine-requires c = record {
  tab_value = c.requires.tab_value;
  names_room = c.requires.names_room;
  index_room = c.requires.index_room;
}

pub returns : goal.returns
returns c = let is-sound = c.is_sound in
    λ out.
    let sound = is-sound.ensures.decides.so c.if-not-is_sound.false in
    record {
      decides = decides_same (λ f. script_sound _ sound f) (λ h. record_fine_of _ h) c.record_fine.ensures.decides;
      stands = λ e. record {
        sound = script_sound _ sound (c.record_fine.ensures.decides.so e);
        chained = is-sound.ensures.chained c.if-not-is_sound.false;
        indexed = c.record_fine.ensures.indexed e;
      };
    }
