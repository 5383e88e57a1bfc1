-- `export_record::command`: the promise of `script_calls::command` over the notes, taken to the record.
use Rattle.export_record.proofs.Keeping.{command_kept}
use Rattle.export_record.proofs.command.Goals as goal

pub returns : goal.returns
returns c = command_kept _ _ _ _ _ _ _ _ _ _ _ _ _ _ c.brought-after.ensures c.notes_for-notes.ensures c.command-reply.ensures
