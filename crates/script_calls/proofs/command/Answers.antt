-- `script_calls::command` meets its contract: it lends the lexicon's table, and `command_by` does the rest.
use mathlib.Core.Path.{refl}
use Rattle.text.specs.Table.{TABLE}
use Rattle.script_calls.proofs.command.Goals as goal

pub command_by-requires : goal.command_by-requires
unfolding TABLE
command_by-requires c = refl

pub returns : goal.returns
returns c = let command-by = c.command_by in
    command-by.ensures
