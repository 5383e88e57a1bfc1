-- The index of the names after a command: a name that is declared is put on it, and else it is as it was.
use Prim.Native.Nat.{ℕ}
use mathlib.Core.Bool.{Bool}
use mathlib.Core.List.{List}
use Rattle.reading.specs.declared.Kind.{Kind}
use Rattle.names.specs.Names.{Indexed}
use Rattle.script_meaning.specs.declared.Notes.{Notes}
use Rattle.script_telling.specs.Telling.{Same, Declares, noted}

same_index :
    {n : ℕ} {names lens hashes heads nexts names' lens' hashes' heads' nexts' : List ℕ} → Same names lens hashes heads nexts names' lens' hashes' heads' nexts' →
    Indexed n names lens hashes heads nexts → Indexed n names' lens' hashes' heads' nexts'
same_index d i = rw (d.names_same, d.lens_same, d.hashes_same, d.heads_same, d.nexts_same) i

-- The index after a command is that of the names after it.
pub indexed_after :
    (c : Kind) (s : List ℕ) (n : Notes) (clash : Bool) (k : ℕ) (names lens hashes heads nexts names' lens' hashes' heads' nexts' : List ℕ) →
    Declares c s n.names names lens hashes heads nexts names' lens' hashes' heads' nexts' → Indexed n.names names lens hashes heads nexts →
    Indexed (noted c n clash k).names names' lens' hashes' heads' nexts'
indexed_after (Kind.Declare a b) s n clash k names lens hashes heads nexts names' lens' hashes' heads' nexts' d i = d.indexed i
indexed_after Kind.SetLogic s n clash k names lens hashes heads nexts names' lens' hashes' heads' nexts' d i = same_index d i
indexed_after (Kind.Assert j) s n clash k names lens hashes heads nexts names' lens' hashes' heads' nexts' d i = same_index d i
indexed_after (Kind.Push j) s n clash k names lens hashes heads nexts names' lens' hashes' heads' nexts' d i = same_index d i
indexed_after (Kind.Pop j) s n clash k names lens hashes heads nexts names' lens' hashes' heads' nexts' d i = same_index d i
indexed_after Kind.CheckSat s n clash k names lens hashes heads nexts names' lens' hashes' heads' nexts' d i = same_index d i
indexed_after (Kind.GetValue j) s n clash k names lens hashes heads nexts names' lens' hashes' heads' nexts' d i = same_index d i
indexed_after Kind.Exit s n clash k names lens hashes heads nexts names' lens' hashes' heads' nexts' d i = same_index d i
