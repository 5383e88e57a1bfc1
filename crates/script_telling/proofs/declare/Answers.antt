-- `script_telling::declare` meets its contract: the arm of a declare-fun gives what `names::declare` gives, and every other arm leaves the tables as they are.
use mathlib.Core.Path.{refl}
use mathlib.Core.List.{List}
use Prim.Native.Nat.{ℕ}
use Rattle.script_telling.specs.Telling.{Same}
use native.Mathlib.Omega.{arith}
use Rattle.text.proofs.Words.{length_bytes}
use Rattle.script_telling.proofs.declare.Goals as goal

untouched : {names lens hashes heads nexts : List ℕ} → Same names lens hashes heads nexts names lens hashes heads nexts
untouched = record {
  names_same = refl;
  lens_same = refl;
  hashes_same = refl;
  heads_same = refl;
  nexts_same = refl;
}

pub slice_bounds-declare-count : goal.slice_bounds-declare-count
slice_bounds-declare-count c = let given = c.requires.by_index _ _ c.in-Declare.is in
    omega (arith, given.0, given.1.1.0)

pub slice_bounds-declare-start : goal.slice_bounds-declare-start
slice_bounds-declare-start c = let given = c.requires.by_index _ _ c.in-Declare.is in
    omega (arith, given.0, given.1.1.0)

pub slice_bounds-declare-end : goal.slice_bounds-declare-end
slice_bounds-declare-end c = let given = c.requires.by_index _ _ c.in-Declare.is in
    omega (arith, given.0, given.1.1.0)

pub declare-requires : goal.declare-requires
declare-requires c = let given = c.requires.by_index _ _ c.in-Declare.is in record {
  n_bound = omega (arith, given.1.1.1);
  shelved = c.requires.shelved;
  index_room = c.requires.index_room;
  short = omega (arith, length_bytes c.args.s.now c.in-Declare.a c.in-Declare.b given.0 given.1.1.0, given.1.0);
}

pub returns-in-Declare : goal.returns-in-Declare
returns-in-Declare c = rw c.in-Declare.is c.declare.ensures

pub returns-in-SetLogic : goal.returns-in-SetLogic
returns-in-SetLogic c = rw c.in-SetLogic.is untouched

pub returns-in-Assert : goal.returns-in-Assert
returns-in-Assert c = rw c.in-Assert.is untouched

pub returns-in-Push : goal.returns-in-Push
returns-in-Push c = rw c.in-Push.is untouched

pub returns-in-Pop : goal.returns-in-Pop
returns-in-Pop c = rw c.in-Pop.is untouched

pub returns-in-CheckSat : goal.returns-in-CheckSat
returns-in-CheckSat c = rw c.in-CheckSat.is untouched

pub returns-in-GetValue : goal.returns-in-GetValue
returns-in-GetValue c = rw c.in-GetValue.is untouched

pub returns-in-Exit : goal.returns-in-Exit
returns-in-Exit c = rw c.in-Exit.is untouched
