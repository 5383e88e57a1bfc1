-- `reading::reader::Reader::atom` meets its contract: the rule that is put is that of the operator under its `not`.
use native.Mathlib.Omega.{arith}
use mathlib.Core.Path.{refl}
use Rattle.reading.specs.Reading.{comparison}
use Rattle.reading.proofs.Steps.{read_as, came_to}
use Rattle.reading.proofs.Progress.{came, comparison_moves}
use Rattle.reading.proofs.Atoms.{read_small}
use Rattle.reading.proofs.Made.{atom_term, turned_within}
use Rattle.reading.proofs.reader.Reader.atom.Goals as goal

pub turned-requires : goal.turned-requires
turned-requires c = let s = c.args.self.now.text.now in
    let w = c.args.operator.now in
    let names = c.args.self.now.names in
    let read = read_as (comparison w s c.args.at) _ c.in_ok-atom.end (c.in_ok-atom.ensures w) in
    read_small names.count names.letters.now names.lens.now w c.in_ok-atom.atom read.0 read.1.1

pub put-requires : goal.put-requires
put-requires c = let s = c.args.self.now.text.now in
    let w = c.args.operator.now in
    let names = c.args.self.now.names in
    let read = read_as (comparison w s c.args.at) _ c.in_ok-atom.end (c.in_ok-atom.ensures w) in
    let within = turned_within names.count names.letters.now names.lens.now names.shelved.names_in w c.args.odd c.in_ok-atom.atom read.0 read.1.1 in
    record {
      room = omega (arith, c.requires.few, c.ranges.at.fits);
      first_in = rw c.turned.ensures within.0;
      second_in = rw c.turned.ensures within.1;
    }

pub returns : goal.returns
returns c = let s = c.args.self.now.text.now in
    let w = c.args.operator.now in
    let names = c.args.self.now.names in
    let end = c.in_ok-atom.end in
    let read = read_as (comparison w s c.args.at) _ end (c.in_ok-atom.ensures w) in
    let far = came s c.args.at (comparison w s c.args.at) (comparison_moves s w c.args.at) read.0 end read.1.0 in
    let put = rw c.turned.ensures at c.put.ensures.put in
    record {
      kept = c.put.ensures.kept;
      heard = came_to _ _ read.0 end read.1.0 (
        refl,
        record {
          rowed = atom_term names.count names.letters.now names.lens.now w c.args.odd c.in_ok-atom.atom read.0 c.requires.compares read.1.1 _ _ put c.put.ensures.kept.as_many_xs;
          few = omega (arith, put.counted, c.requires.few, far.0);
          within = far.1;
        },
      );
    }
