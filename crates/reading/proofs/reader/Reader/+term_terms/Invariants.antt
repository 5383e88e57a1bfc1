-- The proof of the cycle of calls {term, terms}. A term's measure is twice its depth, that of terms after `and` one more, so each falls.
-- The invariant of the loop in `terms`: the rules of the terms that were read stand in the rows, and what the rest is read as decides what the whole is; its measure is
-- what is left of the text.
use Prim.Native.Nat.{◌+◌, ◌*◌, ◌-◌}
use lib.ListN.{length}
use Rattle.reading.specs.Heard.{noted_as}
use Rattle.reading.specs.Rows.{Kept, columns_of}
use Rattle.reading.proofs.Terms.{Going}
use Rattle.reading.proofs.reader.Reader.+term_terms.Given as goal

abbrev pub decreases-term : goal.decreases-term
decreases-term l = 2 * l.d

abbrev pub decreases-terms : goal.decreases-terms
decreases-terms l = 2 * l.d + 1

abbrev pub invariant-terms-loop-i : goal.invariant-terms-loop-i
invariant-terms-loop-i l =
    let first = l.initial.rows in
    record {
      kept : Kept first l.rows;
      going : Going l.self.names.count l.self.names.letters.now l.self.names.lens.now l.self.text.now l.d l.initial.i first.count (noted_as first.fault) (columns_of first) l.i l.rows.count (noted_as l.rows.fault) (columns_of l.rows);
    }

abbrev pub decreases-terms-loop-i : goal.decreases-terms-loop-i
decreases-terms-loop-i l = length l.self.text.now - l.i
