-- What is told of a command that was read, by the rows of its term, the column of its names, or the ends of its name.
use Prim.Native.Nat.{ℕ, ◌+◌, ◌≤◌}
use native.Mathlib.Omega.{arith}
use mathlib.Core.Path.{◌≡◌, ap}
use mathlib.Core.Bool.{false}
use mathlib.Core.List.{List, [], ◌∷◌}
use lib.ListN.{length}
use Rattle.std.specs.Prelude.{Option}
use Rattle.meaning.specs.declared.Refusal.{Refusal}
use Rattle.meaning.specs.Bounds.{NAME}
use Rattle.meaning.specs.Tables.{Columns}
use Rattle.meaning.specs.Promise.{First, needs}
use Rattle.text.specs.declared.Tok.{Tok as Given}
use Rattle.text.specs.Numbered.{numbered}
use Rattle.text.proofs.Words.{length_bytes}
use Rattle.reading.specs.declared.Kind.{Kind}
use Rattle.reading.specs.declared.rows.Rows.{Rows}
use Rattle.reading.specs.declared.reader.Reader.{Reader}
use Rattle.reading.specs.Tree.{Piece, Term, Command}
use Rattle.reading.specs.Reading.{lexeme, piece}
use Rattle.reading.specs.Saying.{KnownIn}
use Rattle.reading.specs.Heard.{noted_as, Tells}
use Rattle.reading.specs.Rows.{Fresh, TermPut, NamesPut, columns_of}

module _ (r : Reader) where
  pub tells_declare :
      (s : List ℕ) (t : Given) → t.from ≤ t.to → t.to ≤ length s → (w : Piece) → w ≡ piece s (numbered t) → (fault : Option Refusal) →
      First (needs NAME (KnownIn r.names.count r.names.letters.now r.names.lens.now (lexeme s (numbered t)) → ⊥) ∷ []) (noted_as fault) → (rows : Columns) →
      Tells r.names.count r.names.letters.now r.names.lens.now (Command.declare w) (Kind.Declare t.from t.to) (noted_as fault) rows
  tells_declare s t ordered within w is fault first rows =
      let size = length_bytes s t.from t.to ordered within in
      let ends : t.to ≡ t.from + length (lexeme s (numbered t)) = omega (arith, size, ordered) in
      rw is (record { kind_is = ap (Kind.Declare t.from) ends; fault_first = first; holding = λ z. tt })

  -- An assertion, by the rows of its term.
  pub tells_assert :
      (t : Term) (before after : Rows) (x : ℕ) → Fresh before → TermPut r false t before after x →
      Tells r.names.count r.names.letters.now r.names.lens.now (Command.assert t) (Kind.Assert after.count) (noted_as after.fault) (columns_of after)
  tells_assert t before after x fresh put = record {
    kind_is = ap Kind.Assert (omega (arith, put.rowed.counted, fresh.none));
    fault_first = put.rowed.fault_first (ap noted_as fresh.no_fault);
    holding = λ z few. rw fresh.none at (put.rowed.laid z (omega (arith, put.rowed.counted, fresh.none, few)));
  }

  -- Names asked for, by their column.
  pub tells_asked :
      (ws : List Piece) (after : Rows) → NamesPut r ws after →
      Tells r.names.count r.names.letters.now r.names.lens.now (Command.get_value ws) (Kind.GetValue after.count) (noted_as after.fault) (columns_of after)
  tells_asked ws after put = record { kind_is = ap Kind.GetValue put.counted; fault_first = put.fault_first; holding = put.listed }
