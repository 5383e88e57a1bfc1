-- What is known of a text that was read: it begins with its bracket, so that all laws of what stands in brackets hold of it, and its span is what was read.
use mathlib.Core.Path.{◌≡◌, refl}
use mathlib.Core.Bool.{Bool, true, false, cond}
use mathlib.Core.List.{List}
use Prim.Native.Nat.{ℕ, ◌≤◌, ◌<◌}
use native.Mathlib.Omega.{arith}
use lib.Dec.{eqb}
use lib.ListN.{length}
use borrow.Author.Tests.{eqb-true}
use Rattle.meaning.specs.Bounds.{ASKED}
use Rattle.text.specs.Lexicon.{token_at}
use Rattle.span.specs.Span.{span}
use Rattle.reading.specs.Tree.{Piece, Term, Supported, Command}
use Rattle.reading.specs.Reading.{Why, Read, bracketed, reading}
use Rattle.reading.proofs.Laws.{NewName}
use Rattle.reading.proofs.Laws as laws
use Rattle.reading.proofs.Balanced as balanced

-- Reading came to something, so the first token begins the text.
opened : (b : Bool) (r : Read Command) (i : ℕ) (c : Command) (e : ℕ) → cond b r (Read.stop Why.wrong i) ≡ Read.got c e → (b ≡ true) × (r ≡ Read.got c e)
opened true r i c e h = (refl, h)
opened false r i c e h = let z : ◌≡◌ {A = ℕ} 0 1 = cc in absurd (omega arith)

module _ (s : List ℕ) where
  begun : (c : Command) (e : ℕ) → reading s ≡ Read.got c e → ((token_at s 0).from ≡ 0) × (bracketed s ≡ Read.got c e)
  begun c e h =
      let o = opened (eqb (token_at s 0).from 0) (bracketed s) (token_at s 0).from c e h in
      (eqb-true (token_at s 0).from 0 o.0, o.1)

  pub read_spans : (c : Command) (e : ℕ) → reading s ≡ Read.got c e → span s ≡ e
  read_spans c e h = let b = begun c e h in balanced.read_spans s c e b.1 b.0

  pub read_within : (c : Command) (e : ℕ) → reading s ≡ Read.got c e → (0 < e) × (e ≤ length s)
  read_within c e h = laws.read_within s c e (begun c e h).1

  pub declared_new : (w : Piece) (e : ℕ) → reading s ≡ Read.got (Command.declare w) e → NewName s w
  declared_new w e h = laws.declared_new s w e (begun (Command.declare w) e h).1

  pub few_asked : (ws : List Piece) (e : ℕ) → reading s ≡ Read.got (Command.get_value ws) e → (1 ≤ length ws) × (length ws ≤ ASKED)
  few_asked ws e h = laws.few_asked s ws e (begun (Command.get_value ws) e h).1

  pub asserted_supported : (t : Term) (e : ℕ) → reading s ≡ Read.got (Command.assert t) e → Supported false t
  asserted_supported t e h = laws.asserted_supported s t e (begun (Command.assert t) e h).1
