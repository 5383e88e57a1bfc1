-- The closing bracket: what was read before it is what was read.
use Prim.Native.Nat.{ℕ, ◌≤◌, ◌<◌}
use mathlib.Core.Path.{◌≡◌, refl}
use mathlib.Core.List.{List}
use lib.ListN.{length}
use Rattle.std.specs.Prelude.{Option, Result, Ok, Err}
use Rattle.meaning.specs.declared.Refusal.{Refusal}
use Rattle.meaning.specs.Tables.{Columns}
use Rattle.text.specs.Lexicon.{CLOSE}
use Rattle.reading.specs.declared.Stop.{Stop}
use Rattle.reading.specs.declared.Kind.{Kind}
use Rattle.reading.specs.declared.Heard.{Heard}
use Rattle.reading.specs.Tree.{Piece, Command}
use Rattle.reading.specs.Reading.{Read, then, expect, closed}
use Rattle.reading.specs.Heard.{Came, Hears, noted_as, told, Tells}
use Rattle.reading.specs.Parts.{CommandSaid}
use Rattle.reading.proofs.Steps.{read_to, goes_on, halts, came_to}
use Rattle.reading.proofs.Progress.{came, close_moves}

pub closing :
    {A : Type 0} (s : List ℕ) (i : ℕ) (a : A) (P : A → ℕ → ℕ → Type 0) (r : Result ℕ Stop) → Hears (expect CLOSE s i) (λ _ e x. x ≡ e) r →
    ((x : ℕ) → i < x → x ≤ length s → P a x x) → Hears (closed s a i) P r
closing s i a P (Ok x) h k =
    let c = read_to (expect CLOSE s i) x h in
    let far = came s i (expect CLOSE s i) (close_moves s i) c.0 x c.1 in
    came_to (closed s a i) _ a x (goes_on (expect CLOSE s i) _ c.0 x c.1) (k x far.0 far.1)
closing s i a P (Err e) h k = halts (expect CLOSE s i) _ e h

-- The command that its closing bracket ends is told.
pub ended :
    (s : List ℕ) (i : ℕ) (c : Command) (k : Kind) (f : Option Refusal) (n : ℕ) (names lens : List ℕ) (rows : Columns) (r : Result Heard Stop) →
    Hears (closed s c i) (λ d e h. (d ≡ c) × (h ≡ told k e f)) r → Tells n names lens c k (noted_as f) rows → Hears (closed s c i) (λ d e h. CommandSaid n names lens d e h rows) r
ended s i c k f n names lens rows (Ok h) p t = by-closing (expect CLOSE s i) p
  where
    by-closing : (R : Read Piece) → Came (then R (λ _ j. Read.got c j)) (λ d e. (d ≡ c) × (h ≡ told k e f)) → Came (then R (λ _ j. Read.got c j)) (λ d e. CommandSaid n names lens d e h rows)
    by-closing (Read.got a j) p = rw p.1 (record { past_is = refl; tells = t })
    by-closing (Read.stop w j) p = absurd p
ended s i c k f n names lens rows (Err e) p t = p
