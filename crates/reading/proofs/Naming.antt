-- A name that was read and looked up: what is declared is no reserved word and short, so it is a name of the form; its step is the number under which it is found.
use Prim.Native.Nat.{ℕ, ◌-◌, ◌≤◌}
use native.Mathlib.Omega.{arith}
use mathlib.Core.Path.{◌≡◌, refl, sym, ap, ◌∙◌}
use mathlib.Core.Bool.{true, false, false≢true}
use mathlib.Core.List.{List, [], ◌∷◌}
use mathlib.Core.Logic.{inl, inr}
use Rattle.std.specs.Prelude.{Option, Some, None, MatchOption}
use Rattle.std.specs.Option.{is_some}
use Rattle.meaning.specs.Bounds.{DONE, NAME, NAME_BYTES}
use Rattle.meaning.specs.Promise.{First, needs}
use Rattle.reading.specs.Saying.{KnownIn}
use Rattle.text.specs.declared.Tok.{Tok as Given}
use Rattle.text.specs.Numbered.{numbered}
use Rattle.text.proofs.Words.{length_bytes}
use Rattle.words.specs.Words.{reserved}
use Rattle.names.specs.Names.{Shelved, Unknown, Stands, AllDifferent}
use Rattle.reading.specs.Reading.{Read, lexeme, piece, expect_name}
use Rattle.reading.specs.Heard.{NoneReserved}
use Rattle.reading.specs.Parts.{SymbolAt, StepOf}
use Rattle.reading.proofs.Steps.{name_fits}
use Rattle.reading.proofs.Seeking.{step_is, found_known, found_unknown, known_short}

module _ (n : ℕ) (names lens : List ℕ) where
  -- What is found is the step.
  pub found_step : AllDifferent n names lens → (w : List ℕ) (o : Option ℕ) → MatchOption o (Unknown n names lens w) (λ k. Stands n names lens w k) → StepOf n names lens w o
  found_step different w (Some k) found = (sym (step_is names lens w n k different (inl found)), found.0)
  found_step different w None none = found_unknown names lens w n n (inr (refl, none)) (omega arith)

  -- A name that is found is a name of the form.
  pub known_name : Shelved n names lens → NoneReserved n names lens → (s : List ℕ) (i : ℕ) (t : Given) → SymbolAt s i t → (k : ℕ) → Stands n names lens (lexeme s (numbered t)) k →
      expect_name s i ≡ Read.got (piece s (numbered t)) t.to
  known_name shelved free s i t is k found =
      let word = lexeme s (numbered t) in
      let size = length_bytes s t.from t.to is.ordered is.within.1 in
      let short : t.to - t.from ≤ NAME_BYTES = omega (arith, size, known_short names lens word n shelved (found_known names lens word n k (inl found) found.0)) in
      let open-word : reserved word ≡ false = sym (ap reserved found.1) ∙ free k found.0 in
      name_fits s i (numbered t) is.told is.symbol open-word short

  pub found_read : Shelved n names lens → NoneReserved n names lens → (s : List ℕ) (i : ℕ) (t : Given) → SymbolAt s i t → (o : Option ℕ) → is_some o ≡ true →
      MatchOption o (Unknown n names lens (lexeme s (numbered t))) (λ k. Stands n names lens (lexeme s (numbered t)) k) → expect_name s i ≡ Read.got (piece s (numbered t)) t.to
  found_read shelved free s i t is (Some k) e found = known_name shelved free s i t is k found
  found_read shelved free s i t is None e none = absurd (false≢true e)

  -- A new name is not declared yet.
  pub found_clash : (w : List ℕ) (o : Option ℕ) → is_some o ≡ true → MatchOption o (Unknown n names lens w) (λ k. Stands n names lens w k) → First (needs NAME (KnownIn n names lens w → ⊥) ∷ []) NAME
  found_clash w (Some k) e found = inl (refl, λ new. new (found_known names lens w n k (inl found) found.0))
  found_clash w None e none = absurd (false≢true e)

  pub found_fresh : (w : List ℕ) (o : Option ℕ) → is_some o ≡ false → MatchOption o (Unknown n names lens w) (λ k. Stands n names lens w k) → First (needs NAME (KnownIn n names lens w → ⊥) ∷ []) DONE
  found_fresh w (Some k) e found = absurd (false≢true (sym e))
  found_fresh w None e none = inr (found_unknown names lens w n n (inr (refl, none)) (omega arith), refl)
