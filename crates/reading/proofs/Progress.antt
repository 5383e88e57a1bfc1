-- A reader that goes on has passed a byte at least, and is inside the text: so does every token, and what is read is made of tokens.
use mathlib.Core.Path.{◌≡◌, refl, sym, ◌∙◌}
use mathlib.Core.Bool.{Bool, true}
use mathlib.Core.List.{List}
use Prim.Native.Nat.{ℕ, ◌<◌, ◌≤◌}
use native.Mathlib.Omega.{arith}
use lib.Dec.{eqb}
use lib.ListN.{length}
use borrow.Author.Tests.{eqb-true}
use Rattle.text.specs.Lexicon.{OPEN, CLOSE, NUMERAL, token_at}
use Rattle.text.proofs.Tokens.{token_placed}
use Rattle.reading.specs.Reading.{Read, past, expect, expect_word, expect_name, closed, amount, comparison, rest_from, conjoined, term, names_from, headed, bracketed}
use Rattle.reading.proofs.Every.{Every, by_test, given, weaker}
use Rattle.reading.proofs.Walking.{Walk, word_walks, name_walks, closed_walks, amount_walks, comparison_walks, rest_walks, conjoined_walks, term_walks, names_walk, headed_walks, reading_walks}

-- From place i to place j, within the text; a reader that went on from place i came so far.
abbrev Onward : List ℕ → Bool → ℕ → ℕ → Type 0
Onward s c i j = (i < j) × (j ≤ length s)

abbrev pub Moves : {A : Type 0} → List ℕ → ℕ → Read A → Type 0
Moves {A} s i r = Every {A = A} (λ a j. (i < j) × (j ≤ length s)) r

module _ {A : Type 0} (s : List ℕ) where
  -- Where a reader that went on has come.
  pub came : (i : ℕ) (r : Read A) → Moves s i r → (a : A) (j : ℕ) → r ≡ Read.got a j → (i < j) × (j ≤ length s)
  came i r m a j e = given (λ x k. Onward s true i k) r a j e m

module _ (s : List ℕ) where
  -- A token that is there.
  pub token_onward : (i : ℕ) → ((token_at s i).kind ≡ 0 → ⊥) → (i < past s i) × (past s i ≤ length s)
  token_onward i h = let p = (token_placed s i (token_at s i) refl).some h in (p.2, p.1)

  onward : Walk s (Onward s)
  onward = record {
    plain = λ i k e low high. token_onward i (λ z. omega (arith, e, z));
    closing = λ i e. token_onward i (λ z. omega (arith, e, z));
    opening = λ i j e h. let p = token_onward i (λ z. omega (arith, e, z)) in (omega (arith, p.0, h.0), h.1);
    joined = λ c i j k h l. (omega (arith, h.0, l.0), l.1);
  }

  pub expect_moves : (k i : ℕ) → (k ≡ 0 → ⊥) → Moves s i (expect k s i)
  expect_moves k i d =
      by_test _ (eqb (token_at s i).kind k) _ _ (λ h. record { holds = token_onward i (λ z. d (sym (eqb-true (token_at s i).kind k h) ∙ z)) }) (λ h. record { holds = tt })

  pub open_moves : (i : ℕ) → Moves s i (expect OPEN s i)
  open_moves i = expect_moves OPEN i (λ z. omega arith)

  pub close_moves : (i : ℕ) → Moves s i (expect CLOSE s i)
  close_moves i = expect_moves CLOSE i (λ z. omega arith)

  pub numeral_moves : (i : ℕ) → Moves s i (expect NUMERAL s i)
  numeral_moves i = expect_moves NUMERAL i (λ z. omega arith)

  pub word_moves : (w : List ℕ) (i : ℕ) → Moves s i (expect_word w s i)
  word_moves w i = word_walks s (Onward s) onward w i

  pub name_moves : (i : ℕ) → Moves s i (expect_name s i)
  name_moves i = name_walks s (Onward s) onward i

  pub closed_moves : {A : Type 0} (a : A) (i : ℕ) → Moves s i (closed s a i)
  closed_moves a i = closed_walks s (Onward s) onward a i

  pub amount_moves : (i : ℕ) → Moves s i (amount s i)
  amount_moves i = amount_walks s (Onward s) onward i

  pub comparison_moves : (w : List ℕ) (i : ℕ) → Moves s i (comparison w s i)
  comparison_moves w i = comparison_walks s (Onward s) onward w i

  pub term_moves : (d : ℕ) (odd : Bool) (i : ℕ) → Moves s i (term d s odd i)
  term_moves d odd i = term_walks s (Onward s) onward d odd i

  pub rest_moves : (d : ℕ) (odd : Bool) (f i : ℕ) → Moves s i (rest_from (term d s odd) f s i)
  rest_moves d odd f i = rest_walks s (Onward s) onward (term d s odd) (term_moves d odd) f i

  pub conjoined_moves : (d : ℕ) (odd : Bool) (i : ℕ) → Moves s i (conjoined (term d s odd) s i)
  conjoined_moves d odd i = conjoined_walks s (Onward s) onward (term d s odd) (term_moves d odd) i

  pub names_move : (f n i : ℕ) → Moves s i (names_from f s n i)
  names_move f n i = names_walk s (Onward s) onward f n i

  pub headed_moves : (w : List ℕ) (p i : ℕ) → Moves s i (headed w p s i)
  headed_moves w p i = headed_walks s (Onward s) onward w p i

  pub reading_moves : Moves s 0 (bracketed s)
  reading_moves = weaker (λ x k. ((token_at s 0).kind ≡ OPEN) × Onward s true (past s 0) k) _ (bracketed s) (λ c j h. (omega (arith, h.1.0), h.1.1)) (reading_walks s (Onward s) onward)
