-- What a command that was read says of its parts: the name that a declaration declares is in form and stands in the text, few names are asked for, no `and` of an asserted
-- term stands under an odd number of `not`, and the command ends within the text. These are the laws for callers of `read_command`.
use mathlib.Core.Path.{◌≡◌, refl, sym, ap, ◌∙◌}
use mathlib.Core.Bool.{Bool, true, false, not, cond}
use mathlib.Core.List.{List}
use Prim.Native.Nat.{ℕ, zero, suc, ◌+◌, ◌-◌, ◌<◌, ◌≤◌}
use native.Mathlib.Omega.{arith}
use lib.Dec.{eqb, leb, ltb}
use lib.ListN.{length}
use borrow.Author.Tests.{eqb-true, leb-true, ltb-true}
use Rattle.meaning.specs.Bounds.{NAME_BYTES, ASKED}
use Rattle.text.specs.Lexicon.{Tok}
use Rattle.text.specs.Lexicon.{OPEN, CLOSE, NUMERAL, SYMBOL, tok, token_at, bytes, same_bytes}
use Rattle.text.proofs.Tokens.{token_placed}
use Rattle.text.proofs.Words.{length_bytes}
use Rattle.words.specs.Words.{reserved, compares, operates, W_minus, W_not, W_and, W_Int, W_QF_IDL, W_set_logic, W_declare_fun, W_assert, W_push, W_pop, W_check_sat, W_get_value, W_exit}
use Rattle.reading.specs.Tree.{Piece, Term, Supported, Command}
use Rattle.reading.specs.Reading.{Why, Read, then, lexeme, piece, past, is_name, stops, expect, expect_word, expect_name, closed, amount, comparison, rest_from, conjoined, inside, unbracketed, term, names_from, asked, headed, bracketed}
use Rattle.reading.proofs.Every.{Every, by_test, by_then, given}
use Rattle.reading.proofs.Walking.{both_true}
use Rattle.reading.proofs.Progress.{came, reading_moves}
use Rattle.reading.proofs.Alone.{symbol_alone}

-- A name of the text s that may be declared.
pub record NewName (s : List ℕ) (w : Piece) : Type 0 where
  pub symbol : token_at w.letters 0 ≡ tok SYMBOL 0 (length w.letters)
  pub not_reserved : reserved w.letters ≡ false
  pub short : length w.letters ≤ NAME_BYTES
  pub within : w.place + length w.letters ≤ length s
  pub letters_are : bytes s w.place (w.place + length w.letters) ≡ w.letters

abbrev Facts : List ℕ → Command → Type 0
Facts s Command.set_logic = Unit {0}
Facts s Command.check_sat = Unit {0}
Facts s Command.exit = Unit {0}
Facts s (Command.declare w) = NewName s w
Facts s (Command.assert t) = Supported false t
Facts s (Command.push n) = Unit {0}
Facts s (Command.pop n) = Unit {0}
Facts s (Command.get_value ws) = (1 ≤ length ws) × (length ws ≤ ASKED)

not_true : (b : Bool) → not b ≡ true → b ≡ false
not_true true e = sym e
not_true false e = refl

module _ (s : List ℕ) where
  -- What is so of what was read, wherever it ends.
  abbrev Says : {A : Type 0} → (A → Type 0) → Read A → Type 0
  Says {A} P r = Every {A = A} (λ a j. P a) r

  module _ {A : Type 0} (P : A → Type 0) where
    stop : (w : Why) (j : ℕ) → Says P (Read.stop w j)
    stop w j = record { holds = tt }

    -- Another thing is read first.
    next : {B : Type 0} (r : Read B) (n : B → ℕ → Read A) → ((b : B) (j : ℕ) → Says P (n b j)) → Says P (then r n)
    next (Read.got b j) n h = h b j
    next (Read.stop w j) n h = record { holds = tt }

    close : (a : A) (i : ℕ) → P a → Says P (closed s a i)
    close a i h = next (expect CLOSE s i) _ (λ _ j. record { holds = h })

  pub name_says : (i : ℕ) → Says (NewName s) (expect_name s i)
  name_says i =
      by_test _ (is_name s t) _ _
      (λ h. by_test _ (leb (t.to - t.from) NAME_BYTES) _ _ (λ k. record { holds = new h k }) (λ k. stop (NewName s) _ _))
      (λ h. stop (NewName s) _ _)
    where
      t : Tok
      t = token_at s i

      new : is_name s t ≡ true → leb (t.to - t.from) NAME_BYTES ≡ true → NewName s (piece s t)
      new h k =
          let is = both_true (eqb t.kind SYMBOL) (not (reserved (lexeme s t))) h in
          let symbol = eqb-true t.kind SYMBOL is.0 in
          let p = (token_placed s i t refl).some (λ z. omega (arith, symbol, z)) in
          let long : length (lexeme s t) ≡ t.to - t.from = length_bytes s t.from t.to (omega (arith, p.0)) p.1 in
          let end : t.from + length (lexeme s t) ≡ t.to = omega (arith, long, p.0) in
          record {
            symbol = symbol_alone s i t.from t.to refl refl symbol p.0 ∙ ap (tok SYMBOL 0) (sym long);
            not_reserved = not_true (reserved (lexeme s t)) is.1;
            short = omega (arith, long, leb-true (t.to - t.from) NAME_BYTES k);
            within = omega (arith, end, p.1);
            letters_are = ap (bytes s t.from) end;
          }

  -- No `and` under an odd number of `not`.
  compared_says : (odd : Bool) (w : List ℕ) (i : ℕ) → Says (Supported odd) (comparison w s i)
  compared_says odd w i =
      next (Supported odd) (expect OPEN s i) _ (λ _ a. next (Supported odd) (expect_word W_minus s a) _ (λ _ b. next (Supported odd) (expect_name s b) _ (λ x c.
      next (Supported odd) (expect_name s c) _ (λ y d. next (Supported odd) (expect CLOSE s d) _ (λ _ e. next (Supported odd) (amount s e) _ (λ m f. close (Supported odd) (Term.atom w x y m) f tt))))))

  rest_says : (one : ℕ → Read Term) → ((i : ℕ) → Says (Supported false) (one i)) → (f i : ℕ) → Says (Supported false) (rest_from one f s i)
  unfolding rest_from
  rest_says one m zero i = stop (Supported false) _ _
  rest_says one m (suc f) i =
      by_then (λ t j. Supported false t) _ (one i) _ (m i) (λ t j h.
      by_test _ (eqb (token_at s j).kind CLOSE) _ _ (λ k. record { holds = h })
      (λ k. by_then (λ u e. Supported false u) _ (rest_from one f s j) _ (rest_says one m f j) (λ u e l. record { holds = (refl, (h, l)) })))

  inside_says : (one : Bool → ℕ → Read Term) → ((b : Bool) (i : ℕ) → Says (Supported b) (one b i)) → (odd : Bool) (i : ℕ) → Says (Supported odd) (inside one s odd i)
  inside_says one m odd i =
      let w = lexeme s (token_at s i) in
      let j = past s i in
      by_test _ (eqb (token_at s i).kind SYMBOL) _ _
      (λ h. by_test _ (compares w) _ _ (λ c. compared_says odd w j)
      (λ c. by_test _ (same_bytes w W_not) _ _ (λ k. by_then (λ t e. Supported (not odd) t) _ (one (not odd) j) _ (m (not odd) j) (λ t e l. close (Supported odd) (Term.negation t) e l))
      (λ k. by_test _ (same_bytes w W_and) _ _ (λ l. by-odd odd j) (λ l. stop (Supported odd) _ _))))
      (λ h. stop (Supported odd) _ _)
    where
      by-odd : (odd : Bool) (j : ℕ) → Says (Supported odd) (cond odd (stops Why.other s i) (conjoined (one false) s j))
      by-odd true j = record { holds = tt }
      by-odd false j =
          by_then (λ t k. Supported false t) _ (one false j) _ (m false j) (λ t k h.
          by_then (λ u e. Supported false u) _ (rest_from (one false) (suc (length s)) s k) _ (rest_says (one false) (m false) (suc (length s)) k) (λ u e l. record { holds = (refl, (h, l)) }))

  bare_says : (odd : Bool) (i : ℕ) → Says (Supported odd) (unbracketed s i)
  bare_says odd i =
      by_test _ (eqb (token_at s i).kind SYMBOL) _ _
      (λ h. by_test _ (operates (lexeme s (token_at s i))) _ _ (λ k. stop (Supported odd) _ _) (λ k. stop (Supported odd) _ _))
      (λ h. stop (Supported odd) _ _)

  pub term_says : (d : ℕ) (odd : Bool) (i : ℕ) → Says (Supported odd) (term d s odd i)
  unfolding term
  term_says zero odd i = by_test _ (eqb (token_at s i).kind OPEN) _ _ (λ h. stop (Supported odd) _ _) (λ h. bare_says odd i)
  term_says (suc d) odd i =
      by_test _ (eqb (token_at s i).kind OPEN) _ _ (λ h. inside_says (term d s) (term_says d) odd (past s i)) (λ h. bare_says odd i)

  -- At most ASKED names, n of them read before.
  pub names_say : (f n i : ℕ) → Says (λ ws. (1 ≤ length ws) × (n + length ws ≤ ASKED)) (names_from f s n i)
  unfolding names_from
  names_say zero n i = record { holds = tt }
  names_say (suc f) n i =
      next _ (expect_name s i) _ (λ w j.
      by_test _ (ltb n ASKED) _ _
      (λ h. by_test _ (eqb (token_at s j).kind CLOSE) _ _
      (λ k. record { holds = (omega arith, omega (arith, ltb-true n ASKED h)) })
      (λ k. by_then (λ ws e. (1 ≤ length ws) × (n + 1 + length ws ≤ ASKED)) _ (names_from f s (n + 1) j) _ (names_say f (n + 1) j) (λ ws e l. record { holds = (omega arith, omega (arith, l.1)) })))
      (λ h. record { holds = tt }))

  headed_says : (w : List ℕ) (p i : ℕ) → Says (Facts s) (headed w p s i)
  headed_says w p i =
      let F = Facts s in
      by_test _ (same_bytes w W_assert) _ _ (λ h. by_then (λ t j. Supported false t) _ (term _ s false i) _ (term_says _ false i) (λ t j k. close F (Command.assert t) j k))
      (λ h. by_test _ (same_bytes w W_declare_fun) _ _
      (λ h. by_then (λ x a. NewName s x) _ (expect_name s i) _ (name_says i) (λ x a k.
      next F (expect OPEN s a) _ (λ _ b. next F (expect CLOSE s b) _ (λ _ c. next F (expect_word W_Int s c) _ (λ _ d. close F (Command.declare x) d k)))))
      (λ h. by_test _ (same_bytes w W_check_sat) _ _ (λ h. close F Command.check_sat i tt)
      (λ h. by_test _ (same_bytes w W_push) _ _ (λ h. next F (expect NUMERAL s i) _ (λ n j. close F (Command.push n) j tt))
      (λ h. by_test _ (same_bytes w W_pop) _ _ (λ h. next F (expect NUMERAL s i) _ (λ n j. close F (Command.pop n) j tt))
      (λ h. by_test _ (same_bytes w W_get_value) _ _
      (λ h. next F (expect OPEN s i) _ (λ _ a. by_then (λ ws b. (1 ≤ length ws) × (0 + length ws ≤ ASKED)) _ (asked s a) _ (names_say (suc (length s)) 0 a) (λ ws b k. close F (Command.get_value ws) b (k.0, omega (arith, k.1)))))
      (λ h. by_test _ (same_bytes w W_set_logic) _ _ (λ h. next F (expect_word W_QF_IDL s i) _ (λ _ j. close F Command.set_logic j tt))
      (λ h. by_test _ (same_bytes w W_exit) _ _ (λ h. close F Command.exit i tt) (λ h. stop F _ _))))))))

  reading_says : Says (Facts s) (bracketed s)
  reading_says = next (Facts s) (expect OPEN s 0) _ (λ _ i. next (Facts s) (expect SYMBOL s i) _ (λ w j. headed_says w.letters w.place j))

  facts_of : (c : Command) (e : ℕ) → bracketed s ≡ Read.got c e → Facts s c
  facts_of c e h = given (λ x j. Facts s x) (bracketed s) c e h reading_says

  pub declared_new : (w : Piece) (e : ℕ) → bracketed s ≡ Read.got (Command.declare w) e → NewName s w
  declared_new w e h = facts_of (Command.declare w) e h

  -- The name that is declared is in form.
  pub declared_in_form :
      (w : Piece) (e : ℕ) → bracketed s ≡ Read.got (Command.declare w) e →
      (token_at w.letters 0 ≡ tok SYMBOL 0 (length w.letters)) × ((reserved w.letters ≡ false) × (length w.letters ≤ NAME_BYTES))
  declared_in_form w e h = let n = declared_new w e h in (n.symbol, (n.not_reserved, n.short))

  -- It stands in the text.
  pub declared_placed :
      (w : Piece) (e : ℕ) → bracketed s ≡ Read.got (Command.declare w) e →
      (w.place ≤ w.place + length w.letters) × ((w.place + length w.letters ≤ length s) × (bytes s w.place (w.place + length w.letters) ≡ w.letters))
  declared_placed w e h = let n = declared_new w e h in (omega arith, (n.within, n.letters_are))

  pub few_asked : (ws : List Piece) (e : ℕ) → bracketed s ≡ Read.got (Command.get_value ws) e → (1 ≤ length ws) × (length ws ≤ ASKED)
  few_asked ws e h = facts_of (Command.get_value ws) e h

  pub asserted_supported : (t : Term) (e : ℕ) → bracketed s ≡ Read.got (Command.assert t) e → Supported false t
  asserted_supported t e h = facts_of (Command.assert t) e h

  pub read_within : (c : Command) (e : ℕ) → bracketed s ≡ Read.got c e → (0 < e) × (e ≤ length s)
  read_within c e h = came s 0 (bracketed s) (reading_moves s) c e h
