-- **What was read is written so**: the tokens that a reader passed spell what it read, each at its place, and this is within the limits.
use mathlib.Core.Path.{◌≡◌, refl, sym, subst}
use mathlib.Core.Bool.{Bool, true, false, not, cond}
use mathlib.Core.List.{List, [], ◌∷◌, ◌++◌, append_assoc}
use Prim.Native.Nat.{ℕ, zero, suc, ◌+◌, ◌-◌, ◌≤◌}
use native.Mathlib.Omega.{arith}
use lib.Dec.{eqb, leb, ltb}
use lib.ListN.{length}
use borrow.Author.Tests.{eqb-true}
use Rattle.meaning.specs.Bounds.{NAME_BYTES, ASKED, DEPTH}
use Rattle.text.specs.Lexicon.{OPEN, CLOSE, NUMERAL, SYMBOL, token_at, same_bytes}
use Rattle.text.proofs.Equal.{same_equal}
use Rattle.words.specs.Words.{compares, operates, W_minus, W_not, W_and, W_Int, W_QF_IDL, W_set_logic, W_declare_fun, W_assert, W_push, W_pop, W_check_sat, W_get_value, W_exit}
use Rattle.reading.specs.Tree.{Piece, Term, deeper, depth, Supported, Command}
use Rattle.reading.specs.Reading.{Read, then, lexeme, piece, past, is_word, is_name, expect, expect_word, expect_name, amount, comparison, rest_from, inside, unbracketed, term, names_from, asked, headed, reading}
use Rattle.reading.specs.Spelling.{Sign, spelt_amount, spelt, spelt_names, spelt_inside, Stands, Spells, NameFine, NamesFine, Formed, Within, Written}
use Rattle.reading.proofs.Every.{Every, by_test, by_then, given, weaker, both_hold}
use Rattle.reading.proofs.Walking.{both_true}
use Rattle.reading.proofs.Laws.{NewName, name_says, term_says, names_say}

-- The deeper of two depths is as deep as both.
deeper_fits : (a b d : ℕ) → a ≤ d → b ≤ d → deeper a b ≤ d
deeper_fits a b d h k = by (leb a b)
  where
    by : (t : Bool) → cond t b a ≤ d
    by true = k
    by false = h

-- A term is the rest of a conjunction too.
formed_rest : (t : Term) → Formed false t → Formed true t
formed_rest (Term.atom w x y c) h = h
formed_rest (Term.negation t) h = h
formed_rest (Term.conjunction t u) h = h
formed_rest (Term.also t u) h = (refl, h.1)

module _ (s : List ℕ) where
  -- Tokens, and others after them.
  spells_on : (l m : List Sign) (i j k : ℕ) → Spells s i l j → Spells s j m k → Spells s i (l ++ m) k
  spells_on [] m i j k h g = subst (λ (n : ℕ). Spells s n m k) (sym h) g
  spells_on (x ∷ l) m i j k h g = (h.0, spells_on l m (past s i) j k h.1 g)

  -- What holds of what was read at place i, where one token was passed; and what comes after it.
  abbrev One : {A : Type 0} → (A → Type 0) → ℕ → Read A → Type 0
  One {A} P i r = Every {A = A} (λ a j. P a × (past s i ≡ j)) r

  kind_one : (k i : ℕ) → One (λ p. ((token_at s i).kind ≡ k) × (piece s (token_at s i) ≡ p)) i (expect k s i)
  kind_one k i = by_test _ (eqb (token_at s i).kind k) _ _ (λ h. record { holds = ((eqb-true (token_at s i).kind k h, refl), refl) }) (λ h. record { holds = tt })

  word_one : (w : List ℕ) (i : ℕ) → One (λ p. Stands s i (Sign.word w)) i (expect_word w s i)
  word_one w i =
      by_test _ (is_word s (token_at s i) w) _ _
      (λ h. let is = both_true (eqb (token_at s i).kind SYMBOL) _ h in record { holds = ((eqb-true (token_at s i).kind SYMBOL is.0, same_equal (lexeme s (token_at s i)) w is.1), refl) })
      (λ h. record { holds = tt })

  symbol_one : (i : ℕ) → One (λ p. Stands s i (Sign.name p)) i (expect_name s i)
  symbol_one i =
      by_test _ (is_name s (token_at s i)) _ _
      (λ h. by_test _ (leb ((token_at s i).to - (token_at s i).from) NAME_BYTES) _ _
      (λ k. record { holds = ((eqb-true (token_at s i).kind SYMBOL (both_true (eqb (token_at s i).kind SYMBOL) _ h).0, refl), refl) })
      (λ k. record { holds = tt }))
      (λ h. record { holds = tt })

  name_one : (i : ℕ) → One (λ p. Stands s i (Sign.name p) × NameFine p) i (expect_name s i)
  name_one i =
      weaker _ _ (expect_name s i) (λ p j h. ((h.0.0, record { not_reserved = h.1.not_reserved; short = h.1.short }), h.0.1))
      (both_hold (λ p j. Stands s i (Sign.name p) × (past s i ≡ j)) (λ p j. NewName s p) (expect_name s i) (symbol_one i) (name_says s i))

  module _ {A B : Type 0} (P : A → Type 0) (Q : B → ℕ → Type 0) where
    passed : (i : ℕ) (r : Read A) (next : A → ℕ → Read B) → One P i r → ((a : A) → P a → Every Q (next a (past s i))) → Every Q (then r next)
    passed i r next h n = by_then (λ a j. P a × (past s i ≡ j)) Q r next h (λ a j k. subst (λ (e : ℕ). Every Q (next a e)) k.1 (n a k.0))

  module _ {B : Type 0} (Q : B → ℕ → Type 0) where
    after-kind : (k i : ℕ) (next : Piece → ℕ → Read B) → ((p : Piece) → ((token_at s i).kind ≡ k) × (piece s (token_at s i) ≡ p) → Every Q (next p (past s i))) → Every Q (then (expect k s i) next)
    after-kind k i next n = passed _ Q i (expect k s i) next (kind_one k i) n

    after-word : (w : List ℕ) (i : ℕ) (next : Piece → ℕ → Read B) → ((p : Piece) → Stands s i (Sign.word w) → Every Q (next p (past s i))) → Every Q (then (expect_word w s i) next)
    after-word w i next n = passed _ Q i (expect_word w s i) next (word_one w i) n

    after_name : (i : ℕ) (next : Piece → ℕ → Read B) → ((p : Piece) → Stands s i (Sign.name p) × NameFine p → Every Q (next p (past s i))) → Every Q (then (expect_name s i) next)
    after_name i next n = passed _ Q i (expect_name s i) next (name_one i) n

  amount_spelt : (i : ℕ) → Every (λ m j. Spells s i (spelt_amount m) j) (amount s i)
  amount_spelt i =
      by_test _ (eqb (token_at s i).kind OPEN) _ _
      (λ o. after-word _ W_minus (past s i) _ (λ _ w. after-kind _ NUMERAL (past s (past s i)) _ (λ p n. after-kind _ CLOSE (past s (past s (past s i))) _ (λ _ c.
      record { holds = (eqb-true (token_at s i).kind OPEN o, (w, (n, (c.0, refl)))) }))))
      (λ o. after-kind _ NUMERAL i _ (λ p n. record { holds = (n, refl) }))

  -- A term of depth at most d, under an odd number of `not` or not, from place i on; and the rest of a conjunction up to the bracket that closes it.
  abbrev TermSpelt : ℕ → ℕ → Term → ℕ → Type 0
  TermSpelt d i t j = Spells s i (spelt t) j × (Formed false t × (depth t ≤ d))

  abbrev RestSpelt : ℕ → ℕ → Term → ℕ → Type 0
  RestSpelt d i u j = Spells s i (spelt u ++ (Sign.closes ∷ [])) j × (Formed true u × (depth u ≤ d))

  comparison_spelt : (d : ℕ) (w : List ℕ) (i : ℕ) → (token_at s i).kind ≡ OPEN → Stands s (past s i) (Sign.word w) → compares w ≡ true → Every (TermSpelt (suc d) i) (comparison w s (past s (past s i)))
  comparison_spelt d w i o op compare =
      let a = past s (past s i) in
      after-kind _ OPEN a _ (λ _ p.
      let b = past s a in
      after-word _ W_minus b _ (λ _ m.
      let c = past s b in
      after_name _ c _ (λ x nx.
      let e = past s c in
      after_name _ e _ (λ y ny.
      let f = past s e in
      after-kind _ CLOSE f _ (λ _ q.
      let g = past s f in
      by_then (λ v h. Spells s g (spelt_amount v) h) _ (amount s g) _ (amount_spelt g) (λ v h am.
      after-kind _ CLOSE h _ (λ _ r. record {
        holds = (
          (o, (op, (p.0, (m, (nx.0, (ny.0, (q.0, spells_on (spelt_amount v) (Sign.closes ∷ []) g h (past s h) am (r.0, refl)))))))),
          ((compare, (nx.1, ny.1)), omega arith),
        );
      })))))))

  rest_spelt : (d : ℕ) (one : ℕ → Read Term) → ((i : ℕ) → Every (TermSpelt d i) (one i)) → (f i : ℕ) → Every (RestSpelt d i) (rest_from one f s i)
  unfolding rest_from
  rest_spelt d one m zero i = record { holds = tt }
  rest_spelt d one m (suc f) i =
      by_then (TermSpelt d i) _ (one i) _ (m i) (λ t j h.
      by_test _ (eqb (token_at s j).kind CLOSE) _ _
      (λ k. record {
        holds = (
          spells_on (spelt t) (Sign.closes ∷ []) i j (past s j) h.0 (eqb-true (token_at s j).kind CLOSE k, refl),
          (formed_rest t h.1.0, h.1.1),
        );
      })
      (λ k. by_then (RestSpelt d j) _ (rest_from one f s j) _ (rest_spelt d one m f j) (λ u e l. record {
        holds = (
          subst (λ (n : List Sign). Spells s i n e) (sym (append_assoc (spelt t) (spelt u) (Sign.closes ∷ []))) (spells_on (spelt t) (spelt u ++ (Sign.closes ∷ [])) i j e h.0 l.0),
          ((refl, (h.1.0, l.1.0)), deeper_fits (depth t) (depth u) d h.1.1 l.1.1),
        );
      })))

  inside_spelt : (d : ℕ) (one : Bool → ℕ → Read Term) → ((b : Bool) (i : ℕ) → Every (TermSpelt d i) (one b i)) → (odd : Bool) (i : ℕ) → (token_at s i).kind ≡ OPEN → Every (TermSpelt (suc d) i) (inside one s odd (past s i))
  inside_spelt d one m odd i o =
      let a = past s i in
      let w = lexeme s (token_at s a) in
      let b = past s a in
      by_test _ (eqb (token_at s a).kind SYMBOL) _ _
      (λ h. let symbol = eqb-true (token_at s a).kind SYMBOL h in
      by_test _ (compares w) _ _ (λ c. comparison_spelt d w i o (symbol, refl) c)
      (λ c. by_test _ (same_bytes w W_not) _ _
      (λ k. by_then (TermSpelt d b) _ (one (not odd) b) _ (m (not odd) b) (λ t e l.
      after-kind _ CLOSE e _ (λ _ r. record {
        holds = (
          (o, ((symbol, same_equal w W_not k), spells_on (spelt t) (Sign.closes ∷ []) b e (past s e) l.0 (r.0, refl))),
          (l.1.0, omega (arith, l.1.1)),
        );
      })))
      (λ k. by_test _ (same_bytes w W_and) _ _
      (λ l. by_test _ odd _ _ (λ x. record { holds = tt }) (λ x.
      by_then (TermSpelt d b) _ (one false b) _ (m false b) (λ t e h.
      by_then (RestSpelt d e) _ (rest_from (one false) (suc (length s)) s e) _ (rest_spelt d (one false) (m false) (suc (length s)) e) (λ u f g. record {
        holds = (
          (o, ((symbol, same_equal w W_and l), spells_on (spelt t) (spelt u ++ (Sign.closes ∷ [])) b e f h.0 g.0)),
          ((h.1.0, g.1.0), deeper-more (depth t) (depth u) d (deeper_fits (depth t) (depth u) d h.1.1 g.1.1)),
        );
      }))))
      (λ l. record { holds = tt }))))
      (λ h. record { holds = tt })
    where
      deeper-more : (a b d : ℕ) → deeper a b ≤ d → deeper a b + 1 ≤ suc d
      deeper-more a b d h = omega arith

  bare_spelt : (P : Term → ℕ → Type 0) (i : ℕ) → Every P (unbracketed s i)
  bare_spelt P i =
      by_test _ (eqb (token_at s i).kind SYMBOL) _ _
      (λ h. by_test _ (operates (lexeme s (token_at s i))) _ _ (λ k. record { holds = tt }) (λ k. record { holds = tt }))
      (λ h. record { holds = tt })

  every_term : (d : ℕ) (odd : Bool) (i : ℕ) → Every (TermSpelt d i) (term d s odd i)
  unfolding term
  every_term zero odd i = by_test _ (eqb (token_at s i).kind OPEN) _ _ (λ h. record { holds = tt }) (λ h. bare_spelt _ i)
  every_term (suc d) odd i =
      by_test _ (eqb (token_at s i).kind OPEN) _ _
      (λ h. inside_spelt d (term d s) (every_term d) odd i (eqb-true (token_at s i).kind OPEN h))
      (λ h. bare_spelt _ i)

  -- **A term that was read** is written so.
  pub term_spelt : (d : ℕ) (odd : Bool) (i : ℕ) (t : Term) (j : ℕ) → term d s odd i ≡ Read.got t j → Spells s i (spelt t) j × (Formed false t × ((depth t ≤ d) × Supported odd t))
  term_spelt d odd i t j e =
      let h = given (TermSpelt d i) (term d s odd i) t j e (every_term d odd i) in
      (h.0, (h.1.0, (h.1.1, given (λ u k. Supported odd u) (term d s odd i) t j e (term_says s d odd i))))

  names_spelt : (f n i : ℕ) → Every (λ ws j. Spells s i (spelt_names ws ++ (Sign.closes ∷ [])) j × NamesFine ws) (names_from f s n i)
  unfolding names_from
  names_spelt zero n i = record { holds = tt }
  names_spelt (suc f) n i =
      after_name _ i _ (λ w h.
      let j = past s i in
      by_test _ (ltb n ASKED) _ _
      (λ few. by_test _ (eqb (token_at s j).kind CLOSE) _ _
      (λ k. record { holds = ((h.0, (eqb-true (token_at s j).kind CLOSE k, refl)), (h.1, tt)) })
      (λ k. by_then _ _ (names_from f s (n + 1) j) _ (names_spelt f (n + 1) j) (λ ws e l. record { holds = ((h.0, l.0), (h.1, l.1)) })))
      (λ many. record { holds = tt }))

  -- What stands in a command after its opening bracket, up to the bracket that closes it.
  abbrev CommandSpelt : ℕ → Command → ℕ → Type 0
  CommandSpelt i c j = Spells s i (spelt_inside c ++ (Sign.closes ∷ [])) j × Within c

  headed_spelt : (p i : ℕ) → (token_at s i).kind ≡ SYMBOL → Every (CommandSpelt i) (headed (lexeme s (token_at s i)) p s (past s i))
  headed_spelt p i symbol =
      let w = lexeme s (token_at s i) in
      let a = past s i in
      by_test _ (same_bytes w W_assert) _ _
      (λ h. by_then _ _ (term DEPTH s false a) _ (both_hold _ _ (term DEPTH s false a) (every_term DEPTH false a) (term_says s DEPTH false a)) (λ t j l.
      after-kind _ CLOSE j _ (λ _ r. record {
        holds = (
          ((symbol, same_equal w W_assert h), spells_on (spelt t) (Sign.closes ∷ []) a j (past s j) l.0.0 (r.0, refl)),
          (l.0.1.0, (l.0.1.1, l.1)),
        );
      })))
      (λ h. by_test _ (same_bytes w W_declare_fun) _ _
      (λ h. after_name _ a _ (λ x n. after-kind _ OPEN (past s a) _ (λ _ o. after-kind _ CLOSE (past s (past s a)) _ (λ _ c. after-word _ W_Int (past s (past s (past s a))) _ (λ _ v.
      after-kind _ CLOSE (past s (past s (past s (past s a)))) _ (λ _ r. record { holds = (((symbol, same_equal w W_declare_fun h), (n.0, (o.0, (c.0, (v, (r.0, refl)))))), n.1) }))))))
      (λ h. by_test _ (same_bytes w W_check_sat) _ _ (λ h. after-kind _ CLOSE a _ (λ _ r. record { holds = (((symbol, same_equal w W_check_sat h), (r.0, refl)), tt) }))
      (λ h. by_test _ (same_bytes w W_push) _ _
      (λ h. after-kind _ NUMERAL a _ (λ n k. after-kind _ CLOSE (past s a) _ (λ _ r. record { holds = (((symbol, same_equal w W_push h), (k, (r.0, refl))), tt) })))
      (λ h. by_test _ (same_bytes w W_pop) _ _
      (λ h. after-kind _ NUMERAL a _ (λ n k. after-kind _ CLOSE (past s a) _ (λ _ r. record { holds = (((symbol, same_equal w W_pop h), (k, (r.0, refl))), tt) })))
      (λ h. by_test _ (same_bytes w W_get_value) _ _
      (λ h. after-kind _ OPEN a _ (λ _ o.
      let b = past s a in
      by_then _ _ (asked s b) _ (both_hold _ _ (asked s b) (names_spelt (suc (length s)) 0 b) (names_say s (suc (length s)) 0 b)) (λ ws j l.
      after-kind _ CLOSE j _ (λ _ r. record {
        holds = (
          ((symbol, same_equal w W_get_value h), (o.0, spells_on (spelt_names ws ++ (Sign.closes ∷ [])) (Sign.closes ∷ []) b j (past s j) l.0.0 (r.0, refl))),
          (l.0.1, (l.1.0, omega (arith, l.1.1))),
        );
      }))))
      (λ h. by_test _ (same_bytes w W_set_logic) _ _
      (λ h. after-word _ W_QF_IDL a _ (λ _ v. after-kind _ CLOSE (past s a) _ (λ _ r. record { holds = (((symbol, same_equal w W_set_logic h), (v, (r.0, refl))), tt) })))
      (λ h. by_test _ (same_bytes w W_exit) _ _ (λ h. after-kind _ CLOSE a _ (λ _ r. record { holds = (((symbol, same_equal w W_exit h), (r.0, refl)), tt) }))
      (λ h. record { holds = tt }))))))))

  every_reading : Every (Written s) (reading s)
  every_reading =
      by_test _ (eqb (token_at s 0).from 0) _ _
      (λ b. after-kind _ OPEN 0 _ (λ _ o. after-kind _ SYMBOL (past s 0) _ (λ w h.
      weaker (CommandSpelt (past s 0)) _ _ (λ c e k. record { begins = eqb-true (token_at s 0).from 0 b; spells = (o.0, k.0); within = k.1 })
      (subst (λ (p : Piece). Every (CommandSpelt (past s 0)) (headed p.letters p.place s (past s (past s 0)))) h.1 (headed_spelt (token_at s (past s 0)).from (past s 0) h.0)))))
      (λ b. record { holds = tt })

  -- **What was read** is written so.
  pub read_written : (c : Command) (e : ℕ) → reading s ≡ Read.got c e → Written s c e
  read_written c e h = given (Written s) (reading s) c e h every_reading
