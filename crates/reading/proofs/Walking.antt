-- A walk along what is read, token by token: a relation of places that holds along each token, and is joined, holds along everything that the grammar reads. It says of a
-- part whether a bracket that stands open before it is closed at its end.
use mathlib.Core.Path.{◌≡◌, refl}
use mathlib.Core.Bool.{Bool, true, false, not, cond}
use mathlib.Core.List.{List, ◌∷◌}
use Prim.Native.Nat.{ℕ, zero, suc, ◌+◌, ◌-◌, ◌<◌}
use native.Mathlib.Omega.{arith}
use lib.Dec.{eqb, leb, ltb}
use lib.ListN.{length}
use borrow.Author.Tests.{eqb-true}
use Rattle.meaning.specs.Bounds.{NAME_BYTES, ASKED}
use Rattle.text.specs.Lexicon.{OPEN, CLOSE, NUMERAL, SYMBOL, both, token_at, same_bytes}
use Rattle.words.specs.Words.{compares, operates, W_minus, W_not, W_and, W_Int, W_QF_IDL, W_set_logic, W_declare_fun, W_assert, W_push, W_pop, W_check_sat, W_get_value, W_exit}
use Rattle.reading.specs.Tree.{Piece, Amount, Term, Command}
use Rattle.reading.specs.Reading.{Why, Read, then, lexeme, piece, past, is_word, is_name, stops, expect, expect_word, expect_name, closed, amount, comparison, rest_from, conjoined, inside, unbracketed, term, names_from, asked, declared, headed, bracketed}
use Rattle.reading.proofs.Every.{Every, by_test, by_then, weaker}

-- R true i j: from place i to place j, past a bracket that was open at i. R false i j: every bracket that is opened is closed.
pub record Walk (s : List ℕ) (R : Bool → ℕ → ℕ → Type 0) : Type 0 where
  pub plain : (i k : ℕ) → (token_at s i).kind ≡ k → 2 < k → k < 6 → R false i (past s i)
  pub closing : (i : ℕ) → (token_at s i).kind ≡ CLOSE → R true i (past s i)
  pub opening : (i j : ℕ) → (token_at s i).kind ≡ OPEN → R true (past s i) j → R false i j
  pub joined : (c : Bool) (i j k : ℕ) → R false i j → R c j k → R c i k

pub both_true : (a b : Bool) → both a b ≡ true → (a ≡ true) × (b ≡ true)
both_true true b e = (refl, e)
both_true false b e = absurd (let z : ◌≡◌ {A = ℕ} 0 1 = cc in omega arith)

module _ (s : List ℕ) (R : Bool → ℕ → ℕ → Type 0) (W : Walk s R) where
  abbrev pub Walks : {A : Type 0} → Bool → ℕ → Read A → Type 0
  Walks {A} c i r = Every {A = A} (λ a j. R c i j) r

  -- One part after another.
  pub after : {A B : Type 0} (c : Bool) (i : ℕ) (r : Read A) (next : A → ℕ → Read B) → Walks false i r → ((a : A) (j : ℕ) → Walks c j (next a j)) → Walks c i (then r next)
  after c i (Read.got a j) next h n = from (next a j) (n a j)
    where
      from : {B : Type 0} (r : Read B) → Walks c j r → Walks c i r
      from (Read.got b k) m = record { holds = W.joined c i j k h.holds m.holds }
      from (Read.stop w k) m = record { holds = tt }
  after c i (Read.stop w j) next h n = record { holds = tt }

  from_there : {A : Type 0} (c : Bool) (i j : ℕ) (r : Read A) → R false i j → Walks c j r → Walks c i r
  from_there c i j (Read.got a k) h m = record { holds = W.joined c i j k h m.holds }
  from_there c i j (Read.stop w k) h m = record { holds = tt }

  opened : {A : Type 0} (i : ℕ) (r : Read A) → (token_at s i).kind ≡ OPEN → Walks true (past s i) r → Walks false i r
  opened i (Read.got a k) h m = record { holds = W.opening i k h m.holds }
  opened i (Read.stop w k) h m = record { holds = tt }

  stop : {A : Type 0} (c : Bool) (i : ℕ) (w : Why) (j : ℕ) → Walks {A = A} c i (Read.stop w j)
  stop c i w j = record { holds = tt }

  -- A numeral, a symbol; a bracket and what stands behind it.
  symbol : (i : ℕ) → eqb (token_at s i).kind SYMBOL ≡ true → R false i (past s i)
  symbol i h = W.plain i SYMBOL (eqb-true (token_at s i).kind SYMBOL h) (omega arith) (omega arith)

  pub expect_walks : (k i : ℕ) → 2 < k → k < 6 → Walks false i (expect k s i)
  expect_walks k i low high =
      by_test _ (eqb (token_at s i).kind k) _ _ (λ h. record { holds = W.plain i k (eqb-true (token_at s i).kind k h) low high }) (λ h. stop false i _ _)

  pub word_walks : (w : List ℕ) (i : ℕ) → Walks false i (expect_word w s i)
  word_walks w i =
      by_test _ (is_word s (token_at s i) w) _ _ (λ h. record { holds = symbol i (both_true (eqb (token_at s i).kind SYMBOL) _ h).0 }) (λ h. stop false i _ _)

  pub name_walks : (i : ℕ) → Walks false i (expect_name s i)
  name_walks i =
      by_test _ (is_name s (token_at s i)) _ _
      (λ h. by_test _ (leb ((token_at s i).to - (token_at s i).from) NAME_BYTES) _ _ (λ k. record { holds = symbol i (both_true (eqb (token_at s i).kind SYMBOL) _ h).0 }) (λ k. stop false i _ _))
      (λ h. stop false i _ _)

  pub closed_walks : {A : Type 0} (a : A) (i : ℕ) → Walks true i (closed s a i)
  closed_walks a i = by_then (λ _ j. R true i j) _ (expect CLOSE s i) _
      (by_test _ (eqb (token_at s i).kind CLOSE) _ _ (λ h. record { holds = W.closing i (eqb-true (token_at s i).kind CLOSE h) }) (λ h. stop true i _ _))
      (λ _ j h. record { holds = h })

  -- A closing bracket that closes nothing of what comes after it.
  close_then : {A : Type 0} (i : ℕ) (next : Piece → ℕ → Read A) (c : Bool) (k : ℕ) → ((j : ℕ) → R true i j → Walks c k (next (piece s (token_at s i)) j)) → Walks c k (then (expect CLOSE s i) next)
  close_then i next c k n = by_kind (eqb (token_at s i).kind CLOSE) refl
    where
      by_kind : (b : Bool) → eqb (token_at s i).kind CLOSE ≡ b → Walks c k (then (cond b (Read.got (piece s (token_at s i)) (past s i)) (stops Why.wrong s i)) next)
      by_kind true e = n (past s i) (W.closing i (eqb-true (token_at s i).kind CLOSE e))
      by_kind false e = stop c k _ _

  -- An opening bracket, and what stands behind it up to the closing one; then what comes after.
  open_then : {A : Type 0} (i : ℕ) (next : Piece → ℕ → Read A) (c : Bool) (k : ℕ) → ((token_at s i).kind ≡ OPEN → Walks c k (next (piece s (token_at s i)) (past s i))) → Walks c k (then (expect OPEN s i) next)
  open_then i next c k n = by_kind (eqb (token_at s i).kind OPEN) refl
    where
      by_kind : (b : Bool) → eqb (token_at s i).kind OPEN ≡ b → Walks c k (then (cond b (Read.got (piece s (token_at s i)) (past s i)) (stops Why.wrong s i)) next)
      by_kind true e = n (eqb-true (token_at s i).kind OPEN e)
      by_kind false e = stop c k _ _

  numeral_walks : (i : ℕ) → Walks false i (expect NUMERAL s i)
  numeral_walks i = expect_walks NUMERAL i (omega arith) (omega arith)

  -- What was read is put into a larger thing.
  told : {A B : Type 0} (c : Bool) (i : ℕ) (f : A → B) (r : Read A) → Walks c i r → Walks c i (then r (λ a j. Read.got (f a) j))
  told c i f (Read.got a j) h = record { holds = h.holds }
  told c i f (Read.stop w j) h = record { holds = tt }

  pub amount_walks : (i : ℕ) → Walks false i (amount s i)
  amount_walks i =
      by_test _ (eqb (token_at s i).kind OPEN) _ _
      (λ h. opened i _ (eqb-true (token_at s i).kind OPEN h)
      (after true (past s i) (expect_word W_minus s (past s i)) _ (word_walks W_minus (past s i)) (λ _ j. after true j (expect NUMERAL s j) _ (numeral_walks j) (λ n k. closed_walks (Amount.minus n) k))))
      (λ h. told false i Amount.plus (expect NUMERAL s i) (numeral_walks i))

  pub comparison_walks : (w : List ℕ) (i : ℕ) → Walks true i (comparison w s i)
  comparison_walks w i =
      open_then i _ true i (λ o.
      let a = past s i in
      by_then (λ _ b. R false a b) _ (expect_word W_minus s a) _ (word_walks W_minus a) (λ _ b h.
      by_then (λ _ c. R false b c) _ (expect_name s b) _ (name_walks b) (λ x c k.
      by_then (λ _ d. R false c d) _ (expect_name s c) _ (name_walks c) (λ y d l.
      close_then d _ true i (λ e m.
      from_there true i e _ (W.opening i e o (W.joined true a b e h (W.joined true b c e k (W.joined true c d e l m))))
      (after true e (amount s e) _ (amount_walks e) (λ v f. closed_walks (Term.atom w x y v) f)))))))

  pub rest_walks : (one : ℕ → Read Term) → ((i : ℕ) → Walks false i (one i)) → (f i : ℕ) → Walks true i (rest_from one f s i)
  unfolding rest_from
  rest_walks one m zero i = stop true i _ _
  rest_walks one m (suc f) i =
      after true i (one i) _ (m i) (λ t j.
      by_test _ (eqb (token_at s j).kind CLOSE) _ _
      (λ h. record { holds = W.closing j (eqb-true (token_at s j).kind CLOSE h) })
      (λ h. told true j (Term.also t) (rest_from one f s j) (rest_walks one m f j)))

  pub conjoined_walks : (one : ℕ → Read Term) → ((i : ℕ) → Walks false i (one i)) → (i : ℕ) → Walks true i (conjoined one s i)
  conjoined_walks one m i =
      after true i (one i) _ (m i) (λ t j. told true j (Term.conjunction t) (rest_from one (suc (length s)) s j) (rest_walks one m (suc (length s)) j))

  inside_walks : (one : Bool → ℕ → Read Term) → ((b : Bool) (i : ℕ) → Walks false i (one b i)) → (odd : Bool) (i : ℕ) → Walks true i (inside one s odd i)
  inside_walks one m odd i =
      let w = lexeme s (token_at s i) in
      let j = past s i in
      by_test _ (eqb (token_at s i).kind SYMBOL) _ _
      (λ h. from_there true i j _ (symbol i h)
      (by_test _ (compares w) _ _ (λ c. comparison_walks w j)
      (λ c. by_test _ (same_bytes w W_not) _ _ (λ k. after true j (one (not odd) j) _ (m (not odd) j) (λ t e. closed_walks (Term.negation t) e))
      (λ k. by_test _ (same_bytes w W_and) _ _ (λ l. by_test _ odd _ _ (λ o. stop true j _ _) (λ o. conjoined_walks (one false) (m false) j)) (λ l. stop true j _ _)))))
      (λ h. stop true i _ _)

  bare_walks : (i : ℕ) → Walks false i (unbracketed s i)
  bare_walks i =
      by_test _ (eqb (token_at s i).kind SYMBOL) _ _
      (λ h. by_test _ (operates (lexeme s (token_at s i))) _ _ (λ k. stop false i _ _) (λ k. stop false i _ _))
      (λ h. stop false i _ _)

  pub term_walks : (d : ℕ) (odd : Bool) (i : ℕ) → Walks false i (term d s odd i)
  unfolding term
  term_walks zero odd i = by_test _ (eqb (token_at s i).kind OPEN) _ _ (λ h. stop false i _ _) (λ h. bare_walks i)
  term_walks (suc d) odd i =
      by_test _ (eqb (token_at s i).kind OPEN) _ _
      (λ h. opened i _ (eqb-true (token_at s i).kind OPEN h) (inside_walks (term d s) (term_walks d) odd (past s i)))
      (λ h. bare_walks i)

  pub names_walk : (f n i : ℕ) → Walks true i (names_from f s n i)
  unfolding names_from
  names_walk zero n i = stop true i _ _
  names_walk (suc f) n i =
      after true i (expect_name s i) _ (name_walks i) (λ w j.
      by_test _ (ltb n ASKED) _ _
      (λ h. by_test _ (eqb (token_at s j).kind CLOSE) _ _
      (λ k. record { holds = W.closing j (eqb-true (token_at s j).kind CLOSE k) })
      (λ k. told true j (◌∷◌ w) (names_from f s (n + 1) j) (names_walk f (n + 1) j)))
      (λ h. stop true j _ _))

  declared_walks : (i : ℕ) → Walks true i (declared s i)
  declared_walks i =
      after true i (expect_name s i) _ (name_walks i) (λ x a.
      open_then a _ true a (λ o.
      close_then (past s a) _ true a (λ c h.
      from_there true a c _ (W.opening a c o h)
      (after true c (expect_word W_Int s c) _ (word_walks W_Int c) (λ _ d. closed_walks (Command.declare x) d)))))

  asked_walks : (i : ℕ) → Walks true i (then (expect OPEN s i) (λ _ a. then (asked s a) (λ ws b. closed s (Command.get_value ws) b)))
  asked_walks i =
      open_then i _ true i (λ o.
      by_then (λ _ b. R true (past s i) b) _ (asked s (past s i)) _ (names_walk (suc (length s)) 0 (past s i)) (λ ws b h.
      from_there true i b _ (W.opening i b o h) (closed_walks (Command.get_value ws) b)))

  pub headed_walks : (w : List ℕ) (p i : ℕ) → Walks true i (headed w p s i)
  headed_walks w p i =
      by_test _ (same_bytes w W_assert) _ _ (λ h. after true i (term _ s false i) _ (term_walks _ false i) (λ t j. closed_walks (Command.assert t) j))
      (λ h. by_test _ (same_bytes w W_declare_fun) _ _ (λ h. declared_walks i)
      (λ h. by_test _ (same_bytes w W_check_sat) _ _ (λ h. closed_walks Command.check_sat i)
      (λ h. by_test _ (same_bytes w W_push) _ _ (λ h. after true i (expect NUMERAL s i) _ (numeral_walks i) (λ n j. closed_walks (Command.push n) j))
      (λ h. by_test _ (same_bytes w W_pop) _ _ (λ h. after true i (expect NUMERAL s i) _ (numeral_walks i) (λ n j. closed_walks (Command.pop n) j))
      (λ h. by_test _ (same_bytes w W_get_value) _ _ (λ h. asked_walks i)
      (λ h. by_test _ (same_bytes w W_set_logic) _ _ (λ h. after true i (expect_word W_QF_IDL s i) _ (word_walks W_QF_IDL i) (λ _ j. closed_walks Command.set_logic j))
      (λ h. by_test _ (same_bytes w W_exit) _ _ (λ h. closed_walks Command.exit i) (λ h. stop true i _ _))))))))

  -- A command: the opening bracket at the text's start, and the way from there past the bracket that closes it.
  pub reading_walks : Every (λ c j. ((token_at s 0).kind ≡ OPEN) × R true (past s 0) j) (bracketed s)
  reading_walks = by_kind (eqb (token_at s 0).kind OPEN) refl
    where
      behind : Walks true (past s 0) (then (expect SYMBOL s (past s 0)) (λ w j. headed w.letters w.place s j))
      behind = after true (past s 0) (expect SYMBOL s (past s 0)) _ (expect_walks SYMBOL (past s 0) (omega arith) (omega arith)) (λ w j. headed_walks w.letters w.place j)

      by_kind :
          (b : Bool) → eqb (token_at s 0).kind OPEN ≡ b →
          Every (λ c j. ((token_at s 0).kind ≡ OPEN) × R true (past s 0) j)
          (then (cond b (Read.got (piece s (token_at s 0)) (past s 0)) (stops Why.wrong s 0)) (λ _ i. then (expect SYMBOL s i) (λ w j. headed w.letters w.place s j)))
      by_kind true e = weaker (λ c j. R true (past s 0) j) _ _ (λ c j h. (eqb-true (token_at s 0).kind OPEN e, h)) behind
      by_kind false e = record { holds = tt }
