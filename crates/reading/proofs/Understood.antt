-- **What is written so is read so**: whatever is spelt within the limits is read as what it spells. So the reading is exactly the grammar, and a text begins with one command
-- only.
use mathlib.Core.Path.{◌≡◌, refl, sym, ap, subst, ◌∙◌}
use mathlib.Core.Bool.{Bool, true, false, not, cond, false≢true}
use mathlib.Core.List.{List, [], ◌∷◌, ◌++◌, append_assoc}
use Prim.Native.Nat.{ℕ, zero, suc, ◌+◌, ◌-◌, ◌≤◌, ◌<◌}
use native.Mathlib.Omega.{arith}
use lib.Dec.{leb}
use lib.ListN.{length}
use borrow.Author.Tests.{eq-eqb, ne_eqb, leb-true, leb-false, lt-ltb}
use Rattle.meaning.specs.Bounds.{NAME_BYTES, ASKED, DEPTH}
use Rattle.text.specs.Lexicon.{Tok}
use Rattle.text.specs.Lexicon.{OPEN, CLOSE, NUMERAL, SYMBOL, token_at, same_bytes}
use Rattle.text.proofs.Equal.{equal_same}
use Rattle.text.proofs.Tokens.{token_placed}
use Rattle.text.proofs.Words.{length_bytes}
use Rattle.words.specs.Words.{reserved, compares, W_minus, W_not, W_and, W_Int, W_QF_IDL}
use Rattle.reading.specs.Tree.{Piece, Amount, Term, deeper, depth, Supported, Command}
use Rattle.reading.specs.Reading.{Why, Read, then, lexeme, piece, past, stops, expect, expect_word, expect_name, closed, amount, comparison, rest_from, conjoined, term, names_from, asked, headed, reading}
use Rattle.reading.specs.Spelling.{Sign, spelt_amount, spelt, spelt_names, spelt_inside, Stands, Spells, NameFine, NamesFine, Formed, Within, Written}
use Rattle.reading.proofs.Steps.{cond_true, cond_false, as_read, goes_on, of_kind, word_is, name_fits}
use Rattle.reading.proofs.Progress.{came, token_onward, term_moves}

-- Neither of two depths is deeper than the deeper one.
deeper_both : (a b d : ℕ) → deeper a b ≤ d → (a ≤ d) × (b ≤ d)
deeper_both a b d = by (leb a b) refl
  where
    by : (t : Bool) → leb a b ≡ t → cond t b a ≤ d → (a ≤ d) × (b ≤ d)
    by true e h = (omega (arith, leb-true a b e, h), h)
    by false e h = (h, omega (arith, leb-false a b e, h))

module _ (s : List ℕ) where
  -- Tokens, and others after them, stand apart at some place.
  apart : (l m : List Sign) (i k : ℕ) → Spells s i (l ++ m) k → (j : ℕ) × (Spells s i l j × Spells s j m k)
  apart [] m i k h = (i, (refl, h))
  apart (x ∷ l) m i k h = let r = apart l m (past s i) k h.1 in (r.0, ((h.0, r.1.0), r.1.1))

  -- A token that is meant is read, and reading goes on behind it.
  module _ {B : Type 0} (i : ℕ) (next : Piece → ℕ → Read B) (r : Read B) where
    on-kind : (k : ℕ) → (token_at s i).kind ≡ k → next (piece s (token_at s i)) (past s i) ≡ r → then (expect k s i) next ≡ r
    on-kind k h n = goes_on (expect k s i) next _ _ (of_kind s i (token_at s i) refl k h) ∙ n

    on-numeral : (p : Piece) → Stands s i (Sign.numeral p) → next p (past s i) ≡ r → then (expect NUMERAL s i) next ≡ r
    on-numeral p h n = on-kind NUMERAL h.0 (ap (λ (q : Piece). next q (past s i)) h.1 ∙ n)

    on_word : (w : List ℕ) → Stands s i (Sign.word w) → next (piece s (token_at s i)) (past s i) ≡ r → then (expect_word w s i) next ≡ r
    on_word w h n =
        goes_on (expect_word w s i) next _ _ (word_is s i (token_at s i) refl w (same_bytes (lexeme s (token_at s i)) w) true h.0 refl (ap (λ (v : List ℕ). same_bytes v w) h.1 ∙ equal_same w)) ∙ n

    on-name : (p : Piece) → Stands s i (Sign.name p) → NameFine p → next p (past s i) ≡ r → then (expect_name s i) next ≡ r
    on-name p h fine n = goes_on (expect_name s i) next _ _ (name_fits s i t refl h.0 known short) ∙ ap (λ (q : Piece). next q (past s i)) h.1 ∙ n
      where
        t : Tok
        t = token_at s i

        own : NameFine (piece s t)
        own = subst NameFine (sym h.1) fine

        known : reserved (lexeme s t) ≡ false
        known = own.not_reserved

        short : t.to - t.from ≤ NAME_BYTES
        short = let p = (token_placed s i t refl).some (λ z. omega (arith, h.0, z)) in omega (arith, own.short, length_bytes s t.from t.to (omega (arith, p.0)) p.1)

  -- Where the closing bracket is the last token.
  on_close : {A : Type 0} (a : A) (i j : ℕ) → Spells s i (Sign.closes ∷ []) j → closed s a i ≡ Read.got a j
  on_close a i j h = on-kind i _ (Read.got a j) CLOSE h.0 (ap (Read.got a) h.1)

  amount_read : (m : Amount) (i j : ℕ) → Spells s i (spelt_amount m) j → amount s i ≡ Read.got m j
  amount_read (Amount.plus n) i j h =
      cond_false _ _ _ (ne_eqb (token_at s i).kind OPEN (λ z. omega (arith, h.0.0, z)))
      ∙ on-numeral i _ _ n h.0 (ap (Read.got (Amount.plus n)) h.1)
  amount_read (Amount.minus n) i j h =
      cond_true _ _ _ (eq-eqb (token_at s i).kind OPEN h.0)
      ∙ on_word (past s i) _ _ W_minus h.1.0 (on-numeral (past s (past s i)) _ _ n h.1.1.0 (on_close (Amount.minus n) _ j h.1.1.1))

  comparison_read :
      (w : List ℕ) (x y : Piece) (m : Amount) (i j : ℕ) →
      Spells s i (Sign.opens ∷ Sign.word W_minus ∷ Sign.name x ∷ Sign.name y ∷ Sign.closes ∷ (spelt_amount m ++ (Sign.closes ∷ []))) j → NameFine x → NameFine y →
      comparison w s i ≡ Read.got (Term.atom w x y m) j
  comparison_read w x y m i j h fx fy =
      let a = past s i in
      let b = past s a in
      let c = past s b in
      let d = past s c in
      let e = past s d in
      let p = apart (spelt_amount m) (Sign.closes ∷ []) e j h.1.1.1.1.1 in
      on-kind i _ _ OPEN h.0
      (on_word a _ _ W_minus h.1.0
      (on-name b _ _ x h.1.1.0 fx
      (on-name c _ _ y h.1.1.1.0 fy
      (on-kind d _ _ CLOSE h.1.1.1.1.0
      (goes_on (amount s e) _ m p.0 (amount_read m e p.0 p.1.0) ∙ on_close (Term.atom w x y m) p.0 j p.1.1)))))

  -- What stands behind a term's bracket and its operator w.
  abbrev by_operator : (one : Bool → ℕ → Read Term) → Bool → ℕ → List ℕ → Read Term
  by_operator one odd i w =
      cond (compares w) (comparison w s (past s i))
      (cond (same_bytes w W_not) (then (one (not odd) (past s i)) (λ t j. closed s (Term.negation t) j))
      (cond (same_bytes w W_and) (cond odd (stops Why.other s i) (conjoined (one false) s (past s i))) (stops Why.other s i)))

  entered :
      (d : ℕ) (odd : Bool) (i : ℕ) (w : List ℕ) (r : Read Term) → (token_at s i).kind ≡ OPEN → Stands s (past s i) (Sign.word w) →
      by_operator (term d s) odd (past s i) w ≡ r → term (suc d) s odd i ≡ r
  unfolding term
  entered d odd i w r o h n =
      cond_true _ _ _ (eq-eqb (token_at s i).kind OPEN o)
      ∙ cond_true _ _ _ (eq-eqb (token_at s (past s i)).kind SYMBOL h.0)
      ∙ ap (by_operator (term d s) odd (past s i)) h.1
      ∙ n

  -- A term, and the rest of a conjunction up to the bracket that closes it, are read as they are written.
  abbrev TermRead : Term → Type 0
  TermRead t = (d : ℕ) (odd : Bool) (i j : ℕ) → Spells s i (spelt t) j → Formed false t → depth t ≤ d → Supported odd t → term d s odd i ≡ Read.got t j

  abbrev RestRead : Term → Type 0
  RestRead u =
      (d : ℕ) (odd : Bool) (f i j : ℕ) → Spells s i (spelt u ++ (Sign.closes ∷ [])) j → Formed true u → depth u ≤ d → Supported odd u → length s < f + i →
      rest_from (term d s odd) f s i ≡ Read.got u j

  atom_read : (w : List ℕ) (x y : Piece) (m : Amount) → TermRead (Term.atom w x y m)
  atom_read w x y m zero odd i j h formed deep fine = absurd (omega arith)
  atom_read w x y m (suc d) odd i j h formed deep fine =
      entered d odd i w _ h.0 h.1.0 (cond_true _ _ _ formed.0 ∙ comparison_read w x y m (past s (past s i)) j h.1.1 formed.1.0 formed.1.1)

  by_not : (one : Bool → ℕ → Read Term) (odd : Bool) (i : ℕ) → by_operator one odd i W_not ≡ then (one (not odd) (past s i)) (λ t j. closed s (Term.negation t) j)
  unfolding same_bytes
  by_not one odd i = refl

  by_and : (one : Bool → ℕ → Read Term) (odd : Bool) (i : ℕ) → odd ≡ false → by_operator one odd i W_and ≡ conjoined (one odd) s (past s i)
  unfolding same_bytes
  by_and one true i e = absurd (false≢true (sym e))
  by_and one false i e = refl

  negation_read : (t : Term) → TermRead t → TermRead (Term.negation t)
  negation_read t one zero odd i j h formed deep fine = absurd (omega arith)
  negation_read t one (suc d) odd i j h formed deep fine =
      let a = past s (past s i) in
      let p = apart (spelt t) (Sign.closes ∷ []) a j h.1.1 in
      entered d odd i W_not _ h.0 h.1.0
      (by_not (term d s) odd (past s i)
      ∙ goes_on (term d s (not odd) a) _ t p.0 (one d (not odd) a p.0 p.1.0 formed (omega (arith, deep)) fine)
      ∙ on_close (Term.negation t) p.0 j p.1.1)

  -- A term and the rest, which is one term or more: an `and` takes two terms or more.
  conjoined_read :
      (t u : Term) → TermRead t → RestRead u → (d : ℕ) (odd : Bool) (i j : ℕ) → Spells s i (spelt t ++ (spelt u ++ (Sign.closes ∷ []))) j → Formed false t → Formed true u →
      deeper (depth t) (depth u) ≤ d → Supported odd t → Supported odd u → conjoined (term d s odd) s i ≡ Read.got (Term.conjunction t u) j
  conjoined_read t u one rest d odd i j h first last deep fine fine-rest =
      let p = apart (spelt t) (spelt u ++ (Sign.closes ∷ [])) i j h in
      let both = deeper_both (depth t) (depth u) d deep in
      goes_on (term d s odd i) _ t p.0 (one d odd i p.0 p.1.0 first both.0 fine)
      ∙ goes_on (rest_from (term d s odd) (suc (length s)) s p.0) _ u j (rest d odd (suc (length s)) p.0 j p.1.1 last both.1 fine-rest (omega arith))

  conjunction_read : (t u : Term) → TermRead t → RestRead u → TermRead (Term.conjunction t u)
  conjunction_read t u one rest zero odd i j h formed deep fine = absurd (omega arith)
  conjunction_read t u one rest (suc d) odd i j h formed deep fine =
      entered d odd i W_and _ h.0 h.1.0
      (by_and (term d s) odd (past s i) fine.0
      ∙ conjoined_read t u one rest d odd (past s (past s i)) j h.1.1 formed.0 formed.1 (omega (arith, deep)) fine.1.0 fine.1.1)

  -- What a term or the rest of a conjunction begins with.
  first_opens : (u : Term) (m : List Sign) (i j : ℕ) → Spells s i (spelt u ++ m) j → (token_at s i).kind ≡ OPEN
  first_opens (Term.atom w x y c) m i j h = h.0
  first_opens (Term.negation t) m i j h = h.0
  first_opens (Term.conjunction t u) m i j h = h.0
  first_opens (Term.also t u) m i j h = first_opens t (spelt u ++ m) i j (subst (λ (l : List Sign). Spells s i l j) (append_assoc (spelt t) (spelt u) m) h)

  -- With no fuel left the place is past the text, where nothing stands.
  none_left : (i : ℕ) → ((token_at s i).kind ≡ 0 → ⊥) → length s < 0 + i → ⊥
  none_left i some h = let p = token_onward s i some in omega (arith, p.0, p.1, h)

  -- The rest is one term, the last; or it is a term and the rest after it.
  last_read : (t : Term) → TermRead t → (Formed true t → Formed false t) → RestRead t
  unfolding rest_from
  last_read t one term-formed d odd zero i j h formed deep fine fuel = absurd (none_left i (λ z. omega (arith, first_opens t (Sign.closes ∷ []) i j h, z)) fuel)
  last_read t one term-formed d odd (suc f) i j h formed deep fine fuel =
      let p = apart (spelt t) (Sign.closes ∷ []) i j h in
      goes_on (term d s odd i) _ t p.0 (one d odd i p.0 p.1.0 (term-formed formed) deep fine)
      ∙ cond_true _ _ _ (eq-eqb (token_at s p.0).kind CLOSE p.1.1.0)
      ∙ ap (Read.got t) p.1.1.1

  also_read : (t u : Term) → TermRead t → RestRead u → RestRead (Term.also t u)
  unfolding rest_from
  also_read t u one rest d odd zero i j h formed deep fine fuel = absurd (none_left i (λ z. omega (arith, first_opens (Term.also t u) (Sign.closes ∷ []) i j h, z)) fuel)
  also_read t u one rest d odd (suc f) i j h formed deep fine fuel =
      let p = apart (spelt t) (spelt u ++ (Sign.closes ∷ [])) i j (subst (λ (l : List Sign). Spells s i l j) (append_assoc (spelt t) (spelt u) (Sign.closes ∷ [])) h) in
      let both = deeper_both (depth t) (depth u) d deep in
      let is = one d odd i p.0 p.1.0 formed.1.0 both.0 fine.1.0 in
      let on = (came s i (term d s odd i) (term_moves s d odd i) t p.0 is).0 in
      goes_on (term d s odd i) _ t p.0 is
      ∙ cond_false _ _ _ (ne_eqb (token_at s p.0).kind CLOSE (λ z. omega (arith, first_opens u (Sign.closes ∷ []) p.0 j p.1.1, z)))
      ∙ goes_on (rest_from (term d s odd) f s p.0) _ u j (rest d odd f p.0 j p.1.1 formed.1.1 both.1 fine.1.1 (omega (arith, fuel, on)))

  understood : (t : Term) → TermRead t × RestRead t
  understood (Term.atom w x y m) = let h = atom_read w x y m in (h, last_read (Term.atom w x y m) h (λ k. k))
  understood (Term.negation t) = let h = negation_read t (understood t).0 in (h, last_read (Term.negation t) h (λ k. k))
  understood (Term.conjunction t u) = let h = conjunction_read t u (understood t).0 (understood u).1 in (h, last_read (Term.conjunction t u) h (λ k. k))
  understood (Term.also t u) = (λ d odd i j h formed deep fine. absurd (false≢true formed.0), also_read t u (understood t).0 (understood u).1)

  -- **A term that is written so**, within the limits, is read.
  pub term_read : (t : Term) (d : ℕ) (odd : Bool) (i j : ℕ) → Spells s i (spelt t) j → Formed false t → depth t ≤ d → Supported odd t → term d s odd i ≡ Read.got t j
  term_read t = (understood t).0

  -- One name or more, n having been read before.
  names_read :
      (ws : List Piece) (f n i j : ℕ) → Spells s i (spelt_names ws ++ (Sign.closes ∷ [])) j → NamesFine ws → 1 ≤ length ws → n + length ws ≤ ASKED → length s < f + i →
      names_from f s n i ≡ Read.got ws j
  unfolding names_from
  names_read [] f n i j h fine some few fuel = absurd (omega arith)
  names_read (w ∷ ws) zero n i j h fine some few fuel = absurd (none_left i (λ z. omega (arith, h.0.0, z)) fuel)
  names_read (w ∷ []) (suc f) n i j h fine some few fuel =
      on-name i _ _ w h.0 fine.0
      (cond_true _ _ _ (lt-ltb n ASKED (omega (arith, few)))
      ∙ cond_true _ _ _ (eq-eqb (token_at s (past s i)).kind CLOSE h.1.0)
      ∙ ap (Read.got (w ∷ [])) h.1.1)
  names_read (w ∷ (v ∷ ws)) (suc f) n i j h fine some few fuel =
      let a = past s i in
      let on = (token_onward s i (λ z. omega (arith, h.0.0, z))).0 in
      on-name i _ _ w h.0 fine.0
      (cond_true _ _ _ (lt-ltb n ASKED (omega (arith, few)))
      ∙ cond_false _ _ _ (ne_eqb (token_at s a).kind CLOSE (λ z. omega (arith, h.1.0.0, z)))
      ∙ goes_on (names_from f s (n + 1) a) _ (v ∷ ws) j (names_read (v ∷ ws) f (n + 1) a j h.1 fine.1 (omega arith) (omega (arith, few)) (omega (arith, fuel, on))))

  -- From one name to ASKED of them.
  asked_read : (ws : List Piece) (i j : ℕ) → Spells s i (spelt_names ws ++ (Sign.closes ∷ [])) j → NamesFine ws → 1 ≤ length ws → length ws ≤ ASKED → asked s i ≡ Read.got ws j
  asked_read ws i j h fine some few = names_read ws (suc (length s)) 0 i j h fine some (omega (arith, few)) (omega arith)

  -- The command that its name heads, where its closing bracket follows.
  headed_read : (c : Command) (p i e : ℕ) → Spells s i (spelt_inside c ++ (Sign.closes ∷ [])) e → Within c → headed (lexeme s (token_at s i)) p s (past s i) ≡ Read.got c e
  unfolding same_bytes
  headed_read Command.set_logic p i e h fine =
      let a = past s i in
      ap (λ (w : List ℕ). headed w p s a) h.0.1 ∙ on_word a _ _ W_QF_IDL h.1.0 (on_close Command.set_logic (past s a) e h.1.1)
  headed_read Command.check_sat p i e h fine = ap (λ (w : List ℕ). headed w p s (past s i)) h.0.1 ∙ on_close Command.check_sat (past s i) e h.1
  headed_read Command.exit p i e h fine = ap (λ (w : List ℕ). headed w p s (past s i)) h.0.1 ∙ on_close Command.exit (past s i) e h.1
  headed_read (Command.declare x) p i e h fine =
      let a = past s i in
      ap (λ (w : List ℕ). headed w p s a) h.0.1
      ∙ on-name a _ _ x h.1.0 fine
      (on-kind (past s a) _ _ OPEN h.1.1.0
      (on-kind (past s (past s a)) _ _ CLOSE h.1.1.1.0
      (on_word (past s (past s (past s a))) _ _ W_Int h.1.1.1.1.0 (on_close (Command.declare x) (past s (past s (past s (past s a)))) e h.1.1.1.1.1))))
  headed_read (Command.assert t) p i e h fine =
      let a = past s i in
      let q = apart (spelt t) (Sign.closes ∷ []) a e h.1 in
      ap (λ (w : List ℕ). headed w p s a) h.0.1
      ∙ goes_on (term DEPTH s false a) _ t q.0 (term_read t DEPTH false a q.0 q.1.0 fine.0 fine.1.0 fine.1.1)
      ∙ on_close (Command.assert t) q.0 e q.1.1
  headed_read (Command.push n) p i e h fine =
      let a = past s i in
      ap (λ (w : List ℕ). headed w p s a) h.0.1 ∙ on-numeral a _ _ n h.1.0 (on_close (Command.push n) (past s a) e h.1.1)
  headed_read (Command.pop n) p i e h fine =
      let a = past s i in
      ap (λ (w : List ℕ). headed w p s a) h.0.1 ∙ on-numeral a _ _ n h.1.0 (on_close (Command.pop n) (past s a) e h.1.1)
  headed_read (Command.get_value ws) p i e h fine =
      let a = past s i in
      let b = past s a in
      let q = apart (spelt_names ws ++ (Sign.closes ∷ [])) (Sign.closes ∷ []) b e h.1.1 in
      ap (λ (w : List ℕ). headed w p s a) h.0.1
      ∙ on-kind a _ _ OPEN h.1.0
      (goes_on (asked s b) _ ws q.0 (asked_read ws b q.0 q.1.0 fine.0 fine.1.0 fine.1.1)
      ∙ on_close (Command.get_value ws) q.0 e q.1.1)

  -- A command's name is a symbol.
  head_symbol : (c : Command) (m : List Sign) (i e : ℕ) → Spells s i (spelt_inside c ++ m) e → (token_at s i).kind ≡ SYMBOL
  head_symbol Command.set_logic m i e h = h.0.0
  head_symbol Command.check_sat m i e h = h.0.0
  head_symbol Command.exit m i e h = h.0.0
  head_symbol (Command.declare x) m i e h = h.0.0
  head_symbol (Command.assert t) m i e h = h.0.0
  head_symbol (Command.push n) m i e h = h.0.0
  head_symbol (Command.pop n) m i e h = h.0.0
  head_symbol (Command.get_value ws) m i e h = h.0.0

  -- **What is written so** is read.
  pub written_read : (c : Command) (e : ℕ) → Written s c e → reading s ≡ Read.got c e
  written_read c e h =
      let a = past s 0 in
      cond_true _ _ _ (eq-eqb (token_at s 0).from 0 h.begins)
      ∙ on-kind 0 _ _ OPEN h.spells.0
      (on-kind a _ _ SYMBOL (head_symbol c (Sign.closes ∷ []) a e h.spells.1) (headed_read c (token_at s a).from a e h.spells.1 h.within))

  -- A text begins with **one command only**.
  pub one_command : (c d : Command) (e f : ℕ) → Written s c e → Written s d f → (c ≡ d) × (e ≡ f)
  one_command c d e f h k = as_read (λ x j. (c ≡ x) × (e ≡ j)) (reading s) c e (written_read c e h) (refl, refl) d f (written_read d f k)
