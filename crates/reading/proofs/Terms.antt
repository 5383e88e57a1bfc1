-- One way through the reader of a term each, over the tokens that were read; and the terms after `and`, one by one.
use mathlib.Core.Path.{◌≡◌, refl, sym, subst, ap, ◌∙◌}
use mathlib.Core.Bool.{Bool, true, false, not, cond}
use mathlib.Core.List.{List, [], ◌++◌, append_assoc}
use Prim.Native.Nat.{ℕ, zero, suc, ◌+◌, ◌-◌, ◌<◌, ◌≤◌}
use native.Mathlib.Omega.{arith}
use lib.Dec.{eqb}
use lib.ListN.{length}
use borrow.Author.Tests.{eq-eqb, ne_eqb}
use Rattle.meaning.specs.Tables.{Columns}
use Rattle.text.specs.Lexicon.{Tok}
use Rattle.text.specs.Lexicon.{OPEN, CLOSE, SYMBOL, token_at, same_bytes}
use Rattle.words.specs.Words.{compares, operates, W_not, W_and}
use Rattle.reading.specs.Tree.{Term, Named, rules_of_term}
use Rattle.reading.specs.Reading.{Why, Read, then, lexeme, past, closed, comparison, rest_from, conjoined, inside, unbracketed, term}
use Rattle.reading.specs.declared.Stop.{Stop}
use Rattle.reading.specs.Heard.{stopped, Rowed}
use Rattle.reading.proofs.Steps.{cond_true, cond_false, goes_on, stays_stopped, halts}
use Rattle.reading.proofs.Progress.{came, term_moves}
use Rattle.reading.proofs.Rowing.{rowed_both}

-- What a term is that begins with the token t: without a bracket, and what a bracket opens.
abbrev bare : List ℕ → Tok → Read Term
bare s t = cond (eqb t.kind SYMBOL) (cond (operates (lexeme s t)) (Read.stop Why.wrong t.from) (Read.stop Why.other t.from)) (Read.stop Why.wrong t.from)

abbrev opened : ℕ → List ℕ → Bool → Tok → Read Term
opened zero s odd t = Read.stop Why.size t.from
opened (suc d) s odd t = inside (term d s) s odd t.to

abbrev begun : ℕ → List ℕ → Bool → Tok → Read Term
begun d s odd t = cond (eqb t.kind OPEN) (opened d s odd t) (bare s t)

term_is : (d : ℕ) (s : List ℕ) (odd : Bool) (i : ℕ) → term d s odd i ≡ begun d s odd (token_at s i)
unfolding term
term_is zero s odd i = refl
term_is (suc d) s odd i = refl

module _ (s : List ℕ) (i : ℕ) (t : Tok) (e : t ≡ token_at s i) (d : ℕ) (odd : Bool) where
  known : term d s odd i ≡ begun d s odd t
  known = term_is d s odd i ∙ sym (ap (begun d s odd) e)

  unopened : (t.kind ≡ OPEN → ⊥) → term d s odd i ≡ bare s t
  unopened k = known ∙ cond_false _ _ _ (ne_eqb _ _ k)

  pub no_bracket : (t.kind ≡ OPEN → ⊥) → term d s odd i ≡ unbracketed s i
  no_bracket k = unopened k ∙ ap (bare s) e

  bracket : t.kind ≡ OPEN → term d s odd i ≡ opened d s odd t
  bracket o = known ∙ cond_true _ _ _ (eq-eqb _ _ o)

  pub too_deep : t.kind ≡ OPEN → d ≡ 0 → term d s odd i ≡ Read.stop Why.size t.from
  too_deep o z = bracket o ∙ ap (λ (k : ℕ). opened k s odd t) z

  below : t.kind ≡ OPEN → (d ≡ 0 → ⊥) → term d s odd i ≡ inside (term (d - 1) s) s odd t.to
  below o z = bracket o ∙ ap (λ (k : ℕ). opened k s odd t) (less z)
    where
      less : (d ≡ 0 → ⊥) → d ≡ suc (d - 1)
      less f = omega arith

-- What stands behind the bracket, where it begins with the token t.
abbrev conjunction : (one : Bool → ℕ → Read Term) → List ℕ → Bool → Tok → Read Term
conjunction one s odd t = cond (same_bytes (lexeme s t) W_and) (cond odd (Read.stop Why.other t.from) (conjoined (one false) s t.to)) (Read.stop Why.other t.from)

abbrev connected : (one : Bool → ℕ → Read Term) → List ℕ → Bool → Tok → Read Term
connected one s odd t = cond (same_bytes (lexeme s t) W_not) (then (one (not odd) t.to) (λ u j. closed s (Term.negation u) j)) (conjunction one s odd t)

abbrev behind : (one : Bool → ℕ → Read Term) → List ℕ → Bool → Tok → Read Term
behind one s odd t = cond (eqb t.kind SYMBOL) (cond (compares (lexeme s t)) (comparison (lexeme s t) s t.to) (connected one s odd t)) (Read.stop Why.wrong t.from)

-- The token o is the bracket, and t stands behind it.
module _ (s : List ℕ) (i : ℕ) (o : Tok) (first : o ≡ token_at s i) (d : ℕ) (odd : Bool) (opens : o.kind ≡ OPEN) (some : d ≡ 0 → ⊥) (t : Tok) (e : t ≡ token_at s o.to) where
  found : term d s odd i ≡ behind (term (d - 1) s) s odd t
  found = below s i o first d odd opens some ∙ sym (ap (behind (term (d - 1) s) s odd) e)

  pub no_operator : (t.kind ≡ SYMBOL → ⊥) → term d s odd i ≡ Read.stop Why.wrong t.from
  no_operator k = found ∙ cond_false _ _ _ (ne_eqb _ _ k)

  module _ (k : t.kind ≡ SYMBOL) (c : Bool) (is : c ≡ compares (lexeme s t)) where
    pub compared : c ≡ true → term d s odd i ≡ comparison (lexeme s t) s t.to
    compared h = found ∙ cond_true _ _ _ (eq-eqb _ _ k) ∙ cond_true _ _ _ (sym is ∙ h)

    module _ (h : c ≡ false) (n : Bool) (is_not : n ≡ same_bytes (lexeme s t) W_not) where
      connects : term d s odd i ≡ connected (term (d - 1) s) s odd t
      connects = found ∙ cond_true _ _ _ (eq-eqb _ _ k) ∙ cond_false _ _ _ (sym is ∙ h)

      pub negated : n ≡ true → term d s odd i ≡ then (term (d - 1) s (not odd) t.to) (λ u j. closed s (Term.negation u) j)
      negated g = connects ∙ cond_true _ _ _ (sym is_not ∙ g)

      module _ (g : n ≡ false) (a : Bool) (is-and : a ≡ same_bytes (lexeme s t) W_and) where
        conjoins : term d s odd i ≡ conjunction (term (d - 1) s) s odd t
        conjoins = connects ∙ cond_false _ _ _ (sym is_not ∙ g)

        pub and_under_not : a ≡ true → odd ≡ true → term d s odd i ≡ Read.stop Why.other t.from
        and_under_not b u = conjoins ∙ cond_true _ _ _ (sym is-and ∙ b) ∙ cond_true _ _ _ u

        pub conjoining : a ≡ true → odd ≡ false → term d s odd i ≡ conjoined (term (d - 1) s false) s t.to
        conjoining b u = conjoins ∙ cond_true _ _ _ (sym is-and ∙ b) ∙ cond_false _ _ _ u

        pub unknown : a ≡ false → term d s odd i ≡ Read.stop Why.other t.from
        unknown b = conjoins ∙ cond_false _ _ _ (sym is-and ∙ b)

-- The rest after `and`, from place i₀ on, some terms of which have been read: their rules stand in the rows, and what is read from place i on decides what the rest is.
pub record Going (n : ℕ) (names lens s : List ℕ) (d i₀ k₀ f₀ : ℕ) (start : Columns) (i k f : ℕ) (now : Columns) : Type 0 where
  pub fuel : ℕ
  pub enough : length s < fuel + i
  pub within : i ≤ length s
  pub few : k ≤ i
  pub rules : List Named
  pub rowed : Rowed n names lens rules k₀ f₀ start k f now
  pub stops : (w : Why) (j : ℕ) → rest_from (term d s false) fuel s i ≡ Read.stop w j → rest_from (term d s false) (suc (length s)) s i₀ ≡ Read.stop w j
  pub goes :
      (u : Term) (j : ℕ) → rest_from (term d s false) fuel s i ≡ Read.got u j →
      (v : Term) × ((rest_from (term d s false) (suc (length s)) s i₀ ≡ Read.got v j) × (rules_of_term false v ≡ rules ++ rules_of_term false u))

abbrev more : List ℕ → (ℕ → Read Term) → ℕ → Term → ℕ → Read Term
more s one f t j = cond (eqb (token_at s j).kind CLOSE) (Read.got t (past s j)) (then (rest_from one f s j) (λ u k. Read.got (Term.also t u) k))

rest_is : (one : ℕ → Read Term) (f : ℕ) (s : List ℕ) (i : ℕ) → rest_from one (suc f) s i ≡ then (one i) (more s one f)
unfolding rest_from
rest_is one f s i = refl

module _ (n : ℕ) (names lens s : List ℕ) (d : ℕ) where
  -- None has been read yet.
  pub going_first : (i k f : ℕ) (now : Columns) → i ≤ length s → k ≤ i → Going n names lens s d i k f now i k f now
  going_first i k f now within few = record {
    fuel = suc (length s);
    enough = omega arith;
    within = within;
    few = few;
    rules = [];
    rowed = record { counted = omega arith; fault_stays = λ e. refl; fault_first = λ e. e; laid = λ e l. tt; as_many = refl; below_stays = λ j h. refl };
    stops = λ w j e. e;
    goes = λ u j e. (u, (e, refl));
  }

  module _ (i₀ k₀ f₀ : ℕ) (start : Columns) (i k f : ℕ) (now : Columns) (G : Going n names lens s d i₀ k₀ f₀ start i k f now) where
    -- There is fuel for one term more.
    fuelled : (g : ℕ) × (G.fuel ≡ suc g)
    fuelled = by-fuel G.fuel G.enough
      where
        by-fuel : (h : ℕ) → length s < h + i → (g : ℕ) × (h ≡ suc g)
        by-fuel zero l = absurd (omega (arith, l, G.within))
        by-fuel (suc g) l = (g, refl)

    -- The next term as the rest has it.
    onward : rest_from (term d s false) G.fuel s i ≡ then (term d s false i) (more s (term d s false) fuelled.0)
    onward = ap (λ (h : ℕ). rest_from (term d s false) h s i) fuelled.1 ∙ rest_is (term d s false) fuelled.0 s i

    -- It stopped.
    going_stops : (w : Why) (j : ℕ) → term d s false i ≡ Read.stop w j → rest_from (term d s false) (suc (length s)) s i₀ ≡ Read.stop w j
    going_stops w j e = G.stops w j (onward ∙ stays_stopped (term d s false i) _ w j e)

    pub going_halts : (e : Stop) → term d s false i ≡ stopped e → rest_from (term d s false) (suc (length s)) s i₀ ≡ stopped e
    going_halts (Stop.Unsupported j) h = going_stops Why.other j h
    going_halts (Stop.Wrong j) h = going_stops Why.wrong j h
    going_halts (Stop.Size j) h = going_stops Why.size j h

    module _ (t : Term) (j k' f' : ℕ) (after : Columns) (is : term d s false i ≡ Read.got t j) (rows : Rowed n names lens (rules_of_term false t) k f now k' f' after) where
      both : Rowed n names lens (G.rules ++ rules_of_term false t) k₀ f₀ start k' f' after
      both = rowed_both n names lens G.rules (rules_of_term false t) k₀ f₀ start k f now k' f' after G.rowed rows

      -- It was the last one.
      pub going_ends :
          (token_at s j).kind ≡ CLOSE →
          (v : Term) × ((rest_from (term d s false) (suc (length s)) s i₀ ≡ Read.got v (past s j)) × Rowed n names lens (rules_of_term false v) k₀ f₀ start k' f' after)
      going_ends closes =
          let one = term d s false in
          let here : rest_from one G.fuel s i ≡ Read.got t (past s j) = onward ∙ goes_on (one i) _ t j is ∙ cond_true _ _ _ (eq-eqb (token_at s j).kind CLOSE closes) in
          let v = G.goes t (past s j) here in
          (v.0, (v.1.0, subst (λ (l : List Named). Rowed n names lens l k₀ f₀ start k' f' after) (sym v.1.1) both))

      -- Another one comes.
      pub going_on : ((token_at s j).kind ≡ CLOSE → ⊥) → k' ≤ j → Going n names lens s d i₀ k₀ f₀ start j k' f' after
      going_on goes_further few =
          let one = term d s false in
          let g = fuelled.0 in
          let p = came s i (one i) (term_moves s d false i) t j is in
          let here : rest_from one G.fuel s i ≡ then (rest_from one g s j) (λ u e. Read.got (Term.also t u) e) =
          onward ∙ goes_on (one i) _ t j is ∙ cond_false _ _ _ (ne_eqb (token_at s j).kind CLOSE goes_further) in
          record {
            fuel = g;
            enough = omega (arith, G.enough, fuelled.1, p.0);
            within = p.1;
            few = few;
            rules = G.rules ++ rules_of_term false t;
            rowed = both;
            stops = λ w e h. G.stops w e (here ∙ stays_stopped (rest_from one g s j) _ w e h);
            goes = λ u e h.
                let v = G.goes (Term.also t u) e (here ∙ goes_on (rest_from one g s j) _ u e h) in
                (v.0, (v.1.0, v.1.1 ∙ sym (append_assoc G.rules (rules_of_term false t) (rules_of_term false u))));
          }

-- The first term after `and` was read as t₀, up to place i₀; then the rest.
module _ (s : List ℕ) (d at : ℕ) (t₀ : Term) (i₀ : ℕ) (first : term d s false at ≡ Read.got t₀ i₀) where
  abbrev rest : Term → ℕ → Read Term
  rest a j = then (rest_from (term d s false) (suc (length s)) s j) (λ u e. Read.got (Term.conjunction a u) e)

  pub rest_halts : (e : Stop) → rest_from (term d s false) (suc (length s)) s i₀ ≡ stopped e → conjoined (term d s false) s at ≡ stopped e
  rest_halts e h = goes_on (term d s false at) rest t₀ i₀ first ∙ halts (rest_from (term d s false) (suc (length s)) s i₀) _ e h

  pub rest_ends : (v : Term) (e : ℕ) → rest_from (term d s false) (suc (length s)) s i₀ ≡ Read.got v e → conjoined (term d s false) s at ≡ Read.got (Term.conjunction t₀ v) e
  rest_ends v e h = goes_on (term d s false at) rest t₀ i₀ first ∙ goes_on (rest_from (term d s false) (suc (length s)) s i₀) _ v e h
