-- A list of names read one by one: what stands from here on, after the names that were read, is what the whole list says.
use Prim.Native.Nat.{ℕ, zero, suc, ◌+◌, ◌≤◌, ◌<◌}
use native.Mathlib.Omega.{arith}
use mathlib.Core.Path.{◌≡◌, refl, sym, ap, ◌∙◌}
use mathlib.Core.Bool.{cond}
use mathlib.Core.List.{List, [], ◌∷◌, ◌++◌, append_assoc}
use mathlib.Core.Logic.{inl, inr}
use lib.Dec.{eqb, ltb}
use lib.ListN.{length, length-append}
use borrow.Author.Tests.{eq-eqb, ne_eqb, lt-ltb, le-ltb}
use Rattle.meaning.specs.Bounds.{ASKED, NAME}
use Rattle.meaning.specs.Tables.{at}
use Rattle.meaning.specs.Promise.{needs, First}
use Rattle.text.specs.Lexicon.{Tok}
use Rattle.text.specs.Lexicon.{CLOSE, token_at}
use Rattle.std.specs.Prelude.{Option, Some, IsSome}
use native.Mathlib.Decide.{ℕ_discrete}
use Rattle.reading.specs.declared.Stop.{Stop}
use Rattle.reading.specs.Tree.{Piece}
use Rattle.reading.specs.Reading.{Why, Read, then, stops, expect_name, names_from, asked}
use Rattle.reading.specs.Saying.{step_in, KnownIn, name_needs}
use Rattle.reading.specs.Heard.{stopped, Listed}
use Rattle.reading.specs.Parts.{StepOf}
use Rattle.reading.proofs.Steps.{halts, cond_true, cond_false}
use Rattle.reading.proofs.Made.{step_known, known_step, some_step}
use Rattle.reading.proofs.Progress.{came, name_moves}

-- The steps of the names that were read stay in the column, and one more is written after them.
module _ (S : List ℕ → ℕ) where
  listed_stays : (column column' : List ℕ) (k : ℕ) → ((i : ℕ) → i < k → at column' i ≡ at column i) → (j : ℕ) (ws : List Piece) → j + length ws ≤ k → Listed S column j ws → Listed S column' j ws
  listed_stays column column' k same j [] h l = tt
  listed_stays column column' k same j (w ∷ ws) h l = (same j (omega arith) ∙ l.0, listed_stays column column' k same (j + 1) ws (omega arith) l.1)

  listed_more : (column : List ℕ) (j : ℕ) (ws : List Piece) (w : Piece) → Listed S column j ws → at column (j + length ws) ≡ S w.letters → Listed S column j (ws ++ (w ∷ []))
  listed_more column j [] w l e = (ap (at column) (omega arith) ∙ e, tt)
  listed_more column j (v ∷ ws) w l e = (l.0, listed_more column (j + 1) ws w l.1 (ap (at column) (omega arith) ∙ e))

-- The first fault of one name more.
module _ (K : List ℕ → Type 0) where
  noted_more :
      (ws : List Piece) (w : Piece) (f g : ℕ) → First (name_needs K ws) f → ((f ≡ 0 → ⊥) → g ≡ f) → (f ≡ 0 → First (needs NAME (K w.letters) ∷ []) g) →
      First (name_needs K (ws ++ (w ∷ []))) g
  noted_more [] w f g first stays fresh = fresh first
  noted_more (v ∷ ws) w f g (inl r) stays fresh = inl (stays (λ z. omega (arith, r.0)) ∙ r.0, r.1)
  noted_more (v ∷ ws) w f g (inr r) stays fresh = inr (r.0, noted_more ws w f g r.1 stays fresh)

-- What was read before, in front of what is read from here on.
abbrev behind : List Piece → Read (List Piece) → Read (List Piece)
behind done R = then R (λ ws e. Read.got (done ++ ws) e)

behind_none : (R : Read (List Piece)) → R ≡ behind [] R
behind_none (Read.got ws e) = refl
behind_none (Read.stop w e) = refl

behind_more : (done : List Piece) (w : Piece) (R : Read (List Piece)) → behind done (then R (λ ws e. Read.got (w ∷ ws) e)) ≡ behind (done ++ (w ∷ [])) R
behind_more done w (Read.got ws e) = ap (λ (l : List Piece). Read.got l e) (sym (append_assoc done (w ∷ []) ws))
behind_more done w (Read.stop y e) = refl

-- The names from place i on, where k were read, the first name being read.
module _ (fuel : ℕ) (s : List ℕ) (k i : ℕ) where
  abbrev rest : Piece → ℕ → Read (List Piece)
  rest w j = cond (eqb (token_at s j).kind CLOSE) (Read.got (w ∷ []) (token_at s j).to) (then (names_from fuel s (k + 1) j) (λ ws e. Read.got (w ∷ ws) e))

  abbrev after_name : Read Piece → Read (List Piece)
  after_name R = then R (λ w j. cond (ltb k ASKED) (rest w j) (stops Why.size s i))

  unfolded : names_from (suc fuel) s k i ≡ after_name (expect_name s i)
  unfolding names_from
  unfolded = refl

behind_stops : (done : List Piece) (e : Stop) → behind done (stopped e) ≡ stopped e
behind_stops done (Stop.Unsupported i) = refl
behind_stops done (Stop.Wrong i) = refl
behind_stops done (Stop.Size i) = refl

some_first : (X : Type 0) (f : ℕ) → First (needs NAME X ∷ []) f → f ≡ 0 → X
some_first X f (inl r) z = absurd (omega (arith, r.0))
some_first X f (inr r) z = r.0

first_as : (X Y : Type 0) (f : ℕ) → (X → Y) → (Y → X) → First (needs NAME X ∷ []) f → First (needs NAME Y ∷ []) f
first_as X Y f to from (inl r) = inl (r.0, λ y. r.1 (from y))
first_as X Y f to from (inr r) = inr (to r.0, r.1)

module _ (n : ℕ) (names lens s : List ℕ) (start : ℕ) where
  abbrev S : List ℕ → ℕ
  S w = step_in n names lens w

  -- The names that were read up to place i: their steps stand in the column, where all of them are declared, and f is their first fault.
  pub record Going (i k f : ℕ) (column : List ℕ) : Type 0 where
    pub fuel : ℕ
    pub done : List Piece
    pub whole : asked s start ≡ behind done (names_from (suc fuel) s k i)
    pub enough : length s ≤ fuel + i
    pub counted : length done ≡ k
    pub listed : f ≡ 0 → Listed S column 0 done
    pub noted : First (name_needs (KnownIn n names lens) done) f

  pub going_first : (column : List ℕ) → Going start 0 0 column
  going_first column = record {
    fuel = length s;
    done = [];
    whole = behind_none (asked s start);
    enough = omega arith;
    counted = refl;
    listed = λ z. tt;
    noted = refl;
  }

  module _ (i k f : ℕ) (column : List ℕ) (g : Going i k f column) where
    here : asked s start ≡ behind g.done (after_name g.fuel s k i (expect_name s i))
    here = g.whole ∙ ap (behind g.done) (unfolded g.fuel s k i)

    pub no_name : (e : Stop) → expect_name s i ≡ stopped e → asked s start ≡ stopped e
    no_name e h = here ∙ ap (behind g.done) (halts (expect_name s i) _ e h) ∙ behind_stops g.done e

    module _ (w : Piece) (x : ℕ) (read : expect_name s i ≡ Read.got w x) where
      named : asked s start ≡ behind g.done (cond (ltb k ASKED) (rest g.fuel s k i w x) (stops Why.size s i))
      named = here ∙ ap (λ (R : Read Piece). behind g.done (after_name g.fuel s k i R)) read

      pub too_many : ASKED ≤ k → asked s start ≡ stops Why.size s i
      too_many h = named ∙ ap (behind g.done) (cond_false (ltb k ASKED) _ _ (le-ltb k ASKED h))

      name_far : (i < x) × (x ≤ length s)
      name_far = came s i (expect_name s i) (name_moves s i) w x read

      module _ (few : k < ASKED) (o : Option ℕ) (is : StepOf n names lens w.letters o) (f' : ℕ) (column' : List ℕ) (stays : (f ≡ 0 → ⊥) → f' ≡ f)
          (first : f ≡ 0 → First (needs NAME (IsSome o) ∷ []) f') (written : (y : ℕ) → o ≡ Some y → at column' k ≡ y) (others : (j : ℕ) → (j ≡ k → ⊥) → at column' j ≡ at column j)
          (t : Tok) (t-is : t ≡ token_at s x) where
        abbrev pub done' : List Piece
        done' = g.done ++ (w ∷ [])

        pub counted' : length done' ≡ k + 1
        counted' = omega (arith, length-append g.done (w ∷ []), g.counted)

        pub noted' : First (name_needs (KnownIn n names lens) done') f'
        noted' = noted_more (KnownIn n names lens) g.done w f f' g.noted stays
            (λ z. first_as (IsSome o) (KnownIn n names lens w.letters) f' (step_known n names lens w.letters o is) (some_step n names lens w.letters o is) (first z))

        clear : f' ≡ 0 → f ≡ 0
        clear z = by-fault (ℕ_discrete f 0)
          where
            by-fault : Dec (f ≡ 0) → f ≡ 0
            by-fault (yes e) = e
            by-fault (no d) = sym (stays d) ∙ z

        pub listed' : f' ≡ 0 → Listed S column' 0 done'
        listed' z =
            let y = known_step n names lens w.letters o is (step_known n names lens w.letters o is (some_first (IsSome o) f' (first (clear z)) z)) in
            listed_more S column' 0 g.done w
            (listed_stays S column column' k (λ j h. others j (λ e. omega arith)) 0 g.done (omega (arith, g.counted)) (g.listed (clear z)))
            (ap (at column') (omega (arith, g.counted)) ∙ written y.0 y.1.0 ∙ y.1.1)

        followed : asked s start ≡ behind g.done (rest g.fuel s k i w x)
        followed = named ∙ ap (behind g.done) (cond_true (ltb k ASKED) _ _ (lt-ltb k ASKED few))

        kind_is : t.kind ≡ (token_at s x).kind
        kind_is = ap (λ (u : Tok). u.kind) t-is

        pub last_name : t.kind ≡ CLOSE → asked s start ≡ Read.got done' t.to
        last_name h = followed ∙ ap (behind g.done) (cond_true _ _ _ (eq-eqb _ _ (sym kind_is ∙ h))) ∙ ap (λ (u : Tok). Read.got done' u.to) (sym t-is)

        pub going_on : (t.kind ≡ CLOSE → ⊥) → Going x (k + 1) f' column'
        going_on d = with-fuel g.fuel g.enough (followed ∙ ap (behind g.done) (cond_false _ _ _ (ne_eqb _ _ (λ h. d (kind_is ∙ h)))) ∙ behind_more g.done w (names_from g.fuel s (k + 1) x))
          where
            with-fuel : (fuel : ℕ) → length s ≤ fuel + i → asked s start ≡ behind done' (names_from fuel s (k + 1) x) → Going x (k + 1) f' column'
            with-fuel zero h e = absurd (omega (arith, name_far.0, name_far.1))
            with-fuel (suc fuel) h e = record {
              fuel = fuel;
              done = done';
              whole = e;
              enough = omega (arith, name_far.0);
              counted = counted';
              listed = listed';
              noted = noted';
            }
