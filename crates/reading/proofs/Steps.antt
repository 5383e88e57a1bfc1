-- How readings go on and stop, and what one token says to a reader.
use mathlib.Core.Path.{◌≡◌, refl, sym, ap, subst, ◌∙◌}
use mathlib.Core.Bool.{Bool, true, false, not, cond}
use mathlib.Core.List.{List}
use Prim.Native.Nat.{ℕ, ◌-◌, ◌<◌, ◌≤◌}
use lib.Dec.{eqb, leb}
use borrow.Author.Tests.{eq-eqb, ne_eqb, le-leb, lt-leb}
use Rattle.meaning.specs.Bounds.{NAME_BYTES}
use Rattle.text.specs.Lexicon.{Tok}
use Rattle.text.specs.Lexicon.{SYMBOL, both, token_at, same_bytes}
use Rattle.words.specs.Words.{reserved}
use Rattle.reading.specs.Tree.{Piece}
use Rattle.reading.specs.Reading.{Why, Read, then, lexeme, piece, is_word, is_name, expect, expect_word, expect_name}
use Rattle.reading.specs.declared.Stop.{Stop}
use Rattle.reading.specs.Heard.{stopped, Came, Hears}
use Rattle.std.specs.Prelude.{Result}
use Rattle.std.specs.Result.{IsErrAnd}
use Rattle.std.proofs.lemmas.Result.{err_from_is_err_and}

module _ {A : Type 0} where
  -- A choice on a known test.
  pub cond_true : (b : Bool) (x y : A) → b ≡ true → cond b x y ≡ x
  cond_true b x y e = ap (λ (t : Bool). cond t x y) e

  pub cond_false : (b : Bool) (x y : A) → b ≡ false → cond b x y ≡ y
  cond_false b x y e = ap (λ (t : Bool). cond t x y) e

module _ {A : Type 0} where
  -- What was read is one thing, at one place.
  pub as_read : (P : A → ℕ → Type 0) (R : Read A) (a : A) (i : ℕ) → R ≡ Read.got a i → P a i → (b : A) (e : ℕ) → R ≡ Read.got b e → P b e
  as_read P R a i here p b e there = subst (λ (r : Read A). Came r P) (sym here ∙ there) p

  -- What holds of whatever a reading came to.
  abbrev pub Always : (A → ℕ → Type 0) → Read A → Type 0
  Always P (Read.got a i) = P a i
  Always P (Read.stop w i) = Unit {0}

  pub always_cond : (P : A → ℕ → Type 0) (b : Bool) (x y : Read A) → Always P x → Always P y → Always P (cond b x y)
  always_cond P true x y p q = p
  always_cond P false x y p q = q

  pub always_got : (P : A → ℕ → Type 0) (R : Read A) → Always P R → (a : A) (i : ℕ) → R ≡ Read.got a i → P a i
  always_got P R p a i e = subst (Always P) e p

module _ {A B : Type 0} where
  -- Reading goes on from what was read, or has stopped.
  pub goes_on : (R : Read A) (next : A → ℕ → Read B) (a : A) (i : ℕ) → R ≡ Read.got a i → then R next ≡ next a i
  goes_on R next a i e = ap (λ (r : Read A). then r next) e

  pub stays_stopped : (R : Read A) (next : A → ℕ → Read B) (w : Why) (i : ℕ) → R ≡ Read.stop w i → then R next ≡ Read.stop w i
  stays_stopped R next w i e = ap (λ (r : Read A). then r next) e

  pub halts : (R : Read A) (next : A → ℕ → Read B) (e : Stop) → R ≡ stopped e → then R next ≡ stopped e
  halts R next (Stop.Unsupported i) h = stays_stopped R next Why.other i h
  halts R next (Stop.Wrong i) h = stays_stopped R next Why.wrong i h
  halts R next (Stop.Size i) h = stays_stopped R next Why.size i h

module _ {A : Type 0} where
  -- What a reader read, up to place x.
  pub read_to : (R : Read A) (x : ℕ) → Came R (λ _ i. x ≡ i) → (a : A) × (R ≡ Read.got a x)
  read_to (Read.got a i) x p = (a, ap (Read.got a) (sym p))
  read_to (Read.stop w i) x p = absurd p

  -- What a reader read, up to place x, and what is told of it.
  pub read_as : (R : Read A) (M : A → Type 0) (x : ℕ) → Came R (λ a i. (x ≡ i) × M a) → (a : A) × ((R ≡ Read.got a x) × M a)
  read_as (Read.got a i) M x p = (a, (ap (Read.got a) (sym p.0), p.1))
  read_as (Read.stop w i) M x p = absurd p

  -- The reading came to what a reader says.
  pub came_to : (R : Read A) (P : A → ℕ → Type 0) (a : A) (i : ℕ) → R ≡ Read.got a i → P a i → Came R P
  came_to R P a i e p = subst (λ (r : Read A). Came r P) (sym e) p

both_is : (a b c : Bool) → a ≡ true → b ≡ c → both a b ≡ c
both_is a b c e f = ap (λ (t : Bool). both t b) e ∙ f

both_not : (a b : Bool) → a ≡ false → both a b ≡ false
both_not a b e = ap (λ (t : Bool). both t b) e

-- What each reader says of a token t.
abbrev got_token : List ℕ → Tok → Read Piece
got_token s t = Read.got (piece s t) t.to

abbrev wrong_token : Tok → Read Piece
wrong_token t = Read.stop Why.wrong t.from

abbrev expected : ℕ → List ℕ → Tok → Read Piece
expected k s t = cond (eqb t.kind k) (got_token s t) (wrong_token t)

abbrev expected_word : List ℕ → List ℕ → Tok → Read Piece
expected_word w s t = cond (is_word s t w) (got_token s t) (wrong_token t)

abbrev short_name : List ℕ → Tok → Read Piece
short_name s t = cond (leb (t.to - t.from) NAME_BYTES) (got_token s t) (Read.stop Why.size t.from)

abbrev expected_name : List ℕ → Tok → Read Piece
expected_name s t = cond (is_name s t) (short_name s t) (wrong_token t)

module _ (s : List ℕ) (i : ℕ) (t : Tok) (e : t ≡ token_at s i) where
  pub of_kind : (k : ℕ) → t.kind ≡ k → expect k s i ≡ Read.got (piece s t) t.to
  of_kind k h = sym (ap (expected k s) e) ∙ cond_true _ _ _ (eq-eqb _ _ h)

  pub other_kind : (k : ℕ) → (t.kind ≡ k → ⊥) → expect k s i ≡ Read.stop Why.wrong t.from
  other_kind k h = sym (ap (expected k s) e) ∙ cond_false _ _ _ (ne_eqb _ _ h)

  pub word_no_symbol : (w : List ℕ) → (t.kind ≡ SYMBOL → ⊥) → expect_word w s i ≡ Read.stop Why.wrong t.from
  word_no_symbol w h = sym (ap (expected_word w s) e) ∙ cond_false _ _ _ (both_not _ _ (ne_eqb _ _ h))

  pub word_is : (w : List ℕ) (r b : Bool) → t.kind ≡ SYMBOL → r ≡ same_bytes (lexeme s t) w → r ≡ b → expect_word w s i ≡ cond b (Read.got (piece s t) t.to) (Read.stop Why.wrong t.from)
  word_is w r b h same is =
      sym (ap (expected_word w s) e) ∙ ap (λ (x : Bool). cond x (got_token s t) (wrong_token t)) (both_is _ _ _ (eq-eqb _ _ h) (sym same ∙ is))

  pub name_no_symbol : (t.kind ≡ SYMBOL → ⊥) → expect_name s i ≡ Read.stop Why.wrong t.from
  name_no_symbol h = sym (ap (expected_name s) e) ∙ cond_false _ _ _ (both_not _ _ (ne_eqb _ _ h))

  module _ (h : t.kind ≡ SYMBOL) where
    pub name_reserved : reserved (lexeme s t) ≡ true → expect_name s i ≡ Read.stop Why.wrong t.from
    name_reserved known = sym (ap (expected_name s) e) ∙ cond_false _ _ _ (both_is _ _ _ (eq-eqb _ _ h) (ap not known))

    module _ (known : reserved (lexeme s t) ≡ false) where
      name_free : expect_name s i ≡ short_name s t
      name_free = sym (ap (expected_name s) e) ∙ cond_true _ _ _ (both_is _ _ _ (eq-eqb _ _ h) (ap not known))

      pub name_fits : t.to - t.from ≤ NAME_BYTES → expect_name s i ≡ Read.got (piece s t) t.to
      name_fits fits = name_free ∙ cond_true _ _ _ (le-leb _ _ fits)

      pub name_long : NAME_BYTES < t.to - t.from → expect_name s i ≡ Read.stop Why.size t.from
      name_long long = name_free ∙ cond_false _ _ _ (lt-leb _ _ long)

-- A name that was read is the token.
pub name_token : (s : List ℕ) (i : ℕ) (p : Piece) (j : ℕ) → expect_name s i ≡ Read.got p j → (p ≡ piece s (token_at s i)) × (j ≡ (token_at s i).to)
name_token s i =
    always_got (λ (p : Piece) (j : ℕ). (p ≡ piece s (token_at s i)) × (j ≡ (token_at s i).to)) (expect_name s i)
    (always_cond _ (is_name s (token_at s i)) _ _ (always_cond _ (leb ((token_at s i).to - (token_at s i).from) NAME_BYTES) _ _ (refl, refl) tt) tt)

-- What a `?` gives back of a reader that stopped.
pub halted : {A T : Type 0} {Q : Stop → Type 0} (R : Read A) (P : A → ℕ → T → Type 0) (r : Result T Stop) (e : Stop) → IsErrAnd r Q → ((y : Stop) → Q y → y ≡ e) → R ≡ stopped e → Hears R P r
halted R P r e is same h =
    let p = err_from_is_err_and r is in
    rw p.1 (h ∙ ap stopped (sym (same p.0 p.2)))

-- The same reading, told otherwise.
pub hears_as : {A T : Type 0} (R S : Read A) (P : A → ℕ → T → Type 0) (r : Result T Stop) → R ≡ S → Hears S P r → Hears R P r
hears_as R S P r e h = subst (λ (x : Read _). Hears x P r) (sym e) h

-- A reader that went on read something.
pub read_some : {A : Type 0} (R : Read A) (P : A → ℕ → Type 0) → Came R P → (a : A) × ((i : ℕ) × (R ≡ Read.got a i))
read_some (Read.got a i) P p = (a, (i, refl))
read_some (Read.stop w i) P p = absurd p

module _ {A T : Type 0} (b : Bool) (x y : Read A) (P : A → ℕ → T → Type 0) (r : Result T Stop) (t : Bool) where
  -- By a test: t is what the code found of it.
  pub heard_yes : t ≡ b → t ≡ true → Hears x P r → Hears (cond b x y) P r
  heard_yes e f p = subst (λ (c : Bool). Hears (cond c x y) P r) (sym (sym e ∙ f)) p

  pub heard_no : t ≡ b → t ≡ false → Hears y P r → Hears (cond b x y) P r
  heard_no e f p = subst (λ (c : Bool). Hears (cond c x y) P r) (sym (sym e ∙ f)) p
