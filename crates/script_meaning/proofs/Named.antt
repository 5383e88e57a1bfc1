-- The names of asserted terms: whether a term holds depends on their days alone, and in an assertion that is carried out they are all declared.
use Prim.Native.Nat.{ℕ, zero, suc}
use mathlib.Core.Path.{◌≡◌, sym, ◌∙◌, ap, subst}
use mathlib.Core.Bool.{Bool, true, false, not}
use mathlib.Core.List.{List, [], ◌∷◌, ◌++◌}
use mathlib.Core.Logic.Iff
use mathlib.Core.Logic.{◌↔◌}
use lib.ListN.{drop}
use lib.IntN.{ℤ, pos, ◌-ℤ◌}
use Rattle.text.specs.Lexicon.{same_bytes}
use Rattle.words.specs.Words.{W_at_most, W_below, W_at_least}
use Rattle.reading.specs.Tree.{amount_of, Term, Named, named, negated, either_rule, under, rules_of_term}
use Rattle.script_meaning.specs.Terms.{Compared, Holds}
use Rattle.script_meaning.specs.Traces.{History, with_term, with_levels, AllHold, Agrees}
use Rattle.script_meaning.proofs.Needed.{RuleMet, EachRule}

-- Every name of the term, of each of the terms, of each level has K.
abbrev pub OfTerm : (List ℕ → Type 0) → Term → Type 0
OfTerm K (Term.atom w x y c) = K x.letters × K y.letters
OfTerm K (Term.negation t) = OfTerm K t
OfTerm K (Term.conjunction t u) = OfTerm K t × OfTerm K u
OfTerm K (Term.also t u) = OfTerm K t × OfTerm K u

abbrev pub OfTerms : (List ℕ → Type 0) → List Term → Type 0
OfTerms K [] = Unit {0}
OfTerms K (t ∷ l) = OfTerm K t × OfTerms K l

abbrev pub OfLevels : (List ℕ → Type 0) → History → Type 0
OfLevels K [] = Unit {0}
OfLevels K (l ∷ h) = OfTerms K l × OfLevels K h

module _ (K : List ℕ → Type 0) where
  -- The names of a rule are those of the atom that says it.
  of_rule : (odd m b l : Bool) (x y : List ℕ) (c : ℤ) →
      RuleMet K (under odd (either_rule m (named x y c) (either_rule b (named x y (c -ℤ pos 1)) (either_rule l (negated (named x y (c -ℤ pos 1))) (negated (named x y c)))))) →
      K x × K y
  of_rule true true b l x y c r = (r.second_known, r.first_known)
  of_rule true false true l x y c r = (r.second_known, r.first_known)
  of_rule true false false true x y c r = (r.first_known, r.second_known)
  of_rule true false false false x y c r = (r.first_known, r.second_known)
  of_rule false true b l x y c r = (r.first_known, r.second_known)
  of_rule false false true l x y c r = (r.first_known, r.second_known)
  of_rule false false false true x y c r = (r.second_known, r.first_known)
  of_rule false false false false x y c r = (r.second_known, r.first_known)

  -- What holds of every rule of two lists holds of those of each.
  both_each : (k l : List Named) → EachRule K (k ++ l) → EachRule K k × EachRule K l
  both_each [] l h = (tt, h)
  both_each (r ∷ k) l h = let rest = both_each k l h.1 in ((h.0, rest.0), rest.1)

  -- Where the names of a term's rules have K, so have the term's.
  pub of_rules : (odd : Bool) (t : Term) → EachRule K (rules_of_term odd t) → OfTerm K t
  of_rules odd (Term.atom w x y c) h = of_rule odd (same_bytes w W_at_most) (same_bytes w W_below) (same_bytes w W_at_least) x.letters y.letters (amount_of c) h.0
  of_rules odd (Term.negation t) h = of_rules (not odd) t h
  of_rules odd (Term.conjunction t u) h = let each = both_each (rules_of_term odd t) (rules_of_term odd u) h in (of_rules odd t each.0, of_rules odd u each.1)
  of_rules odd (Term.also t u) h = let each = both_each (rules_of_term odd t) (rules_of_term odd u) h in (of_rules odd t each.0, of_rules odd u each.1)

  -- Of one term more, of more levels, of fewer levels.
  pub of_with_term : (t : Term) (h : History) → OfTerm K t → OfLevels K h → OfLevels K (with_term t h)
  of_with_term t [] o of = ((o, tt), tt)
  of_with_term t (l ∷ h) o of = ((o, of.0), of.1)

  pub of_with_levels : (n : ℕ) (h : History) → OfLevels K h → OfLevels K (with_levels n h)
  of_with_levels zero h of = of
  of_with_levels (suc n) h of = (tt, of_with_levels n h of)

  pub of_drop : (n : ℕ) (h : History) → OfLevels K h → OfLevels K (drop n h)
  of_drop zero h of = of
  of_drop (suc n) [] of = tt
  of_drop (suc n) (l ∷ h) of = of_drop n h of.1

-- What has K has L too.
module _ (K L : List ℕ → Type 0) (too : (w : List ℕ) → K w → L w) where
  of_term_too : (t : Term) → OfTerm K t → OfTerm L t
  of_term_too (Term.atom w x y c) of = (too x.letters of.0, too y.letters of.1)
  of_term_too (Term.negation t) of = of_term_too t of
  of_term_too (Term.conjunction t u) of = (of_term_too t of.0, of_term_too u of.1)
  of_term_too (Term.also t u) of = (of_term_too t of.0, of_term_too u of.1)

  of_terms_too : (l : List Term) → OfTerms K l → OfTerms L l
  of_terms_too [] of = tt
  of_terms_too (t ∷ l) of = (of_term_too t of.0, of_terms_too l of.1)

  pub of_levels_too : (h : History) → OfLevels K h → OfLevels L h
  of_levels_too [] of = tt
  of_levels_too (l ∷ h) of = (of_terms_too l of.0, of_levels_too h of.1)

-- Days d and e are the same for every name that has K.
module _ (K : List ℕ → Type 0) (d e : List ℕ → ℤ) (same : (w : List ℕ) → K w → d w ≡ e w) where
  holds_too : (t : Term) → OfTerm K t → Holds t d ↔ Holds t e
  holds_too (Term.atom w x y c) of =
      let a = x.letters in
      let b = y.letters in
      let p : (d a -ℤ d b) ≡ (e a -ℤ e b) = ap (λ (z : ℤ). z -ℤ d b) (same a of.0) ∙ ap (λ (z : ℤ). e a -ℤ z) (same b of.1) in
      (subst (λ (z : ℤ). Compared w z (amount_of c)) p, subst (λ (z : ℤ). Compared w z (amount_of c)) (sym p))
  holds_too (Term.negation t) of = Iff.not (holds_too t of)
  holds_too (Term.conjunction t u) of = Iff.and (holds_too t of.0) (holds_too u of.1)
  holds_too (Term.also t u) of = Iff.and (holds_too t of.0) (holds_too u of.1)

  all_too : (l : List Term) → OfTerms K l → AllHold d l → AllHold e l
  all_too [] of h = tt
  all_too (t ∷ l) of h = ((holds_too t of.0).0 h.0, all_too l of.1 h.1)

  -- Then what holds under d holds under e.
  pub agrees_too : (h : History) → OfLevels K h → Agrees d h → Agrees e h
  agrees_too [] of a = tt
  agrees_too (l ∷ h) of a = (all_too l of.0 a.0, agrees_too h of.1 a.1)

-- One term more, more levels, fewer levels.
module _ (d : List ℕ → ℤ) where
  pub agrees_term : (t : Term) (h : History) → Agrees d (with_term t h) ↔ (Holds t d × Agrees d h)
  agrees_term t [] = ((λ a. (a.0.0, tt)), (λ a. ((a.0, tt), tt)))
  agrees_term t (l ∷ h) = ((λ a. (a.0.0, (a.0.1, a.1))), (λ a. ((a.0, a.1.0), a.1.1)))

  pub agrees_levels : (n : ℕ) (h : History) → Agrees d (with_levels n h) ↔ Agrees d h
  agrees_levels zero h = ((λ a. a), (λ a. a))
  agrees_levels (suc n) h = let more = agrees_levels n h in ((λ a. more.0 a.1), (λ a. (tt, more.1 a)))

  pub agrees_drop : (n : ℕ) (h : History) → Agrees d h → Agrees d (drop n h)
  agrees_drop zero h a = a
  agrees_drop (suc n) [] a = tt
  agrees_drop (suc n) (l ∷ h) a = agrees_drop n h a.1
