-- The rule of an atom that was read, put into a row: its steps are those of the names, swapped where the operator and `not` say so, and its amount is judged and put
-- with the numeral cut at CAP: a larger one is out of bounds either way.
use Prim.Native.Nat.{ℕ, ◌+◌, ◌≤◌, ◌<◌}
use native.Mathlib.Omega.{arith}
use native.Mathlib.Decide.{ℕ_discrete, dec_le}
use mathlib.Core.Path.{◌≡◌, refl, sym, ap, subst, ◌∙◌}
use mathlib.Core.Bool.{Bool, true, false, cond, false≢true}
use mathlib.Core.List.{List, [], ◌∷◌}
use mathlib.Core.Logic.{◌⊎◌, inl, inr}
use lib.IntN.{ℤ, pos, negsuc, neg_ℤ, ◌-ℤ◌}
use borrow.Author.Tests.{le-leb, lt-leb}
use Rattle.std.specs.Prelude.{Option, Some, None, IsSome, IfSome, length}
use Rattle.meaning.specs.Bounds.{STEPS, LARGEST, DONE, NAME, AMOUNT}
use Rattle.meaning.specs.Rules.{rule, InAmount}
use Rattle.meaning.specs.Reckoning.{up, dn}
use Rattle.meaning.specs.Tables.{rule_at}
use Rattle.meaning.specs.Promise.{needs, First}
use Rattle.meaning.proofs.Whole.{le→, up_neg, dn_neg, minus_is}
use Rattle.text.specs.Lexicon.{CAP, cut}
use Rattle.words.specs.Words.{compares}
use Rattle.reading.specs.declared.atom.Atom.{Atom}
use Rattle.reading.specs.declared.rows.Rows.{Rows}
use Rattle.reading.specs.Tree.{Piece, said_by, Amount, amount_of, Term, Named, rules_of_term}
use Rattle.reading.specs.Saying.{step_in, resolved}
use Rattle.reading.specs.Heard.{noted_as, Rowed}
use Rattle.reading.specs.Parts.{StepOf, capped, AtomSaid, AtomOf, final, flips, lessens, turned_atom}
use Rattle.reading.specs.Rows.{columns_of, RulePut}
use Rattle.reading.proofs.Steps.{cond_true, cond_false}
use Rattle.reading.proofs.Turns.{made, turns}

-- An amount far from 0 is out of bounds, turned or not.
abbrev Far : ℤ → Type 0
Far z = LARGEST + 1 < up z + dn z

one_side : (z : ℤ) → (up z ≡ 0) ⊎ (dn z ≡ 0)
one_side (pos n) = inr refl
one_side (negsuc n) = inl refl

beyond : (z : ℤ) → LARGEST < up z + dn z → InAmount z → ⊥
beyond (pos n) h a = omega (arith, le→ (pos n) (pos LARGEST) a.not_above)
beyond (negsuc n) h a = omega (arith, le→ (neg_ℤ (pos LARGEST)) (negsuc n) a.not_below, up_neg (pos LARGEST), dn_neg (pos LARGEST))

turned_far : (flip : Bool) (z : ℤ) → Far z → Far (cond flip (neg_ℤ z) z)
turned_far true z h = omega (arith, up_neg z, dn_neg z)
turned_far false z h = h

far_out : (flip less : Bool) (z : ℤ) → Far z → InAmount (final flip less z) → ⊥
far_out flip true z h =
    let v = cond flip (neg_ℤ z) z in
    beyond (v -ℤ pos 1) (lowered v (one_side v) (turned_far flip z h))
  where
    lowered : (v : ℤ) → (up v ≡ 0) ⊎ (dn v ≡ 0) → Far v → LARGEST < up (v -ℤ pos 1) + dn (v -ℤ pos 1)
    lowered v (inl e) f = omega (arith, minus_is v (pos 1))
    lowered v (inr e) f = omega (arith, minus_is v (pos 1))
far_out flip false z h = beyond (cond flip (neg_ℤ z) z) (omega (arith, turned_far flip z h))

-- The amount with its numeral cut is the amount, or both are far.
cut_or_far : (n : ℕ) → (cut n ≡ n) ⊎ ((cut n ≡ CAP) × (CAP < n))
cut_or_far n = by_order (dec_le n CAP)
  where
    by_order : Dec (n ≤ CAP) → (cut n ≡ n) ⊎ ((cut n ≡ CAP) × (CAP < n))
    by_order (yes h) = inl (cond_true _ n CAP (le-leb n CAP h))
    by_order (no d) = let h : CAP < n = omega arith in inr (cond_false _ n CAP (lt-leb n CAP h), h)

capped_or_far : (m : Amount) → (capped m ≡ amount_of m) ⊎ (Far (capped m) × Far (amount_of m))
capped_or_far (Amount.plus n) = by-numeral (cut_or_far (said_by n))
  where
    by-numeral : (cut (said_by n) ≡ said_by n) ⊎ ((cut (said_by n) ≡ CAP) × (CAP < said_by n)) → (capped (Amount.plus n) ≡ amount_of (Amount.plus n)) ⊎ (Far (capped (Amount.plus n)) × Far (amount_of (Amount.plus n)))
    by-numeral (inl e) = inl (ap pos e)
    by-numeral (inr f) = inr (omega (arith, f.0), omega (arith, f.1))
capped_or_far (Amount.minus n) = by-numeral (cut_or_far (said_by n))
  where
    by-numeral : (cut (said_by n) ≡ said_by n) ⊎ ((cut (said_by n) ≡ CAP) × (CAP < said_by n)) → (capped (Amount.minus n) ≡ amount_of (Amount.minus n)) ⊎ (Far (capped (Amount.minus n)) × Far (amount_of (Amount.minus n)))
    by-numeral (inl e) = inl (ap (λ (k : ℕ). neg_ℤ (pos k)) e)
    by-numeral (inr f) = inr (
      omega (arith, f.0, up_neg (pos (cut (said_by n))), dn_neg (pos (cut (said_by n)))),
      omega (arith, f.1, up_neg (pos (said_by n)), dn_neg (pos (said_by n))),
    )

-- So the two are judged alike, and where they are within bounds they are equal.
module _ (flip less : Bool) (m : Amount) where
  pub capped_same : InAmount (final flip less (capped m)) → final flip less (capped m) ≡ final flip less (amount_of m)
  capped_same a = by_size (capped_or_far m)
    where
      by_size : (capped m ≡ amount_of m) ⊎ (Far (capped m) × Far (amount_of m)) → final flip less (capped m) ≡ final flip less (amount_of m)
      by_size (inl e) = ap (final flip less) e
      by_size (inr f) = absurd (far_out flip less (capped m) f.0 a)

  pub capped_in : InAmount (final flip less (amount_of m)) → InAmount (final flip less (capped m))
  capped_in a = by_size (capped_or_far m)
    where
      by_size : (capped m ≡ amount_of m) ⊎ (Far (capped m) × Far (amount_of m)) → InAmount (final flip less (capped m))
      by_size (inl e) = subst (λ (z : ℤ). InAmount (final flip less z)) (sym e) a
      by_size (inr f) = absurd (far_out flip less (amount_of m) f.1 a)

-- Three needs that are met alike have the same first that is not.
first_alike :
    (A B C X Y Z : Type 0) → (A → X) → (X → A) → (B → Y) → (Y → B) → (C → Z) → (Z → C) → (g : ℕ) →
    First (needs NAME A ∷ needs NAME B ∷ needs AMOUNT C ∷ []) g → First (needs NAME X ∷ needs NAME Y ∷ needs AMOUNT Z ∷ []) g
first_alike A B C X Y Z ax xa by yb cz zc g (inl r) = inl (r.0, λ x. r.1 (xa x))
first_alike A B C X Y Z ax xa by yb cz zc g (inr (a, inl r)) = inr (ax a, inl (r.0, λ y. r.1 (yb y)))
first_alike A B C X Y Z ax xa by yb cz zc g (inr (a, inr (b, inl r))) = inr (ax a, inr (by b, inl (r.0, λ z. r.1 (zc z))))
first_alike A B C X Y Z ax xa by yb cz zc g (inr (a, inr (b, inr (c, e)))) = inr (ax a, inr (by b, inr (cz c, e)))

all_met : (A B C : Type 0) → First (needs NAME A ∷ needs NAME B ∷ needs AMOUNT C ∷ []) DONE → A × (B × C)
all_met A B C (inl r) = absurd (omega (arith, r.0))
all_met A B C (inr (a, inl r)) = absurd (omega (arith, r.0))
all_met A B C (inr (a, inr (b, inl r))) = absurd (omega (arith, r.0))
all_met A B C (inr (a, inr (b, inr (c, e)))) = (a, (b, c))

-- The step of a name, and whether it is declared.
module _ (n : ℕ) (names lens : List ℕ) where
  abbrev S : List ℕ → ℕ
  S w = step_in n names lens w

  pub step_known : (w : List ℕ) (o : Option ℕ) → StepOf n names lens w o → IsSome o → S w < n
  step_known w (Some k) is h = omega (arith, is.0, is.1)
  step_known w None is h = absurd (false≢true h)

  pub known_step : (w : List ℕ) (o : Option ℕ) → StepOf n names lens w o → S w < n → (k : ℕ) × ((o ≡ Some k) × (k ≡ S w))
  known_step w (Some k) is h = (k, (refl, is.0))
  known_step w None is h = absurd (is h)

  pub some_step : (w : List ℕ) (o : Option ℕ) → StepOf n names lens w o → S w < n → IsSome o
  some_step w o is h = let k = known_step w o is h in subst IsSome (sym k.1.0) refl

  chosen_step : (f : Bool) (x y : List ℕ) (o p : Option ℕ) → StepOf n names lens x o → StepOf n names lens y p → StepOf n names lens (cond f y x) (cond f p o)
  chosen_step true x y o p is then-is = then-is
  chosen_step false x y o p is then-is = is

  -- A step that an atom has is one of the steps.
  pub step_within : n ≤ STEPS → (w : List ℕ) (o : Option ℕ) → StepOf n names lens w o → IfSome o (λ k. k < STEPS)
  step_within few w (Some k) is = omega (arith, is.1, few)
  step_within few w None is = tt

  -- The rule that a turned atom says is put: it is that of the term.
  pub atom_put :
      (w : List ℕ) (odd : Bool) (a : Atom) (x y : Piece) (m : Amount) → compares w ≡ true → AtomSaid n names lens x y m a → (before after : Rows) →
      RulePut (turned_atom w odd a) before after → length after.xs.now ≡ length before.xs.now →
      Rowed n names lens (rules_of_term odd (Term.atom w x y m)) before.count (noted_as before.fault) (columns_of before) after.count (noted_as after.fault) (columns_of after)
  atom_put w odd a x y m known is before after put as_many =
      subst (λ (k : Named). Rowed n names lens (k ∷ []) before.count (noted_as before.fault) (columns_of before) after.count (noted_as after.fault) (columns_of after))
      (turns x.letters y.letters (amount_of m) w odd known)
      (record {
        counted = put.counted;
        fault_stays = put.fault_stays;
        fault_first = λ z.
            first_alike (IsSome t.first) (IsSome t.second) (InAmount t.amount) (S r.first < n) (S r.second < n) (InAmount r.amount)
            (step_known r.first t.first first-is) (some_step r.first t.first first-is) (step_known r.second t.second second-is) (some_step r.second t.second second-is)
            (λ i. subst InAmount (same-amount i) i) (λ i. subst InAmount (sym cut-amount) (capped_in f l m i)) (noted_as after.fault) (put.fault_first z);
        laid = λ done room. (row done room, tt);
        as_many = as_many;
        below_stays = λ i h. put.others_stay i (λ e. omega arith);
      })
    where
      f : Bool
      f = flips w odd

      l : Bool
      l = lessens w odd

      t : Atom
      t = turned_atom w odd a

      r : Named
      r = made f l x.letters y.letters (amount_of m)

      first-is : StepOf n names lens r.first t.first
      first-is = chosen_step f x.letters y.letters a.first a.second is.first_is is.second_is

      second-is : StepOf n names lens r.second t.second
      second-is = chosen_step f y.letters x.letters a.second a.first is.second_is is.first_is

      cut-amount : t.amount ≡ final f l (capped m)
      cut-amount = ap (final f l) is.says

      same-amount : InAmount t.amount → t.amount ≡ r.amount
      same-amount i = cut-amount ∙ capped_same f l m (subst InAmount cut-amount i)

      met : noted_as after.fault ≡ DONE → IsSome t.first × (IsSome t.second × InAmount t.amount)
      met done = by-fault (ℕ_discrete (noted_as before.fault) DONE)
        where
          by-fault : Dec (noted_as before.fault ≡ DONE) → IsSome t.first × (IsSome t.second × InAmount t.amount)
          by-fault (yes z) = all_met (IsSome t.first) (IsSome t.second) (InAmount t.amount)
              (subst (First (needs NAME (IsSome t.first) ∷ needs NAME (IsSome t.second) ∷ needs AMOUNT (InAmount t.amount) ∷ [])) done (put.fault_first z))
          by-fault (no d) = absurd (d (sym (put.fault_stays d) ∙ done))

      row : noted_as after.fault ≡ DONE → after.count ≤ length after.xs.now → rule_at (columns_of after) before.count ≡ resolved S r
      row done room =
          let h = met done in
          let u = known_step r.first t.first first-is (step_known r.first t.first first-is h.0) in
          let v = known_step r.second t.second second-is (step_known r.second t.second second-is h.1.0) in
          let same : rule u.0 v.0 t.amount ≡ resolved S r = λ i. record { first = u.1.1 i; second = v.1.1 i; amount = same-amount h.1.1 i } in
          put.written u.0 v.0 u.1.0 v.1.0 (omega (arith, put.counted, room, as_many)) ∙ same

  pub atom_term :
      (w : List ℕ) (odd : Bool) (a : Atom) (t : Term) → compares w ≡ true → AtomOf n names lens w a t → (before after : Rows) → RulePut (turned_atom w odd a) before after →
      length after.xs.now ≡ length before.xs.now →
      Rowed n names lens (rules_of_term odd t) before.count (noted_as before.fault) (columns_of before) after.count (noted_as after.fault) (columns_of after)
  atom_term w odd a (Term.atom v x y m) known is before after put as_many =
      subst (λ (k : List ℕ). Rowed n names lens (rules_of_term odd (Term.atom k x y m)) before.count (noted_as before.fault) (columns_of before) after.count (noted_as after.fault) (columns_of after))
      (sym is.0) (atom_put w odd a x y m known is.1 before after put as_many)
  atom_term w odd a (Term.negation t) known is before after put as_many = absurd is
  atom_term w odd a (Term.conjunction t u) known is before after put as_many = absurd is
  atom_term w odd a (Term.also t u) known is before after put as_many = absurd is

  chosen_within : (f : Bool) (o p : Option ℕ) → IfSome o (λ k. k < STEPS) → IfSome p (λ k. k < STEPS) → IfSome (cond f p o) (λ k. k < STEPS) × IfSome (cond f o p) (λ k. k < STEPS)
  chosen_within true o p h l = (l, h)
  chosen_within false o p h l = (h, l)

  -- The steps of a turned atom are steps.
  pub turned_within :
      n ≤ STEPS → (w : List ℕ) (odd : Bool) (a : Atom) (t : Term) → AtomOf n names lens w a t →
      IfSome (turned_atom w odd a).first (λ k. k < STEPS) × IfSome (turned_atom w odd a).second (λ k. k < STEPS)
  turned_within few w odd a (Term.atom v x y m) is =
      chosen_within (flips w odd) a.first a.second (step_within few x.letters a.first is.1.first_is) (step_within few y.letters a.second is.1.second_is)
  turned_within few w odd a (Term.negation t) is = absurd is
  turned_within few w odd a (Term.conjunction t u) is = absurd is
  turned_within few w odd a (Term.also t u) is = absurd is
