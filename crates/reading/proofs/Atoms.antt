-- The amount of an atom that was read is small, so it and what it is turned to fit the machine's numbers; and the turned atom, by the two tests.
use Prim.Native.Nat.{ℕ, ◌+◌, ◌≤◌}
use native.Mathlib.Omega.{arith}
use mathlib.Core.Path.{◌≡◌, refl, sym, ap, subst, ◌∙◌}
use mathlib.Core.Bool.{Bool, true, false, not, beq, cond, ◌||◌}
use mathlib.Core.List.{List}
use lib.Dec.{eqb}
use lib.IntN.{ℤ, pos, negsuc, neg_ℤ, ◌-ℤ◌}
use Rattle.std.specs.Prelude.{◌≤ℤ◌}
use lib.Signed.{mag}
use mir.Syntax.{w32}
use mir.Val.{SFits, to_z, of_z}
use mir.ValLaws.{to_z-of_z}
use borrow.Author.Rules.{sfits_of}
use Rattle.std.specs.Cmp.Lexicographic.{pointwise}
use Rattle.meaning.specs.Reckoning.{up, dn}
use Rattle.meaning.proofs.Whole.{le→, →le, up_neg, dn_neg, minus_is}
use Rattle.text.specs.Lexicon.{CAP, cut, either, same_bytes}
use Rattle.text.proofs.Numbers.{cut_within}
use Rattle.text.proofs.Equal.{pointwise_same}
use Rattle.reading.specs.declared.atom.Atom.{Atom}
use Rattle.reading.specs.Tree.{said_by, Amount, Term}
use Rattle.reading.specs.Parts.{capped, AtomOf, AtomSmall, turned, final, flips, lessens, swapped, turned_atom}

-- An amount no larger than CAP.
pub record Small (z : ℤ) : Type 0 where
  pub up_small : up z ≤ CAP
  pub dn_small : dn z ≤ CAP

small_cut : (n : ℕ) → Small (pos (cut n))
small_cut n = record { up_small = omega (arith, cut_within n); dn_small = omega arith }

small_neg : (z : ℤ) → Small z → Small (neg_ℤ z)
small_neg z s = record { up_small = omega (arith, up_neg z, s.dn_small); dn_small = omega (arith, dn_neg z, s.up_small) }

pub capped_small : (m : Amount) → Small (capped m)
capped_small (Amount.plus n) = small_cut (said_by n)
capped_small (Amount.minus n) = small_neg (pos (cut (said_by n))) (small_cut (said_by n))

pub small_atom : (a : Atom) → AtomSmall a → Small a.amount
small_atom a s = by-sign a.amount s.not_below s.not_above
  where
    by-sign : (z : ℤ) → neg_ℤ (pos CAP) ≤ℤ z → z ≤ℤ pos CAP → Small z
    by-sign (pos n) l h = record { up_small = omega (arith, le→ (pos n) (pos CAP) h); dn_small = omega arith }
    by-sign (negsuc n) l h = record { up_small = omega arith; dn_small = omega (arith, le→ (neg_ℤ (pos CAP)) (negsuc n) l, up_neg (pos CAP), dn_neg (pos CAP)) }

atom_small : (a : Atom) → Small a.amount → AtomSmall a
atom_small a s = record {
  not_below = →le (neg_ℤ (pos CAP)) a.amount (omega (arith, up_neg (pos CAP), dn_neg (pos CAP), s.dn_small));
  not_above = →le a.amount (pos CAP) (omega (arith, s.up_small));
}

-- An atom that was read is small.
pub read_small : (n : ℕ) (names lens w : List ℕ) (a : Atom) (t : Term) → AtomOf n names lens w a t → AtomSmall a
read_small n names lens w a (Term.atom v x y m) is = atom_small a (subst Small (sym is.1.says) (capped_small m))
read_small n names lens w a (Term.negation t) is = absurd is
read_small n names lens w a (Term.conjunction t u) is = absurd is
read_small n names lens w a (Term.also t u) is = absurd is

mag_small : (z : ℤ) (n : ℕ) → up z ≤ n → dn z ≤ n → mag z ≤ n
mag_small (pos k) n h l = omega arith
mag_small (negsuc k) n h l = omega arith

pub small_fits : (z : ℤ) → Small z → SFits w32 z
small_fits z s = sfits_of (omega (arith, mag_small z CAP s.up_small s.dn_small))

-- One less of a small number.
one_less : (z : ℤ) → Small z → (up (z -ℤ pos 1) ≤ CAP + 1) × (dn (z -ℤ pos 1) ≤ CAP + 1)
one_less z s = by-sign (z -ℤ pos 1) (minus_is z (pos 1))
  where
    by-sign : (y : ℤ) → up y + (dn z + 1) ≡ dn y + (up z + 0) → (up y ≤ CAP + 1) × (dn y ≤ CAP + 1)
    by-sign (pos k) e = (omega (arith, e, s.up_small), omega arith)
    by-sign (negsuc k) e = (omega arith, omega (arith, e, s.dn_small))

less_fits : (z : ℤ) → Small z → SFits w32 (z -ℤ pos 1)
less_fits z s = sfits_of (omega (arith, mag_small (z -ℤ pos 1) (CAP + 1) (one_less z s).0 (one_less z s).1))

-- The same atom, with the amount that the machine has.
pub same_amount : (z : ℤ) → Small z → to_z w32 (of_z w32 z) ≡ z
same_amount z s = to_z-of_z w32 z (small_fits z s)

abbrev pub lowered : Atom → Atom
lowered a = record { first = a.first; second = a.second; amount = a.amount -ℤ pos 1 }

pub lowered_is : (a : Atom) → AtomSmall a → (z : ℤ) → z ≡ to_z w32 (of_z w32 (to_z w32 (of_z w32 a.amount) -ℤ pos 1)) → z ≡ a.amount -ℤ pos 1
lowered_is a s z e =
    let small = small_atom a s in
    e ∙ ap (λ (x : ℤ). to_z w32 (of_z w32 (x -ℤ pos 1))) (same_amount a.amount small) ∙ to_z-of_z w32 (a.amount -ℤ pos 1) (less_fits a.amount small)

pub small_swapped : (a : Atom) → AtomSmall a → AtomSmall (swapped a)
small_swapped a s = atom_small (swapped a) (small_neg a.amount (small_atom a s))

pub small_chosen : (f : Bool) (a : Atom) → AtomSmall a → AtomSmall (cond f (swapped a) a)
small_chosen true a s = small_swapped a s
small_chosen false a s = s

-- The tests of the code, and the turned atom by their answers.
differs : (a odd : Bool) → not (beq a odd) ≡ cond a (cond odd false true) odd
differs true true = refl
differs true false = refl
differs false true = refl
differs false false = refl

or_either : (a b : Bool) → (a || b) ≡ either a b
or_either true b = refl
or_either false b = refl

word_of : (w k x : List ℕ) (r : Bool) → r ≡ pointwise eqb w x → x ≡ k → r ≡ same_bytes w k
word_of w k x r is e = is ∙ pointwise_same w x ∙ ap (same_bytes w) e

pub tested :
    (w k l x y : List ℕ) (odd r q : Bool) → r ≡ pointwise eqb w x → x ≡ k → q ≡ pointwise eqb w y → y ≡ l →
    not (beq (r || q) odd) ≡ turned (same_bytes w k) (same_bytes w l) odd
tested w k l x y odd r q is e is' e' =
    ap (λ (b : Bool). not (beq (b || q) odd)) (word_of w k x r is e) ∙ ap (λ (b : Bool). not (beq (same_bytes w k || b) odd)) (word_of w l y q is' e')
    ∙ ap (λ (b : Bool). not (beq b odd)) (or_either (same_bytes w k) (same_bytes w l)) ∙ differs (either (same_bytes w k) (same_bytes w l)) odd

abbrev by_flags : (f l : Bool) → Atom → Atom
by_flags f l a = record { first = cond f a.second a.first; second = cond f a.first a.second; amount = final f l a.amount }

chosen : (f l : Bool) (a : Atom) → by_flags f l a ≡ cond l (lowered (cond f (swapped a) a)) (cond f (swapped a) a)
chosen true true a = refl
chosen true false a = refl
chosen false true a = refl
chosen false false a = refl

pub turned_is : (w : List ℕ) (odd : Bool) (a : Atom) (f l : Bool) → f ≡ flips w odd → l ≡ lessens w odd → turned_atom w odd a ≡ cond l (lowered (cond f (swapped a) a)) (cond f (swapped a) a)
turned_is w odd a f l p q = ap (λ (x : Bool). by_flags x (lessens w odd) a) (sym p) ∙ ap (λ (x : Bool). by_flags f x a) (sym q) ∙ chosen f l a
