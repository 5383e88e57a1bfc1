-- From what a call does to the tables and to the gap table by itself to what it promises of both.
use Prim.Native.Nat.{ℕ, suc, ◌+◌, ◌<◌}
use native.Mathlib.Omega.{arith}
use mathlib.Core.Path.{◌≡◌, refl, sym, subst}
use mathlib.Core.List.{List}
use mathlib.Core.Logic.{inl, inr}
use lib.IntN.{ℤ, pos, negsuc, neg_ℤ}
use Rattle.meaning.specs.declared.Counts.{Counts}
use Rattle.meaning.specs.Bounds.{NO_LIMIT, DONE}
use Rattle.meaning.specs.Rules.{Rule, InAmount}
use Rattle.meaning.specs.Tables.{Tables}
use Rattle.meaning.specs.Promise.{Given, First}
use Rattle.meaning.specs.Calls.{with_list, rules_of, held_in, add_meaning}
use Rattle.meaning.specs.Runs.{Call, Made}
use Rattle.meaning.proofs.Needs.{AllMet, done_met}
use Rattle.meaning.proofs.Needs as needs_of
use Rattle.meaning.proofs.Sequences.{call_keeps}
use Rattle.lent.specs.Lent.{tables}
use Rattle.lent.specs.Idle.{unwatched}
use Rattle.lent.specs.Promises.{Border}
use Rattle.gaps.specs.Gaps.{Gaps, Limit, Says, cell, InYard, Right, Remade}
use Rattle.gaps.specs.Beside.{GapTold}
use Rattle.gaps.specs.Promises.{kind_of, size_of}
use Rattle.gaps.specs.Slacks.{Near, Raised}
use Rattle.gaps.proofs.Right.{right_near, raised_remade}
use Rattle.desk.specs.Yard.{pair_needs}

-- Whatever a call answers on sound tables, it leaves sound ones.
pub still_border : (c : Call) (t u : Tables) (g : Given) → Made c t g u → Border t → Border u
still_border c t u g made b = let kept = call_keeps c t u g made (record { sound = b.sound; room = b.room }) in record { room = kept.room; sound = kept.sound }

-- The watched rules play no part in the gap table.
module _ (counts : Counts) (xs ys : List ℕ) (cs : List ℤ) (days levels wxs wys : List ℕ) (wcs : List ℤ) (a b : Gaps) where
  pub remade_watching : Remade (unwatched counts xs ys cs days levels) a b → Remade (tables counts xs ys cs days levels wxs wys wcs) a b
  remade_watching r = record { right = r.right; others = r.others; as_many = r.as_many; as_long = r.as_long }

-- ---- an accepted Add

-- The rule x, y, c can be brought into the gap table.
pub record Raisable (n x y : ℕ) (c : ℤ) (gaps : Gaps) : Type 0 where
  pub first_in : x < n
  pub second_in : y < n
  pub amount_in : InAmount c
  pub near : (i j : ℕ) → InYard n i j → Near (cell gaps i j)

module _ (r : Rule) (t u : Tables) (l l' : List ℕ) (g : Given) (a b : Gaps) (made : Made (Call.adds r l l') t g u) (right : Right t a) (done : g.number ≡ DONE) where
  met : AllMet (add_meaning r (with_list t l)).asks
  met = done_met DONE g.number (add_meaning r (with_list t l)).asks (needs_of.add_rises r (with_list t l)) made.first_unmet done

  -- The rule can be brought into the gap table.
  pub add_raisable : Raisable t.counts.steps r.first r.second r.amount a
  add_raisable = record { first_in = met.1.1.0.first_in; second_in = met.1.1.0.second_in; amount_in = met.1.1.1.0; near = right_near t met.1.0 a right }

  -- Then it is right again.
  pub add_remade : Raised t.counts.steps r.first r.second r.amount a b → Remade u a b
  add_remade raised =
      subst (λ (w : Tables). Remade w a b) (sym (made.when_done done).rule_held)
      (raised_remade r t u.days met.0.0 met.1.0 met.1.1.0 met.1.1.1.0 met.1.1.1.1.0 (made.when_done done).planned.earliest a b right raised)

-- ---- Gap

-- A pair that is not refused is of one yard.
pub pair_met : (n x y : ℕ) → First (pair_needs n x y) DONE → InYard n x y
pair_met n x y (inl f) = absurd (omega (arith, f.0))
pair_met n x y (inr (few, inl f)) = absurd (omega (arith, f.0))
pair_met n x y (inr (few, inr (there, f))) = record { one_yard = few; row_in = there.0; column_in = there.1 }

up_alone : (n : ℕ) → n ≡ n + 0
up_alone n = omega arith

dn_alone : (n : ℕ) → suc n ≡ 0 + suc n
dn_alone n = omega arith

-- A cell that says what is so is told.
pub told_none : (x y : ℕ) (t : Tables) (z : ℤ) → z ≡ pos NO_LIMIT → Says (rules_of t) (held_in t) x y z → GapTold x y t 0 0 t
told_none x y t z e (inl (is, none)) = record { told = inl (refl, refl, none); all_stays = refl }
told_none x y t z e (inr (is, limit)) = absurd (is e)

pub told_limit : (x y : ℕ) (t : Tables) (z : ℤ) → (z ≡ pos NO_LIMIT → ⊥) → Says (rules_of t) (held_in t) x y z → GapTold x y t (kind_of z) (size_of z) t
told_limit x y t z limited (inl (is, none)) = absurd (limited is)
told_limit x y t (pos n) limited (inr (is, limit)) = record { told = inr (inl (refl, subst (λ (k : ℕ). Limit (rules_of t) (held_in t) x y (pos k)) (up_alone n) limit)); all_stays = refl }
told_limit x y t (negsuc n) limited (inr (is, limit)) =
    record { told = inr (inr (refl, omega arith, subst (λ (k : ℕ). Limit (rules_of t) (held_in t) x y (neg_ℤ (pos k))) (dn_alone n) limit)); all_stays = refl }
