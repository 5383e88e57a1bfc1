-- A table of rules after one was written: what each number reads, and that the room stays.
use Prim.Native.Nat.{ℕ, ◌<◌}
use native.Mathlib.Omega.{arith}
use native.Mathlib.Decide.{ℕ_discrete}
use mathlib.Core.Path.{◌≡◌, sym, ◌∙◌, subst}
use lib.ListN.{length-set}
use lib.Seq.{get_or-set_same, get_or-set_other}
use lib.IntN.{pos}
use Rattle.meaning.specs.Rules.{Rule, more}
use Rattle.meaning.specs.Tables.{Columns, rule_at, put, ColumnsRoom}
use Rattle.meaning.proofs.More.{more_new, more_old}

-- The number written reads the rule.
pub put_new : (c : Columns) (k m : ℕ) (r : Rule) → ColumnsRoom m c → k < m → rule_at (put c k r) k ≡ r
put_new c k m r room h i =
    record {
      first = get_or-set_same c.firsts k r.first 0 (omega (arith, room.firsts_room)) i;
      second = get_or-set_same c.seconds k r.second 0 (omega (arith, room.seconds_room)) i;
      amount = get_or-set_same c.amounts k r.amount (pos 0) (omega (arith, room.amounts_room)) i;
    }

-- Every other number reads what it read.
pub put_old : (c : Columns) (k : ℕ) (r : Rule) (j : ℕ) → (j ≡ k → ⊥) → rule_at (put c k r) j ≡ rule_at c j
put_old c k r j h i =
    record {
      first = get_or-set_other c.firsts k j r.first 0 h i;
      second = get_or-set_other c.seconds k j r.second 0 h i;
      amount = get_or-set_other c.amounts k j r.amount (pos 0) h i;
    }

-- So the table is the larger family.
pub put_more : (c : Columns) (k m : ℕ) (r : Rule) → ColumnsRoom m c → k < m → (j : ℕ) → more (rule_at c) k r j ≡ rule_at (put c k r) j
put_more c k m r room h j = tell (ℕ_discrete j k)
  where
    tell : Dec (j ≡ k) → more (rule_at c) k r j ≡ rule_at (put c k r) j
    tell (yes e) = subst (λ i. more (rule_at c) k r i ≡ rule_at (put c k r) i) (sym e) (more_new (rule_at c) k r ∙ sym (put_new c k m r room h))
    tell (no n) = more_old (rule_at c) k r j n ∙ sym (put_old c k r j n)

-- The columns are as long as before.
pub put_room : (c : Columns) (k m : ℕ) (r : Rule) → ColumnsRoom m c → ColumnsRoom m (put c k r)
put_room c k m r room =
    record {
      firsts_room = omega (arith, room.firsts_room, length-set c.firsts k r.first);
      seconds_room = omega (arith, room.seconds_room, length-set c.seconds k r.second);
      amounts_room = omega (arith, room.amounts_room, length-set c.amounts k r.amount);
    }
