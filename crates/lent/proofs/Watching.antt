-- Soundness in two parts: what is asked of the counts, the rules held, the days and the levels, and what is asked of the watched rules. Idle ones always have it,
-- so tables with idle watched rules are sound by the first part alone.
use Prim.Native.Nat.{ℕ, ◌≤◌, ◌<◌}
use native.Mathlib.Omega.{arith}
use mathlib.Core.Path.{◌≡◌, sym, subst}
use lib.ListN.{length-replicate, get_or-replicate}
use lib.IntN.{pos}
use Rattle.meaning.specs.declared.Counts.{Counts}
use Rattle.meaning.specs.Bounds.{WATCHED}
use Rattle.meaning.specs.Rules.{InAmount}
use Rattle.meaning.specs.Tables.{Columns, Tables, rule_at, ColumnsRoom}
use Rattle.lent.specs.Idle.{idle, watching, WatchedFine}
use Rattle.lent.specs.Promises.{Border}

-- Idle watched rules are fine.
idle_room : ColumnsRoom WATCHED idle
unfolding idle
idle_room = record {
  firsts_room = omega (arith, length-replicate {A = ℕ} WATCHED 0);
  seconds_room = omega (arith, length-replicate {A = ℕ} WATCHED 0);
  amounts_room = omega (arith, length-replicate WATCHED (pos 0));
}

first_0 : (i : ℕ) → i < WATCHED → (rule_at idle i).first ≡ 0
unfolding idle
first_0 i i-in = get_or-replicate {A = ℕ} WATCHED i 0 0 i-in

second_0 : (i : ℕ) → i < WATCHED → (rule_at idle i).second ≡ 0
unfolding idle
second_0 i i-in = get_or-replicate {A = ℕ} WATCHED i 0 0 i-in

amount_0 : (i : ℕ) → i < WATCHED → (rule_at idle i).amount ≡ pos 0
unfolding idle
amount_0 i i-in = get_or-replicate WATCHED i (pos 0) (pos 0) i-in

pub idle_fine : (c : Counts) → 1 ≤ c.steps → c.watched ≤ WATCHED → WatchedFine c idle
idle_fine c some few = record {
  room = idle_room;
  good = λ i i-in. record {
    steps_in = record { first_in = omega (arith, first_0 i (omega arith)); second_in = omega (arith, second_0 i (omega arith)) };
    amount_in = subst InAmount (sym (amount_0 i (omega arith))) (record { not_below = record { le = tt }; not_above = record { le = tt } });
  };
}

-- The rest of it goes with any watched rules that are fine.
pub watching_border : {t : Tables} {w : Columns} → Border t → WatchedFine t.counts w → Border (watching w t)
watching_border b fine = record {
  room = record { rules_room = b.room.rules_room; days_room = b.room.days_room; levels_room = b.room.levels_room; watched_room = fine.room };
  sound = record {
    counts_in = b.sound.counts_in;
    rules_good = b.sound.rules_good;
    watched_good = fine.good;
    levels_open = b.sound.levels_open;
    rules_counted = b.sound.rules_counted;
    days_earliest = b.sound.days_earliest;
    last_largest = b.sound.last_largest;
  };
}

-- So with idle ones.
pub idle_border : {t : Tables} → Border t → Border (watching idle t)
idle_border {t} b = watching_border b (idle_fine t.counts b.sound.counts_in.some_step b.sound.counts_in.watched_in)
