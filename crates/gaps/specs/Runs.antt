-- Sequences of calls with the gap table: each keeps its promise, and nobody touches the tables or the gap table in between.
use Rattle.std.specs.Prelude.{ℕ, ◌≡◌}
use Rattle.meaning.specs.Bounds.{DONE}
use Rattle.meaning.specs.Tables.{Tables}
use Rattle.meaning.specs.Promise.{Given, Obeys}
use Rattle.meaning.specs.Calls.{with_list, with_lists}
use Rattle.meaning.specs.Runs.{Call}
use Rattle.gaps.specs.Gaps.{Gaps}
use Rattle.gaps.specs.Beside.{beside, open_beside, watch_beside, add_beside, mark_beside, back_beside, withdraw_beside, trial_beside, consequences_beside, ring_check_beside, last_day_beside, gap_beside}

-- The call was made on tables t and gap table a, gave g and left tables u and gap table b, and kept its promise.
abbrev pub MadeBeside : Call → Tables → Gaps → Given → Tables → Gaps → Type 0
MadeBeside (Call.opens n) t a g u b = Obeys (open_beside n (beside t a)) (beside t a) g (beside u b)
MadeBeside (Call.watches r) t a g u b = Obeys (watch_beside r (beside t a)) (beside t a) g (beside u b)
MadeBeside (Call.adds r l l') t a g u b = Obeys (add_beside r (beside (with_list t l) a)) (beside (with_list t l) a) g (beside (with_list u l') b)
MadeBeside Call.marks t a g u b = Obeys (mark_beside (beside t a)) (beside t a) g (beside u b)
MadeBeside Call.goes_back t a g u b = Obeys (back_beside (beside t a)) (beside t a) g (beside u b)
MadeBeside (Call.withdraws i) t a g u b = Obeys (withdraw_beside i (beside t a)) (beside t a) g (beside u b)
MadeBeside (Call.tries r l l' m m') t a g u b = Obeys (trial_beside r (beside (with_lists t l m) a)) (beside (with_lists t l m) a) g (beside (with_lists u l' m') b)
MadeBeside (Call.asks_consequences l l' m m') t a g u b = Obeys (consequences_beside (beside (with_lists t l m) a)) (beside (with_lists t l m) a) g (beside (with_lists u l' m') b)
MadeBeside (Call.checks_ring r l l') t a g u b = Obeys (ring_check_beside r (beside (with_list t l) a)) (beside (with_list t l) a) g (beside (with_list u l') b)
MadeBeside Call.asks_last_day t a g u b = Obeys (last_day_beside (beside t a)) (beside t a) g (beside u b)

-- Tables and gap table come from a sequence of calls: an accepted Open on any tables and any gap table, then any calls, refused ones and Gap included.
pub data RunBeside : Tables → Gaps → Type 0 where
  from_open : (n : ℕ) (t : Tables) (a : Gaps) (g : Given) (u : Tables) (b : Gaps) → MadeBeside (Call.opens n) t a g u b → g.number ≡ DONE → RunBeside u b
  then : (t : Tables) (a : Gaps) → RunBeside t a → (c : Call) (g : Given) (u : Tables) (b : Gaps) → MadeBeside c t a g u b → RunBeside u b
  then_gap : (t : Tables) (a : Gaps) → RunBeside t a → (x y : ℕ) (g : Given) (u : Tables) (b : Gaps) → Obeys (gap_beside x y (beside t a)) (beside t a) g (beside u b) → RunBeside u b
