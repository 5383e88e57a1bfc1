-- The eleven calls with the gap table beside what else is lent. What a call means for the tables stands in the meaning's Calls; here stands what the gap table adds: one
-- need, right after those of the tables, and what is in it afterwards.
use Rattle.std.specs.Prelude.{ℕ, ◌≤◌, ◌<◌, ◌≡◌, List, [], ◌∷◌, ◌⊎◌, pos, neg_ℤ}
use Rattle.meaning.specs.Bounds.{YARD_STEPS, SHORT, DAMAGED, STEP, YARD}
use Rattle.meaning.specs.Rules.{Rule}
use Rattle.meaning.specs.Tables.{Tables, Room, Sound}
use Rattle.meaning.specs.Promise.{Meaning, Need, needs, no_conflict}
use Rattle.meaning.specs.Calls.{WithList, WithLists, rules_of, held_in, open_meaning, watch_meaning, add_meaning, mark_meaning, back_meaning, withdraw_meaning, trial_meaning, consequences_meaning, ring_check_meaning, last_day_meaning}
use Rattle.gaps.specs.Gaps.{Gaps, Limit, NoLimit, Right, Remade}

-- What is lent to a call, and the gap table.
pub record Beside (S : Type 0) : Type 0 where
  pub lent : S
  pub gaps : Gaps

abbrev pub beside : {S : Type 0} → S → Gaps → Beside S
beside s gaps = record { lent = s; gaps = gaps }

-- A need put in behind the first two, which are SHORT and DAMAGED of the tables.
abbrev pub third : Need → List Need → List Need
third n [] = n ∷ []
third n (a ∷ []) = a ∷ n ∷ []
third n (a ∷ b ∷ l) = a ∷ b ∷ n ∷ l

-- A call that asks `asks`, does what m says, and leaves in the gap table, where it is carried out, what `left` says. On conflict the gap table is as before, as on every refusal.
abbrev pub with_gaps : {S : Type 0} → List Need → Meaning S → (S → Gaps → Type 0) → Gaps → Meaning (Beside S)
with_gaps asks m left gaps = record {
  asks = asks;
  done = λ a b after. m.done a b after.lent × left after.lent after.gaps;
  conflict = λ a after. m.conflict a after.lent × (after.gaps ≡ gaps);
}

-- Where the tables have room and are sound, the gap table must be right: else the call is refused as DAMAGED.
abbrev pub asks_right : {S : Type 0} → Meaning S → Tables → Gaps → List Need
asks_right m t gaps = third (needs DAMAGED (Right t gaps)) m.asks

-- A call that leaves the gap table as it is.
abbrev pub leaving : {S : Type 0} → Meaning S → Tables → Gaps → Meaning (Beside S)
leaving m t gaps = with_gaps (asks_right m t gaps) m (λ s after. after ≡ gaps) gaps

-- A call after which the gap table is right for the tables that it leaves.
abbrev pub remaking : {S : Type 0} → (S → Tables) → Meaning S → Tables → Gaps → Meaning (Beside S)
remaking tables-of m t gaps = with_gaps (asks_right m t gaps) m (λ s after. Remade (tables-of s) gaps after) gaps

-- **Open** asks nothing of the gap table, and makes it.
abbrev pub open_beside : ℕ → Beside Tables → Meaning (Beside Tables)
open_beside n s = with_gaps (open_meaning n s.lent).asks (open_meaning n s.lent) (λ t after. Remade t s.gaps after) s.gaps

-- **Add**, **Back** and **Withdraw** bring it up to date.
abbrev pub add_beside : Rule → Beside WithList → Meaning (Beside WithList)
add_beside r s = remaking (λ w. w.tables) (add_meaning r s.lent) s.lent.tables s.gaps

abbrev pub back_beside : Beside Tables → Meaning (Beside Tables)
back_beside s = remaking (λ t. t) (back_meaning s.lent) s.lent s.gaps

abbrev pub withdraw_beside : ℕ → Beside Tables → Meaning (Beside Tables)
withdraw_beside i s = remaking (λ t. t) (withdraw_meaning i s.lent) s.lent s.gaps

-- **Watch**, **Mark**, **Trial**, **Consequences**, **Ring check** and **Last day** leave it.
abbrev pub watch_beside : Rule → Beside Tables → Meaning (Beside Tables)
watch_beside r s = leaving (watch_meaning r s.lent) s.lent s.gaps

abbrev pub mark_beside : Beside Tables → Meaning (Beside Tables)
mark_beside s = leaving (mark_meaning s.lent) s.lent s.gaps

abbrev pub trial_beside : Rule → Beside WithLists → Meaning (Beside WithLists)
trial_beside r s = leaving (trial_meaning r s.lent) s.lent.tables s.gaps

abbrev pub consequences_beside : Beside WithLists → Meaning (Beside WithLists)
consequences_beside s = leaving (consequences_meaning s.lent) s.lent.tables s.gaps

abbrev pub ring_check_beside : Rule → Beside WithList → Meaning (Beside WithList)
ring_check_beside r s = leaving (ring_check_meaning r s.lent) s.lent.tables s.gaps

abbrev pub last_day_beside : Beside Tables → Meaning (Beside Tables)
last_day_beside s = leaving (last_day_meaning s.lent) s.lent s.gaps

-- **Gap**: 0 and 0 where the pair has no limit; 1 and the limit where it is not below 0; 2 and how far it is below 0 where it is. Nothing is written.
pub record GapTold (x y : ℕ) (before : Tables) (a b : ℕ) (after : Tables) : Type 0 where
  pub told :
      ((a ≡ 0) × (b ≡ 0) × NoLimit (rules_of before) (held_in before) x y)
      ⊎ ((a ≡ 1) × Limit (rules_of before) (held_in before) x y (pos b))
      ⊎ ((a ≡ 2) × (1 ≤ b) × Limit (rules_of before) (held_in before) x y (neg_ℤ (pos b)))
  pub all_stays : after ≡ before

-- What Gap means for the tables. It is asked of one yard: YARD comes before STEP, so these numbers do not rise.
abbrev pub gap_meaning : ℕ → ℕ → Tables → Meaning Tables
gap_meaning x y before = record {
  asks =
      needs SHORT (Room before) ∷ needs DAMAGED (Sound before) ∷ needs YARD (before.counts.steps ≤ YARD_STEPS)
      ∷ needs STEP ((x < before.counts.steps) × (y < before.counts.steps)) ∷ [];
  done = GapTold x y before;
  conflict = no_conflict;
}

abbrev pub gap_beside : ℕ → ℕ → Beside Tables → Meaning (Beside Tables)
gap_beside x y s = leaving (gap_meaning x y s.lent) s.lent s.gaps
