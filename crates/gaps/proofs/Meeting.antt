-- With the gap table too no promise is empty: every input whose gap table is a square, as each is that is lent, has an outcome that its call's promise allows.
use Prim.Native.Nat.{ℕ, suc, ◌≤◌, ◌<◌}
use native.Mathlib.Omega.{arith}
use native.Mathlib.Decide.{ℕ_discrete, dec_le, dec_lt}
use mathlib.Core.Path.{◌≡◌, refl}
use mathlib.Core.List.{List, [], ◌∷◌}
use mathlib.Core.Logic.{inl, inr}
use lib.IntN.{ℤ, pos, negsuc}
use lib.ListN.{length}
use Rattle.meaning.specs.Bounds.{STEPS, RULES, MARKS, WATCHED, DONE, SHORT, DAMAGED, STEP, FULL, CONFLICT, NOMARK, ABSENT, YARD, YARD_STEPS}
use Rattle.meaning.specs.Rules.{Rule, Fits}
use Rattle.meaning.specs.Tables.{Tables, Room, Sound}
use Rattle.meaning.specs.Promise.{Given, Need, needs, First, Meaning, Obeys, bare, gave}
use Rattle.meaning.specs.Calls.{with_list, with_lists, rules_of, held_in, rule_needs, open_meaning, watch_meaning, add_meaning, mark_meaning, back_meaning, withdraw_meaning, trial_meaning, consequences_meaning, ring_check_meaning, last_day_meaning}
use Rattle.meaning.specs.Runs.{Call, Made}
use Rattle.meaning.proofs.Needs.{done_met, obeys_done, obeys_refused}
use Rattle.meaning.proofs.Needs as needs_of
use Rattle.meaning.proofs.Decided.{room?, sound?}
use Rattle.meaning.proofs.Possible.{Outcome, open_possible, watch_possible, add_possible, mark_possible, back_possible, withdraw_possible, trial_possible, consequences_possible, ring_check_possible, last_day_possible}
use Rattle.meaning.proofs.Sequences.{call_keeps, opened_kept}
use Rattle.gaps.specs.Gaps.{Gaps, Square, Says, Right, Remade}
use Rattle.gaps.specs.Beside.{beside, with_gaps, asks_right, open_beside, watch_beside, add_beside, mark_beside, back_beside, withdraw_beside, trial_beside, consequences_beside, ring_check_beside, last_day_beside, GapTold, gap_meaning, gap_beside}
use Rattle.gaps.proofs.Lifting.{lifted}
use Rattle.gaps.proofs.Right.{right?, limit_cell}
use Rattle.gaps.proofs.Squares.{remade_some}

-- From an outcome without the gap table to one with it. P is what must have room, l what is asked behind the tables.
module _ {S : Type 0} (m : Meaning S) (t : Tables) (s : S) (a : Gaps) (P : Type 0) (l : List Need) (left : S → Gaps → Type 0)
    (from : (k : ℕ) → First m.asks k → First (needs SHORT P ∷ needs DAMAGED (Sound t) ∷ l) k)
    (to : (k : ℕ) → First (needs SHORT P ∷ needs DAMAGED (Sound t) ∷ needs DAMAGED (Right t a) ∷ l) k → First (asks_right m t a) k)
    (some : P → Sound t → (g : Given) (s' : S) → Obeys m s g s' → g.number ≡ DONE → (b : Gaps) × left s' b) where
  with_outcome : Outcome m s → Outcome (with_gaps (asks_right m t a) m left a) (beside s a)
  with_outcome o = by-need (from g.number o.keeps.first_unmet)
    where
      g : Given
      g = o.answer

      s' : S
      s' = o.after

      goes : (b : Gaps) → First (asks_right m t a) g.number → (g.number ≡ DONE → left s' b) → ((g.number ≡ DONE → ⊥) → b ≡ a) → Outcome (with_gaps (asks_right m t a) m left a) (beside s a)
      goes b first done not_done = record { answer = g; after = beside s' b; keeps = lifted m (asks_right m t a) left a b s s' g first o.keeps done not_done }

      by_number : First (asks_right m t a) g.number → P → Sound t → Dec (g.number ≡ DONE) → Outcome (with_gaps (asks_right m t a) m left a) (beside s a)
      by_number first p sound (yes e) = let (b, is) = some p sound g s' o.keeps e in goes b first (λ z. is) (λ z. absurd (z e))
      by_number first p sound (no nd) = goes a first (λ e. absurd (nd e)) (λ z. refl)

      by_right : P → Sound t → First l g.number → Dec (Right t a) → Outcome (with_gaps (asks_right m t a) m left a) (beside s a)
      by_right p sound rest (yes right) = by_number (to g.number (inr (p, inr (sound, inr (right, rest))))) p sound (ℕ_discrete g.number DONE)
      by_right p sound rest (no wrong) = record {
        answer = bare DAMAGED;
        after = beside s a;
        keeps =
            obeys_refused (with_gaps (asks_right m t a) m left a) (beside s a) DAMAGED (λ e. absurd (omega (arith, e))) (λ e. absurd (omega (arith, e)))
            (to DAMAGED (inr (p, inr (sound, inl (refl, wrong)))));
      }

      by-need : First (needs SHORT P ∷ needs DAMAGED (Sound t) ∷ l) g.number → Outcome (with_gaps (asks_right m t a) m left a) (beside s a)
      by-need (inl f) = goes a (to g.number (inl f)) (λ e. absurd (omega (arith, e, f.0))) (λ z. refl)
      by-need (inr (p, inl f)) = goes a (to g.number (inr (p, inl f))) (λ e. absurd (omega (arith, e, f.0))) (λ z. refl)
      by-need (inr (p, inr (sound, rest))) = by_right p sound rest (right? t sound a)

-- Beside sound tables a gap table can be made.
remade_after : (c : Call) (t u : Tables) (g : Given) (a : Gaps) → Square a → Room t → Sound t → Made c t g u → (b : Gaps) × Remade u a b
remade_after c t u g a square room sound x = remade_some u (call_keeps c t u g x (record { sound = sound; room = room })).sound a square

-- ---- each call

pub open_beside_possible : (n : ℕ) (t : Tables) (a : Gaps) → Square a → Outcome (open_beside n (beside t a)) (beside t a)
open_beside_possible n t a square = by_number (ℕ_discrete o.answer.number DONE)
  where
    o : Outcome (open_meaning n t) t
    o = open_possible n t

    goes : (b : Gaps) → (o.answer.number ≡ DONE → Remade o.after a b) → ((o.answer.number ≡ DONE → ⊥) → b ≡ a) → Outcome (open_beside n (beside t a)) (beside t a)
    goes b done not_done = record {
      answer = o.answer;
      after = beside o.after b;
      keeps = lifted (open_meaning n t) (open_meaning n t).asks (λ u after. Remade u a after) a b t o.after o.answer o.keeps.first_unmet o.keeps done not_done;
    }

    by_number : Dec (o.answer.number ≡ DONE) → Outcome (open_beside n (beside t a)) (beside t a)
    by_number (no nd) = goes a (λ e. absurd (nd e)) (λ z. refl)
    by_number (yes e) =
        let met = done_met DONE o.answer.number (open_meaning n t).asks (needs_of.open_rises n t) o.keeps.first_unmet e in
        let kept = opened_kept n t o.after o.answer.one o.answer.two met.0 met.1.0.0 met.1.0.1 (o.keeps.when_done e) in
        let (b, is) = remade_some o.after kept.sound a square in
        goes b (λ z. is) (λ z. absurd (z e))

pub watch_beside_possible : (r : Rule) (t : Tables) (a : Gaps) → Outcome (watch_beside r (beside t a)) (beside t a)
watch_beside_possible r t a =
    with_outcome (watch_meaning r t) t t a (Room t) (rule_needs t.counts.steps r (needs FULL (t.counts.watched < WATCHED) ∷ [])) (λ u b. b ≡ a)
    (λ k f. f) (λ k f. f) (λ p sound g u x e. (a, refl)) (watch_possible r t)

pub add_beside_possible : (r : Rule) (t : Tables) (l : List ℕ) (a : Gaps) → Square a → Outcome (add_beside r (beside (with_list t l) a)) (beside (with_list t l) a)
add_beside_possible r t l a square =
    with_outcome (add_meaning r (with_list t l)) t (with_list t l) a (Room t × (STEPS ≤ length l))
    (rule_needs t.counts.steps r (needs FULL (t.counts.rules < RULES) ∷ needs CONFLICT (Fits (rules_of t) (held_in t) r) ∷ [])) (λ u b. Remade u.tables a b)
    (λ k f. f) (λ k f. f) (λ p sound g u x e. remade_after (Call.adds r l u.list) t u.tables g a square p.0 sound x) (add_possible r (with_list t l))

pub mark_beside_possible : (t : Tables) (a : Gaps) → Outcome (mark_beside (beside t a)) (beside t a)
mark_beside_possible t a =
    with_outcome (mark_meaning t) t t a (Room t) (needs FULL (t.counts.marks < MARKS) ∷ []) (λ u b. b ≡ a) (λ k f. f) (λ k f. f) (λ p sound g u x e. (a, refl)) (mark_possible t)

pub back_beside_possible : (t : Tables) (a : Gaps) → Square a → Outcome (back_beside (beside t a)) (beside t a)
back_beside_possible t a square =
    with_outcome (back_meaning t) t t a (Room t) (needs NOMARK (1 ≤ t.counts.marks) ∷ []) (λ u b. Remade u a b)
    (λ k f. f) (λ k f. f) (λ p sound g u x e. remade_after Call.goes_back t u g a square p sound x) (back_possible t)

pub withdraw_beside_possible : (i : ℕ) (t : Tables) (a : Gaps) → Square a → Outcome (withdraw_beside i (beside t a)) (beside t a)
withdraw_beside_possible i t a square =
    with_outcome (withdraw_meaning i t) t t a (Room t) (needs ABSENT (held_in t i) ∷ []) (λ u b. Remade u a b)
    (λ k f. f) (λ k f. f) (λ p sound g u x e. remade_after (Call.withdraws i) t u g a square p sound x) (withdraw_possible i t)

pub trial_beside_possible : (r : Rule) (t : Tables) (l m : List ℕ) (a : Gaps) → Outcome (trial_beside r (beside (with_lists t l m) a)) (beside (with_lists t l m) a)
trial_beside_possible r t l m a =
    with_outcome (trial_meaning r (with_lists t l m)) t (with_lists t l m) a (Room t × (STEPS ≤ length l) × (STEPS ≤ length m))
    (rule_needs t.counts.steps r (needs FULL (t.counts.rules < RULES) ∷ needs CONFLICT (Fits (rules_of t) (held_in t) r) ∷ [])) (λ u b. b ≡ a)
    (λ k f. f) (λ k f. f) (λ p sound g u x e. (a, refl)) (trial_possible r (with_lists t l m))

pub consequences_beside_possible : (t : Tables) (l m : List ℕ) (a : Gaps) → Outcome (consequences_beside (beside (with_lists t l m) a)) (beside (with_lists t l m) a)
consequences_beside_possible t l m a =
    with_outcome (consequences_meaning (with_lists t l m)) t (with_lists t l m) a (Room t × (t.counts.watched ≤ length l) × (t.counts.watched ≤ length m)) [] (λ u b. b ≡ a)
    (λ k f. f) (λ k f. f) (λ p sound g u x e. (a, refl)) (consequences_possible (with_lists t l m))

pub ring_check_beside_possible : (r : Rule) (t : Tables) (l : List ℕ) (a : Gaps) → Outcome (ring_check_beside r (beside (with_list t l) a)) (beside (with_list t l) a)
ring_check_beside_possible r t l a =
    with_outcome (ring_check_meaning r (with_list t l)) t (with_list t l) a (Room t) (rule_needs t.counts.steps r []) (λ u b. b ≡ a)
    (λ k f. f) (λ k f. f) (λ p sound g u x e. (a, refl)) (ring_check_possible r (with_list t l))

pub last_day_beside_possible : (t : Tables) (a : Gaps) → Outcome (last_day_beside (beside t a)) (beside t a)
last_day_beside_possible t a =
    with_outcome (last_day_meaning t) t t a (Room t) [] (λ u b. b ≡ a) (λ k f. f) (λ k f. f) (λ p sound g u x e. (a, refl)) (last_day_possible t)

-- ---- Gap

-- What a cell says as the two values that Gap gives.
pub cell_told : (x y : ℕ) (t : Tables) (z : ℤ) → Says (rules_of t) (held_in t) x y z → (a : ℕ) × (b : ℕ) × GapTold x y t a b t
cell_told x y t z (inl (e, none)) = (0, 0, record { told = inl (refl, refl, none); all_stays = refl })
cell_told x y t (pos n) (inr (e, limit)) = (1, n, record { told = inr (inl (refl, limit)); all_stays = refl })
cell_told x y t (negsuc n) (inr (e, limit)) = (2, suc n, record { told = inr (inr (refl, omega arith, limit)); all_stays = refl })

gap_possible : (x y : ℕ) (t : Tables) → Outcome (gap_meaning x y t) t
gap_possible x y t = by_room (room? t)
  where
    m : Meaning Tables
    m = gap_meaning x y t

    n : ℕ
    n = t.counts.steps

    refuses : (k : ℕ) → (k ≡ DONE → ⊥) → (k ≡ CONFLICT → ⊥) → First m.asks k → Outcome m t
    refuses k nd nc f = record { answer = bare k; after = t; keeps = obeys_refused m t k nd nc f }

    told : Room t → Sound t → n ≤ YARD_STEPS → (x < n) × (y < n) → Outcome m t
    told room sound yard there =
        let (z, says, near) = limit_cell t sound x y (record { one_yard = yard; row_in = there.0; column_in = there.1 }) in
        let (a, b, is) = cell_told x y t z says in
        record { answer = gave DONE a b; after = t; keeps = obeys_done m t a b t (room, (sound, (yard, (there, tt)))) is }

    by-steps : Room t → Sound t → n ≤ YARD_STEPS → Dec (x < n) → Dec (y < n) → Outcome m t
    by-steps room sound yard (yes p) (yes q) = told room sound yard (p, q)
    by-steps room sound yard (no p) _ = refuses STEP (λ e. absurd (omega (arith, e))) (λ e. absurd (omega (arith, e))) (inr (room, inr (sound, inr (yard, inl (refl, λ h. p h.0)))))
    by-steps room sound yard (yes p) (no q) = refuses STEP (λ e. absurd (omega (arith, e))) (λ e. absurd (omega (arith, e))) (inr (room, inr (sound, inr (yard, inl (refl, λ h. q h.1)))))

    by-yard : Room t → Sound t → Dec (n ≤ YARD_STEPS) → Outcome m t
    by-yard room sound (yes yard) = by-steps room sound yard (dec_lt x n) (dec_lt y n)
    by-yard room sound (no wide) = refuses YARD (λ e. absurd (omega (arith, e))) (λ e. absurd (omega (arith, e))) (inr (room, inr (sound, inl (refl, wide))))

    by-sound : Room t → Dec (Sound t) → Outcome m t
    by-sound room (yes sound) = by-yard room sound (dec_le n YARD_STEPS)
    by-sound room (no broken) = refuses DAMAGED (λ e. absurd (omega (arith, e))) (λ e. absurd (omega (arith, e))) (inr (room, inl (refl, broken)))

    by_room : Dec (Room t) → Outcome m t
    by_room (yes room) = by-sound room (sound? t)
    by_room (no short) = refuses SHORT (λ e. absurd (omega (arith, e))) (λ e. absurd (omega (arith, e))) (inl (refl, short))

pub gap_beside_possible : (x y : ℕ) (t : Tables) (a : Gaps) → Outcome (gap_beside x y (beside t a)) (beside t a)
gap_beside_possible x y t a =
    with_outcome (gap_meaning x y t) t t a (Room t) (needs YARD (t.counts.steps ≤ YARD_STEPS) ∷ needs STEP ((x < t.counts.steps) × (y < t.counts.steps)) ∷ []) (λ u b. b ≡ a)
    (λ k f. f) (λ k f. f) (λ p sound g u e z. (a, refl)) (gap_possible x y t)
