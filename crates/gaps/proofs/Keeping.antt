-- After any sequence of calls every cell that is kept is the limit, or says that there is none; and the tables are as sequences of calls without the gap table leave them.
use Prim.Native.Nat.{ℕ, ◌<◌}
use native.Mathlib.Omega.{arith}
use native.Mathlib.Decide.{ℕ_discrete}
use mathlib.Core.Path.{◌≡◌, refl, sym, ◌∙◌, ap, subst}
use mathlib.Core.Logic.{◌⊎◌, inl, inr}
use Rattle.meaning.specs.Bounds.{DONE, CONFLICT, YARD_STEPS}
use Rattle.meaning.specs.Tables.{Tables, with_watched, with_mark}
use Rattle.meaning.specs.Promise.{Given, Meaning, Obeys}
use Rattle.meaning.specs.Calls.{WithList, with_list, with_lists, open_meaning, watch_meaning, add_meaning, mark_meaning, back_meaning, withdraw_meaning, trial_meaning, consequences_meaning, ring_check_meaning, last_day_meaning}
use Rattle.meaning.specs.Runs.{Call, Made, Run}
use Rattle.meaning.proofs.Sequences.{Kept, run_kept}
use Rattle.gaps.specs.Gaps.{Gaps, Right, Remade}
use Rattle.gaps.specs.Beside.{Beside, beside, leaving, remaking, gap_meaning, gap_beside}
use Rattle.gaps.specs.Runs.{MadeBeside, RunBeside}
use Rattle.gaps.proofs.Lifting.{dropped, drop_leaving, drop_remaking}

-- With more steps than one yard has every gap table is right.
pub wide_right : (t : Tables) (a : Gaps) → YARD_STEPS < t.counts.steps → Right t a
wide_right t a wide x y there = absurd (omega (arith, wide, there.one_yard))

-- ---- what becomes of the gap table

module _ {S : Type 0} (m : Meaning S) (t : Tables) (a b : Gaps) (s s' : S) (g : Given) where
  -- A call that leaves it leaves it, whatever it answers.
  pub leaving_stays : Obeys (leaving m t a) (beside s a) g (beside s' b) → b ≡ a
  leaving_stays x = by_number (ℕ_discrete g.number DONE) (ℕ_discrete g.number CONFLICT)
    where
      by_number : Dec (g.number ≡ DONE) → Dec (g.number ≡ CONFLICT) → b ≡ a
      by_number (yes e) _ = (x.when_done e).1
      by_number (no nd) (yes e) = (x.on_conflict e).0.1
      by_number (no nd) (no nc) = ap (λ (w : Beside S). w.gaps) (x.when_refused nd nc).1

  -- A call that is not carried out leaves it too, and the tables.
  pub remaking_stays : (tables-of : S → Tables) → Obeys (remaking tables-of m t a) (beside s a) g (beside s' b) → (g.number ≡ DONE → ⊥) → b ≡ a
  remaking_stays tables-of x nd = by_number (ℕ_discrete g.number CONFLICT)
    where
      by_number : Dec (g.number ≡ CONFLICT) → b ≡ a
      by_number (yes e) = (x.on_conflict e).0.1
      by_number (no nc) = ap (λ (w : Beside S). w.gaps) (x.when_refused nd nc).1

-- ---- what becomes of the tables

-- A call that is refused, and knows no conflict, leaves what it was lent.
refused_same : {S : Type 0} (m : Meaning S) (s s' : S) (g : Given) → Obeys m s g s' → ((a : ℕ) (v : S) → m.conflict a v → ⊥) → (g.number ≡ DONE → ⊥) → s' ≡ s
refused_same m s s' g x none nd = by_number (ℕ_discrete g.number CONFLICT)
  where
    by_number : Dec (g.number ≡ CONFLICT) → s' ≡ s
    by_number (yes e) = absurd (none g.one s' (x.on_conflict e).0)
    by_number (no nc) = (x.when_refused nd nc).1

-- A gap table that is right stays right: where the tables u are t, or another record of the same steps and rules.
stays_right : (t v u : Tables) (a b : Gaps) → Right t a → Right v a → (u ≡ v) ⊎ (u ≡ t) → b ≡ a → Right u b
stays_right t v u a b right same (inl e) f = subst (λ (w : Tables). Right w b) (sym e) (subst (Right v) (sym f) same)
stays_right t v u a b right same (inr e) f = subst (λ (w : Tables). Right w b) (sym e) (subst (Right t) (sym f) right)

-- What a call leaves that leaves the gap table, and of which each outcome is told.
module _ {S : Type 0} (m : Meaning S) (t v u : Tables) (a b : Gaps) (s s' : S) (g : Given) (tables-of : S → Tables) (right : Right t a) (same : Right v a)
    (before : tables-of s ≡ t) (after : tables-of s' ≡ u)
    (done : (i j : ℕ) → m.done i j s' → tables-of s' ≡ v) (conflict : (i : ℕ) → m.conflict i s' → tables-of s' ≡ tables-of s) where
  tables_after : Obeys m s g s' → (u ≡ v) ⊎ (u ≡ t)
  tables_after x = by_number (ℕ_discrete g.number DONE) (ℕ_discrete g.number CONFLICT)
    where
      by_number : Dec (g.number ≡ DONE) → Dec (g.number ≡ CONFLICT) → (u ≡ v) ⊎ (u ≡ t)
      by_number (yes e) _ = inl (sym after ∙ done g.one g.two (x.when_done e))
      by_number (no nd) (yes e) = inr (sym after ∙ conflict g.one (x.on_conflict e).0 ∙ before)
      by_number (no nd) (no nc) = inr (sym after ∙ ap tables-of (x.when_refused nd nc).1 ∙ before)

  leaving_right : Obeys (leaving m t a) (beside s a) g (beside s' b) → Right u b
  leaving_right x = stays_right t v u a b right same (tables_after (drop_leaving m t a right s s' g b x)) (leaving_stays m t a b s s' g x)

-- What a call leaves that brings the gap table up to date.
module _ {S : Type 0} (m : Meaning S) (t u : Tables) (a b : Gaps) (s s' : S) (g : Given) (tables-of : S → Tables) (right : Right t a)
    (before : tables-of s ≡ t) (after : tables-of s' ≡ u) (conflict : (i : ℕ) → m.conflict i s' → tables-of s' ≡ tables-of s) where
  remaking_right : Obeys (remaking tables-of m t a) (beside s a) g (beside s' b) → Right u b
  remaking_right x = by_number (ℕ_discrete g.number DONE) (ℕ_discrete g.number CONFLICT)
    where
      old : (tables-of s' ≡ tables-of s) → (g.number ≡ DONE → ⊥) → Right u b
      old e nd = stays_right t t u a b right right (inr (sym after ∙ e ∙ before)) (remaking_stays m t a b s s' g tables-of x nd)

      by_number : Dec (g.number ≡ DONE) → Dec (g.number ≡ CONFLICT) → Right u b
      by_number (yes e) _ = subst (λ (w : Tables). Right w b) after (x.when_done e).1.right
      by_number (no nd) (yes e) = old (conflict g.one (x.on_conflict e).0.0) nd
      by_number (no nd) (no nc) = old (ap (λ (w : Beside S). tables-of w.lent) (x.when_refused nd nc).1) nd

-- ---- each call

-- Beside a right gap table a call is what it is without one.
pub made_without : (c : Call) (t u : Tables) (a b : Gaps) (g : Given) → Right t a → MadeBeside c t a g u b → Made c t g u
made_without (Call.opens n) t u a b g right x = dropped (open_meaning n t) (open_meaning n t).asks (λ w after. Remade w a after) a b t u g x.first_unmet x
made_without (Call.watches r) t u a b g right x = drop_leaving (watch_meaning r t) t a right t u g b x
made_without (Call.adds r l l') t u a b g right x = drop_remaking (add_meaning r (with_list t l)) t a right (with_list t l) (with_list u l') g (λ w. w.tables) b x
made_without Call.marks t u a b g right x = drop_leaving (mark_meaning t) t a right t u g b x
made_without Call.goes_back t u a b g right x = drop_remaking (back_meaning t) t a right t u g (λ w. w) b x
made_without (Call.withdraws i) t u a b g right x = drop_remaking (withdraw_meaning i t) t a right t u g (λ w. w) b x
made_without (Call.tries r l l' m m') t u a b g right x = drop_leaving (trial_meaning r (with_lists t l m)) t a right (with_lists t l m) (with_lists u l' m') g b x
made_without (Call.asks_consequences l l' m m') t u a b g right x = drop_leaving (consequences_meaning (with_lists t l m)) t a right (with_lists t l m) (with_lists u l' m') g b x
made_without (Call.checks_ring r l l') t u a b g right x = drop_leaving (ring_check_meaning r (with_list t l)) t a right (with_list t l) (with_list u l') g b x
made_without Call.asks_last_day t u a b g right x = drop_leaving (last_day_meaning t) t a right t u g b x

-- Open, whatever gap table it is lent.
pub opened_without : (n : ℕ) (t u : Tables) (a b : Gaps) (g : Given) → MadeBeside (Call.opens n) t a g u b → Made (Call.opens n) t g u
opened_without n t u a b g x = dropped (open_meaning n t) (open_meaning n t).asks (λ w after. Remade w a after) a b t u g x.first_unmet x

-- And it leaves a right one.
pub made_right : (c : Call) (t u : Tables) (a b : Gaps) (g : Given) → Right t a → MadeBeside c t a g u b → Right u b
made_right (Call.opens n) t u a b g right x = by_number (ℕ_discrete g.number DONE) (ℕ_discrete g.number CONFLICT)
  where
    by_number : Dec (g.number ≡ DONE) → Dec (g.number ≡ CONFLICT) → Right u b
    by_number (yes e) _ = (x.when_done e).1.right
    by_number (no nd) (yes e) = absurd (x.on_conflict e).0.0
    by_number (no nd) (no nc) = let same = (x.when_refused nd nc).1 in stays_right t t u a b right right (inr (ap (λ (w : Beside Tables). w.lent) same)) (ap (λ (w : Beside Tables). w.gaps) same)
made_right (Call.watches r) t u a b g right x = leaving_right (watch_meaning r t) t (with_watched r t) u a b t u g (λ w. w) right right refl refl (λ i j d. d.watched) (λ i never. absurd never) x
made_right (Call.adds r l l') t u a b g right x = remaking_right (add_meaning r (with_list t l)) t u a b (with_list t l) (with_list u l') g (λ w. w.tables) right refl refl (λ i d. d.tables_stay) x
made_right Call.marks t u a b g right x = leaving_right (mark_meaning t) t (with_mark t) u a b t u g (λ w. w) right right refl refl (λ i j d. d.marked) (λ i never. absurd never) x
made_right Call.goes_back t u a b g right x = remaking_right (back_meaning t) t u a b t u g (λ w. w) right refl refl (λ i never. absurd never) x
made_right (Call.withdraws i) t u a b g right x = remaking_right (withdraw_meaning i t) t u a b t u g (λ w. w) right refl refl (λ i never. absurd never) x
made_right (Call.tries r l l' m m') t u a b g right x = leaving_right (trial_meaning r (with_lists t l m)) t t u a b (with_lists t l m) (with_lists u l' m') g (λ w. w.tables) right right refl refl (λ i j d. d.tables_stay) (λ i d. d.tables_stay) x
made_right (Call.asks_consequences l l' m m') t u a b g right x = leaving_right (consequences_meaning (with_lists t l m)) t t u a b (with_lists t l m) (with_lists u l' m') g (λ w. w.tables) right right refl refl (λ i j d. d.tables_stay) (λ i never. absurd never) x
made_right (Call.checks_ring r l l') t u a b g right x = leaving_right (ring_check_meaning r (with_list t l)) t t u a b (with_list t l) (with_list u l') g (λ w. w.tables) right right refl refl (λ i j d. ap (λ (w : WithList). w.tables) d.all_stays) (λ i never. absurd never) x
made_right Call.asks_last_day t u a b g right x = leaving_right (last_day_meaning t) t t u a b t u g (λ w. w) right right refl refl (λ i j d. d.all_stays) (λ i never. absurd never) x

-- Gap leaves the tables and the gap table as they are.
pub gap_stays : (x y : ℕ) (t u : Tables) (a b : Gaps) (g : Given) → Obeys (gap_beside x y (beside t a)) (beside t a) g (beside u b) → (u ≡ t) × (b ≡ a)
gap_stays x y t u a b g made = (by_number (ℕ_discrete g.number DONE) (ℕ_discrete g.number CONFLICT), leaving_stays (gap_meaning x y t) t a b t u g made)
  where
    by_number : Dec (g.number ≡ DONE) → Dec (g.number ≡ CONFLICT) → u ≡ t
    by_number (yes e) _ = (made.when_done e).0.all_stays
    by_number (no nd) (yes e) = absurd (made.on_conflict e).0.0
    by_number (no nd) (no nc) = ap (λ (w : Beside Tables). w.lent) (made.when_refused nd nc).1

-- ---- sequences

-- **After any sequence of calls** the gap table is right, and the tables come from the same calls made without it.
pub record Follows (t : Tables) (a : Gaps) : Type 0 where
  pub run : Run t
  pub right : Right t a

pub run_right : (t : Tables) (a : Gaps) → RunBeside t a → Follows t a
run_right _ _ (RunBeside.from_open n t a g u b x e) = record { run = Run.from_open n t g u (opened_without n t u a b g x) e; right = (x.when_done e).1.right }
run_right _ _ (RunBeside.then t a before c g u b x) =
    let had = run_right t a before in
    record { run = Run.then t had.run c g u (made_without c t u a b g had.right x); right = made_right c t u a b g had.right x }
run_right _ _ (RunBeside.then_gap t a before x y g u b made) =
    let had = run_right t a before in
    let (same, stays) = gap_stays x y t u a b g made in
    subst (λ (w : Tables). Follows w b) (sym same) (subst (Follows t) (sym stays) had)

-- So the tables are sound, and no call of a sequence is refused as DAMAGED by the gap table.
pub run_beside_kept : (t : Tables) (a : Gaps) → RunBeside t a → Kept t
run_beside_kept t a x = run_kept t (run_right t a x).run
