-- The work-list as steps are entered.
use Prim.Native.Nat.{ℕ, zero, suc, ◌+◌, ◌≤◌, ◌<◌}
use native.Mathlib.Omega.{arith}
use native.Mathlib.Decide.{ℕ_discrete}
use mathlib.Core.Path.{◌≡◌, refl, sym, ◌∙◌, ap}
use mathlib.Core.Bool.{true}
use mathlib.Core.List.{List}
use mathlib.Core.Logic.{◌⊎◌, inl, inr}
use lib.Dec.{ltb}
use lib.ListN.{set, length, replicate, length-replicate, get_or-replicate, length-set}
use lib.Seq.{get_or-set_same, get_or-set_other}
use borrow.Author.Count.{below_more}
use borrow.Author.Tests.{lt-ltb, le-ltb, ltb-true}
use Rattle.meaning.specs.Bounds.{STEPS}
use Rattle.meaning.specs.Tables.{at}
use Rattle.meaning.specs.Reckoning.{count}
use Rattle.meaning.proofs.Counting.{count_at_most, count_no_less, count_more}
use Rattle.sound.specs.declared.Queue.{Queue}
use Rattle.sound.specs.Ground.{entered, Worklist, Enterable, Stays, Comes, Grown, Seeded}
use Rattle.sound.proofs.Counted.{count_nothing, count_one_more}

-- At most n steps are entered.
pub few : (n : ℕ) (q : Queue) → Worklist n q → q.entered ≤ n
few n q w = omega (arith, w.counted, count_at_most (entered q.places) n)

-- As steps are entered, their number does not fall.
pub no_fewer : (n : ℕ) (q q' : Queue) → Worklist n q → Worklist n q' → Grown n q.places q'.places → q.entered ≤ q'.entered
no_fewer n q q' w w' grown =
    omega (arith, w.counted, w'.counted, count_no_less (entered q.places) (entered q'.places) n still)
  where
    still : (v : ℕ) → v < n → entered q.places v ≡ true → entered q'.places v ≡ true
    still v h is = lt-ltb 0 (at q'.places v) (omega (arith, ltb-true 0 (at q.places v) is, grown v h (ltb-true 0 (at q.places v) is)))

-- A step whose place is within the first of those entered before was entered then.
pub was_entered : (n : ℕ) (q q' : Queue) → Worklist n q → Worklist n q' → Grown n q.places q'.places → (v : ℕ) → v < n → 1 ≤ at q'.places v → at q'.places v ≤ q.entered → 1 ≤ at q.places v
was_entered n q q' w w' grown v h in-it within = by_place (at q'.places v) refl
  where
    by_place : (p : ℕ) → at q'.places v ≡ p → 1 ≤ at q.places v
    by_place zero e = absurd (omega arith)
    by_place (suc j) e =
        let then-placed : at q.places (at q.work j) ≡ suc j = w.step_placed j (omega arith) in
        let now-placed : at q'.places (at q.work j) ≡ suc j = grown (at q.work j) (w.step_in j (omega arith)) (omega arith) ∙ then-placed in
        let same : at q.work j ≡ v = sym (w'.own_place (at q.work j) j (w.step_in j (omega arith)) now-placed) ∙ w'.own_place v j h e in
        omega (arith, ap (at q.places) same)

-- Where every place is 0, the work-list is empty.
pub empty : (n : ℕ) (q : Queue) → q.entered ≡ 0 → q.places ≡ replicate STEPS 0 → length q.work ≡ STEPS → n ≤ STEPS → Worklist n q
empty n q none all-0 long small = record {
  places_room = ap length all-0 ∙ length-replicate {A = ℕ} STEPS 0;
  work_room = long;
  place_in = λ v h. omega (arith, zeros v h);
  own_place = λ v j h e. absurd (omega (arith, zeros v h));
  step_in = λ j h. absurd (omega arith);
  step_placed = λ j h. absurd (omega arith);
  counted = none ∙ sym (count_nothing (entered q.places) n (λ v h. le-ltb 0 (at q.places v) (omega (arith, zeros v h))));
}
  where
    zeros : (v : ℕ) → v < n → at q.places v ≡ 0
    zeros v h = rw all-0 (get_or-replicate STEPS v 0 0 (omega arith))

-- A step below n can be entered.
pub enterable : (n v : ℕ) (q : Queue) → v < n → n ≤ STEPS → Worklist n q → Enterable v q
enterable n v q h small w = record { step_place = omega arith; room = λ out. omega (arith, fewer out) }
  where
    -- A step that is not entered leaves at most n - 1 that are.
    fewer : at q.places v ≡ 0 → q.entered < n
    fewer out =
        omega (
          arith,
          w.counted,
          count_more (entered q.places) (λ u. true) n (λ u l e. refl) v h (le-ltb 0 (at q.places v) (omega arith)) refl,
          count_at_most (λ u. true) n,
        )

-- What follows from entering step v: it is entered, and no other step has become so.
pub record Entered (n v : ℕ) (places : List ℕ) (q' : Queue) : Type 0 where
  pub worklist : Worklist n q'
  pub grown : Grown n places q'.places
  pub now_in : 1 ≤ at q'.places v
  pub others_stay : (u : ℕ) → (u ≡ v → ⊥) → at q'.places u ≡ at places u

module _ (n v : ℕ) (q : Queue) (h : v < n) (small : n ≤ STEPS) (w : Worklist n q) where
  -- A step that is not entered comes in as the last.
  come : at q.places v ≡ 0 → Entered n v q.places (record { places = set q.places v (q.entered + 1); work = set q.work q.entered v; entered = q.entered + 1 })
  come out = record {
    worklist = record {
      places_room = length-set q.places v (q.entered + 1) ∙ w.places_room;
      work_room = length-set q.work q.entered v ∙ w.work_room;
      place_in = λ u l. place_in u l (ℕ_discrete u v);
      own_place = λ u j l e. own_place u j l e (ℕ_discrete u v);
      step_in = λ j l. step_in j (ℕ_discrete j q.entered) l;
      step_placed = λ j l. step_placed j (ℕ_discrete j q.entered) l;
      counted = omega (arith, w.counted, one_more);
    };
    grown = λ u l was. other u (λ e. omega (arith, ap (at q.places) e));
    now_in = omega (arith, here);
    others_stay = other;
  }
    where
      here : at (set q.places v (q.entered + 1)) v ≡ q.entered + 1
      here = get_or-set_same q.places v (q.entered + 1) 0 (omega (arith, w.places_room))

      other : (u : ℕ) → (u ≡ v → ⊥) → at (set q.places v (q.entered + 1)) u ≡ at q.places u
      other u apart = get_or-set_other q.places v u (q.entered + 1) 0 apart

      one_more : count (entered (set q.places v (q.entered + 1))) n ≡ count (entered q.places) n + 1
      one_more =
          count_one_more (entered q.places) (entered (set q.places v (q.entered + 1))) v
          (le-ltb 0 (at q.places v) (omega arith))
          (lt-ltb 0 (at (set q.places v (q.entered + 1)) v) (omega (arith, here)))
          (λ u apart. ap (ltb 0) (other u apart)) n h

      last : at (set q.work q.entered v) q.entered ≡ v
      last = get_or-set_same q.work q.entered v 0 (omega (arith, one_more, w.counted, count_at_most (entered (set q.places v (q.entered + 1))) n, w.work_room))

      earlier : (j : ℕ) → (j ≡ q.entered → ⊥) → at (set q.work q.entered v) j ≡ at q.work j
      earlier j apart = get_or-set_other q.work q.entered j v 0 apart

      place_in : (u : ℕ) → u < n → Dec (u ≡ v) → at (set q.places v (q.entered + 1)) u ≤ q.entered + 1
      place_in u l (yes e) = rw e (omega (arith, here))
      place_in u l (no apart) = omega (arith, other u apart, w.place_in u l)

      own_place : (u j : ℕ) → u < n → at (set q.places v (q.entered + 1)) u ≡ suc j → Dec (u ≡ v) → at (set q.work q.entered v) j ≡ u
      own_place u j l e (yes is) = let j-is : j ≡ q.entered = omega (arith, here, ap (at (set q.places v (q.entered + 1))) is) in ap (at (set q.work q.entered v)) j-is ∙ last ∙ sym is
      own_place u j l e (no apart) =
          earlier j (λ is. omega (arith, other u apart, w.place_in u l)) ∙ w.own_place u j l (sym (other u apart) ∙ e)

      step_in : (j : ℕ) → Dec (j ≡ q.entered) → j < q.entered + 1 → at (set q.work q.entered v) j < n
      step_in j (yes e) l = omega (arith, ap (at (set q.work q.entered v)) e, last)
      step_in j (no apart) l = omega (arith, earlier j apart, w.step_in j (omega arith))

      step_placed : (j : ℕ) → Dec (j ≡ q.entered) → j < q.entered + 1 → at (set q.places v (q.entered + 1)) (at (set q.work q.entered v) j) ≡ suc j
      step_placed j (yes e) l = rw (ap (at (set q.work q.entered v)) e ∙ last) (omega (arith, here))
      step_placed j (no apart) l =
          let placed : at q.places (at q.work j) ≡ suc j = w.step_placed j (omega arith) in
          rw (earlier j apart) (other (at q.work j) (λ is. omega (arith, ap (at q.places) is)) ∙ placed)

  -- Either way the step is entered.
  pub entering : (q' : Queue) → Stays v q q' ⊎ Comes v q q' → Entered n v q.places q'
  entering q' (inl stays) = rw stays.same (record { worklist = w; grown = λ u l was. refl; now_in = stays.was_entered; others_stay = λ u apart. refl })
  entering q' (inr comes) = rw comes.at_end (come comes.was_out)

-- Before the first step none of day 0 is missed.
pub seeded_none : (n : ℕ) (days : List ℕ) (q : Queue) → q.entered ≡ 0 → Worklist n q → Seeded n days 0 q
seeded_none n days q none w = record {
  worklist = w;
  only_day_0 = λ u h in-it. absurd (omega (arith, w.place_in u h));
  every_day_0 = λ u h is_0. absurd (omega arith);
}

-- A step of another day is passed over.
pub seeded_past : (n : ℕ) (days : List ℕ) (v : ℕ) (q : Queue) → (at days v ≡ 0 → ⊥) → Seeded n days v q → Seeded n days (v + 1) q
seeded_past n days v q later s = record {
  worklist = s.worklist;
  only_day_0 = s.only_day_0;
  every_day_0 = below_more (λ u. at days u ≡ 0 → 1 ≤ at q.places u) v s.every_day_0 (λ is_0. absurd (later is_0));
}

-- A step of day 0 is entered.
pub seeded_more : (n : ℕ) (days : List ℕ) (v : ℕ) (q q' : Queue) → v < n → at days v ≡ 0 → Entered n v q.places q' → Seeded n days v q → Seeded n days (v + 1) q'
seeded_more n days v q q' h on-0 e s = record {
  worklist = e.worklist;
  only_day_0 = λ u l in-it. by_step u l in-it (ℕ_discrete u v);
  every_day_0 =
      below_more (λ u. at days u ≡ 0 → 1 ≤ at q'.places u) v
      (λ u l is_0. omega (arith, s.every_day_0 u l is_0, e.grown u (omega arith) (s.every_day_0 u l is_0))) (λ is_0. e.now_in);
}
  where
    by_step : (u : ℕ) → u < n → 1 ≤ at q'.places u → Dec (u ≡ v) → at days u ≡ 0
    by_step u l in-it (yes is) = ap (at days) is ∙ on-0
    by_step u l in-it (no apart) = s.only_day_0 u l (omega (arith, e.others_stay u apart))
