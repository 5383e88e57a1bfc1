-- Following tight rules from grounded steps, and what it decides.
use Prim.Native.Nat.{ℕ, ◌+◌, ◌-◌, ◌≤◌, ◌<◌}
use native.Mathlib.Omega.{arith}
use native.Mathlib.Decide.{ℕ_discrete, dec_le}
use mathlib.Core.Path.{◌≡◌, refl, sym, ◌∙◌, subst}
use mathlib.Core.Bool.{true}
use mathlib.Core.List.{List}
use lib.Dec.{eqb}
use borrow.Author.Tests.{ltb-true, lt-ltb, eqb-true, eqb-false}
use Rattle.meaning.specs.Rules.{Earliest, Tight, Grounded, on_day_0, forced}
use Rattle.meaning.specs.Tables.{at}
use Rattle.meaning.proofs.Whole.{tight→, →tight}
use Rattle.meaning.proofs.Counting.{count_all}
use Rattle.meaning.proofs.Lowering.{grounded_earliest, grounded_all}
use Rattle.lent.specs.Decides.{Decides}
use Rattle.lent.specs.Lent.{KeptAt, Dated, Spare}
use Rattle.chains.specs.Chains.{number}
use Rattle.chains.proofs.Laws.{top_number}
use Rattle.chains.proofs.Walk.{Link, Met, link_head, met_head, link_next, met_next}
use Rattle.chains.specs.declared.Held.{Held}
use Rattle.sound.specs.declared.Queue.{Queue}
use Rattle.sound.specs.Ground.{entered, Grown, Seeded, Groundable, Underway, Followed, StepFollowed, rule_of, on}
use Rattle.sound.proofs.Counted.{count_everything}
use Rattle.sound.proofs.Entering.{Entered, no_fewer, was_entered}

-- What following rule i leaves: it is followed, steps entered stay so, and all are grounded.
pub record Turned (n : ℕ) (g : Held) (i : ℕ) (places : List ℕ) (q' : Queue) : Type 0 where
  pub underway : Underway n g q'
  pub grown : Grown n places q'.places
  pub followed : Followed g q'.places i

-- A walk along the chain of a that began at `before`: the link is one of a's, and a's rules at or above it have been followed.
pub record Walking (n : ℕ) (g : Held) (a : ℕ) (before : List ℕ) (q : Queue) (link : ℕ) : Type 0 where
  pub underway : Underway n g q
  pub grown : Grown n before q.places
  pub of_a : Link (on g) g.rules.xs.now a link
  pub met : Met (Followed g q.places) (on g) number g.rules.xs.now a link

-- The rule that a walk's link leads to is held, and one of a's.
module _ {n a link : ℕ} {g : Held} {before : List ℕ} {q : Queue} (some : link ≡ 0 → ⊥) (w : Walking n g a before q link) where
  pub rule_on : on g (link - 1)
  rule_on = w.of_a.held (link - 1) (omega (arith, some))

  pub rule_own : at g.rules.xs.now (link - 1) ≡ a
  rule_own = w.of_a.own (link - 1) (omega (arith, some))

-- The work underway when the first `done` steps of the work-list have been followed, and every step of day 0 is entered.
pub record Grounding (n : ℕ) (g : Held) (done : ℕ) (q : Queue) : Type 0 where
  pub underway : Underway n g q
  pub done_in : done ≤ q.entered
  pub every_day_0 : (v : ℕ) → v < n → at g.days.now v ≡ 0 → 1 ≤ at q.places v
  pub done_followed : (v : ℕ) → v < n → 1 ≤ at q.places v → at q.places v ≤ done → StepFollowed g q.places v

module _ (n : ℕ) (g : Held) where
  -- Every held rule can be read, and its steps have days.
  pub dated : Groundable n g → (i : ℕ) → on g i → Dated g.rules.xs.now g.rules.ys.now g.rules.cs.now g.days.now i
  dated ready i h = record {
    placed = ready.placed i h;
    first_day = omega (arith, (ready.rules_in i h).first_in, ready.days_room);
    second_day = omega (arith, (ready.rules_in i h).second_in, ready.days_room);
  }

  -- A rule that was followed stays so as steps are entered.
  pub followed_on : (places places' : List ℕ) (i : ℕ) → at g.rules.ys.now i < n → Grown n places places' → Followed g places i → Followed g places' i
  followed_on places places' i h grown f = record {
    kept = f.kept;
    entered_if_tight = λ tight. omega (arith, f.entered_if_tight tight, grown (at g.rules.ys.now i) h (f.entered_if_tight tight));
  }

  -- A rule is tight exactly when it has nothing to spare.
  pub spare→tight : (i r : ℕ) → Spare g.rules.xs.now g.rules.ys.now g.rules.cs.now g.days.now i r → r ≡ 0 → Tight (at g.days.now) (rule_of g i)
  spare→tight i r spare none = →tight (at g.days.now) (rule_of g i) (omega arith)

  pub tight→spare : (i r : ℕ) → Spare g.rules.xs.now g.rules.ys.now g.rules.cs.now g.days.now i r → Tight (at g.days.now) (rule_of g i) → r ≡ 0
  tight→spare i r spare tight = omega (arith, tight→ (at g.days.now) (rule_of g i) tight)

  -- Entering a grounded step leaves all steps entered grounded.
  pub underway_on : (v : ℕ) (q q' : Queue) → Grounded (rule_of g) (on g) (at g.days.now) v → Underway n g q → Entered n v q.places q' → Underway n g q'
  underway_on v q q' ground under e = record { worklist = e.worklist; grounded = λ u h in-it. by_step u h in-it (ℕ_discrete u v) }
    where
      by_step : (u : ℕ) → u < n → 1 ≤ at q'.places u → Dec (u ≡ v) → Grounded (rule_of g) (on g) (at g.days.now) u
      by_step u h in-it (yes is) = subst (Grounded (rule_of g) (on g) (at g.days.now)) (sym is) ground
      by_step u h in-it (no apart) = under.grounded u h (omega (arith, e.others_stay u apart))

  -- A rule of a grounded step that has nothing to spare is followed by entering its second step.
  pub turned_tight :
      (i r : ℕ) (q q' : Queue) → on g i → Spare g.rules.xs.now g.rules.ys.now g.rules.cs.now g.days.now i r → r ≡ 0 → KeptAt g.rules.xs.now g.rules.ys.now g.rules.cs.now g.days.now i →
      Grounded (rule_of g) (on g) (at g.days.now) (at g.rules.xs.now i) → Underway n g q → Entered n (at g.rules.ys.now i) q.places q' → Turned n g i q.places q'
  turned_tight i r q q' h spare none kept ground under e = record {
    underway = underway_on (at g.rules.ys.now i) q q' (forced i h (spare→tight i r spare none) ground) under e;
    grown = e.grown;
    followed = record { kept = kept; entered_if_tight = λ tight. e.now_in };
  }

  -- A rule that has something to spare is followed by leaving all as it is.
  pub turned_loose :
      (i r : ℕ) (q : Queue) → Spare g.rules.xs.now g.rules.ys.now g.rules.cs.now g.days.now i r → (r ≡ 0 → ⊥) → KeptAt g.rules.xs.now g.rules.ys.now g.rules.cs.now g.days.now i →
      Underway n g q → Turned n g i q.places q
  turned_loose i r q spare some kept under = record {
    underway = under;
    grown = λ v h in-it. refl;
    followed = record { kept = kept; entered_if_tight = λ tight. absurd (some (tight→spare i r spare tight)) };
  }

  module _ (ready : Groundable n g) (a : ℕ) (a_in : a < n) where
    -- The walk begins at a's head.
    pub walking_start : (q : Queue) → Underway n g q → Walking n g a q.places q (at g.heads.now a)
    walking_start q under = record {
      underway = under;
      grown = λ v h in-it. refl;
      of_a = link_head n (on g) number g.rules.xs.now g.heads.now g.nexts.now ready.chained a a_in;
      met = met_head n (on g) number g.rules.xs.now g.heads.now g.nexts.now ready.chained (Followed g q.places) a a_in;
    }

    -- From a rule it goes on at the next of that rule.
    pub walking_on :
        (before : List ℕ) (link : ℕ) (q q' : Queue) → (link ≡ 0 → ⊥) → Turned n g (link - 1) q.places q' → Walking n g a before q link → Walking n g a before q' (at g.nexts.now (link - 1))
    walking_on before link q q' some turned w = record {
      underway = turned.underway;
      grown = λ v h in-it. turned.grown v h (omega (arith, w.grown v h in-it)) ∙ w.grown v h in-it;
      of_a = link_next n (on g) number g.rules.xs.now g.heads.now g.nexts.now ready.chained a (link - 1) (rule_on some w) (rule_own some w);
      met =
          met_next n (on g) number g.rules.xs.now g.heads.now g.nexts.now ready.chained (Followed g q'.places) a (link - 1) (rule_on some w) (rule_own some w)
          (λ j h above own. followed_on q.places q'.places j (ready.rules_in j h).second_in turned.grown (w.met j h (omega (arith, above, some, top_number link)) own)) turned.followed;
    }

  -- It begins with the steps of day 0.
  pub grounding_start : (q : Queue) → Seeded n g.days.now n q → Grounding n g 0 q
  grounding_start q s = record {
    underway = record { worklist = s.worklist; grounded = λ v h in-it. on_day_0 v (s.only_day_0 v h in-it) };
    done_in = omega arith;
    every_day_0 = s.every_day_0;
    done_followed = λ v h in-it within. absurd (omega arith);
  }

  -- It goes on with the rules of the next step in the list.
  pub grounding_on :
      Groundable n g → (done : ℕ) (q q' : Queue) → done < q.entered → Underway n g q' → Grown n q.places q'.places → StepFollowed g q'.places (at q.work done) →
      Grounding n g done q → Grounding n g (done + 1) q'
  grounding_on ready done q q' more under grown followed gr = record {
    underway = under;
    done_in = omega (arith, no_fewer n q q' gr.underway.worklist under.worklist grown);
    every_day_0 = λ v h zero. omega (arith, gr.every_day_0 v h zero, grown v h (gr.every_day_0 v h zero));
    done_followed = λ v h in-it within.
        by_place v h (was_entered n q q' gr.underway.worklist under.worklist grown v h in-it (omega arith)) within (dec_le (at q.places v) done);
  }
    where
      by_place : (v : ℕ) → v < n → 1 ≤ at q.places v → at q'.places v ≤ done + 1 → Dec (at q.places v ≤ done) → StepFollowed g q'.places v
      by_place v h was within (yes earlier) i held own = followed_on q.places q'.places i (ready.rules_in i held).second_in grown (gr.done_followed v h was earlier i held own)
      by_place v h was within (no l) i held own =
          followed i held (own ∙ sym (gr.underway.worklist.own_place v done h (omega (arith, grown v h was))))

  module _
      (ready : Groundable n g) (q : Queue) (under : Underway n g q)
      (every_day_0 : (v : ℕ) → v < n → at g.days.now v ≡ 0 → 1 ≤ at q.places v)
      (all-followed : (v : ℕ) → v < n → 1 ≤ at q.places v → StepFollowed g q.places v)
    where
      -- Where n steps are entered, every step is.
      all_entered : q.entered ≡ n → (v : ℕ) → v < n → 1 ≤ at q.places v
      all_entered full v h = ltb-true 0 (at q.places v) (count_all (entered q.places) n (omega (arith, under.worklist.counted)) v h)

      -- Then the days keep every rule, and every step is grounded.
      earliest : q.entered ≡ n → Earliest n (rule_of g) (on g) (at g.days.now)
      earliest full =
          grounded_earliest n (rule_of g) (on g) (at g.days.now)
          (λ i h. (all-followed (at g.rules.xs.now i) (ready.rules_in i h).first_in (all_entered full (at g.rules.xs.now i) (ready.rules_in i h).first_in) i h refl).kept)
          (λ v h. under.grounded v h (all_entered full v h))

      -- In the earliest plan the steps entered are all steps: those of day 0 are among them, and tight rules lead to none outside.
      none_out : Earliest n (rule_of g) (on g) (at g.days.now) → q.entered ≡ n
      none_out best =
          under.worklist.counted ∙ count_everything (entered q.places) n
          (grounded_all n (rule_of g) (on g) (at g.days.now) best ready.rules_in (entered q.places)
          (λ v h zero. lt-ltb 0 (at q.places v) (every_day_0 v h zero)) follows)
        where
          follows : (i : ℕ) → on g i → Tight (at g.days.now) (rule_of g i) → entered q.places (at g.rules.xs.now i) ≡ true → entered q.places (at g.rules.ys.now i) ≡ true
          follows i h tight first =
              lt-ltb 0 (at q.places (at g.rules.ys.now i)) ((all-followed (at g.rules.xs.now i) (ready.rules_in i h).first_in (ltb-true 0 (at q.places (at g.rules.xs.now i)) first) i h refl).entered_if_tight tight)

      -- Once every step entered has been followed, their number tells whether the days are the earliest plan.
      pub count_decides : Decides (eqb q.entered n) (Earliest n (rule_of g) (on g) (at g.days.now))
      count_decides = record { so = λ e. earliest (eqb-true q.entered n e); not_so = λ e best. eqb-false q.entered n e (none_out best) }
