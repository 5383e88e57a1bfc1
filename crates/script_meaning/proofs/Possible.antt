-- No promise of a script call is empty: every input has an outcome that is allowed. What a call needs is told need by need; where all is met, each rule of a term is added or clashes, and
-- a pop finds the earliest plan of the rules left, as Add and Back do.
use Prim.Native.Nat.{ℕ, ◌+◌, ◌-◌, ◌≤◌}
use native.Mathlib.Omega.{arith}
use native.Mathlib.Decide.{ℕ_discrete}
use mathlib.Core.Path.{◌≡◌, refl, sym, ap, subst}
use mathlib.Core.Bool.{Bool, true, false}
use mathlib.Core.List.{List, [], ◌∷◌, map}
use mathlib.Core.Logic.{◌⊎◌, inl, inr}
use lib.ListN.{length, replicate, length-replicate}
use Rattle.meaning.specs.Bounds.{STEPS, RULES, DONE, SHORT, CONFLICT, SYNTAX, SIZE}
use Rattle.meaning.specs.Rules.{Rule, InSteps, InBounds, Earliest, Refutes}
use Rattle.meaning.specs.Tables.{Tables, at, down_to, with_days}
use Rattle.meaning.specs.Promise.{First}
use Rattle.meaning.specs.Calls.{rules_of, held_in, next_in, rules_and, held_and, Asked}
use Rattle.meaning.proofs.Theory.{ring_excludes, earliest_ext}
use Rattle.meaning.proofs.Circle.{earliest_of_plan}
use Rattle.meaning.proofs.Places.{held?, down_to_held}
use Rattle.meaning.proofs.Sequences.{Kept}
use Rattle.meaning.proofs.Possible.{Allowed, Outcome, allowed_outcome, refusal_met, written, written_at, written_past, plan_fits, plan_or_ring, open_met, add_met}
use Rattle.lent.specs.Promises.{Border}
use Rattle.span.specs.Span.{span}
use Rattle.reading.specs.Tree.{said_by, rules_of_term, Command}
use Rattle.reading.specs.Reading.{Why, Read, reading}
use Rattle.reading.specs.Saying.{resolved}
use Rattle.levels.specs.Levels.{Popped}
use Rattle.script_meaning.specs.Record.{Lent, StartRoom, ScriptRoom, ScriptSound, step_of, no_notes}
use Rattle.script_meaning.specs.Effect.{Does, Changes, HeldNow, AddsAll}
use Rattle.script_meaning.specs.Commands.{read_needs, text_needs, command_meaning, start_meaning}
use Rattle.script_meaning.proofs.Needed.{last_met}
use Rattle.script_meaning.proofs.Granted.{assert_met, text_met, granted}
use Rattle.script_meaning.proofs.Refusing.{never_conflict}
use Rattle.script_meaning.proofs.Adding.{Each, holds_kept}
use Rattle.script_meaning.proofs.Keeping.{Fine, tables_kept, tables_border, rules_in, map_length}
use Rattle.script_meaning.proofs.Decided.{start_room?, script_room?, script_sound?, first_told, text_told}

-- ---- commands whose needs are met

-- Rules within bounds, as many as there are places for, are added up to the first that does not fit.
adds_some :
    (l : List Rule) (t : Tables) → Kept t → Each (InBounds t.counts.steps) l → t.counts.rules + length l ≤ RULES → (clash : Bool) × ((u : Tables) × AddsAll l t clash u)
adds_some [] t k good room = (false, (t, (refl, refl)))
adds_some (r ∷ l) t k (here, there) room = tell (adds_some l) (plan_or_ring r t asked)
  where
    asked : Asked r t
    asked = record { room = k.room; sound = k.sound; steps_in = here.steps_in; amount_in = here.amount_in; not_full = omega (arith, room) }

    tell :
        ((v : Tables) → Kept v → Each (InBounds v.counts.steps) l → v.counts.rules + length l ≤ RULES → (clash : Bool) × ((u : Tables) × AddsAll l v clash u)) →
        ((p : ℕ → ℕ) × Earliest t.counts.steps (rules_and r t) (held_and t) p) ⊎ ((ring : List ℕ) × Refutes (rules_of t) (held_in t) (next_in t) r ring) →
        (clash : Bool) × ((u : Tables) × AddsAll (r ∷ l) t clash u)
    tell rest (inr (ring, refutes)) = (true, (t, inl (ring_excludes (rules_of t) (held_in t) (next_in t) r ring refutes, (refl, refl))))
    tell rest (inl (p, earliest)) =
        let a = add_met r t (replicate STEPS 0) asked (omega (arith, length-replicate {A = ℕ} STEPS 0)) p earliest in
        let x = a.keeps.when_done a.number_is in
        let v : Tables = a.after.tables in
        let h : HeldNow r t v = record { fits = plan_fits r t asked p earliest; rule_held = x.rule_held; planned = x.planned } in
        let steps : v.counts.steps ≡ t.counts.steps = ap (λ (z : Tables). z.counts.steps) x.rule_held in
        let rules : v.counts.rules ≡ t.counts.rules + 1 = ap (λ (z : Tables). z.counts.rules) x.rule_held in
        let more = rest v (holds_kept r t v k here (omega (arith, room)) h) (subst (λ (n : ℕ). Each (InBounds n) l) (sym steps) there) (omega (arith, room, rules)) in
        (more.0, (more.1.0, inr (v, (h, more.1.1))))

-- As many marks as are open can be dropped: the days keep the rules left, so these have an earliest plan.
pop_some : (n : ℕ) (t : Tables) → Border t → (u : Tables) × Popped n t u
pop_some n t b = (
  with_days (written t.counts.steps plan t.days) left,
  record {
    dropped = refl;
    planned = record {
      earliest =
          earliest_ext t.counts.steps (rules_of t) (held_in left) plan (at (written t.counts.steps plan t.days)) steps (λ v below. sym (written_at t.counts.steps plan t.days v below))
          planned.1;
      past = written_past t.counts.steps plan t.days (omega (arith, b.room.days_room, b.sound.counts_in.steps_in));
    };
  },
)
  where
    left : Tables
    left = down_to (t.counts.marks - n) t

    was : (i : ℕ) → held_in (down_to (t.counts.marks - n) t) i → held_in t i
    was i there = ((down_to_held (t.counts.marks - n) t i).0 there).0

    steps : (i : ℕ) → held_in (down_to (t.counts.marks - n) t) i → InSteps t.counts.steps (rules_of t i)
    steps i there = (b.sound.rules_good i (was i there)).steps_in

    planned : (p : ℕ → ℕ) × Earliest t.counts.steps (rules_of t) (held_in (down_to (t.counts.marks - n) t)) p
    planned =
        earliest_of_plan t.counts.steps RULES (rules_of t) (held_in (down_to (t.counts.marks - n) t)) (held? (down_to (t.counts.marks - n) t)) (λ i there. there.0) steps (at t.days)
        (λ i there. b.sound.days_earliest.plan i (was i there))

    plan : ℕ → ℕ
    plan = planned.0

-- A text whose needs are all met can be carried out.
changes_some : (r : Read Command) (l : Lent) → Fine l → First (read_needs r l) DONE → (m : Lent) × Changes r l m
changes_some (Read.got Command.set_logic e) l f met = (_, refl)
changes_some (Read.got Command.check_sat e) l f met = (_, refl)
changes_some (Read.got Command.exit e) l f met = (_, refl)
changes_some (Read.got (Command.declare w) e) l f met = (_, refl)
changes_some (Read.got (Command.assert t) e) l f met = tell (ℕ_discrete l.notes.broken 0)
  where
    tell : Dec (l.notes.broken ≡ 0) → (m : Lent) × Changes (Read.got (Command.assert t) e) l m
    tell (no some) = (_, inl (some, refl))
    tell (yes none) =
        let rs = rules_of_term false t in
        let g = assert_met t l met in
        let a = adds_some (map (resolved (step_of l)) rs) l.tables (tables_kept f) (rules_in l f rs g.0) (omega (arith, g.1 none, map_length (step_of l) rs)) in
        (_, inr (none, (a.1.0, (a.0, (a.1.1, refl)))))
changes_some (Read.got (Command.push n) e) l f met = (_, refl)
changes_some (Read.got (Command.pop n) e) l f met =
    let p = pop_some (said_by n) l.tables (tables_border f) in
    (_, (p.0, (p.1, refl)))
changes_some (Read.got (Command.get_value ws) e) l f met = (_, refl)
changes_some (Read.stop Why.other i) l f met = (_, refl)
changes_some (Read.stop Why.wrong i) l f met = absurd (last_met SYNTAX ⊥ (λ e. omega arith) met)
changes_some (Read.stop Why.size i) l f met = absurd (last_met SIZE ⊥ (λ e. omega arith) met)

pub does_some : (r : Read Command) (k : ℕ) (l : Lent) → Fine l → First (read_needs r l) DONE → (w : ℕ) × ((m : Lent) × Does r k l w m)
does_some r k l f met =
    let (mid, changes) = changes_some r l f met in
    (_, (_, (mid, (changes, (refl, refl)))))

-- ---- the calls, where all is met

-- **Command can be met**: where all its needs are met DONE is allowed.
pub command_met : (text : List ℕ) (l : Lent) → ScriptRoom 0 l → ScriptSound l → First (text_needs text l) DONE → Allowed (command_meaning text l) l DONE
command_met text l room sound met =
    let d = does_some (reading text) 0 l (record { room = room.start_room; sound = sound }) (text_met text l met).1 in
    record {
      answer = record { number = DONE; one = span text; two = d.0 };
      after = d.1.0;
      keeps = record {
        first_unmet = inr (room, inr (sound, met));
        when_done = λ e. record { bytes_read = refl; done = d.1.1 };
        on_conflict = λ e. absurd (omega (arith, e));
        when_refused = λ refused. absurd (refused refl);
      };
      number_is = refl;
    }

-- **Start can be met** where there is room.
pub start_met : (l : Lent) → StartRoom l → Allowed (start_meaning l) l DONE
start_met l room =
    let a = open_met STEPS l.tables room.tables_room (omega arith) (omega arith) in
    let x = a.keeps.when_done a.number_is in
    record {
      answer = record { number = DONE; one = a.answer.one; two = a.answer.two };
      after = record { tables = a.after; notes = no_notes; names = l.names; lens = l.lens; out = l.out };
      keeps = record {
        first_unmet = inr (room, refl);
        when_done = λ e. record { opened = x; emptied = refl; names_stay = refl; lens_stay = refl; out_stays = refl };
        on_conflict = λ e. absurd (omega (arith, e));
        when_refused = λ refused. absurd (refused refl);
      };
      number_is = refl;
    }

-- ---- every input has an outcome

-- **Every input of start** has an outcome that its promise allows.
pub start_possible : (l : Lent) → Outcome (start_meaning l) l
start_possible l = tell (start_room? l)
  where
    tell : Dec (StartRoom l) → Outcome (start_meaning l) l
    tell (yes room) = allowed_outcome (start_met l room)
    tell (no short) = allowed_outcome (refusal_met (start_meaning l) l SHORT (λ e. omega (arith, e)) (λ e. omega (arith, e)) (inl (refl, short)))

-- **Every input of command** has an outcome that its promise allows.
pub command_possible : (text : List ℕ) (l : Lent) → Outcome (command_meaning text l) l
command_possible text l =
    let first = first_told (command_meaning text l).asks (script_room? 0 l, (script_sound? l, text_told text l)) in
    tell first.0 first.1 (ℕ_discrete first.0 DONE)
  where
    not_conflict : (g : ℕ) → First (command_meaning text l).asks g → g ≡ CONFLICT → ⊥
    not_conflict g (inl (is, unmet)) e = omega (arith, is, e)
    not_conflict g (inr (room, inl (is, unmet))) e = omega (arith, is, e)
    not_conflict g (inr (room, inr (sound, first))) e = never_conflict text l g first e

    tell : (g : ℕ) → First (command_meaning text l).asks g → Dec (g ≡ DONE) → Outcome (command_meaning text l) l
    tell g first (no refuses) = allowed_outcome (refusal_met (command_meaning text l) l g refuses (not_conflict g first) first)
    tell g first (yes done) =
        let x = granted text l (subst (First (command_meaning text l).asks) done first) in
        allowed_outcome (command_met text l x.room x.sound x.met)
