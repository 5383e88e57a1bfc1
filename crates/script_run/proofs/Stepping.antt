-- One command of a script as a part of the whole: each way that it ends is one way that the script plays on.
use Prim.Native.Nat.{ℕ, ◌+◌, ◌-◌, ◌≤◌}
use native.Mathlib.Omega.{arith}
use native.Mathlib.Decide.{ℕ_discrete}
use mathlib.Core.Path.{◌≡◌, refl, sym, ◌∙◌, ap, subst}
use mathlib.Core.Bool.{Bool, true, false, true≢false}
use mathlib.Core.List.{List}
use lib.ListN.{length, take, drop, length-drop}
use borrow.Author.Rules.{part_to_end}
use Rattle.meaning.specs.Bounds.{ROOM, DONE, SHORT}
use Rattle.text.specs.Lexicon.{token_at}
use Rattle.meaning.specs.Promise.{First}
use Rattle.span.proofs.Laws.{span_within}
use Rattle.script_meaning.specs.Commands.{text_needs}
use Rattle.write.specs.Written.{over}
use Rattle.script_meaning.specs.Record.{Lent}
use Rattle.script_meaning.specs.Whole.{error_line, rest, after_command, Plays}
use Rattle.script_meaning.proofs.Keeping.{Fine}
use Rattle.script_meaning.specs.Traces.{with_out}
use Rattle.script_command.specs.declared.Carried.{Carried}
use Rattle.script_command.specs.Carrying.{Carries, Maintained}
use Rattle.script_run.specs.Reaching.{Reaches}
use Rattle.script_run.specs.Stepping.{CommandThere, Halts, Settled, GoesOn, Waits, Steps}
use Rattle.script_meaning.proofs.Granted.{text_met}
use Rattle.script_meaning.proofs.Printing.{printed_room}
use Rattle.script_meaning.proofs.Refusing.{never_short}
use Rattle.levels.specs.declared.Row.{Row}

-- Other bytes for the answers, and more steps that may be spoken of.
pub maintained_out :
    (e d : ℕ) (l : Lent) (o heads nexts : List ℕ) (kept : List Row) (hashes name-heads name-nexts : List ℕ) → e ≤ d → d ≤ l.tables.counts.steps →
    Maintained e l heads nexts kept hashes name-heads name-nexts → Maintained d (with_out o l) heads nexts kept hashes name-heads name-nexts
maintained_out e d l o heads nexts kept hashes name-heads name-nexts more there m = record {
  room = record { tables_room = m.room.tables_room; names_room = m.room.names_room; lens_room = m.room.lens_room };
  sound = record {
    tables_sound = m.sound.tables_sound;
    all_steps = m.sound.all_steps;
    names_in = m.sound.names_in;
    names_short = m.sound.names_short;
    names_in_form = m.sound.names_in_form;
    names_different = m.sound.names_different;
    level_open = m.sound.level_open;
    no_sat = m.sound.no_sat;
  };
  chained = m.chained;
  days_kept = m.days_kept;
  ordered = m.ordered;
  indexed = m.indexed;
  within = record {
    steps_there = there;
    rules_within = λ i h. record {
      first_in = omega (arith, more, (m.within.rules_within i h).first_in);
      second_in = omega (arith, more, (m.within.rules_within i h).second_in);
    };
  };
}

-- The text that is lent to the command is what follows.
pub part_is : (s : List ℕ) (i n k from : ℕ) → CommandThere s i n k from → take (length s - from) (drop from s) ≡ rest s i
part_is s i n k from r = part_to_end s from ∙ ap (λ (m : ℕ). drop m s) r.from_is

module _ (s : List ℕ) (i : ℕ) (l : Lent) (k : ℕ) where
  -- No command can be carried out.
  halted : (g : ℕ) → Halts s i (length l.out) k g → Plays s i l k g k l.out
  halted g (Halts.over_there h) = Plays.at_end i l k h
  halted g (Halts.short_there h short) = Plays.no_room i l k h short

  -- SHORT: there was no room, and nothing was done.
  halted_waits : (g : ℕ) → Halts s i (length l.out) k g → g ≡ SHORT → Waits i l k i k l
  halted_waits g (Halts.over_there h) is = absurd (omega (arith, is))
  halted_waits g (Halts.short_there h short) is = record { same_place = refl; same_written = refl; same_lent = refl; no_room = short }

  pub halted_steps :
      (g : ℕ) (paused : Bool) → (paused ≡ true → g ≡ SHORT) → (paused ≡ false → g ≡ SHORT → ⊥) → Halts s i (length l.out) k g → Steps s i l k g false paused i k l
  halted_steps g paused when when_not h = record {
    ends = λ z. halted g h;
    on = λ z. absurd (true≢false (sym z));
    onward = λ z. absurd (true≢false (sym z));
    waits = λ z. halted_waits g h (when z);
    not_short = when_not;
    written_in = λ inside. inside;
  }

  module _ (from : ℕ) (ready : CommandThere s i (length l.out) k from) (r : Carried) (l₁ : Lent) (carries : Carries (rest s i) k l r l₁) where
    met : r.number ≡ DONE → First (text_needs (rest s i) l) DONE
    met done = subst (First (text_needs (rest s i) l)) done carries.first_unmet

    pub carried_short : Fine l → r.written ≤ ROOM
    carried_short fine = tell (ℕ_discrete r.number DONE)
      where
        tell : Dec (r.number ≡ DONE) → r.written ≤ ROOM
        tell (yes done) = omega (arith, (carries.when_done done).1.1.0, printed_room (rest s i) l fine (met done))
        tell (no refused) = omega (arith, (carries.when_refused refused).1.0)

    -- The place past the command, within the text.
    end_is : r.number ≡ DONE → from + r.read ≡ after_command s i
    end_is done = omega (arith, carries.bytes_read done, ready.from_is)

    pub carried_within : from + r.read ≤ length s
    carried_within = tell (ℕ_discrete r.number DONE)
      where
        tell : Dec (r.number ≡ DONE) → from + r.read ≤ length s
        tell (yes done) = omega (arith, end_is done, span_within (rest s i), length-drop (token_at s i).from s, ready.from_is, ready.within)
        tell (no refused) = omega (arith, (carries.when_refused refused).1.1, ready.within)

    module _ (out' : List ℕ) (e : ℕ) (settled : Settled l₁.out k r.number r.written out' e) (going : Bool) (goes : GoesOn r.number r.ended going) where
      stops : going ≡ false → Dec (r.number ≡ DONE) → Plays s i l k r.number e out'
      stops stop (yes done) =
          let q = settled.done done in
          subst (λ (g : ℕ). Plays s i l k g e out') (sym done)
          (subst (λ (o : List ℕ). Plays s i l k DONE e o) (sym q.0)
          (subst (λ (v : ℕ). Plays s i l k DONE v l₁.out) (sym q.1)
          (Plays.exited i l l₁ k r.written ready.not_over ready.room (met done) (carries.when_done done) (sym (carries.ends done) ∙ goes.stopped stop done))))
      stops stop (no refused) =
          let q = settled.refused refused in
          let same = (carries.when_refused refused).0 in
          subst (λ (o : List ℕ). Plays s i l k r.number e o) (sym (q.0 ∙ ap (λ (b : Lent). over b.out k (error_line r.number)) same))
          (subst (λ (v : ℕ). Plays s i l k r.number v (over l.out k (error_line r.number))) (sym q.1)
          (Plays.refused i l k r.number ready.not_over ready.room carries.first_unmet refused))

      goes_on : going ≡ true → Reaches s i l k (from + r.read) (with_out out' l₁) e
      goes_on on =
          let done = (goes.on on).0 in
          let q = settled.done done in
          let there : Reaches s (after_command s i) l₁ (k + r.written) (from + r.read) (with_out out' l₁) e =
          subst (λ (j : ℕ). Reaches s (after_command s i) l₁ (k + r.written) j (with_out out' l₁) e) (sym (end_is done))
          (subst (λ (v : ℕ). Reaches s (after_command s i) l₁ (k + r.written) (after_command s i) (with_out out' l₁) v) (sym q.1)
          (subst (λ (o : List ℕ). Reaches s (after_command s i) l₁ (k + r.written) (after_command s i) (with_out o l₁) (k + r.written)) (sym q.0)
          (Reaches.there (after_command s i) l₁ (k + r.written)))) in
          Reaches.carried i l l₁ k r.written (from + r.read) (with_out out' l₁) e ready.not_over ready.room (met done) (carries.when_done done) (sym (carries.ends done) ∙ (goes.on on).1) there

      pub carried_steps : Steps s i l k r.number going false (from + r.read) e (with_out out' l₁)
      carried_steps = record {
        ends = λ z. stops z (ℕ_discrete r.number DONE);
        on = goes_on;
        onward = λ z. (omega (arith, ready.onward, carries.bytes_read (goes.on z).0, (text_met (rest s i) l (met (goes.on z).0)).0), carried_within);
        waits = λ z. absurd (true≢false (sym z));
        not_short = λ z. never_short (rest s i) l r.number carries.first_unmet;
        written_in = λ h. omega (arith, settled.short, ready.room);
      }
