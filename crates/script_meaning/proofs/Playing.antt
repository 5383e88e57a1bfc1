-- **A whole script**: every command of it that is carried out is answered as the text of the commands before it asks for, in the bytes that are left in the end.
use Prim.Native.Nat.{ℕ, ◌+◌, ◌*◌, ◌≤◌}
use native.Mathlib.Omega.{arith}
use mathlib.Core.Path.{◌≡◌, refl, ◌∙◌}
use mathlib.Core.List.{List}
use lib.ListN.{length, length-replicate, get_or-replicate}
use lib.IntN.{pos}
use Rattle.meaning.specs.Bounds.{STEPS, RULES, WATCHED, TEXT, NAME_BYTES}
use Rattle.write.proofs.Laws.{part_before}
use Rattle.script_meaning.specs.Record.{Lent}
use Rattle.script_meaning.specs.Effect.{prints}
use Rattle.script_meaning.specs.Whole.{error_line, rest, read_at, after_command, Plays, Fresh, blank, RunsScript}
use Rattle.script_meaning.specs.Traces.{History, nothing_asserted, follows, Traced}
use Rattle.script_meaning.specs.Told.{part, AllAnswered}
use Rattle.script_meaning.proofs.Tracing.{traced_in_force}
use Rattle.script_meaning.proofs.Printing.{does_printed, written_before}
use Rattle.script_meaning.proofs.Answering.{command_answered}

-- As a script plays, nothing is written before the place that it has come to.
plays_before : (s : List ℕ) (i : ℕ) (l : Lent) (k g v : ℕ) (out : List ℕ) → Plays s i l k g v out → (a n : ℕ) → a + n ≤ k → part a n out ≡ part a n l.out
plays_before s i l k g v out (Plays.at_end _ _ _ over) a n lower = refl
plays_before s i l k g v out (Plays.no_room _ _ _ some full) a n lower = refl
plays_before s i l k g v out (Plays.refused _ _ _ _ some room unmet refuses) a n lower = part_before l.out k (error_line g) a n lower
plays_before s i l k g v out (Plays.exited _ _ m _ w some room met does exit) a n lower =
    written_before k w (prints (read_at s i) l) l.out m.out (does_printed (read_at s i) k w l m does) a n lower
plays_before s i l k g v out (Plays.goes_on _ _ m _ w _ _ _ some room met does stays onward) a n lower =
    plays_before s (after_command s i) m (k + w) g v out onward a n (omega arith)
    ∙ written_before k w (prints (read_at s i) l) l.out m.out (does_printed (read_at s i) k w l m does) a n lower

-- **Every command of a script** that is carried out is answered as the text of the commands before it asks for, in the bytes that are left in the end.
pub plays_answered : (s : List ℕ) (i : ℕ) (l : Lent) (k g v : ℕ) (out : List ℕ) (p : Plays s i l k g v out) (h : History) → Traced l h → AllAnswered s i l k g v out p h
plays_answered s i l k g v out (Plays.at_end _ _ _ over) h t = tt
plays_answered s i l k g v out (Plays.no_room _ _ _ some full) h t = tt
plays_answered s i l k g v out (Plays.refused _ _ _ _ some room unmet refuses) h t = tt
plays_answered s i l k g v out (Plays.exited _ _ m _ w some room met does exit) h t = tt
plays_answered s i l k g v out (Plays.goes_on _ _ m _ w _ _ _ some room met does stays onward) h t = (
  command_answered l h (traced_in_force l h t) (rest s i) k w m out met does room (plays_before s (after_command s i) m (k + w) g v out onward k w (omega arith)),
  plays_answered s (after_command s i) m (k + w) g v out onward (follows (read_at s i) h) (Traced.carried_out l h t (rest s i) k w m met does),
)

-- So from the start of a script on.
pub script_answered :
    (s : List ℕ) (l : Lent) (g v : ℕ) (out : List ℕ) (p : Plays s 0 l 0 g v out) → Fresh l → AllAnswered s 0 l 0 g v out p nothing_asserted
script_answered s l g v out p f = plays_answered s 0 l 0 g v out p nothing_asserted (Traced.fresh l f)

-- The tables of zeros are fresh.
pub blank_fresh : (out : List ℕ) → Fresh (blank out)
blank_fresh out = record {
  room = record {
    tables_room = record {
      rules_room = record {
        firsts_room = omega (arith, length-replicate {A = ℕ} RULES 0);
        seconds_room = omega (arith, length-replicate {A = ℕ} RULES 0);
        amounts_room = omega (arith, length-replicate RULES (pos 0));
      };
      days_room = omega (arith, length-replicate {A = ℕ} STEPS 0);
      levels_room = omega (arith, length-replicate {A = ℕ} RULES 0);
      watched_room = record {
        firsts_room = omega (arith, length-replicate {A = ℕ} WATCHED 0);
        seconds_room = omega (arith, length-replicate {A = ℕ} WATCHED 0);
        amounts_room = omega (arith, length-replicate WATCHED (pos 0));
      };
    };
    names_room = omega (arith, length-replicate {A = ℕ} (NAME_BYTES * STEPS) 0);
    lens_room = omega (arith, length-replicate {A = ℕ} STEPS 0);
  };
  counts_are = refl;
  notes_are = refl;
  day_0 = λ v below. get_or-replicate {A = ℕ} STEPS v 0 0 below;
  all_free = λ i below. get_or-replicate {A = ℕ} RULES i 0 0 below;
}

-- **The answers of a whole script**: every command of it that is carried out is answered as the text of the commands before it asks for.
pub runs_answered :
    (s out : List ℕ) (g w : ℕ) (end : List ℕ) (r : RunsScript s out g w end) (fits : length s ≤ TEXT) → AllAnswered s 0 (blank out) 0 g w end (r.played fits) nothing_asserted
runs_answered s out g w end r fits = script_answered s (blank out) g w end (r.played fits) (blank_fresh out)
